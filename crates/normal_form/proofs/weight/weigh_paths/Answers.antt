use Rattle.std.proofs.Common.{◌<◌, ◌≤◌, ℕ, Option, subst, arith}
use Rattle.graph_ast.specs.declared.checked.CheckedPath.{CheckedPath}
use Rattle.graph_meaning.specs.Blocks.{path_blocks}
use Rattle.normal_form.specs.declared.path_weight.Weighed.{Weighed}
use Rattle.normal_form.specs.Paying.{IsWeighed, IsWeighing}
use Rattle.normal_form.specs.Weighing.{assignments_weight}
use Rattle.normal_form.proofs.PayLemmas.{pay_on, pay_over, numbered_on}
use Rattle.normal_form.proofs.weight.weigh_paths.Goals as goal

pub returns-in-None : goal.returns-in-None
returns-in-None c =
    let graph = c.args.graph.now in
    let place = c.loop-place.place in
    let path = c.index-paths-place.result in
    let over : c.loop-place.left < assignments_weight graph path = subst
    (λ (o : Option Weighed). IsWeighed c.loop-place.left (assignments_weight graph path) (path_blocks graph place path) o) c.in-None.is c.in_ok-weigh_path.ensures in
    pay_over (assignments_weight graph) c.args.paths.now place path c.loop-place.left c.args.amount (omega arith) c.index-paths-place.is over c.loop-place.invariant.0

pub loop-place-preserved : goal.loop-place-preserved
loop-place-preserved c =
    let graph = c.args.graph.now in
    let place = c.loop-place.place in
    let path = c.index-paths-place.result in
    let weighed = c.in-Some.weighed in
    let more : IsWeighing c.loop-place.left (assignments_weight graph path) (path_blocks graph place path) weighed = subst
    (λ (o : Option Weighed). IsWeighed c.loop-place.left (assignments_weight graph path) (path_blocks graph place path) o) c.in-Some.is c.in_ok-weigh_path.ensures in
    let within : c.loop-place.left ≤ c.args.amount = c.loop-place.invariant.1 in
    let paid = more.left in
    let less : weighed.left ≤ c.args.amount = omega (arith, paid, within) in (
      pay_on (assignments_weight graph) c.args.paths.now place path c.loop-place.left weighed.left c.args.amount (omega arith) c.index-paths-place.is paid c.loop-place.invariant.0,
      less,
      numbered_on (λ (numbered : ℕ × CheckedPath). path_blocks graph numbered.0 numbered.1) c.args.paths.now place path c.loop-place.lists _ _ weighed.blocks (omega arith)
          c.index-paths-place.is more.blocks c.in_ok-push-in-Some.ensures.ok c.loop-place.invariant.2,
    )
