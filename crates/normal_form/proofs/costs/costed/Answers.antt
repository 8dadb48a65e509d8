use Rattle.std.proofs.Common.{◌≡◌, ◌<◌, List, map, length, nat_lt, ap, ◌∙◌, arith}
use Rattle.graph_ast.specs.declared.blocks.PathBlock.{PathBlock}
use Rattle.normal_form.specs.Rows.{seen}
use Rattle.normal_form.specs.Spending.{counted}
use Rattle.normal_form.specs.Costs.{cost_among}
use Rattle.normal_form.proofs.WeightLemmas.{costs_on, seen_end}
use Rattle.normal_form.proofs.costs.costed.Goals as goal

pub loop-place-preserved : goal.loop-place-preserved
loop-place-preserved c =
    let paths = c.args.paths.now in
    let lists = c.args.lists.now in
    let place = c.loop-place.place in
    let path = c.index-paths-place.result in
    let blocks = c.index-lists-place.result in
    let several = nat_lt 1 (length paths) in
    let as_long = c.requires in
    let inside : place < length paths = omega arith in
    let within : place < length lists = omega (arith, as_long, inside) in
    let own : map seen c.in_ok-costed_blocks.field-0 ≡ map (λ (block : PathBlock). (block, counted (cost_among several path blocks block))) blocks =
    c.in_ok-costed_blocks.ensures
    ∙ ap (λ (bs : List PathBlock). map (λ (block : PathBlock). (block, counted (cost_among several path bs block))) bs) c.as_slice-blocks.ensures in
    costs_on several paths lists place path blocks (map (map seen) c.loop-place.all) _ _ (map seen c.in_ok-costed_blocks.field-0) inside within c.index-paths-place.is
    c.index-lists-place.is own (seen_end c.loop-place.all c.in_ok-costed_blocks.field-0 _ c.in_ok-push.ensures.ok) c.loop-place.invariant
