use Rattle.std.proofs.Common.{◌≡◌, [], false, ap, ◌∙◌, get_or}
use Rattle.graph_ast.specs.declared.checked.CheckedPath.{CheckedPath}
use Rattle.graph_ast.specs.declared.query.Mode.TheVariants as mode
use Rattle.graph_meaning.specs.Weights.{block_size, path_at}
use Rattle.normal_form.specs.Spending.{counted}
use Rattle.normal_form.proofs.SizeLemmas.{counted_is}
use Rattle.normal_form.proofs.Steps.{get_any}
use Rattle.normal_form.proofs.sizes.block_size.Goals as goal

pub returns : goal.returns
returns c =
    let paths = c.args.query.now.paths in
    let place = c.args.block.now.path in
    let item = c.index-as_slice-block.result in
    let none : CheckedPath = record { mode = mode.Walk; all_shortest = false; operands = [] } in
    let is : item ≡ path_at c.args.query.now place =
    c.index-as_slice-block.is ∙ ap (λ l. get_or l place item) c.as_slice.ensures ∙ get_any paths place item none c.requires in
    c.size_of_block.ensures ∙ ap (λ path. counted (block_size path c.args.block.now)) is ∙ counted_is (block_size (path_at c.args.query.now place) c.args.block.now)
