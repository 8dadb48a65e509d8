use Rattle.std.proofs.Common.{rules, ◌≡◌, ◌∙◌, ◌+◌, ◌<◌, ◌≤◌, ◌++◌, [], ◌∷◌, List, ℕ, Some, None, Option, length, get_or, drop, map, cond, sym, ap, is_some, slice_get, true}
use Rattle.std.proofs.Common.{bytes_eq, Bor}
use Rattle.std.specs.List.{list_any}
use Rattle.graph_ast.specs.declared.catalog.Column.{Column}
use Rattle.view_check.specs.Firsts.{first_named, or_first, all_but}
use Rattle.view_check.proofs.FirstLemmas.{names_step, names_end}
use Rattle.view_check.proofs.firsts.with_columns.Goals as goal

pub loop-column-preserved : goal.loop-column-preserved
loop-column-preserved c = λ q.
    let i : ℕ = c.loop-column.column-index in
    let columns : List Column = c.args.entry.now.columns in
    let x : Column = c.column-item.result in
    let within : i < length columns = search rules in
    let is : x ≡ get_or columns i x = search rules in
    ap (λ p. or_first p (cond (list_any (λ (d : Column). bytes_eq d.name q) (drop (i + 1) columns)) (all_but c.args.entry.now c.args.at.1.now c.args.at.0 q) None))
    (c.in_ok-firsts.ensures q)
    ∙ names_step (λ (d : Column). d.name) (first_named c.loop-column.firsts q) (all_but c.args.entry.now c.args.at.1.now c.args.at.0 q) q columns i x within is
    ∙ c.loop-column.invariant q

pub returns : goal.returns
returns c = λ q.
    let columns : List Column = c.args.entry.now.columns in
    let end : length columns ≤ c.loop-column.column-index = search rules in
    names_end (λ (d : Column). d.name) (first_named c.loop-column.firsts q) (all_but c.args.entry.now c.args.at.1.now c.args.at.0 q) q columns c.loop-column.column-index end
    ∙ c.loop-column.invariant q
