use Rattle.std.proofs.Common.{rules, ◌≡◌, map, ap, subst, ◌∙◌, arith, IsPermutation, is_lt}
use Rattle.std.proofs.lemmas.List.{take_all}
use Rattle.std.proofs.lemmas.List.Sorted.{IsPermutation-map, ranks_by, answers_always}
use Rattle.pgq_base.specs.Instances.{RowValues, TableRows}
use Rattle.csv_tables.specs.declared.sorting.Line.{Line}
use Rattle.csv_tables.specs.KeyHashes.{row_total}
use Rattle.csv_tables.specs.Outcomes.{values_of}
use Rattle.csv_tables.specs.Writing.{row_order}
use Rattle.csv_tables.proofs.SortLemmas.{is_ascending, sorted_rows}
use Rattle.csv_tables.proofs.sorting.sorted.Goals as goal

pub returns : goal.returns
returns c =
    let key : Line → RowValues = λ line. line.row.now.values in
    let old = c.loop-row.lines.items in
    let new = c.sort_unstable_by.new.self.items in
    let rows = c.args.rows.now in
    let all : map key old ≡ map values_of rows = c.loop-row.invariant ∙ ap (map values_of) (take_all c.loop-row.row-index rows (omega arith)) in
    let P : TableRows → Type 0 = λ xs. IsPermutation xs (map key new) in
    let moved = subst P all (IsPermutation-map key old new c.sort_unstable_by.ensures.permutation) in
    let order = c.sort_unstable_by.ensures.sorted (λ x y. is_lt (row_order (key x) (key y))) (ranks_by row_total key)
    (answers_always _ _ _ (λ f a r f' k. let h : r ≡ row_order (key a.0.now) (key a.1.0.now) = search rules in ap is_lt h)) in
    is_ascending (map values_of rows) (map key new) moved (sorted_rows key new order)
