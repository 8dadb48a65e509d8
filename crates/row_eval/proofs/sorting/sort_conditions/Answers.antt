use Rattle.std.proofs.Common.{◌++◌, map, List, sym, ap, subst, ◌∙◌}
use Rattle.std.specs.Prelude.{flat_map}
use Rattle.expr_tree.specs.declared.tree.Expr.{Expr}
use Rattle.sql_algebra.specs.declared.tree.ColumnLeaf.{ColumnLeaf}
use Rattle.sql_algebra.specs.declared.tree.Conjunct.{Conjunct, out-Conjunct}
use Rattle.sql_algebra.specs.declared.tree.FromItem.{FromItem}
use Rattle.sql_algebra.specs.Tuples.{all_members}
use Rattle.row_eval.specs.declared.sorting.Sorted.{Sorted}
use Rattle.row_eval.specs.Scopes.{placed}
use Rattle.row_eval.specs.Sorted.{IsSorted, SortsAll, table_place_of}
use Rattle.row_eval.specs.Plans.{plain_at}
use Rattle.row_eval.proofs.SortLemmas.{bare_sorted, all_sorted, sorted_tables, sorted_narrow, if_ok}
use Rattle.row_eval.proofs.sorting.sort_conditions.Goals as goal

pub sort_ons-requires-clause-sorted : goal.sort_ons-requires-clause-sorted
sort_ons-requires-clause-sorted c =
    subst (λ first. IsSorted c.args.depth first c.in_ok-legs_of.field-0.items) (sym c.new.ensures)
    (bare_sorted c.args.catalog.now c.args.depth c.as_slice-items.result.now c.in_ok-legs_of.field-0.items c.in_ok-legs_of.ensures)

pub returns-clause-all : goal.returns-clause-all
returns-clause-all c =
    let items = c.as_slice-items.result.now in
    let conjuncts = c.as_slice-conjuncts.result.now in
    let bare : Sorted = record { first = c.new.result; legs = c.in_ok-legs_of.field-0 } in
    let plain = λ (all : List Conjunct). flat_map (λ conjunct. plain_at (out-Conjunct conjunct)) all in
    if_ok c.sort_plain.result _ _
    (λ r h. subst (λ (conditions : List (Expr ColumnLeaf)). SortsAll c.args.catalog.now (placed c.args.reach.now) conditions r)
    (ap (λ (l : List FromItem). all_members l ++ plain conjuncts) c.as_slice-items.ensures
    ∙ ap (λ (l : List Conjunct). all_members c.args.select.now.from ++ plain l) c.as_slice-conjuncts.ensures)
    (all_sorted c.args.catalog.now (placed c.args.reach.now) c.args.depth items (all_members items)
    (plain conjuncts) bare c.in_ok-half.half r c.new.ensures c.in_ok-legs_of.ensures c.in_ok-half.ensures h))
    c.sort_plain.ensures

pub returns-clause-tables : goal.returns-clause-tables
returns-clause-tables c =
    let items = c.as_slice-items.result.now in
    let conjuncts = c.as_slice-conjuncts.result.now in
    let bare : Sorted = record { first = c.new.result; legs = c.in_ok-legs_of.field-0 } in
    let plain = λ (all : List Conjunct). flat_map (λ conjunct. plain_at (out-Conjunct conjunct)) all in
    if_ok c.sort_plain.result _ _
    (λ r h. sorted_tables c.args.catalog.now (placed c.args.reach.now) c.args.depth items (all_members items)
    (plain conjuncts) bare c.in_ok-half.half r c.in_ok-legs_of.ensures c.in_ok-half.ensures h
    ∙ ap (map (table_place_of c.args.catalog.now)) c.as_slice-items.ensures)
    c.sort_plain.ensures

pub returns-clause-narrow : goal.returns-clause-narrow
returns-clause-narrow c =
    let items = c.as_slice-items.result.now in
    let conjuncts = c.as_slice-conjuncts.result.now in
    let bare : Sorted = record { first = c.new.result; legs = c.in_ok-legs_of.field-0 } in
    let plain = λ (all : List Conjunct). flat_map (λ conjunct. plain_at (out-Conjunct conjunct)) all in
    if_ok c.sort_plain.result _ _
    (λ r h. sorted_narrow c.args.catalog.now (placed c.args.reach.now) c.args.depth items (all_members items)
    (plain conjuncts) bare c.in_ok-half.half r c.in_ok-legs_of.ensures c.in_ok-half.ensures h)
    c.sort_plain.ensures
