-- The bound on the reads of some selects, one after another.
use Rattle.std.proofs.Common.{◌≡◌, ℕ, suc, zero, ◌+◌, ◌<◌, ◌≤◌, List, [], ◌∷◌, ◌++◌, map, take, length, get_or, sum, refl, ap, ◌∙◌, arith}
use Rattle.std.specs.Prelude.{flat_map}
use Rattle.std.proofs.lemmas.List.{take_more}
use Rattle.pgq_base.specs.Instances.{InstanceRows}
use Rattle.graph_ast.specs.declared.catalog.Catalog.{Catalog}
use Rattle.sql_algebra.specs.declared.tree.Select.{Select}
use Rattle.sql_algebra.specs.Catalogs.{rows_of}
use Rattle.sql_algebra.specs.RowReads.{select_reads, tables_in}
use Rattle.row_eval.specs.Bounds.{rows_in}
use Rattle.row_eval.proofs.Totals.{total, sum_total, total_append}

abbrev pub selects_bound : Catalog → InstanceRows → List Select → ℕ
selects_bound catalog instance selects =
    sum (map (λ table. length (rows_of catalog instance table)) (flat_map tables_in selects)) + sum (map (λ select. select_reads catalog instance select []) selects)

module _ (catalog : Catalog) (instance : InstanceRows) where
  abbrev one_bound : Select → ℕ
  one_bound select = rows_in catalog instance (tables_in select) + select_reads catalog instance select []

  as_total : (selects : List Select) → selects_bound catalog instance selects ≡ total one_bound selects
  as_total [] = refl
  as_total (s ∷ selects) =
      let f = λ (table : List ℕ). length (rows_of catalog instance table) in
      let g = λ (select : Select). select_reads catalog instance select [] in
      let a = sum_total f (tables_in s ++ flat_map tables_in selects) in
      let b = total_append f (tables_in s) (flat_map tables_in selects) in
      let c = sum_total f (tables_in s) in
      let d = sum_total f (flat_map tables_in selects) in
      let e = sum_total g (s ∷ selects) in
      let h = sum_total g selects in
      let later = as_total selects in
      omega (arith, a, b, c, d, e, h, later)

  pub selects_next : (all : List Select) (i : ℕ) (select : Select) → i < length all → select ≡ get_or all i select
      → selects_bound catalog instance (take (i + 1) all)
      ≡ selects_bound catalog instance (take i all) + (rows_in catalog instance (tables_in select) + select_reads catalog instance select [])
  selects_next all i select h is =
      let whole = as_total (take (i + 1) all) in
      let front = as_total (take i all) in
      let split : total one_bound (take (i + 1) all)
      ≡ total one_bound (take i all) + total one_bound (get_or all i select ∷ []) = ap (total one_bound) (take_more all i select h)
      ∙ total_append one_bound (take i all) (get_or all i select ∷ []) in
      let same = ap one_bound is in
      omega (arith, whole, front, split, same)

  pub selects_front : (all : List Select) (n : ℕ) → selects_bound catalog instance (take n all) ≤ selects_bound catalog instance all
  selects_front all n = let a = as_total (take n all) in let b = as_total all in let c = less all n in omega (arith, a, b, c)
    where
      less : (all : List Select) (n : ℕ) → total one_bound (take n all) ≤ total one_bound all
      less [] zero = omega arith
      less [] (suc n) = omega arith
      less (x ∷ all) zero = omega arith
      less (x ∷ all) (suc n) = let later = less all n in omega (arith, later)
