-- The rows of a sound query are as long as the names of its columns.
use Rattle.std.proofs.Common.{◌≡◌, refl, sym, ap, subst, ◌∙◌, ℕ, Bool, true, false, ◌&&◌, List, [], ◌∷◌, ◌++◌, map, length, arith}
use Rattle.std.specs.List.{AllByRecursion, list_all, flat_map}
use Rattle.std.proofs.lemmas.List.{length-map}
use Rattle.pgq_base.specs.declared.value.Class.{Class}
use Rattle.pgq_base.specs.Instances.{RowValues, TableRows, InstanceRows}
use Rattle.expr_tree.specs.Classes.{same_class, class_in}
use Rattle.graph_ast.specs.declared.catalog.Catalog.{Catalog}
use Rattle.sql_algebra.specs.declared.tree.SqlQuery.{SqlQuery}
use Rattle.sql_algebra.specs.declared.tree.Select.{Select}
use Rattle.sql_algebra.specs.declared.tree.SelectColumn.{SelectColumn}
use Rattle.sql_algebra.specs.Tuples.{Tuple}
use Rattle.sql_algebra.specs.Meaning.{output_row, select_rows, bag, names_of}
use Rattle.sql_algebra.specs.Soundness.{leaf_class, classes_of, same_classes, selects_agree, select_is_sound, query_is_sound, IsSound}
use Rattle.sql_algebra.proofs.Folds.{select_means}

both : (a b : Bool) → (a && b) ≡ true → (a ≡ true) × (b ≡ true)
both true b h = (refl, h)
both false b h = absurd cc

abbrev HaveWidth : ℕ → TableRows → Type 0
HaveWidth n rows = AllByRecursion (λ (row : RowValues). length row ≡ n) rows

mapped_width : (catalog : Catalog) (columns : List SelectColumn) (tuples : List Tuple) → HaveWidth (length columns) (map (output_row catalog columns) tuples)
mapped_width catalog columns [] = tt
mapped_width catalog columns (t ∷ ts) = (length-map columns _, mapped_width catalog columns ts)

joined_width : (n : ℕ) (xs ys : TableRows) → HaveWidth n xs → HaveWidth n ys → HaveWidth n (xs ++ ys)
joined_width n [] ys p q = q
joined_width n (x ∷ xs) ys p q = (p.0, joined_width n xs ys p.1 q)

same_length : (cs ds : List Class) → same_classes cs ds ≡ true → length cs ≡ length ds
same_length [] [] h = refl
same_length [] (d ∷ ds) h = absurd cc
same_length (c ∷ cs) [] h = absurd cc
same_length (c ∷ cs) (d ∷ ds) h = let rest = same_length cs ds (both (same_class c d) (same_classes cs ds) h).1 in omega (arith, rest)

abbrev class_at : SelectColumn → Class
class_at column = class_in leaf_class column.value

module _ (catalog : Catalog) (instance : InstanceRows) where
  select_width : (select : Select) → HaveWidth (length select.columns) (select_rows catalog instance select [])
  select_width select =
      subst (λ (f : Tuple → TableRows). HaveWidth (length select.columns) (f [])) (sym (select_means catalog instance select)) (mapped_width catalog select.columns _)

  selects_width : (n : ℕ) (first : Select) → length first.columns ≡ n → (selects : List Select)
      → list_all (λ select. same_classes (classes_of first.columns) (classes_of select.columns)) selects ≡ true
      → HaveWidth n (flat_map (λ select. select_rows catalog instance select []) selects)
  selects_width n first is [] h = tt
  selects_width n first is (select ∷ selects) h =
      let parts = both (same_classes (classes_of first.columns) (classes_of select.columns))
      (list_all (λ select. same_classes (classes_of first.columns) (classes_of select.columns)) selects) h in
      let same : length select.columns ≡ n = omega (
        arith,
        is,
        same_length (classes_of first.columns) (classes_of select.columns) parts.0,
        length-map first.columns class_at,
        length-map select.columns class_at,
      ) in
      joined_width n (select_rows catalog instance select []) (flat_map (λ select. select_rows catalog instance select []) selects)
      (subst (λ m. HaveWidth m (select_rows catalog instance select [])) same (select_width select)) (selects_width n first is selects parts.1)

  of_selects : (selects : List Select) → selects_agree selects ≡ true → HaveWidth (length (names_of (record { selects = selects })))
      (bag catalog (record { selects = selects }) instance)
  of_selects [] h = tt
  of_selects (select ∷ selects) h =
      let n = length (map (λ (column : SelectColumn). column.name) select.columns) in
      let same : length select.columns ≡ n = sym (length-map select.columns (λ (column : SelectColumn). column.name)) in
      joined_width n (select_rows catalog instance select []) (flat_map (λ select. select_rows catalog instance select []) selects)
      (subst (λ m. HaveWidth m (select_rows catalog instance select [])) same (select_width select)) (selects_width n select same selects h)

  pub rows_width : (query : SqlQuery) → IsSound query catalog → HaveWidth (length (names_of query)) (bag catalog query instance)
  rows_width query sound = of_selects query.selects (both (list_all (λ select. select_is_sound catalog select []) query.selects) (selects_agree query.selects) sound).1
