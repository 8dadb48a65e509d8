-- When comparisons of columns of two places are True.
use Rattle.std.proofs.Common.{◌≡◌, ℕ, ◌<◌, false, not, ◌&&◌, ◌||◌, List, [], ◌∷◌, length, refl, sym, ap, ap₂, ◌∙◌, inl, inr, arith}
use Rattle.std.specs.List.{list_any}
use Rattle.pgq_base.specs.declared.value.Value.{Value}
use Rattle.pgq_base.specs.Instances.{RowValues, value_at, values_at, same_value, same_values}
use Rattle.multisets.specs.Bags.{IsIn}
use Rattle.expr_tree.specs.declared.tree.Comparison.{Comparison}
use Rattle.expr_tree.specs.declared.tree.Comparison.TheVariants.{Equal, NotEqual}
use Rattle.expr_tree.specs.declared.tree.Expr.TheVariants.{Leaf, Compare}
use Rattle.expr_tree.specs.Meaning.{compare_by}
use Rattle.graph_ast.specs.declared.catalog.Catalog.{Catalog}
use Rattle.graph_ast.specs.declared.catalog.Graph.{Graph}
use Rattle.graph_ast.specs.Lookups.{table_at}
use Rattle.graph_ast.specs.Fits.{is_null}
use Rattle.sql_algebra.specs.declared.tree.ColumnLeaf.{ColumnLeaf}
use Rattle.sql_algebra.specs.Tuples.{is_true}
use Rattle.path_lowering.specs.declared.spots.Spot.{Spot}
use Rattle.path_lowering.specs.Spots.{element_at}
use Rattle.path_lowering.specs.Emitted.{leaf_of, compared_columns, any_of}
use Rattle.path_lowering.proofs.Truths.{true_in, all_true_in, true_Compare, true_any_of}
use Rattle.path_lowering.proofs.Values.{equals, differs, same_cons, not_and}

module _ (catalog : Catalog) (graph : Graph) (prefix : ℕ) (env : ColumnLeaf → Value) where
  -- the columns of a place have their values in a row
  abbrev pub Shown : Spot → RowValues → Type 0
  Shown spot row = (place : ℕ) → place < length (table_at catalog (element_at graph spot).table).columns → env (leaf_of catalog graph prefix spot place) ≡ value_at row place

  abbrev pub AreThere : Spot → List ℕ → Type 0
  AreThere spot columns = (c : ℕ) → IsIn c columns → c < length (table_at catalog (element_at graph spot).table).columns

  abbrev pub AreKnown : RowValues → List ℕ → Type 0
  AreKnown row columns = (c : ℕ) → IsIn c columns → is_null (value_at row c) ≡ false

  module _ (a b : Spot) (x y : RowValues) (shown_a : Shown a x) (shown_b : Shown b y) where
    one_pair : (op : Comparison) (c d : ℕ) → c < length (table_at catalog (element_at graph a).table).columns → d < length (table_at catalog (element_at graph b).table).columns
        → true_in env (Compare op (Leaf (leaf_of catalog graph prefix a c)) (Leaf (leaf_of catalog graph prefix b d))) ≡ is_true (compare_by op (value_at x c) (value_at y d))
    one_pair op c d p q = true_Compare env op (leaf_of catalog graph prefix a c) (leaf_of catalog graph prefix b d) ∙ ap₂ (λ v w. is_true (compare_by op v w)) (shown_a c p)
        (shown_b d q)

    pub all_equal : (cs ds : List ℕ) → length cs ≡ length ds → AreThere a cs → AreThere b ds → AreKnown y ds
        → all_true_in env (compared_columns catalog graph prefix Equal a cs b ds) ≡ same_values (values_at cs x) (values_at ds y)
    all_equal [] [] same there_a there_b known = refl
    all_equal [] (d ∷ ds) same there_a there_b known = absurd (omega arith)
    all_equal (c ∷ cs) [] same there_a there_b known = absurd (omega arith)
    all_equal (c ∷ cs) (d ∷ ds) same there_a there_b known =
        ap₂ (λ s t. s && t) (one_pair Equal c d (there_a c (inl refl)) (there_b d (inl refl)) ∙ equals (value_at x c) (value_at y d) (known d (inl refl)))
        (all_equal cs ds (omega arith) (λ e k. there_a e (inr k)) (λ e k. there_b e (inr k)) (λ e k. known e (inr k)))
        ∙ sym (same_cons (value_at x c) (value_at y d) (values_at cs x) (values_at ds y))

    some_differs : (cs ds : List ℕ) → length cs ≡ length ds → AreThere a cs → AreThere b ds → AreKnown x cs → AreKnown y ds
        → list_any (true_in env) (compared_columns catalog graph prefix NotEqual a cs b ds) ≡ not (same_values (values_at cs x) (values_at ds y))
    some_differs [] [] same there_a there_b known_a known_b = refl
    some_differs [] (d ∷ ds) same there_a there_b known_a known_b = absurd (omega arith)
    some_differs (c ∷ cs) [] same there_a there_b known_a known_b = absurd (omega arith)
    some_differs (c ∷ cs) (d ∷ ds) same there_a there_b known_a known_b =
        ap₂ (λ s t. s || t) (one_pair NotEqual c d (there_a c (inl refl)) (there_b d (inl refl)) ∙ differs (value_at x c) (value_at y d) (known_a c (inl refl))
        (known_b d (inl refl)))
        (some_differs cs ds (omega arith) (λ e k. there_a e (inr k)) (λ e k. there_b e (inr k)) (λ e k. known_a e (inr k)) (λ e k. known_b e (inr k)))
        ∙ sym (not_and (same_value (value_at x c) (value_at y d)) (same_values (values_at cs x) (values_at ds y)))
        ∙ ap not (sym (same_cons (value_at x c) (value_at y d) (values_at cs x) (values_at ds y)))

    pub any_differs : (cs ds : List ℕ) → length cs ≡ length ds → AreThere a cs → AreThere b ds → AreKnown x cs → AreKnown y ds
        → true_in env (any_of (compared_columns catalog graph prefix NotEqual a cs b ds)) ≡ not (same_values (values_at cs x) (values_at ds y))
    any_differs cs ds same there_a there_b known_a known_b =
        true_any_of env (compared_columns catalog graph prefix NotEqual a cs b ds) ∙ some_differs cs ds same there_a there_b known_a known_b
