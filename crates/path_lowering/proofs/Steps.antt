-- One more step of a loop.
use Rattle.std.proofs.Common.{◌≡◌, ℕ, zero, suc, ◌+◌, ◌<◌, List, [], ◌∷◌, ◌++◌, length, get_or, take, refl, sym, ap, ap₂, ◌∙◌, arith, add-one}
use Rattle.expr_tree.specs.declared.tree.Comparison.{Comparison}
use Rattle.expr_tree.specs.declared.tree.Expr.TheVariants.{Leaf, Compare}
use Rattle.graph_ast.specs.declared.catalog.Catalog.{Catalog}
use Rattle.graph_ast.specs.declared.catalog.Element.{Element}
use Rattle.path_lowering.specs.Emitted.{SqlCondition, leaf_in, compared_in}

module _ (catalog : Catalog) (prefix : ℕ) (op : Comparison) (left : Element) (i : ℕ) (right : Element) (j : ℕ) where
  abbrev pair : ℕ → ℕ → SqlCondition
  pair x y = Compare op (Leaf (leaf_in catalog prefix left i x)) (Leaf (leaf_in catalog prefix right j y))

  compared_next : (xs ys : List ℕ) (k : ℕ) → k < length xs → k < length ys
      → compared_in catalog prefix op left i (take (suc k) xs) right j (take (suc k) ys)
      ≡ compared_in catalog prefix op left i (take k xs) right j (take k ys) ++ pair (get_or xs k 0) (get_or ys k 0) ∷ []
  compared_next [] ys k h m = absurd (omega arith)
  compared_next (x ∷ xs) [] k h m = absurd (omega arith)
  compared_next (x ∷ xs) (y ∷ ys) zero h m = refl
  compared_next (x ∷ xs) (y ∷ ys) (suc k) h m = ap (λ l. pair x y ∷ l) (compared_next xs ys k (omega arith) (omega arith))

  pub compared_more : (xs ys : List ℕ) (k : ℕ) → k < length xs → k < length ys → (old new : List SqlCondition) (c : SqlCondition)
      → old ≡ compared_in catalog prefix op left i (take k xs) right j (take k ys) → c ≡ pair (get_or xs k 0) (get_or ys k 0) → new ≡ old ++ c ∷ []
      → new ≡ compared_in catalog prefix op left i (take (k + 1) xs) right j (take (k + 1) ys)
  compared_more xs ys k h m old new c e f g = rw add-one (g ∙ ap₂ (λ l x. l ++ x ∷ []) e f ∙ sym (compared_next xs ys k h m))
