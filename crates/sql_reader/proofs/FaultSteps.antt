-- How the first fault of a list in parts is found.
use Rattle.std.proofs.Common.{◌≡◌, ◌∙◌, ℕ, ◌+◌, ◌<◌, Bool, List, ◌++◌, map, drop, length, get_or, sym, ap, Option}
use Rattle.std.specs.List.{flat_map}
use Rattle.std.proofs.lemmas.List.{drop_more}
use Rattle.std.proofs.lemmas.Grind.{flat_map-append}
use Rattle.first_faults.specs.declared.faults.Fault.{Fault}
use Rattle.first_faults.specs.Faults.{first_of}
use Rattle.first_faults.proofs.Steps.{first_of_append}
use Rattle.expr_tree.specs.declared.tree.Comparison.{Comparison}
use Rattle.expr_tree.specs.declared.tree.Expr.{Expr, Expr-F, roll-Expr, map-Expr}
use Rattle.expr_tree.specs.declared.tree.Expr.TheVariants as v
use Rattle.expr_tree.specs.Leaves.{joined, leaves_step, leaves_in}
use Rattle.expr_tree.proofs.Folds.{at_layer}

pub flat_append : {X : Type 0} (f : X → List Fault) (first : Option Fault) (xs ys : List X) → first_of first (flat_map f (xs ++ ys))
    ≡ first_of (first_of first (flat_map f xs)) (flat_map f ys)
flat_append f first xs ys = ap (first_of first) (flat_map-append f xs ys) ∙ first_of_append first (flat_map f xs) (flat_map f ys)

-- a loop over lists of leaves
pub joined_step : {X Y : Type 0} (f : X → List Fault) (leaves : Y → List X) (first : Option Fault) (ys : List Y) (i : ℕ) (y : Y) → i < length ys → y ≡ get_or ys i y
    → first_of first (flat_map f (joined (map leaves (drop i ys)))) ≡ first_of (first_of first (flat_map f (leaves y))) (flat_map f (joined (map leaves (drop (i + 1) ys))))
joined_step f leaves first ys i y within is =
    ap (λ l. first_of first (flat_map f (joined (map leaves l)))) (drop_more ys i y within)
    ∙ ap (λ z. first_of first (flat_map f (leaves z ++ joined (map leaves (drop (i + 1) ys))))) (sym is)
    ∙ flat_append f first (leaves y) (joined (map leaves (drop (i + 1) ys)))

-- the leaves of a node with several children
module _ {L : Type 0} (f : L → List Fault) (first : Option Fault) (e : Expr L) where
  abbrev after : Option Fault → Expr L → Option Fault
  after found a = first_of found (flat_map f (leaves_in a))

  leaves_at : (x : Expr-F L (Expr L)) → roll-Expr L x ≡ e → leaves_in e ≡ leaves_step (map-Expr L (Expr L) (List L) leaves_in x)
  leaves_at x is = at_layer leaves_step x e is

  pub compare_leaves : (op : Comparison) (a b : Expr L) (second last : Option Fault) → e ≡ v.Compare op a b → second ≡ after first a → last ≡ after second b → last ≡ after first e
  compare_leaves op a b second last is p q =
      q ∙ ap (λ s. after s b) p ∙ sym (ap (λ l. first_of first (flat_map f l)) (leaves_at (Expr-F.Compare op a b) (v.rolls-Compare op a b ∙ sym is))
      ∙ flat_append f first (leaves_in a) (leaves_in b))

  pub list_leaves : (a : Expr L) (es : List (Expr L)) (n : Bool) (second last : Option Fault) → e ≡ v.InList a es n → second ≡ after first a → last
      ≡ first_of second (flat_map f (joined (map leaves_in es))) → last ≡ after first e
  list_leaves a es n second last is p q =
      q ∙ ap (λ s. first_of s (flat_map f (joined (map leaves_in es)))) p
      ∙ sym (ap (λ l. first_of first (flat_map f l)) (leaves_at (Expr-F.InList a es n) (v.rolls-InList a es n ∙ sym is))
      ∙ flat_append f first (leaves_in a) (joined (map leaves_in es)))

  pub between_leaves : (a b c : Expr L) (n : Bool) (second third last : Option Fault) → e ≡ v.Between a b c n → second ≡ after first a → third ≡ after second b → last
      ≡ after third c → last ≡ after first e
  between_leaves a b c n second third last is p q r =
      r ∙ ap (λ s. after s c) (q ∙ ap (λ s. after s b) p)
      ∙ sym (ap (λ l. first_of first (flat_map f l)) (leaves_at (Expr-F.Between a b c n) (v.rolls-Between a b c n ∙ sym is))
      ∙ flat_append f first (leaves_in a) (leaves_in b ++ leaves_in c) ∙ flat_append f (after first a) (leaves_in b) (leaves_in c))
