-- How the faults at the leaves of an expression are looked for.
use Rattle.std.proofs.Common.{◌≡◌, ◌∙◌, ℕ, ◌+◌, ◌<◌, Bool, List, ◌++◌, map, drop, length, get_or, sym, ap, Option}
use Rattle.std.specs.List.{flat_map}
use Rattle.std.proofs.lemmas.List.{drop_more}
use Rattle.first_faults.specs.declared.faults.Fault.{Fault}
use Rattle.first_faults.specs.Faults.{first_of}
use Rattle.expr_tree.specs.declared.tree.Comparison.{Comparison}
use Rattle.expr_tree.specs.declared.tree.Test.{Test}
use Rattle.expr_tree.specs.declared.tree.Expr.{Expr, Expr-F, roll-Expr, map-Expr}
use Rattle.expr_tree.specs.declared.tree.Expr.TheVariants as v
use Rattle.expr_tree.specs.Leaves.{joined, leaves_step, leaves_in}
use Rattle.expr_tree.proofs.Folds.{at_layer}
use Rattle.pattern_check.proofs.PatternSteps.{apart}

-- to be shared with sql_reader

-- a loop over lists of leaves
pub joined_step : {X Y : Type 0} (f : X → List Fault) (leaves : Y → List X) (first : Option Fault) (ys : List Y) (i : ℕ) (y : Y) → i < length ys → y ≡ get_or ys i y →
    first_of (first_of first (flat_map f (leaves y))) (flat_map f (joined (map leaves (drop (i + 1) ys)))) ≡ first_of first (flat_map f (joined (map leaves (drop i ys))))
joined_step f leaves first ys i y within is =
    sym (apart f first (leaves y) (joined (map leaves (drop (i + 1) ys))))
    ∙ ap (λ z. first_of first (flat_map f (leaves z ++ joined (map leaves (drop (i + 1) ys))))) is
    ∙ sym (ap (λ l. first_of first (flat_map f (joined (map leaves l)))) (drop_more ys i y within))

-- the leaves of a node with several children
module _ {L : Type 0} (f : L → List Fault) (first : Option Fault) (e : Expr L) where
  abbrev after : Option Fault → Expr L → Option Fault
  after found a = first_of found (flat_map f (leaves_in a))

  leaves_at : (x : Expr-F L (Expr L)) → roll-Expr L x ≡ e → leaves_in e ≡ leaves_step (map-Expr L (Expr L) (List L) leaves_in x)
  leaves_at x is = at_layer leaves_step x e is

  pub not_leaves : (a : Expr L) (last : Option Fault) → e ≡ v.Not a → last ≡ after first a → last ≡ after first e
  not_leaves a last is p = p ∙ sym (ap (λ l. first_of first (flat_map f l)) (leaves_at (Expr-F.Not a) (v.rolls-Not a ∙ sym is)))

  pub is_leaves : (a : Expr L) (test : Test) (n : Bool) (last : Option Fault) → e ≡ v.Is a test n → last ≡ after first a → last ≡ after first e
  is_leaves a test n last is p = p ∙ sym (ap (λ l. first_of first (flat_map f l)) (leaves_at (Expr-F.Is a test n) (v.rolls-Is a test n ∙ sym is)))

  pub compare_leaves : (op : Comparison) (a b : Expr L) (second last : Option Fault) → e ≡ v.Compare op a b → second ≡ after first a → last ≡ after second b → last ≡ after first e
  compare_leaves op a b second last is p q =
      q ∙ ap (λ s. after s b) p
      ∙ sym (ap (λ l. first_of first (flat_map f l)) (leaves_at (Expr-F.Compare op a b) (v.rolls-Compare op a b ∙ sym is)) ∙ apart f first (leaves_in a) (leaves_in b))

  pub list_leaves : (a : Expr L) (es : List (Expr L)) (n : Bool) (second last : Option Fault) → e ≡ v.InList a es n → second ≡ after first a →
      last ≡ first_of second (flat_map f (joined (map leaves_in es))) → last ≡ after first e
  list_leaves a es n second last is p q =
      q ∙ ap (λ s. first_of s (flat_map f (joined (map leaves_in es)))) p
      ∙ sym (ap (λ l. first_of first (flat_map f l)) (leaves_at (Expr-F.InList a es n) (v.rolls-InList a es n ∙ sym is)) ∙ apart f first (leaves_in a) (joined (map leaves_in es)))

  pub between_leaves : (a b c : Expr L) (n : Bool) (second third last : Option Fault) → e ≡ v.Between a b c n → second ≡ after first a → third ≡ after second b →
      last ≡ after third c → last ≡ after first e
  between_leaves a b c n second third last is p q r =
      r ∙ ap (λ s. after s c) (q ∙ ap (λ s. after s b) p)
      ∙ sym (ap (λ l. first_of first (flat_map f l)) (leaves_at (Expr-F.Between a b c n) (v.rolls-Between a b c n ∙ sym is))
      ∙ apart f first (leaves_in a) (leaves_in b ++ leaves_in c) ∙ apart f (after first a) (leaves_in b) (leaves_in c))
