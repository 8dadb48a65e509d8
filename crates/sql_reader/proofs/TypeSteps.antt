-- How the faults of types in a node are found, from its operands one after the other.
use Rattle.std.proofs.Common.{◌≡◌, ◌∙◌, ℕ, zero, suc, ◌+◌, ◌<◌, Bool, List, [], ◌∷◌, length, get_or, map, drop, refl, sym, ap, Option, None, arith}
use Rattle.std.proofs.lemmas.List.{drop_more, drop-drop}
use Rattle.pgq_base.specs.declared.refusal.Span.{Span}
use Rattle.pgq_base.specs.declared.value.Class.{Class}
use Rattle.expr_tree.specs.declared.tree.Comparison.{Comparison}
use Rattle.expr_tree.specs.declared.tree.Test.{Test}
use Rattle.expr_tree.specs.declared.tree.Expr.{Expr, Expr-F, roll-Expr, map-Expr}
use Rattle.expr_tree.specs.declared.tree.Expr.TheVariants as v
use Rattle.expr_tree.specs.Classes.{class_in, children_of}
use Rattle.expr_tree.proofs.Folds.{at_layer, fused}
use Rattle.condition_grammar.specs.Spans.{without_first}
use Rattle.first_faults.specs.declared.faults.Fault.{Fault}
use Rattle.first_faults.specs.Faults.{first_of}
use Rattle.first_faults.proofs.Steps.{first_of_append, append_nothing}
use Rattle.sql_reader.specs.declared.types.Demand.{Demand}
use Rattle.sql_reader.specs.Types.{Typed, class_asked, truth_asked, test_asked, operand_faults, operands_faults, differing, total, node_faults, typed_step, typed}

behind : (n : ℕ) (spans : List Span) → drop n (without_first spans) ≡ drop (suc n) spans
behind zero [] = refl
behind (suc n) [] = refl
behind n (s ∷ spans) = refl

add_zero : (n : ℕ) → n + 0 ≡ n
add_zero n = omega arith

one_operand : (d : Option Demand) (t : Typed) (spans : List Span) (first : Option Fault) → first_of first (operands_faults d (t ∷ []) spans)
    ≡ first_of first (operand_faults d t spans)
one_operand d t spans first = ap (first_of first) (append_nothing (operand_faults d t spans))

-- the operands, from the first on
pub operands_from : (d : Option Demand) (t : Typed) (ts : List Typed) (spans rest : List Span) (first second : Option Fault) → second
    ≡ first_of first (operand_faults d t spans) → rest ≡ drop t.nodes spans
    → first_of first (operands_faults d (t ∷ ts) spans) ≡ first_of second (operands_faults d ts rest)
operands_from d t ts spans rest first second p q =
    first_of_append first (operand_faults d t spans) (operands_faults d ts (drop t.nodes spans)) ∙ ap (λ f. first_of f (operands_faults d ts (drop t.nodes spans))) (sym p)
    ∙ ap (λ r. first_of second (operands_faults d ts r)) (sym q)

pub differing_from : (t : Typed) (ts : List Typed) (class : Class) (spans rest : List Span) (first second : Option Fault) → second
    ≡ first_of first (operand_faults None t spans) → rest ≡ drop t.nodes spans → class ≡ t.class
    → first_of first (differing (t ∷ ts) spans) ≡ first_of second (operands_faults (class_asked class) ts rest)
differing_from t ts class spans rest first second p q r =
    first_of_append first (operand_faults None t spans) (operands_faults (class_asked t.class) ts (drop t.nodes spans))
    ∙ ap (λ f. first_of f (operands_faults (class_asked t.class) ts (drop t.nodes spans))) (sym p) ∙ ap (λ s. first_of second (operands_faults (class_asked t.class) ts s)) (sym q)
    ∙ ap (λ k. first_of second (operands_faults (class_asked k) ts rest)) (sym r)

-- the spans behind the operands
pub rest_from : (t : Typed) (ts : List Typed) (spans rest : List Span) → rest ≡ drop t.nodes spans → drop (total (t ∷ ts)) spans ≡ drop (total ts) rest
rest_from t ts spans rest q = sym (drop-drop (total ts) t.nodes spans) ∙ ap (drop (total ts)) (sym q)

module _ {L : Type 0} (leaf : L → Class) where
  abbrev of : Expr L → Typed
  of = typed leaf

  pub class_typed : (e : Expr L) → (typed leaf e).class ≡ class_in leaf e
  class_typed = fused (λ (t : Typed). t.class) (typed_step leaf) _ (λ x. refl)

  typed_at : (e : Expr L) (x : Expr-F L (Expr L)) → roll-Expr L x ≡ e → typed leaf e ≡ typed_step leaf (map-Expr L (Expr L) Typed (typed leaf) x)
  typed_at e x is = at_layer (typed_step leaf) x e is

  -- how a node was found: the spans behind it, and the first fault
  pub record Done (e : Expr L) (spans last : List Span) (first found : Option Fault) : Type 0 where
    pub rest_is : last ≡ drop (typed leaf e).nodes spans
    pub found_is : found ≡ first_of first ((typed leaf e).faults spans)

  node_done : (e : Expr L) (x : Expr-F L (Expr L)) (spans start last : List Span) (first found : Option Fault) → roll-Expr L x ≡ e → start ≡ without_first spans
      → last ≡ drop (total (children_of (map-Expr L (Expr L) Typed (typed leaf) x))) start
      → found ≡ first_of first (node_faults (map-Expr L (Expr L) Typed (typed leaf) x) start) → Done e spans last first found
  node_done e x spans start last first found is at p q = record {
    rest_is = p ∙ ap (drop (total (children_of (map-Expr L (Expr L) Typed (typed leaf) x)))) at ∙ behind (total (children_of (map-Expr L (Expr L) Typed (typed leaf) x))) spans
        ∙ ap (λ (t : Typed). drop t.nodes spans) (sym (typed_at e x is));
    found_is = q ∙ ap (λ l. first_of first (node_faults (map-Expr L (Expr L) Typed (typed leaf) x) l)) at
        ∙ ap (λ (t : Typed). first_of first (t.faults spans)) (sym (typed_at e x is));
  }

  -- the first of several operands, and what is asked of the others
  pub record Begun (a : Expr L) (start rest : List Span) (first second : Option Fault) (class : Class) (asked : Option Demand) : Type 0 where
    pub found_is : second ≡ first_of first (operand_faults None (of a) start)
    pub rest_is : rest ≡ drop (of a).nodes start
    pub class_is : class ≡ class_in leaf a
    pub asked_is : asked ≡ class_asked class

  pub differing_begun : (a : Expr L) (ts : List Typed) (start rest : List Span) (first second : Option Fault) (class : Class) (asked : Option Demand)
      → Begun a start rest first second class asked
      → first_of first (differing (of a ∷ ts) start) ≡ first_of second (operands_faults asked ts rest)
  differing_begun a ts start rest first second class asked b =
      differing_from (of a) ts class start rest first second b.found_is b.rest_is (b.class_is ∙ sym (class_typed a)) ∙ ap (λ d. first_of second (operands_faults d ts rest))
      (sym b.asked_is)

  pub compare_done : (e : Expr L) (op : Comparison) (a b : Expr L) (spans start rest last : List Span) (first second found : Option Fault) (class : Class)
      (asked : Option Demand) → e ≡ v.Compare op a b
      → start ≡ without_first spans → Begun a start rest first second class asked → found ≡ first_of second (operand_faults asked (of b) rest) → last ≡ drop (of b).nodes rest
      → Done e spans last first found
  compare_done e op a b spans start rest last first second found class asked is at h r s =
      node_done e (Expr-F.Compare op a b) spans start last first found (v.rolls-Compare op a b ∙ sym is) at
      (s ∙ ap (λ n. drop n rest) (sym (add_zero (of b).nodes)) ∙ sym (rest_from (of a) (of b ∷ []) start rest h.rest_is))
      (r ∙ sym (one_operand asked (of b) rest second) ∙ sym (differing_begun a (of b ∷ []) start rest first second class asked h))

  pub all_done : (e : Expr L) (es : List (Expr L)) (spans start last : List Span) (first found : Option Fault) (asked : Option Demand) → e ≡ v.All es → start
      ≡ without_first spans → asked ≡ truth_asked
      → found ≡ first_of first (operands_faults asked (map of es) start) → last ≡ drop (total (map of es)) start → Done e spans last first found
  all_done e es spans start last first found asked is at d p q = node_done e (Expr-F.All es) spans start last first found (v.rolls-All es ∙ sym is) at q
      (p ∙ ap (λ x. first_of first (operands_faults x (map of es) start)) d)

  pub any_done : (e : Expr L) (es : List (Expr L)) (spans start last : List Span) (first found : Option Fault) (asked : Option Demand) → e ≡ v.Any es → start
      ≡ without_first spans → asked ≡ truth_asked
      → found ≡ first_of first (operands_faults asked (map of es) start) → last ≡ drop (total (map of es)) start → Done e spans last first found
  any_done e es spans start last first found asked is at d p q = node_done e (Expr-F.Any es) spans start last first found (v.rolls-Any es ∙ sym is) at q
      (p ∙ ap (λ x. first_of first (operands_faults x (map of es) start)) d)

  pub not_done : (e a : Expr L) (spans start last : List Span) (first found : Option Fault) (asked : Option Demand) → e ≡ v.Not a → start ≡ without_first spans → asked
      ≡ truth_asked
      → found ≡ first_of first (operand_faults asked (of a) start) → last ≡ drop (of a).nodes start → Done e spans last first found
  not_done e a spans start last first found asked is at d p q =
      node_done e (Expr-F.Not a) spans start last first found (v.rolls-Not a ∙ sym is) at (q ∙ ap (λ n. drop n start) (sym (add_zero (of a).nodes)))
      (p ∙ sym (one_operand asked (of a) start first) ∙ ap (λ x. first_of first (operands_faults x (of a ∷ []) start)) d)

  pub is_done : (e a : Expr L) (t : Test) (n : Bool) (spans start last : List Span) (first found : Option Fault) (asked : Option Demand) → e ≡ v.Is a t n → start
      ≡ without_first spans → asked ≡ test_asked t
      → found ≡ first_of first (operand_faults asked (of a) start) → last ≡ drop (of a).nodes start → Done e spans last first found
  is_done e a t n spans start last first found asked is at d p q =
      node_done e (Expr-F.Is a t n) spans start last first found (v.rolls-Is a t n ∙ sym is) at (q ∙ ap (λ n. drop n start) (sym (add_zero (of a).nodes)))
      (p ∙ sym (one_operand asked (of a) start first) ∙ ap (λ x. first_of first (operands_faults x (of a ∷ []) start)) d)

  pub list_done : (e a : Expr L) (es : List (Expr L)) (n : Bool) (spans start rest last : List Span) (first second found : Option Fault) (class : Class) (asked : Option Demand)
      → e ≡ v.InList a es n
      → start ≡ without_first spans → Begun a start rest first second class asked → found ≡ first_of second (operands_faults asked (map of es) rest) → last
      ≡ drop (total (map of es)) rest → Done e spans last first found
  list_done e a es n spans start rest last first second found class asked is at h r s =
      node_done e (Expr-F.InList a es n) spans start last first found (v.rolls-InList a es n ∙ sym is) at (s ∙ sym (rest_from (of a) (map of es) start rest h.rest_is))
      (r ∙ sym (differing_begun a (map of es) start rest first second class asked h))

  pub between_done : (e a b c : Expr L) (n : Bool) (spans start rest later last : List Span) (first second third found : Option Fault) (class : Class) (asked : Option Demand)
      → e ≡ v.Between a b c n
      → start ≡ without_first spans → Begun a start rest first second class asked
      → third ≡ first_of second (operand_faults asked (of b) rest) → later ≡ drop (of b).nodes rest
      → found ≡ first_of third (operand_faults asked (of c) later) → last ≡ drop (of c).nodes later → Done e spans last first found
  between_done e a b c n spans start rest later last first second third found class asked is at h r s t u =
      node_done e (Expr-F.Between a b c n) spans start last first found (v.rolls-Between a b c n ∙ sym is) at
      (u ∙ ap (λ n. drop n later) (sym (add_zero (of c).nodes)) ∙ sym (rest_from (of b) (of c ∷ []) rest later s) ∙ sym (rest_from (of a) (of b ∷ of c ∷ []) start rest h.rest_is))
      (t ∙ sym (one_operand asked (of c) later third) ∙ sym (operands_from asked (of b) (of c ∷ []) rest later second third r s)
      ∙ sym (differing_begun a (of b ∷ of c ∷ []) start rest first second class asked h))

  pub coalesce_done : (e : Expr L) (es : List (Expr L)) (spans start last : List Span) (first found : Option Fault) → e ≡ v.Coalesce es → start ≡ without_first spans
      → found ≡ first_of first (differing (map of es) start) → last ≡ drop (total (map of es)) start → Done e spans last first found
  coalesce_done e es spans start last first found is at p q = node_done e (Expr-F.Coalesce es) spans start last first found (v.rolls-Coalesce es ∙ sym is) at q p

  -- a loop over operands, one on
  pub loop_rest : (es : List (Expr L)) (i : ℕ) (e : Expr L) (spans rest : List Span) → i < length es → e ≡ get_or es i e → rest ≡ drop (of e).nodes spans
      → drop (total (map of (drop (i + 1) es))) rest ≡ drop (total (map of (drop i es))) spans
  loop_rest es i e spans rest within is q =
      sym (rest_from (of e) (map of (drop (i + 1) es)) spans rest q)
      ∙ ap (λ x. drop (total (of x ∷ map of (drop (i + 1) es))) spans) is
      ∙ sym (ap (λ l. drop (total (map of l)) spans) (drop_more es i e within))

  pub loop_found : (d : Option Demand) (es : List (Expr L)) (i : ℕ) (e : Expr L) (spans rest : List Span) (first second : Option Fault) → i < length es → e ≡ get_or es i e
      → second ≡ first_of first (operand_faults d (of e) spans) → rest ≡ drop (of e).nodes spans
      → first_of second (operands_faults d (map of (drop (i + 1) es)) rest) ≡ first_of first (operands_faults d (map of (drop i es)) spans)
  loop_found d es i e spans rest first second within is p q =
      sym (operands_from d (of e) (map of (drop (i + 1) es)) spans rest first second p q)
      ∙ ap (λ x. first_of first (operands_faults d (of x ∷ map of (drop (i + 1) es)) spans)) is
      ∙ sym (ap (λ l. first_of first (operands_faults d (map of l) spans)) (drop_more es i e within))
