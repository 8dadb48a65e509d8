-- The faults of types in an expression: there is none exactly where the expression is well classed.
use Rattle.std.proofs.Common.{◌≡◌, Bool, true, false, ◌&&◌, List, [], ◌∷◌, map, drop, refl, sym, ap, ◌∙◌, subst, Option, None, Some}
use Rattle.std.specs.List.{list_all}
use Rattle.pgq_base.specs.declared.refusal.Span.{Span}
use Rattle.pgq_base.specs.declared.value.Class.{Class}
use Rattle.pgq_base.specs.declared.value.Class.TheVariants.{Truth}
use Rattle.pgq_base.specs.declared.code.Code.TheVariants as code
use Rattle.expr_tree.specs.declared.tree.Test.TheVariants as test
use Rattle.expr_tree.specs.declared.tree.Expr.{Expr, Expr-F, map-Expr, roll-Expr, fold-roll-Expr, ind-Expr}
use Rattle.expr_tree.specs.Classes.{same_class, class_step, class_in, is_filled, Judgement, judged_step, judged}
use Rattle.expr_tree.proofs.Folds.{fused}
use Rattle.expr_tree.proofs.ClassLemmas.{same_self}
use Rattle.expr_tree.proofs.JudgementLemmas.{judged_class}
use Rattle.condition_grammar.specs.Spans.{first_span, without_first}
use Rattle.first_faults.specs.declared.faults.Fault.{Fault}
use Rattle.sql_reader.specs.declared.types.Demand.{Demand}
use Rattle.sql_reader.specs.Types.{Typed, mismatch, truth_asked, class_asked, operand_faults, operands_faults, differing, typed_step, typed}
use Rattle.sql_reader.specs.Shapes.{shape_step, is_shaped}
use Rattle.sql_reader.proofs.Clean.{no_fault, no_fault_append, no_fault_unless, and_true, and_false}

regrouped : (F M R s S k K C m : Bool) → (F && s) ≡ k → (R && S) ≡ (K && C) → M ≡ m → (((F && M) && R) && (s && S)) ≡ ((k && K) && (m && C))
regrouped F M R s S k K C m p q r = by F M s p r
  where
    by : (F M s : Bool) → (F && s) ≡ k → M ≡ m → (((F && M) && R) && (s && S)) ≡ ((k && K) && (m && C))
    by true true true p r = q ∙ ap (λ x. (x && K) && C) p ∙ ap (λ x. (k && K) && (x && C)) r
    by true true false p r = and_false R ∙ ap (λ x. (x && K) && (m && C)) p
    by true false s p r = sym (and_false (k && K)) ∙ ap (λ x. (k && K) && (x && C)) r
    by false M s p r = ap (λ x. (x && K) && (m && C)) p

-- a test among the others
among : (N S f K C : Bool) → (N && S) ≡ (K && C) → (N && (S && f)) ≡ (K && (f && C))
among N S true K C h = ap (λ b. N && b) (and_true S) ∙ h
among N S false K C h = ap (λ b. N && b) (and_false S) ∙ and_false N ∙ sym (and_false K)

module _ {L : Type 0} (leaf : L → Class) where
  pub typed_class : (e : Expr L) → (typed leaf e).class ≡ class_in leaf e
  typed_class = fused (λ (t : Typed). t.class) (typed_step leaf) (class_step leaf) (λ x. refl)

  same_classes : (e : Expr L) → (typed leaf e).class ≡ (judged leaf e).class
  same_classes e = typed_class e ∙ sym (judged_class leaf e)

  abbrev pub Told : Expr L → Type 0
  Told e = (spans : List Span) → (no_fault ((typed leaf e).faults spans) && is_shaped e) ≡ (judged leaf e).kept

  abbrev Child : Type 0
  Child = (e : Expr L) × Told e

  abbrev bare : Child → Expr L
  bare c = c.0

  abbrev typed_of : Child → Typed
  typed_of c = typed leaf c.0

  abbrev kept_of : List Child → Bool
  kept_of cs = list_all (λ (j : Judgement). j.kept) (map (judged leaf) (map bare cs))

  abbrev shape_of : List Child → Bool
  shape_of cs = list_all (λ b. b) (map is_shaped (map bare cs))

  abbrev classes_of : List Child → List Class
  classes_of cs = map (λ (j : Judgement). j.class) (map (judged leaf) (map bare cs))

  operand_told : (d : Demand) (c : Child) (spans : List Span) → no_fault (operand_faults (Some d) (typed_of c) spans)
      ≡ (no_fault ((typed_of c).faults spans) && same_class d.class (judged leaf c.0).class)
  operand_told d c spans =
      no_fault_append ((typed_of c).faults spans) (mismatch (Some d) (typed_of c).class (first_span spans))
      ∙ ap (λ b. no_fault ((typed_of c).faults spans) && b) (no_fault_unless (same_class d.class (typed_of c).class) d.code (first_span spans)
      ∙ ap (same_class d.class) (same_classes c.0))

  operands_told : (d : Demand) (cs : List Child) (spans : List Span)
      → (no_fault (operands_faults (Some d) (map (typed leaf) (map bare cs)) spans) && shape_of cs) ≡ (kept_of cs && list_all (same_class d.class) (classes_of cs))
  operands_told d [] spans = refl
  operands_told d (c ∷ cs) spans =
      let behind : List Span = drop (typed_of c).nodes spans in
      ap (λ b. b && shape_of (c ∷ cs)) (no_fault_append (operand_faults (Some d) (typed_of c) spans) (operands_faults (Some d) (map (typed leaf) (map bare cs)) behind)
      ∙ ap (λ b. b && no_fault (operands_faults (Some d) (map (typed leaf) (map bare cs)) behind)) (operand_told d c spans))
      ∙ regrouped (no_fault ((typed_of c).faults spans)) (same_class d.class (judged leaf c.0).class)
      (no_fault (operands_faults (Some d) (map (typed leaf) (map bare cs)) behind)) (is_shaped c.0) (shape_of cs)
      (judged leaf c.0).kept (kept_of cs) (list_all (same_class d.class) (classes_of cs)) (same_class d.class (judged leaf c.0).class) (c.1 spans) (operands_told d cs behind) refl

  differing_told : (c : Child) (cs : List Child) (spans : List Span)
      → (no_fault (differing (map (typed leaf) (map bare (c ∷ cs))) spans) && shape_of (c ∷ cs))
      ≡ (kept_of (c ∷ cs) && list_all (same_class (judged leaf c.0).class) (classes_of cs))
  differing_told c cs spans =
      let behind : List Span = drop (typed_of c).nodes spans in
      ap (λ b. b && shape_of (c ∷ cs)) (no_fault_append (operand_faults None (typed_of c) spans)
      (operands_faults (class_asked (typed_of c).class) (map (typed leaf) (map bare cs)) behind)
      ∙ ap (λ b. b && no_fault (operands_faults (class_asked (typed_of c).class) (map (typed leaf) (map bare cs)) behind)) (no_fault_append ((typed_of c).faults spans) [])
      ∙ ap (λ k. (no_fault ((typed_of c).faults spans) && true) && no_fault (operands_faults (class_asked k) (map (typed leaf) (map bare cs)) behind)) (same_classes c.0))
      ∙ regrouped (no_fault ((typed_of c).faults spans)) true (no_fault (operands_faults (class_asked (judged leaf c.0).class) (map (typed leaf) (map bare cs)) behind))
      (is_shaped c.0) (shape_of cs)
      (judged leaf c.0).kept (kept_of cs) (list_all (same_class (judged leaf c.0).class) (classes_of cs)) true (c.1 spans)
      (operands_told (record { class = (judged leaf c.0).class; code = code.ClassesDiffer }) cs behind) refl

  one_told : (d : Option Demand) (m : Class → Bool) → ((k : Class) (s : Span) → no_fault (mismatch d k s) ≡ m k) → (c : Child) (spans : List Span)
      → (no_fault (operands_faults d (map (typed leaf) (map bare (c ∷ []))) spans) && (shape_of (c ∷ []) && true)) ≡ (kept_of (c ∷ []) && m (judged leaf c.0).class)
  one_told d m is c spans =
      let faults : List Fault = (typed_of c).faults spans in
      ap (λ b. b && (shape_of (c ∷ []) && true)) (no_fault_append (operand_faults d (typed_of c) spans) []
      ∙ and_true (no_fault (operand_faults d (typed_of c) spans))
      ∙ no_fault_append faults (mismatch d (typed_of c).class (first_span spans))
      ∙ ap (λ b. no_fault faults && b) (is (typed_of c).class (first_span spans) ∙ ap m (same_classes c.0)))
      ∙ ap (λ b. (no_fault faults && m (judged leaf c.0).class) && b) (and_true (is_shaped c.0 && true) ∙ and_true (is_shaped c.0))
      ∙ by (no_fault faults) (m (judged leaf c.0).class) (is_shaped c.0)
      ∙ ap (λ b. (b && true) && m (judged leaf c.0).class) (c.1 spans)
    where
      by : (F M s : Bool) → ((F && M) && s) ≡ (((F && s) && true) && M)
      by true true true = refl
      by true true false = refl
      by true false true = refl
      by true false false = refl
      by false M s = refl

  abbrev Layer : Expr-F L (Expr L) → Type 0
  Layer x = (spans : List Span) →
      (no_fault ((typed_step leaf (map-Expr L (Expr L) Typed (typed leaf) x)).faults spans) && shape_step (map-Expr L (Expr L) Bool is_shaped x))
      ≡ (judged_step leaf (map-Expr L (Expr L) Judgement (judged leaf) x)).kept

  filled : (es : List Child) → is_filled (map is_shaped (map bare es)) ≡ is_filled (classes_of es)
  filled [] = refl
  filled (e ∷ es) = refl

  layer : (y : Expr-F L Child) → Layer (map-Expr L Child (Expr L) bare y)
  layer (Expr-F.Lit v) spans = refl
  layer (Expr-F.Null c) spans = refl
  layer (Expr-F.Leaf l) spans = refl
  layer (Expr-F.Compare op a b) spans =
      let behind : List Span = without_first spans in
      ap (λ s. no_fault (differing (map (typed leaf) (map bare (a ∷ b ∷ []))) behind) && s) (and_true (shape_of (a ∷ b ∷ [])))
      ∙ differing_told a (b ∷ []) behind
      ∙ ap (λ s. kept_of (a ∷ b ∷ []) && s) (and_true (same_class (judged leaf a.0).class (judged leaf b.0).class))
  layer (Expr-F.All es) spans =
      let behind : List Span = without_first spans in
      ap (λ s. no_fault (operands_faults truth_asked (map (typed leaf) (map bare es)) behind) && s) (and_true (shape_of es))
      ∙ operands_told (record { class = Truth; code = code.NotTruth }) es behind
  layer (Expr-F.Any es) spans =
      let behind : List Span = without_first spans in
      ap (λ s. no_fault (operands_faults truth_asked (map (typed leaf) (map bare es)) behind) && s) (and_true (shape_of es))
      ∙ operands_told (record { class = Truth; code = code.NotTruth }) es behind
  layer (Expr-F.Not a) spans = one_told truth_asked (same_class Truth) (λ k s. no_fault_unless (same_class Truth k) code.NotTruth s) a (without_first spans)
  layer (Expr-F.Is a test.Null n) spans = one_told None (λ k. true) (λ k s. refl) a (without_first spans)
  layer (Expr-F.Is a test.True n) spans = one_told truth_asked (same_class Truth) (λ k s. no_fault_unless (same_class Truth k) code.NotTruth s) a (without_first spans)
  layer (Expr-F.Is a test.False n) spans = one_told truth_asked (same_class Truth) (λ k s. no_fault_unless (same_class Truth k) code.NotTruth s) a (without_first spans)
  layer (Expr-F.Is a test.Unknown n) spans = one_told truth_asked (same_class Truth) (λ k s. no_fault_unless (same_class Truth k) code.NotTruth s) a (without_first spans)
  layer (Expr-F.InList a es n) spans =
      let behind : List Span = without_first spans in
      among (no_fault (differing (map (typed leaf) (map bare (a ∷ es))) behind)) (shape_of (a ∷ es)) (is_filled (map is_shaped (map bare es))) (kept_of (a ∷ es))
      (list_all (same_class (judged leaf a.0).class) (classes_of es))
      (differing_told a es behind)
      ∙ ap (λ f. kept_of (a ∷ es) && (f && list_all (same_class (judged leaf a.0).class) (classes_of es))) (filled es)
  layer (Expr-F.Between a b c n) spans =
      let behind : List Span = without_first spans in
      ap (λ s. no_fault (differing (map (typed leaf) (map bare (a ∷ b ∷ c ∷ []))) behind) && s) (and_true (shape_of (a ∷ b ∷ c ∷ [])))
      ∙ differing_told a (b ∷ c ∷ []) behind
      ∙ ap (λ s. kept_of (a ∷ b ∷ c ∷ []) && (same_class (judged leaf a.0).class (judged leaf b.0).class && s))
      (and_true (same_class (judged leaf a.0).class (judged leaf c.0).class))
  layer (Expr-F.Coalesce []) spans = refl
  layer (Expr-F.Coalesce (e ∷ es)) spans =
      let behind : List Span = without_first spans in
      ap (λ s. no_fault (differing (map (typed leaf) (map bare (e ∷ es))) behind) && s) (and_true (shape_of (e ∷ es)))
      ∙ differing_told e es behind
      ∙ ap (λ s. kept_of (e ∷ es) && (s && list_all (same_class (judged leaf e.0).class) (classes_of es))) (sym (same_self (judged leaf e.0).class))

  pub told : (e : Expr L) → Told e
  told = ind-Expr L Told (λ x y is spans.
      ap (λ (t : Typed). no_fault (t.faults spans) && is_shaped (roll-Expr L x)) (fold-roll-Expr L Typed (typed_step leaf) x)
      ∙ ap (λ b. no_fault ((typed_step leaf (map-Expr L (Expr L) Typed (typed leaf) x)).faults spans) && b) (fold-roll-Expr L Bool shape_step x)
      ∙ subst Layer is (layer y) spans
      ∙ sym (ap (λ (j : Judgement). j.kept) (fold-roll-Expr L Judgement (judged_step leaf) x)))
