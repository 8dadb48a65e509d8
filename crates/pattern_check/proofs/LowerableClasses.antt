-- An expression without faults of types is well classed.
use Rattle.std.proofs.Common.{◌≡◌, Bool, true, false, not, ◌&&◌, List, [], ◌∷◌, ◌++◌, map, drop, refl, sym, ap, ◌∙◌, subst}
use Rattle.std.specs.List.{list_all, flat_map}
use Rattle.pgq_base.specs.declared.refusal.Span.{Span}
use Rattle.pgq_base.specs.declared.value.Class.{Class}
use Rattle.pgq_base.specs.declared.value.Class.TheVariants.{Truth}
use Rattle.pgq_base.specs.declared.code.Code.{Code}
use Rattle.pgq_base.specs.declared.code.Code.TheVariants as code
use Rattle.expr_tree.specs.declared.tree.Test.TheVariants as test
use Rattle.expr_tree.specs.declared.tree.Expr.{Expr, Expr-F, map-Expr, fold-Expr, fold-roll-Expr, ind-Expr}
use Rattle.expr_tree.specs.Classes.{same_class, class_step, class_in, is_filled, Judgement, judged_step, judged}
use Rattle.expr_tree.proofs.Folds.{fused}
use Rattle.expr_tree.proofs.ClassLemmas.{same_self}
use Rattle.expr_tree.proofs.JudgementLemmas.{judged_class}
use Rattle.first_faults.specs.declared.faults.Fault.{Fault}
use Rattle.first_faults.specs.Faults.{when}
use Rattle.graph_meaning.proofs.Members.{both_parts, both_true}
use Rattle.pattern_check.specs.TypeRules.{Operand, Typed, class_differs, classes_differ, not_truth, not_truths, own_span, side_by_side, operand_of, child_faults, faults_at}
use Rattle.pattern_check.specs.TypeRules.{typed_step, typed}
use Rattle.pattern_check.specs.Lowerable.{spelled_step}
use Rattle.pattern_check.proofs.Faultless.{left_none, right_none, not_when}

not_false : (b : Bool) → not b ≡ false → b ≡ true
not_false true h = refl
not_false false h = cc

pub kept_when : (b : Bool) (own : Code) (span : Span) → when (not b) own span ≡ [] → b ≡ true
kept_when b own span h = not_false b (not_when (not b) own span h)

module _ {L : Type 0} (leaf : L → Class) where
  abbrev spelled : Expr L → Bool
  spelled = fold-Expr L Bool spelled_step

  pub typed_class : (e : Expr L) → (typed leaf e).class ≡ class_in leaf e
  typed_class = fused (λ (t : Typed). t.class) (typed_step leaf) (class_step leaf) (λ x. refl)

  same_classes : (e : Expr L) → (typed leaf e).class ≡ (judged leaf e).class
  same_classes e = typed_class e ∙ sym (judged_class leaf e)

  abbrev Told : Expr L → Type 0
  Told e = (spans : List Span) → (typed leaf e).faults spans ≡ [] → spelled e ≡ true → (judged leaf e).kept ≡ true

  abbrev Child : Type 0
  Child = (e : Expr L) × Told e

  abbrev bare : Child → Expr L
  bare c = c.0

  abbrev beside : List Span → List Child → List (Typed × List Span)
  beside spans cs = side_by_side spans (map (typed leaf) (map bare cs))

  abbrev classes_of : List Child → List Class
  classes_of cs = map (λ (j : Judgement). j.class) (map (judged leaf) (map bare cs))

  inside_kept : (cs : List Child) (spans : List Span) → flat_map child_faults (beside spans cs) ≡ [] → list_all (λ b. b) (map spelled (map bare cs)) ≡ true →
      list_all (λ (j : Judgement). j.kept) (map (judged leaf) (map bare cs)) ≡ true
  inside_kept [] spans h s = refl
  inside_kept (c ∷ cs) spans h s =
      let behind : List Span = drop (typed leaf c.0).nodes spans in
      let all = both_parts (spelled c.0) (list_all (λ b. b) (map spelled (map bare cs))) s in
      both_true (judged leaf c.0).kept (list_all (λ (j : Judgement). j.kept) (map (judged leaf) (map bare cs)))
      (c.1 spans (left_none ((typed leaf c.0).faults spans) (flat_map child_faults (beside behind cs)) h) all.0)
      (inside_kept cs behind (right_none ((typed leaf c.0).faults spans) (flat_map child_faults (beside behind cs)) h) all.1)

  truths_kept : (cs : List Child) (spans : List Span) → not_truths (map operand_of (beside spans cs)) ≡ [] → list_all (same_class Truth) (classes_of cs) ≡ true
  truths_kept [] spans h = refl
  truths_kept (c ∷ cs) spans h =
      let behind : List Span = drop (typed leaf c.0).nodes spans in
      let own : Operand = operand_of (typed leaf c.0, spans) in
      both_true (same_class Truth (judged leaf c.0).class) (list_all (same_class Truth) (classes_of cs))
      (ap (same_class Truth) (sym (same_classes c.0))
      ∙ kept_when (same_class Truth (typed leaf c.0).class) code.NotTruth (own_span spans) (left_none (not_truth own) (not_truths (map operand_of (beside behind cs))) h))
      (truths_kept cs behind (right_none (not_truth own) (not_truths (map operand_of (beside behind cs))) h))

  alike_kept : (first : Operand) (class : Class) → first.class ≡ class → (cs : List Child) (spans : List Span) →
      flat_map (class_differs first) (map operand_of (beside spans cs)) ≡ [] → list_all (same_class class) (classes_of cs) ≡ true
  alike_kept first class is [] spans h = refl
  alike_kept first class is (c ∷ cs) spans h =
      let behind : List Span = drop (typed leaf c.0).nodes spans in
      let own : Operand = operand_of (typed leaf c.0, spans) in
      let rest : List Fault = flat_map (class_differs first) (map operand_of (beside behind cs)) in
      both_true (same_class class (judged leaf c.0).class) (list_all (same_class class) (classes_of cs))
      (ap (same_class class) (sym (same_classes c.0)) ∙ ap (λ k. same_class k (typed leaf c.0).class) (sym is)
      ∙ kept_when (same_class first.class (typed leaf c.0).class) code.ClassesDiffer (own_span spans) (left_none (class_differs first own) rest h))
      (alike_kept first class is cs behind (right_none (class_differs first own) rest h))

  -- the others have the first one's class
  differing_kept : (c : Child) (cs : List Child) (spans : List Span) → classes_differ (map operand_of (beside spans (c ∷ cs))) ≡ [] →
      list_all (same_class (judged leaf c.0).class) (classes_of cs) ≡ true
  differing_kept c cs spans h =
      alike_kept (operand_of (typed leaf c.0, spans)) (judged leaf c.0).class (same_classes c.0) cs (drop (typed leaf c.0).nodes spans) h

  abbrev Layer : Expr-F L (Expr L) → Type 0
  Layer x = (spans : List Span) → faults_at (map-Expr L (Expr L) Typed (typed leaf) x) spans ≡ [] → spelled_step (map-Expr L (Expr L) Bool spelled x) ≡ true →
      (judged_step leaf (map-Expr L (Expr L) Judgement (judged leaf) x)).kept ≡ true

  abbrev kept_of : List Child → Bool
  kept_of cs = list_all (λ (j : Judgement). j.kept) (map (judged leaf) (map bare cs))

  one_spelled : (c : Child) → spelled c.0 ≡ true → list_all (λ b. b) (map spelled (map bare (c ∷ []))) ≡ true
  one_spelled c s = both_true (spelled c.0) true s refl

  filled : (es : List Child) → is_filled (map spelled (map bare es)) ≡ is_filled (classes_of es)
  filled [] = refl
  filled (e ∷ es) = refl

  first_of_two : (a : Bool) → (a && true) ≡ true → a ≡ true
  first_of_two true h = refl
  first_of_two false h = h

  -- a node with these children is kept where they are and it keeps its own rule
  node_kept : (cs : List Child) (own : Bool) (node : List Operand → List Fault) (spans : List Span) →
      (node (map operand_of (beside (drop 1 spans) cs)) ++ flat_map child_faults (beside (drop 1 spans) cs)) ≡ [] →
      list_all (λ b. b) (map spelled (map bare cs)) ≡ true → (node (map operand_of (beside (drop 1 spans) cs)) ≡ [] → own ≡ true) →
      (kept_of cs && own) ≡ true
  node_kept cs own node spans h s rule =
      let operands : List Fault = node (map operand_of (beside (drop 1 spans) cs)) in
      let inside : List Fault = flat_map child_faults (beside (drop 1 spans) cs) in
      both_true (kept_of cs) own (inside_kept cs (drop 1 spans) (right_none operands inside h) s) (rule (left_none operands inside h))

  layer : (y : Expr-F L Child) → Layer (map-Expr L Child (Expr L) bare y)
  layer (Expr-F.Lit v) spans h s = s
  layer (Expr-F.Null c) spans h s = refl
  layer (Expr-F.Leaf l) spans h s = refl
  layer (Expr-F.Compare op a b) spans h s =
      let all = both_parts (spelled a.0) (spelled b.0) s in
      node_kept (a ∷ b ∷ []) (same_class (judged leaf a.0).class (judged leaf b.0).class) classes_differ spans h
      (both_true (spelled a.0) (spelled b.0 && true) all.0 (one_spelled b all.1))
      (λ none. first_of_two _ (differing_kept a (b ∷ []) (drop 1 spans) none))
  layer (Expr-F.All es) spans h s = node_kept es (list_all (same_class Truth) (classes_of es)) not_truths spans h s (λ none. truths_kept es (drop 1 spans) none)
  layer (Expr-F.Any es) spans h s = node_kept es (list_all (same_class Truth) (classes_of es)) not_truths spans h s (λ none. truths_kept es (drop 1 spans) none)
  layer (Expr-F.Not a) spans h s =
      node_kept (a ∷ []) (same_class Truth (judged leaf a.0).class) not_truths spans h (one_spelled a s)
      (λ none. first_of_two _ (truths_kept (a ∷ []) (drop 1 spans) none))
  layer (Expr-F.Is a test.Null n) spans h s = node_kept (a ∷ []) true (λ operands. []) spans h (one_spelled a s) (λ none. refl)
  layer (Expr-F.Is a test.True n) spans h s =
      node_kept (a ∷ []) (same_class Truth (judged leaf a.0).class) not_truths spans h (one_spelled a s)
      (λ none. first_of_two _ (truths_kept (a ∷ []) (drop 1 spans) none))
  layer (Expr-F.Is a test.False n) spans h s =
      node_kept (a ∷ []) (same_class Truth (judged leaf a.0).class) not_truths spans h (one_spelled a s)
      (λ none. first_of_two _ (truths_kept (a ∷ []) (drop 1 spans) none))
  layer (Expr-F.Is a test.Unknown n) spans h s =
      node_kept (a ∷ []) (same_class Truth (judged leaf a.0).class) not_truths spans h (one_spelled a s)
      (λ none. first_of_two _ (truths_kept (a ∷ []) (drop 1 spans) none))
  layer (Expr-F.InList a es n) spans h s =
      let all = both_parts (spelled a.0) (is_filled (map spelled (map bare es)) && list_all (λ b. b) (map spelled (map bare es))) s in
      let rest = both_parts (is_filled (map spelled (map bare es))) (list_all (λ b. b) (map spelled (map bare es))) all.1 in
      node_kept (a ∷ es) (is_filled (classes_of es) && list_all (same_class (judged leaf a.0).class) (classes_of es)) classes_differ spans h
      (both_true (spelled a.0) (list_all (λ b. b) (map spelled (map bare es))) all.0 rest.1)
      (λ none. both_true (is_filled (classes_of es)) (list_all (same_class (judged leaf a.0).class) (classes_of es)) (sym (filled es) ∙ rest.0) (differing_kept a es
      (drop 1 spans) none))
  layer (Expr-F.Between a b c n) spans h s =
      let all = both_parts (spelled a.0) (spelled b.0 && spelled c.0) s in
      let rest = both_parts (spelled b.0) (spelled c.0) all.1 in
      node_kept (a ∷ b ∷ c ∷ []) (same_class (judged leaf a.0).class (judged leaf b.0).class && same_class (judged leaf a.0).class (judged leaf c.0).class) classes_differ spans h
      (both_true (spelled a.0) (spelled b.0 && (spelled c.0 && true)) all.0 (both_true (spelled b.0) (spelled c.0 && true) rest.0 (one_spelled c rest.1)))
      (λ none.
      let two = both_parts (same_class (judged leaf a.0).class (judged leaf b.0).class) (same_class (judged leaf a.0).class (judged leaf c.0).class && true) (differing_kept a
      (b ∷ c ∷ []) (drop 1 spans) none) in
      both_true (same_class (judged leaf a.0).class (judged leaf b.0).class) (same_class (judged leaf a.0).class (judged leaf c.0).class) two.0 (first_of_two _ two.1))
  layer (Expr-F.Coalesce []) spans h s = s
  layer (Expr-F.Coalesce (e ∷ es)) spans h s =
      node_kept (e ∷ es) (same_class (judged leaf e.0).class (judged leaf e.0).class && list_all (same_class (judged leaf e.0).class) (classes_of es)) classes_differ spans h s
      (λ none. both_true (same_class (judged leaf e.0).class (judged leaf e.0).class) (list_all (same_class (judged leaf e.0).class) (classes_of es)) (same_self
      (judged leaf e.0).class) (differing_kept e es (drop 1 spans) none))

  pub told : (e : Expr L) → Told e
  told = ind-Expr L Told (λ x y is spans h s.
      ap (λ (j : Judgement). j.kept) (fold-roll-Expr L Judgement (judged_step leaf) x)
      ∙ subst Layer is (layer y) spans
      (sym (ap (λ (t : Typed). t.faults spans) (fold-roll-Expr L Typed (typed_step leaf) x)) ∙ h)
      (sym (fold-roll-Expr L Bool spelled_step x) ∙ s))
