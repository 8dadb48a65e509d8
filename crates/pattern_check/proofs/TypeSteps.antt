-- The operands of a node, looked at one after another, tell the class, the first fault and the spans behind that the definition gives the node.
use Rattle.std.proofs.Common.{◌≡◌, ℕ, ◌+◌, ◌<◌, ap, sym, ◌∙◌, refl, Bool, List, [], ◌∷◌, ◌++◌, length, get_or, drop, map, Option, None, option_to_list}
use Rattle.std.specs.List.{flat_map, sum_by}
use Rattle.std.proofs.lemmas.List.{drop_more, drop-drop}
use Rattle.std.proofs.lemmas.List.Sums.{sum_by-cons}
use Rattle.pgq_base.specs.declared.refusal.Span.{Span}
use Rattle.pgq_base.specs.declared.value.Class.{Class}
use Rattle.pgq_base.specs.declared.value.Class.TheVariants.{Truth}
use Rattle.expr_tree.specs.declared.tree.Comparison.{Comparison}
use Rattle.expr_tree.specs.declared.tree.Test.{Test}
use Rattle.expr_tree.specs.declared.tree.Test.TheVariants as test
use Rattle.expr_tree.specs.declared.tree.Expr.{Expr}
use Rattle.expr_tree.specs.declared.tree.Expr.TheVariants as v
use Rattle.expr_tree.proofs.Folds.{at_layer}
use Rattle.expr_tree.specs.declared.tree.Expr.TheOpen.{Expr-F}
use Rattle.expr_tree.specs.Classes.{first_class, children_of}
use Rattle.first_faults.specs.declared.faults.Fault.{Fault}
use Rattle.first_faults.specs.Faults.{first_of}
use Rattle.first_faults.proofs.Steps.{first_of_append}
use Rattle.pattern_check.specs.declared.types.Wanted.{Wanted}
use Rattle.pattern_check.specs.declared.types.Wanted.TheVariants.{Anything, Truths, Alike, Of}
use Rattle.pattern_check.specs.TypeRules.{Operand, Typed, class_differs, classes_differ, not_truth, not_truths, node_faults, own_span, side_by_side, operand_of, child_faults}
use Rattle.pattern_check.specs.TypeRules.{faults_at, typed_step, typed}
use Rattle.pattern_check.specs.Typing.{misfit, next, asked_for, class_asked, Told, judge, Seen, begun, joined, with_operand, with_operands, finished}
use Rattle.pattern_check.proofs.Together.{first_of_found}

abbrev row_with : Seen → Typed → Option Fault → Seen
row_with row operand inside = record {
  wanted = next row.wanted operand.class;
  own = first_of row.own (misfit row.wanted (record { class = operand.class; span = own_span row.spans }));
  inside = inside;
  spans = drop operand.nodes row.spans;
}

pub joined_is : (row : Seen) (operand : Typed) → joined row (judge operand row.spans) ≡ with_operand row operand
joined_is row operand = ap (row_with row operand) (first_of_found row.inside (operand.faults row.spans))

-- ---- what a row of operands tells

-- the faults at operands, of which each may tell what is asked of the next
abbrev misfits : Wanted → List Operand → List Fault
misfits wanted [] = []
misfits wanted (operand ∷ operands) = misfit wanted operand ++ misfits (next wanted operand.class) operands

own_walked : (row : Seen) (ts : List Typed) → (with_operands row ts).own ≡ first_of row.own (misfits row.wanted (map operand_of (side_by_side row.spans ts)))
own_walked row [] = refl
own_walked row (t ∷ ts) =
    own_walked (with_operand row t) ts
    ∙ sym (first_of_append row.own (misfit row.wanted (operand_of (t, row.spans))) (misfits (next row.wanted t.class) (map operand_of (side_by_side
    (drop t.nodes row.spans) ts))))

inside_walked : (row : Seen) (ts : List Typed) → (with_operands row ts).inside ≡ first_of row.inside (flat_map child_faults (side_by_side row.spans ts))
inside_walked row [] = refl
inside_walked row (t ∷ ts) =
    inside_walked (with_operand row t) ts
    ∙ sym (first_of_append row.inside (t.faults row.spans) (flat_map child_faults (side_by_side (drop t.nodes row.spans) ts)))

abbrev nodes_in : List Typed → ℕ
nodes_in = sum_by (λ (t : Typed). t.nodes)

spans_walked : (row : Seen) (ts : List Typed) → (with_operands row ts).spans ≡ drop (nodes_in ts) row.spans
spans_walked row [] = refl
spans_walked row (t ∷ ts) =
    spans_walked (with_operand row t) ts
    ∙ drop-drop (nodes_in ts) t.nodes row.spans
    ∙ sym (ap (λ n. drop n row.spans) (sum_by-cons (λ (u : Typed). u.nodes) t ts))

class_kept : (class : Class) (ts : List Typed) (row : Seen) → row.wanted ≡ Of class → (with_operands row ts).wanted ≡ Of class
class_kept class [] row e = e
class_kept class (t ∷ ts) row e = class_kept class ts (with_operand row t) (ap (λ w. next w t.class) e)

first_told : (spans : List Span) (ts : List Typed) → class_asked (with_operands (begun Alike spans) ts).wanted ≡ first_class (map (λ (t : Typed). t.class) ts)
first_told spans [] = refl
first_told spans (t ∷ ts) = ap class_asked (class_kept t.class ts (with_operand (begun Alike spans) t) refl)

-- ---- what is asked of the operands of a node

abbrev asked_by : {L A : Type 0} → Expr-F L A → Wanted
asked_by (Expr-F.Lit v) = Anything
asked_by (Expr-F.Null c) = Anything
asked_by (Expr-F.Leaf l) = Anything
asked_by (Expr-F.Compare op a b) = Alike
asked_by (Expr-F.All es) = Truths
asked_by (Expr-F.Any es) = Truths
asked_by (Expr-F.Not e) = Truths
asked_by (Expr-F.Is e t negated) = asked_for t
asked_by (Expr-F.InList e es negated) = Alike
asked_by (Expr-F.Between a b c negated) = Alike
asked_by (Expr-F.Coalesce es) = Alike

nothing_asked : (operands : List Operand) → misfits Anything operands ≡ []
nothing_asked [] = refl
nothing_asked (o ∷ os) = nothing_asked os

truths_asked : (operands : List Operand) → misfits Truths operands ≡ not_truths operands
truths_asked [] = refl
truths_asked (o ∷ os) = ap (λ l. not_truth o ++ l) (truths_asked os)

class_asked_for : (first : Operand) (operands : List Operand) → misfits (Of first.class) operands ≡ flat_map (class_differs first) operands
class_asked_for first [] = refl
class_asked_for first (o ∷ os) = ap (λ l. class_differs first o ++ l) (class_asked_for first os)

one_class_asked : (operands : List Operand) → misfits Alike operands ≡ classes_differ operands
one_class_asked [] = refl
one_class_asked (o ∷ os) = class_asked_for o os

node_asks : {L A : Type 0} (node : Expr-F L A) (operands : List Operand) → misfits (asked_by node) operands ≡ node_faults node operands
node_asks (Expr-F.Lit v) os = nothing_asked os
node_asks (Expr-F.Null c) os = nothing_asked os
node_asks (Expr-F.Leaf l) os = nothing_asked os
node_asks (Expr-F.Compare op a b) os = one_class_asked os
node_asks (Expr-F.All es) os = truths_asked os
node_asks (Expr-F.Any es) os = truths_asked os
node_asks (Expr-F.Not e) os = truths_asked os
node_asks (Expr-F.Is e test.Null negated) os = nothing_asked os
node_asks (Expr-F.Is e test.True negated) os = truths_asked os
node_asks (Expr-F.Is e test.False negated) os = truths_asked os
node_asks (Expr-F.Is e test.Unknown negated) os = truths_asked os
node_asks (Expr-F.InList e es negated) os = one_class_asked os
node_asks (Expr-F.Between a b c negated) os = one_class_asked os
node_asks (Expr-F.Coalesce es) os = one_class_asked os

-- ---- a node

abbrev told_with : Class → Option Fault → List Span → Told
told_with class first spans = record { class = class; first = first; spans = spans }

first_found : {L : Type 0} (node : Expr-F L Typed) (spans : List Span) →
    first_of (with_operands (begun (asked_by node) spans) (children_of node)).own (option_to_list (with_operands (begun (asked_by node) spans) (children_of node)).inside) ≡
    first_of None (faults_at node spans)
first_found node spans =
    let row = with_operands (begun (asked_by node) spans) (children_of node) in
    let children = side_by_side (drop 1 spans) (children_of node) in
    let own = first_of None (node_faults node (map operand_of children)) in
    ap (λ o. first_of o (option_to_list row.inside)) (own_walked (begun (asked_by node) spans) (children_of node) ∙ ap (first_of None) (node_asks node (map operand_of children)))
    ∙ ap (λ o. first_of own (option_to_list o)) (inside_walked (begun (asked_by node) spans) (children_of node))
    ∙ first_of_found own (flat_map child_faults children)
    ∙ sym (first_of_append None (node_faults node (map operand_of children)) (flat_map child_faults children))

spans_found : {L : Type 0} (leaf : L → Class) (node : Expr-F L Typed) (spans : List Span) →
    (with_operands (begun (asked_by node) spans) (children_of node)).spans ≡ drop (typed_step leaf node).nodes spans
spans_found leaf node spans = spans_walked (begun (asked_by node) spans) (children_of node) ∙ drop-drop (nodes_in (children_of node)) 1 spans

node_judged : {L : Type 0} (leaf : L → Class) (node : Expr-F L Typed) (spans : List Span) →
    finished (typed_step leaf node).class (with_operands (begun (asked_by node) spans) (children_of node)) ≡ judge (typed_step leaf node) spans
node_judged leaf node spans =
    let row = with_operands (begun (asked_by node) spans) (children_of node) in
    let class = (typed_step leaf node).class in
    ap (λ f. told_with class f row.spans) (first_found node spans)
    ∙ ap (λ s. told_with class (first_of None (faults_at node spans)) s) (spans_found leaf node spans)

-- ---- form by form

pub in_compare : {L : Type 0} (leaf : L → Class) (e : Expr L) (op : Comparison) (a b : Expr L) (spans : List Span) → e ≡ v.Compare op a b →
    finished Truth (with_operand (with_operand (begun Alike spans) (typed leaf a)) (typed leaf b)) ≡ judge (typed leaf e) spans
in_compare leaf e op a b spans is =
    node_judged leaf (Expr-F.Compare op (typed leaf a) (typed leaf b)) spans
    ∙ sym (ap (λ t. judge t spans) (at_layer (typed_step leaf) (Expr-F.Compare op a b) e (v.rolls-Compare op a b ∙ sym is)))

pub in_all : {L : Type 0} (leaf : L → Class) (e : Expr L) (es : List (Expr L)) (spans : List Span) → e ≡ v.All es →
    finished Truth (with_operands (begun Truths spans) (map (typed leaf) es)) ≡ judge (typed leaf e) spans
in_all leaf e es spans is =
    node_judged leaf (Expr-F.All (map (typed leaf) es)) spans
    ∙ sym (ap (λ t. judge t spans) (at_layer (typed_step leaf) (Expr-F.All es) e (v.rolls-All es ∙ sym is)))

pub in_any : {L : Type 0} (leaf : L → Class) (e : Expr L) (es : List (Expr L)) (spans : List Span) → e ≡ v.Any es →
    finished Truth (with_operands (begun Truths spans) (map (typed leaf) es)) ≡ judge (typed leaf e) spans
in_any leaf e es spans is =
    node_judged leaf (Expr-F.Any (map (typed leaf) es)) spans
    ∙ sym (ap (λ t. judge t spans) (at_layer (typed_step leaf) (Expr-F.Any es) e (v.rolls-Any es ∙ sym is)))

pub in_not : {L : Type 0} (leaf : L → Class) (e : Expr L) (a : Expr L) (spans : List Span) → e ≡ v.Not a →
    finished Truth (with_operand (begun Truths spans) (typed leaf a)) ≡ judge (typed leaf e) spans
in_not leaf e a spans is =
    node_judged leaf (Expr-F.Not (typed leaf a)) spans
    ∙ sym (ap (λ t. judge t spans) (at_layer (typed_step leaf) (Expr-F.Not a) e (v.rolls-Not a ∙ sym is)))

pub in_is : {L : Type 0} (leaf : L → Class) (e : Expr L) (a : Expr L) (t : Test) (negated : Bool) (spans : List Span) → e ≡ v.Is a t negated →
    finished Truth (with_operand (begun (asked_for t) spans) (typed leaf a)) ≡ judge (typed leaf e) spans
in_is leaf e a t negated spans is =
    node_judged leaf (Expr-F.Is (typed leaf a) t negated) spans
    ∙ sym (ap (λ t. judge t spans) (at_layer (typed_step leaf) (Expr-F.Is a t negated) e (v.rolls-Is a t negated ∙ sym is)))

pub in_in_list : {L : Type 0} (leaf : L → Class) (e : Expr L) (a : Expr L) (es : List (Expr L)) (negated : Bool) (spans : List Span) → e ≡ v.InList a es negated →
    finished Truth (with_operands (with_operand (begun Alike spans) (typed leaf a)) (map (typed leaf) es)) ≡ judge (typed leaf e) spans
in_in_list leaf e a es negated spans is =
    node_judged leaf (Expr-F.InList (typed leaf a) (map (typed leaf) es) negated) spans
    ∙ sym (ap (λ t. judge t spans) (at_layer (typed_step leaf) (Expr-F.InList a es negated) e (v.rolls-InList a es negated ∙ sym is)))

pub in_between : {L : Type 0} (leaf : L → Class) (e : Expr L) (a b c : Expr L) (negated : Bool) (spans : List Span) → e ≡ v.Between a b c negated →
    finished Truth (with_operand (with_operand (with_operand (begun Alike spans) (typed leaf a)) (typed leaf b)) (typed leaf c)) ≡ judge (typed leaf e) spans
in_between leaf e a b c negated spans is =
    node_judged leaf (Expr-F.Between (typed leaf a) (typed leaf b) (typed leaf c) negated) spans
    ∙ sym (ap (λ t. judge t spans) (at_layer (typed_step leaf) (Expr-F.Between a b c negated) e (v.rolls-Between a b c negated ∙ sym is)))

pub in_coalesce : {L : Type 0} (leaf : L → Class) (e : Expr L) (es : List (Expr L)) (spans : List Span) → e ≡ v.Coalesce es →
    finished (class_asked (with_operands (begun Alike spans) (map (typed leaf) es)).wanted) (with_operands (begun Alike spans) (map (typed leaf) es)) ≡ judge (typed leaf e) spans
in_coalesce leaf e es spans is =
    ap (λ class. finished class (with_operands (begun Alike spans) (map (typed leaf) es))) (first_told spans (map (typed leaf) es))
    ∙ node_judged leaf (Expr-F.Coalesce (map (typed leaf) es)) spans
    ∙ sym (ap (λ t. judge t spans) (at_layer (typed_step leaf) (Expr-F.Coalesce es) e (v.rolls-Coalesce es ∙ sym is)))

-- ---- how the loop over operands goes on by one item

pub operands_on : {X : Type 0} (f : X → Typed) (row : Seen) (xs : List X) (i : ℕ) (x : X) → i < length xs → x ≡ get_or xs i x →
    with_operands row (map f (drop i xs)) ≡ with_operands (with_operand row (f x)) (map f (drop (i + 1) xs))
operands_on f row xs i x within is =
    ap (λ l. with_operands row (map f l)) (drop_more xs i x within)
    ∙ ap (λ y. with_operands (with_operand row (f y)) (map f (drop (i + 1) xs))) (sym is)
