-- The spans of conditions stand between the places of their tokens: what is put together.
use Rattle.std.proofs.Common.{◌≡◌, sym, subst, ℕ, ◌≤◌, Bool, Option, Some, None, List, [], ◌∷◌, ◌++◌, map, flat_map, arith}
use Rattle.std.proofs.lemmas.Grind.{flat_map-append}
use Rattle.pgq_base.specs.declared.refusal.Span.{Span}
use Rattle.pgq_base.specs.declared.value.Value.{Value}
use Rattle.expr_tree.specs.declared.tree.Expr.{Expr, Expr-F}
use Rattle.expr_tree.specs.declared.tree.Expr.TheVariants as v
use Rattle.expr_tree.specs.declared.tree.Comparison.{Comparison}
use Rattle.expr_tree.specs.declared.tree.Test.{Test}
use Rattle.expr_tree.specs.Leaves.{joined, leaves_step, leaves_in}
use Rattle.expr_tree.proofs.Folds.{at_layer}
use Rattle.graph_ast.specs.declared.query.PropertyRef.{PropertyRef}
use Rattle.condition_grammar.specs.Spans.{node, reach, without_first, span_of, tree_of, enclosed, last_span, all_of, any_of, not_if, Tail, unless_none, compared, ranged, listed}
use Rattle.condition_grammar.specs.Spans.{tested, coalesced, literal}
use Rattle.pattern_parser.specs.Tests.{Tree}
use Rattle.graph_ast.specs.QuerySpans.{of_leaf}
use Rattle.pattern_parser.proofs.Ranges.{In, AllIn, Holds, IfGiven, Chain, Bracketed}
use Rattle.pattern_parser.proofs.SpanLists.{wider, reaches, all_wider, all_append}

abbrev pub spans_of : Tree → List Span
spans_of c = c.spans

-- those at the leaves
abbrev pub leaf_spans : Expr PropertyRef → List Span
leaf_spans e = flat_map of_leaf (leaves_in e)

pub record TreeIn (at end : ℕ) (c : Tree) : Type 0 where
  pub own : In at end (span_of c)
  pub nodes : AllIn at end c.spans
  pub leaves : AllIn at end (leaf_spans c.tree)

pub tree_wider : {a b c d : ℕ} → a ≤ b → c ≤ d → (t : Tree) → TreeIn b c t → TreeIn a d t
tree_wider l u t h = record { own = wider l u h.own; nodes = all_wider l u t.spans h.nodes; leaves = all_wider l u (leaf_spans t.tree) h.leaves }

-- the leaves of each form
two : (at end : ℕ) (xs ys : List PropertyRef) → AllIn at end (flat_map of_leaf xs) → AllIn at end (flat_map of_leaf ys) → AllIn at end (flat_map of_leaf (xs ++ ys))
two at end xs ys h i = subst (AllIn at end) (sym (flat_map-append of_leaf xs ys)) (all_append at end (flat_map of_leaf xs) (flat_map of_leaf ys) h i)

leaves_at : (at end : ℕ) (e : Expr PropertyRef) (ls : List PropertyRef) → leaves_in e ≡ ls → AllIn at end (flat_map of_leaf ls) → AllIn at end (leaf_spans e)
leaves_at at end e ls is h = subst (λ l. AllIn at end (flat_map of_leaf l)) (sym is) h

-- a node over nothing, and over what was read
lone : (at end : ℕ) (span : Span) (e : Expr PropertyRef) → In at end span → AllIn at end (leaf_spans e) → TreeIn at end (node span e [])
lone at end span e h i = record { own = h; nodes = (h, tt); leaves = i }

pub literal_in : (at end : ℕ) (span : Span) (value : Value) → In at end span → TreeIn at end (literal span value)
literal_in at end span value h = lone at end span (v.Lit value) h (leaves_at at end (v.Lit value) [] (at_layer leaves_step (Expr-F.Lit value) _ (v.rolls-Lit value)) tt)

pub leaf_in : (at end : ℕ) (span : Span) (r : PropertyRef) → In at end span → AllIn at end (of_leaf r) → TreeIn at end (node span (v.Leaf r) [])
leaf_in at end span r h i = lone at end span (v.Leaf r) h
    (leaves_at at end (v.Leaf r) (r ∷ []) (at_layer leaves_step (Expr-F.Leaf r) _ (v.rolls-Leaf r)) (all_append at end (of_leaf r) [] i tt))

over_one : (at end : ℕ) (c : Tree) → TreeIn at end c → AllIn at end (c.spans ++ [])
over_one at end c h = all_append at end c.spans [] h.nodes tt

-- ---- lists

pub record ListIn (at end : ℕ) (cs : List Tree) : Type 0 where
  pub nodes : AllIn at end (flat_map spans_of cs)
  pub leaves : AllIn at end (flat_map of_leaf (joined (map leaves_in (map tree_of cs))))

pub list_wider : {a b c d : ℕ} → a ≤ b → c ≤ d → (cs : List Tree) → ListIn b c cs → ListIn a d cs
list_wider l u cs h = record { nodes = all_wider l u (flat_map spans_of cs) h.nodes; leaves = all_wider l u (flat_map of_leaf (joined (map leaves_in (map tree_of cs)))) h.leaves }

pub consed : (at middle end : ℕ) (c : Tree) (cs : List Tree) → at ≤ middle → middle ≤ end → TreeIn at middle c → ListIn middle end cs → ListIn at end (c ∷ cs)
consed at middle end c cs l u h i = record {
  nodes = all_append at end c.spans (flat_map spans_of cs) (all_wider (omega arith) u c.spans h.nodes) (all_wider l (omega arith) (flat_map spans_of cs) i.nodes);
  leaves = two at end (leaves_in c.tree) (joined (map leaves_in (map tree_of cs))) (all_wider (omega arith) u (leaf_spans c.tree) h.leaves)
      (all_wider l (omega arith) (flat_map of_leaf (joined (map leaves_in (map tree_of cs)))) i.leaves);
}

pub chain_list : (at end : ℕ) (cs : List Tree) → Chain TreeIn at end cs → ListIn at end cs
chain_list at end [] h = record { nodes = tt; leaves = tt }
chain_list at end (c ∷ cs) (middle, l, u, first, rest) = consed at middle end c cs l u first (chain_list middle end cs rest)

last_reaches : (at end start : ℕ) (c : Tree) (cs : List Tree) → start ≤ (span_of c).to → (span_of c).to ≤ at → at ≤ end → Chain TreeIn at end cs →
    (start ≤ (last_span c cs).to) × ((last_span c cs).to ≤ end)
last_reaches at end start c [] s t u h = (s, omega (arith, t, u))
last_reaches at end start c (d ∷ ds) s t u (middle, l, w, first, rest) = last_reaches middle end start d ds
    (omega (arith, s, t, first.own.from, first.own.ordered)) first.own.to w rest

from_to_last : (at middle end : ℕ) (c : Tree) (cs : List Tree) → middle ≤ end → TreeIn at middle c → Chain TreeIn middle end cs → In at end (reach (span_of c) (last_span c cs))
from_to_last at middle end c cs u h i =
    let r = last_reaches middle end (span_of c).from c cs h.own.ordered h.own.to u i in
    record { from = h.own.from; ordered = r.0; to = r.1 }

pub all_of_in : (at middle end : ℕ) (c : Tree) (cs : List Tree) → at ≤ middle → middle ≤ end → TreeIn at middle c → Chain TreeIn middle end cs → TreeIn at end (all_of c cs)
all_of_in at middle end c [] l u h i = tree_wider (omega arith) u c h
all_of_in at middle end c (d ∷ ds) l u h i =
    let all = consed at middle end c (d ∷ ds) l u h (chain_list middle end (d ∷ ds) i) in
    let own = from_to_last at middle end c (d ∷ ds) u h i in
    record {
      own = own;
      nodes = (own, all.nodes);
      leaves = leaves_at at end (v.All (map tree_of (c ∷ d ∷ ds))) (joined (map leaves_in (map tree_of (c ∷ d ∷ ds))))
          (at_layer leaves_step (Expr-F.All (map tree_of (c ∷ d ∷ ds))) _ (v.rolls-All (map tree_of (c ∷ d ∷ ds)))) all.leaves;
    }

pub any_of_in : (at middle end : ℕ) (c : Tree) (cs : List Tree) → at ≤ middle → middle ≤ end → TreeIn at middle c → Chain TreeIn middle end cs → TreeIn at end (any_of c cs)
any_of_in at middle end c [] l u h i = tree_wider (omega arith) u c h
any_of_in at middle end c (d ∷ ds) l u h i =
    let all = consed at middle end c (d ∷ ds) l u h (chain_list middle end (d ∷ ds) i) in
    let own = from_to_last at middle end c (d ∷ ds) u h i in
    record {
      own = own;
      nodes = (own, all.nodes);
      leaves = leaves_at at end (v.Any (map tree_of (c ∷ d ∷ ds))) (joined (map leaves_in (map tree_of (c ∷ d ∷ ds))))
          (at_layer leaves_step (Expr-F.Any (map tree_of (c ∷ d ∷ ds))) _ (v.rolls-Any (map tree_of (c ∷ d ∷ ds)))) all.leaves;
    }

-- ---- nodes over what was read

-- NOT, from its word or over the same place
pub negated_in : (at end : ℕ) (span : Span) (c : Tree) → In at end span → TreeIn at end c → TreeIn at end (node span (v.Not c.tree) (c ∷ []))
negated_in at end span c h i = record {
  own = h;
  nodes = (h, over_one at end c i);
  leaves = leaves_at at end (v.Not c.tree) (leaves_in c.tree) (at_layer leaves_step (Expr-F.Not c.tree) _ (v.rolls-Not c.tree)) i.leaves;
}

pub not_if_in : (at middle end : ℕ) (word : Option Span) (c : Tree) → at ≤ middle → middle ≤ end → IfGiven In at middle word → TreeIn middle end c → TreeIn at end (not_if word c)
not_if_in at middle end None c l u h i = tree_wider l (omega arith) c i
not_if_in at middle end (Some word) c l u h i = negated_in at end (reach word (span_of c)) c (reaches h i.own) (tree_wider l (omega arith) c i)

-- the parentheses leave no node
rest_in : (at end : ℕ) (spans : List Span) → AllIn at end spans → AllIn at end (without_first spans)
rest_in at end [] h = tt
rest_in at end (s ∷ spans) h = h.1

pub enclosed_in : (at end : ℕ) (d : Span × Tree × Span) → Bracketed TreeIn at end d → TreeIn at end (enclosed d.0 d.2 d.1)
enclosed_in at end d h =
    let c : TreeIn at end d.1 = tree_wider (omega (arith, h.opening.from, h.opening.ordered, h.opening.to))
    (omega (arith, h.closing.from, h.closing.ordered, h.closing.to)) d.1 h.held in
    let own : In at end (reach d.0 d.2) = record {
      from = h.opening.from;
      ordered = omega
          (arith, h.opening.ordered, h.opening.to, h.held.own.from, h.held.own.ordered, h.held.own.to, h.closing.from, h.closing.ordered);
      to = h.closing.to;
    } in
    record { own = own; nodes = (own, rest_in at end d.1.spans c.nodes); leaves = c.leaves }

-- what makes a test of an operand that stands before
abbrev pub TailIn : Holds (Tail PropertyRef)
TailIn at end tail = (start : ℕ) (c : Tree) → TreeIn start at c → TreeIn start end (tail c)

pub unless_none_in : (at middle end start : ℕ) (o : Option (Tail PropertyRef)) (c : Tree) → at ≤ middle → middle ≤ end → TreeIn start middle c →
    IfGiven TailIn middle end o → TreeIn start end (unless_none o c)
unless_none_in at middle end start None c l u h i = tree_wider (omega arith) u c h
unless_none_in at middle end start (Some tail) c l u h i = i start c h

pub compared_in : (at middle end : ℕ) (op : Comparison) (a b : Tree) → at ≤ middle → middle ≤ end → TreeIn at middle a → TreeIn middle end b → TreeIn at end (compared op b a)
compared_in at middle end op a b l u h i =
    let own = reaches h.own i.own in
    record {
      own = own;
      nodes = (own, all_append at end a.spans (b.spans ++ []) (all_wider (omega arith) u a.spans h.nodes) (all_wider l (omega arith) (b.spans ++ []) (over_one middle end b i)));
      leaves = leaves_at at end (v.Compare op a.tree b.tree) (leaves_in a.tree ++ leaves_in b.tree)
          (at_layer leaves_step (Expr-F.Compare op a.tree b.tree) _ (v.rolls-Compare op a.tree b.tree))
          (two at end (leaves_in a.tree) (leaves_in b.tree) (all_wider (omega arith) u (leaf_spans a.tree) h.leaves) (all_wider l (omega arith) (leaf_spans b.tree) i.leaves));
    }

pub ranged_in : (at x y end : ℕ) (negated : Bool) (a b c : Tree) → at ≤ x → x ≤ y → y ≤ end → TreeIn at x a → TreeIn x y b → TreeIn y end c → TreeIn at end (ranged negated b c a)
ranged_in at x y end negated a b c l w u h i j =
    let own : In at end (reach (span_of a) (span_of c)) = reaches (wider (omega arith) w h.own) j.own in
    record {
      own = own;
      nodes = (
        own,
        all_append at end a.spans (b.spans ++ (c.spans ++ [])) (all_wider (omega arith) (omega (arith, w, u)) a.spans h.nodes)
            (all_append at end b.spans (c.spans ++ []) (all_wider l u b.spans i.nodes) (all_wider (omega (arith, l, w)) (omega arith) (c.spans ++ []) (over_one y end c j))),
      );
      leaves = leaves_at at end (v.Between a.tree b.tree c.tree negated) (leaves_in a.tree ++ (leaves_in b.tree ++ leaves_in c.tree))
          (at_layer leaves_step (Expr-F.Between a.tree b.tree c.tree negated) _ (v.rolls-Between a.tree b.tree c.tree negated))
          (two at end (leaves_in a.tree) (leaves_in b.tree ++ leaves_in c.tree) (all_wider (omega arith) (omega (arith, w, u)) (leaf_spans a.tree) h.leaves)
          (two at end (leaves_in b.tree) (leaves_in c.tree) (all_wider l u (leaf_spans b.tree) i.leaves)
          (all_wider (omega (arith, l, w)) (omega arith) (leaf_spans c.tree) j.leaves)));
    }

pub listed_in : (at middle x y end : ℕ) (negated : Bool) (a : Tree) (bs : List Tree) (closing : Span) → at ≤ middle → middle ≤ x → x ≤ y → y ≤ end → TreeIn at middle a →
    ListIn x y bs → In y end closing →
    TreeIn at end (listed negated bs closing a)
listed_in at middle x y end negated a bs closing l w o u h i j =
    let own : In at end (reach (span_of a) closing) = reaches (wider (omega arith) (omega (arith, w, o)) h.own) j in
    let all : ListIn at end bs = list_wider (omega (arith, l, w)) u bs i in
    let c : TreeIn at end a = tree_wider (omega arith) (omega (arith, w, o, u)) a h in
    record {
      own = own;
      nodes = (own, all_append at end a.spans (flat_map spans_of bs) c.nodes all.nodes);
      leaves = leaves_at at end (v.InList a.tree (map tree_of bs) negated) (leaves_in a.tree ++ joined (map leaves_in (map tree_of bs)))
          (at_layer leaves_step (Expr-F.InList a.tree (map tree_of bs) negated) _ (v.rolls-InList a.tree (map tree_of bs) negated))
          (two at end (leaves_in a.tree) (joined (map leaves_in (map tree_of bs))) c.leaves all.leaves);
    }

pub tested_in : (at middle end : ℕ) (test : Test) (negated : Bool) (word : Span) (a : Tree) → at ≤ middle → middle ≤ end → TreeIn at middle a → In middle end word →
    TreeIn at end (tested test negated word a)
tested_in at middle end test negated word a l u h i =
    let own = reaches h.own i in
    let c : TreeIn at end a = tree_wider (omega arith) u a h in
    record {
      own = own;
      nodes = (own, over_one at end a c);
      leaves = leaves_at at end (v.Is a.tree test negated) (leaves_in a.tree) (at_layer leaves_step (Expr-F.Is a.tree test negated) _ (v.rolls-Is a.tree test negated)) c.leaves;
    }

pub coalesced_in : (at middle end : ℕ) (word : Span) (d : Span × List Tree × Span) → at ≤ middle → middle ≤ end → In at middle word → Bracketed ListIn middle end d →
    TreeIn at end (coalesced word d.1 d.2)
coalesced_in at middle end word d l u h i =
    let apart : middle ≤ i.right = omega (arith, i.opening.from, i.opening.ordered, i.opening.to, i.between) in
    let own : In at end (reach word d.2) = record { from = h.from; ordered = omega (arith, h.ordered, h.to, apart, i.closing.from, i.closing.ordered); to = i.closing.to } in
    let cs : ListIn at end d.1 = list_wider (omega (arith, l, i.opening.from, i.opening.ordered, i.opening.to))
    (omega (arith, i.closing.from, i.closing.ordered, i.closing.to)) d.1 i.held in
    record {
      own = own;
      nodes = (own, cs.nodes);
      leaves = leaves_at at end (v.Coalesce (map tree_of d.1)) (joined (map leaves_in (map tree_of d.1)))
          (at_layer leaves_step (Expr-F.Coalesce (map tree_of d.1)) _ (v.rolls-Coalesce (map tree_of d.1))) cs.leaves;
    }
