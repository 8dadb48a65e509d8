-- Lists of spans that stand between two places.
use Rattle.std.proofs.Common.{◌≡◌, refl, ap, ℕ, ◌≤◌, Option, Some, None, List, [], ◌∷◌, ◌++◌, map, flat_map, subst, arith}
use Rattle.pgq_base.specs.declared.refusal.Span.{Span}
use Rattle.expr_tree.specs.Leaves.{joined}
use Rattle.condition_grammar.specs.Spans.{reach}
use Rattle.graph_ast.specs.QuerySpans.{if_given}
use Rattle.pattern_parser.proofs.Ranges.{In, AllIn, Holds, Both, IfGiven, Chain}

-- ---- one span

pub wider : {a b c d : ℕ} {s : Span} → a ≤ b → c ≤ d → In b c s → In a d s
wider l u h = record { from = omega (arith, l, h.from); ordered = h.ordered; to = omega (arith, u, h.to) }

-- from the one to the other
pub reaches : {at middle end : ℕ} {s t : Span} → In at middle s → In middle end t → In at end (reach s t)
reaches h i = record { from = h.from; ordered = omega (arith, h.ordered, h.to, i.from, i.ordered); to = i.to }

-- ---- lists of them

pub all_wider : {a b c d : ℕ} → a ≤ b → c ≤ d → (spans : List Span) → AllIn b c spans → AllIn a d spans
all_wider l u [] h = tt
all_wider l u (s ∷ spans) h = (wider l u h.0, all_wider l u spans h.1)

pub all_append : (at end : ℕ) (xs ys : List Span) → AllIn at end xs → AllIn at end ys → AllIn at end (xs ++ ys)
all_append at end [] ys h i = i
all_append at end (x ∷ xs) ys h i = (h.0, all_append at end xs ys h.1 i)

-- the values' spans
abbrev pub Spans : {V : Type 0} → (V → List Span) → Holds V
Spans f at end v = AllIn at end (f v)

module _ {A B : Type 0} {P : Holds A} {Q : Holds B} {at end : ℕ} {d : A × B} where
  -- where both stand at their places, each does at that of both
  pub left_all : (f : A → List Span) → ((a b : ℕ) → P a b d.0 → AllIn a b (f d.0)) → Both P Q at end d → AllIn at end (f d.0)
  left_all f h p = all_wider (omega arith) p.upper (f d.0) (h at p.middle p.first)

  pub right_all : (g : B → List Span) → ((a b : ℕ) → Q a b d.1 → AllIn a b (g d.1)) → Both P Q at end d → AllIn at end (g d.1)
  right_all g h p = all_wider p.lower (omega arith) (g d.1) (h p.middle end p.second)

pub given_all : {V : Type 0} (f : V → List Span) (at end : ℕ) (o : Option V) → IfGiven (Spans f) at end o → AllIn at end (if_given f o)
given_all f at end None h = tt
given_all f at end (Some v) h = h

pub chain_all : {V : Type 0} (f : V → List Span) (at end : ℕ) (xs : List V) → Chain (Spans f) at end xs → AllIn at end (flat_map f xs)
chain_all f at end [] h = tt
chain_all f at end (x ∷ xs) (middle, lower, upper, first, rest) =
    all_append at end (f x) (flat_map f xs) (all_wider (omega arith) upper (f x) first) (all_wider lower (omega arith) (flat_map f xs) (chain_all f middle end xs rest))

pub joined_map : {V : Type 0} (f : V → List Span) (xs : List V) → flat_map f xs ≡ joined (map f xs)
joined_map f [] = refl
joined_map f (x ∷ xs) = ap (λ spans. f x ++ spans) (joined_map f xs)

pub joined_all : {V : Type 0} (f : V → List Span) (at end : ℕ) (xs : List V) → Chain (Spans f) at end xs → AllIn at end (joined (map f xs))
joined_all f at end xs h = subst (AllIn at end) (joined_map f xs) (chain_all f at end xs h)
