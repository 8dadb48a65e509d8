-- What holds of the values of a rule whose tokens are in order from one place to another: one lemma for each way to put rules together.
use Rattle.std.proofs.Common.{ℕ, Bool, ◌≤◌, Option, Some, None, List, [], ◌∷◌, ◌++◌, inl, inr, arith}
use Rattle.std.specs.List.{AllByRecursion}
use Rattle.pgq_base.specs.declared.refusal.Span.{Span}
use Rattle.sql_lexer.specs.declared.token.Token.{Token}
use Rattle.sql_lexer.specs.Texts.{AreInOrder}
use Rattle.token_grammar.specs.Grammar.{Grammar, many_tokens}
use Rattle.token_grammar.specs.Rules.{grammar, within}
use Rattle.token_grammar.specs.Rules.Rule.{one, mapped, seq, either, opt, many, nest, fork}
use Rattle.token_reading.specs.Tokens.{class, span_of}
use Rattle.condition_grammar.specs.Conditions.{Inside}
use Rattle.pattern_parser.specs.Insides.{Own, HeldInside, Production}
use Rattle.pattern_parser.specs.Queries.{inside}

not_before : (at end : ℕ) (ts : List Token) → AreInOrder at end ts → at ≤ end
not_before at end [] h = h
not_before at end (t ∷ ts) (a, b, c) =
    let rest : t.span.to ≤ end = not_before t.span.to end ts c in
    omega (arith, a, b, rest)

-- the place between the two parts
record Cut (at end : ℕ) (ts us : List Token) : Type 0 where
  middle : ℕ
  left : AreInOrder at middle ts
  right : AreInOrder middle end us

cut : (at end : ℕ) (ts us : List Token) → AreInOrder at end (ts ++ us) → Cut at end ts us
cut at end [] us h = record { middle = at; left = omega arith; right = h }
cut at end (t ∷ ts) us (a, b, c) =
    let r = cut t.span.to end ts us c in
    record { middle = r.middle; left = (a, b, r.left); right = r.right }

-- the span stands from the one place to the other
pub record In (at end : ℕ) (span : Span) : Type 0 where
  pub from : at ≤ span.from
  pub ordered : span.from ≤ span.to
  pub to : span.to ≤ end

abbrev pub AllIn : ℕ → ℕ → List Span → Type 0
AllIn at end spans = AllByRecursion (In at end) spans

-- what holds of a value between two places
abbrev pub Holds : Type 0 → Type 1
Holds V = ℕ → ℕ → V → Type 0

abbrev pub Anything : {V : Type 0} → Holds V
Anything at end v = Unit {0}

-- the one, and the other behind it
pub record Both {A B : Type 0} (P : Holds A) (Q : Holds B) (at end : ℕ) (d : A × B) : Type 0 where
  pub middle : ℕ
  pub lower : at ≤ middle
  pub upper : middle ≤ end
  pub first : P at middle d.0
  pub second : Q middle end d.1

abbrev pub IfGiven : {V : Type 0} → Holds V → Holds (Option V)
IfGiven P at end None = Unit {0}
IfGiven P at end (Some v) = P at end v

-- one behind the other
abbrev pub Chain : {V : Type 0} → Holds V → Holds (List V)
Chain P at end [] = Unit {0}
Chain P at end (x ∷ xs) = (middle : ℕ) × (at ≤ middle) × (middle ≤ end) × P at middle x × Chain P middle end xs

abbrev pub text_of : ℕ → {V : Type 0} → Production V → Grammar Token V
text_of n r = grammar class inside n r

-- phrases between brackets, and those of a rule, whose tokens are in order have such values
abbrev pub Given : {V : Type 0} → Grammar Token V → Holds V → Type 0
Given g P = (d : g.Phrase) (at end : ℕ) → AreInOrder at end (g.tokens d) → P at end (g.value d)

-- brackets, and what stands between them
pub record Bracketed {V : Type 0} (P : Holds V) (at end : ℕ) (d : Span × V × Span) : Type 0 where
  pub left : ℕ
  pub right : ℕ
  pub opening : In at left d.0
  pub between : left ≤ right
  pub held : P left right d.1
  pub closing : In right end d.2

-- where so many brackets may be open
pub record Gives (n : ℕ) {V : Type 0} (r : Production V) (P : Holds V) : Type 0 where
  pub holds : Given (text_of n r) P

module _ (n : ℕ) where
  pub any_gives : {V : Type 0} {r : Production V} → Gives n r Anything
  any_gives = record { holds = λ d at end i. tt }

  pub one_gives : {V : Type 0} {f : ℕ → Bool} {v : Token → V} {P : Holds V} → ((t : Token) (at end : ℕ) → In at end t.span → P at end (v t)) → Gives n (one f v) P
  one_gives h = record { holds = λ d at end i. h d.0 at end (record { from = i.0; ordered = omega (arith, i.1); to = i.2 }) }

  pub mapped_gives : {A V : Type 0} {r : Production A} {P : Holds A} {f : A → V} {Q : Holds V} → Gives n r P →
      ((at end : ℕ) → at ≤ end → (a : A) → P at end a → Q at end (f a)) → Gives n (mapped f r) Q
  mapped_gives {A} {V} {r} g h = record { holds = λ d at end i. h at end (not_before at end ((text_of n r).tokens d) i) ((text_of n r).value d) (g.holds d at end i) }

  pub seq_gives : {A B : Type 0} {r : Production A} {s : Production B} {P : Holds A} {Q : Holds B} → Gives n r P → Gives n s Q → Gives n (seq r s) (Both P Q)
  seq_gives {A} {B} {r} {s} {P} {Q} g h = record { holds = at_pair } where
    at_pair : Given (text_of n (seq r s)) (Both P Q)
    at_pair d at end i =
        let c = cut at end ((text_of n r).tokens d.0) ((text_of n s).tokens d.1) i in
        record {
          middle = c.middle;
          lower = not_before at c.middle ((text_of n r).tokens d.0) c.left;
          upper = not_before c.middle end ((text_of n s).tokens d.1) c.right;
          first = g.holds d.0 at c.middle c.left;
          second = h.holds d.1 c.middle end c.right;
        }

  pub either_gives : {V : Type 0} {r s : Production V} {P : Holds V} → Gives n r P → Gives n s P → Gives n (either r s) P
  either_gives {V} {r} {s} {P} g h = record { holds = by } where
    by : Given (text_of n (either r s)) P
    by (inl d) at end i = g.holds d at end i
    by (inr d) at end i = h.holds d at end i

  pub opt_gives : {V : Type 0} {r : Production V} {P : Holds V} → Gives n r P → Gives n (opt r) (IfGiven P)
  opt_gives {V} {r} {P} g = record { holds = by } where
    by : Given (text_of n (opt r)) (IfGiven P)
    by None at end i = tt
    by (Some d) at end i = g.holds d at end i

  pub many_gives : {V : Type 0} {r : Production V} {P : Holds V} → Gives n r P → Gives n (many r) (Chain P)
  many_gives {V} {r} {P} g = record { holds = by } where
    by : Given (text_of n (many r)) (Chain P)
    by [] at end i = tt
    by (d ∷ ds) at end i =
        let c = cut at end ((text_of n r).tokens d) (many_tokens ((text_of n r).tokens) ds) i in (
          c.middle,
          not_before at c.middle ((text_of n r).tokens d) c.left,
          not_before c.middle end (many_tokens ((text_of n r).tokens) ds) c.right,
          g.holds d at c.middle c.left,
          by ds c.middle end c.right,
        )

  -- what stands between brackets with these, where it has such values
  pub nest_gives : {o c : ℕ} {k : Inside Own} {P : Holds (HeldInside k)} → Given (within class inside n k) P → Gives n (nest span_of o c k) (Bracketed P)
  nest_gives {o} {c} {k} {P} g = record { holds = by } where
    by : Given (text_of n (nest span_of o c k)) (Bracketed P)
    by d at end (a, b, i) =
        let r = cut d.0.0.span.to end ((within class inside n k).tokens d.1.0) (d.1.1.0 ∷ []) i in
        record {
          left = d.0.0.span.to;
          right = r.middle;
          opening = record { from = a; ordered = omega (arith, b); to = omega arith };
          between = not_before d.0.0.span.to r.middle ((within class inside n k).tokens d.1.0) r.left;
          held = g d.1.0 d.0.0.span.to r.middle r.left;
          closing = record { from = r.right.0; ordered = omega (arith, r.right.1); to = r.right.2 };
        }

  -- the two ways of a fork
  pub fork_gives : {o c : ℕ} {f : ℕ → Bool} {k j : Inside Own} {B V : Type 0} {r : Production B} {one_way : Span → HeldInside k × (Span × B) → V} {other_way : Span →
      HeldInside j × Span → V}
      {R : Holds B} {W : Holds V} (P : Holds (HeldInside k)) (Q : Holds (HeldInside j)) →
      Given (within class inside n k) P → Gives n r R → Given (within class inside n j) Q →
      ((at x y z end : ℕ) (first : Span) (d : HeldInside k × (Span × B)) → In at x first → x ≤ y → P x y d.0 → In y z d.1.0 → z ≤ end → R z end d.1.1 →
      W at end (one_way first d)) →
      ((at x y end : ℕ) (first : Span) (d : HeldInside j × Span) → In at x first → x ≤ y → Q x y d.0 → In y end d.1 → W at end (other_way first d)) →
      Gives n (fork span_of o c f k r one_way j other_way) W
  fork_gives {o} {c} {f} {k} {j} {B} {V} {r} {one_way} {other_way} {R} {W} P Q g h i one_holds other_holds = record { holds = by } where
    by : Given (text_of n (fork span_of o c f k r one_way j other_way)) W
    by (first, inl d) at end (a, b, l) =
        let q = cut first.0.span.to end ((within class inside n k).tokens d.0) (d.1.0.0 ∷ (text_of n r).tokens d.1.1) l in
        one_holds at first.0.span.to q.middle d.1.0.0.span.to end first.0.span ((within class inside n k).value d.0, (d.1.0.0.span, (text_of n r).value d.1.1))
        (record { from = a; ordered = omega (arith, b); to = omega arith })
        (not_before first.0.span.to q.middle ((within class inside n k).tokens d.0) q.left)
        (g d.0 first.0.span.to q.middle q.left)
        (record { from = q.right.0; ordered = omega (arith, q.right.1); to = omega arith })
        (not_before d.1.0.0.span.to end ((text_of n r).tokens d.1.1) q.right.2)
        (h.holds d.1.1 d.1.0.0.span.to end q.right.2)
    by (first, inr d) at end (a, b, l) =
        let q = cut first.0.span.to end ((within class inside n j).tokens d.0) (d.1.0 ∷ []) l in
        other_holds at first.0.span.to q.middle end first.0.span ((within class inside n j).value d.0, d.1.0.span)
        (record { from = a; ordered = omega (arith, b); to = omega arith })
        (not_before first.0.span.to q.middle ((within class inside n j).tokens d.0) q.left)
        (i d.0 first.0.span.to q.middle q.left)
        (record { from = q.right.0; ordered = omega (arith, q.right.1); to = q.right.2 })
