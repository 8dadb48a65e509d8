-- Spans between two places, and what is made of them: one lemma for each way to put rules together.
use Rattle.std.proofs.Common.{ℕ, ◌≤◌, Bool, Option, Some, None, List, [], ◌∷◌, ◌++◌, flat_map, inl, inr, arith}
use Rattle.std.specs.List.{AllByRecursion}
use Rattle.pgq_base.specs.declared.refusal.Span.{Span}
use Rattle.sql_lexer.specs.declared.token.Token.{Token}
use Rattle.sql_lexer.specs.Texts.{AreInOrder}
use Rattle.condition_grammar.specs.Spans.{reach}
use Rattle.token_grammar.specs.Grammar.{Grammar, many_tokens}
use Rattle.token_grammar.specs.Rules.{spelled_by}
use Rattle.token_grammar.specs.Rules.Rule.{one, mapped, seq, either, opt, many}
use Rattle.token_reading.specs.Tokens.{class}
use Rattle.condition_grammar.specs.Conditions.{Inside}
use Rattle.sql_algebra.specs.Grammar.{Nested, HeldInside, Production}

-- the span stands between the two places
abbrev pub Lies : ℕ → ℕ → Span → Type 0
Lies at end span = (at ≤ span.from) × (span.from ≤ span.to) × (span.to ≤ end)

abbrev pub Lie : ℕ → ℕ → List Span → Type 0
Lie at end spans = AllByRecursion (Lies at end) spans

pub wider : (at end low high : ℕ) (s : Span) → low ≤ at → end ≤ high → Lies at end s → Lies low high s
wider at end low high s l h (a, b, c) = (omega (arith, l, a), b, omega (arith, c, h))

pub wider_all : (at end low high : ℕ) (ss : List Span) → low ≤ at → end ≤ high → Lie at end ss → Lie low high ss
wider_all at end low high [] l h k = tt
wider_all at end low high (s ∷ ss) l h k = (wider at end low high s l h k.0, wider_all at end low high ss l h k.1)

pub reach_lies : (at middle other end : ℕ) (a b : Span) → middle ≤ other → Lies at middle a → Lies other end b → Lies at end (reach a b)
reach_lies at middle other end a b l (p, q, r) (s, t, u) = (p, omega (arith, q, r, l, s, t), u)

module _ {A : Type 0} (P : A → Type 0) where
  pub all_append : (xs ys : List A) → AllByRecursion P xs → AllByRecursion P ys → AllByRecursion P (xs ++ ys)
  all_append [] ys h k = k
  all_append (x ∷ xs) ys h k = (h.0, all_append xs ys h.1 k)

  pub all_flat : {B : Type 0} (f : B → List A) (bs : List B) → AllByRecursion (λ b. AllByRecursion P (f b)) bs → AllByRecursion P (flat_map f bs)
  all_flat f [] h = tt
  all_flat f (b ∷ bs) h = all_append (f b) (flat_map f bs) h.0 (all_flat f bs h.1)

pub all_to : {A : Type 0} (P Q : A → Type 0) (xs : List A) → ((x : A) → P x → Q x) → AllByRecursion P xs → AllByRecursion Q xs
all_to P Q [] f h = tt
all_to P Q (x ∷ xs) f h = (f x h.0, all_to P Q xs f h.1)

-- ---- tokens in order

pub not_before : (at end : ℕ) (ts : List Token) → AreInOrder at end ts → at ≤ end
not_before at end [] h = h
not_before at end (t ∷ ts) (a, b, c) =
    let rest : t.span.to ≤ end = not_before t.span.to end ts c in
    omega (arith, a, b, rest)

pub cut : (at end : ℕ) (ts us : List Token) → AreInOrder at end (ts ++ us) → (middle : ℕ) × AreInOrder at middle ts × AreInOrder middle end us
cut at end [] us h = (at, omega arith, h)
cut at end (t ∷ ts) us (a, b, c) =
    let r = cut t.span.to end ts us c in
    (r.0, (a, b, r.1), r.2)

-- ---- productions

-- what stands between parentheses
abbrev pub Parts : Type 1
Parts = (k : Inside Nested) → Grammar Token (HeldInside k)

abbrev pub text : Parts → {V : Type 0} → Production V → Grammar Token V
text b r = spelled_by class b r

-- what holds of a value whose tokens stand between the two places
abbrev pub Held : Type 0 → Type 1
Held V = ℕ → ℕ → V → Type 0

pub record Tells (b : Parts) {V : Type 0} (r : Production V) (P : Held V) : Type 0 where
  pub holds : (at end : ℕ) (d : (text b r).Phrase) → AreInOrder at end ((text b r).tokens d) → P at end ((text b r).value d)

-- the one, and then the other
pub record Then {A B : Type 0} (P : Held A) (Q : Held B) (at end : ℕ) (d : A × B) : Type 0 where
  pub middle : ℕ
  pub low : at ≤ middle
  pub high : middle ≤ end
  pub first : P at middle d.0
  pub second : Q middle end d.1

abbrev pub Any : {V : Type 0} → Held V
Any at end v = Unit {0}

abbrev pub IfGiven : {V : Type 0} → Held V → Held (Option V)
IfGiven P at end None = Unit {0}
IfGiven P at end (Some v) = P at end v

-- one after another, each between the two places
abbrev pub Each : {V : Type 0} → Held V → Held (List V)
Each P at end vs = AllByRecursion (P at end) vs

-- what holds between two places holds between places further apart
abbrev pub Widens : {V : Type 0} → Held V → Type 0
Widens {V} P = (at end low high : ℕ) (v : V) → low ≤ at → end ≤ high → P at end v → P low high v

pub wider_each : {V : Type 0} (P : Held V) → Widens P → Widens (Each P)
wider_each P w at end low high [] l h k = tt
wider_each P w at end low high (v ∷ vs) l h k = (w at end low high v l h k.0, wider_each P w at end low high vs l h k.1)

pub any_tells : {b : Parts} {V : Type 0} {r : Production V} → Tells b r Any
any_tells = record { holds = λ at end d i. tt }

pub one_tells : {b : Parts} {V : Type 0} {f : ℕ → Bool} {v : Token → V} {P : Held V} → ((at end : ℕ) (t : Token) → Lies at end t.span → P at end (v t)) → Tells b (one f v) P
one_tells k = record { holds = λ at end d i. k at end d.0 (i.0, omega (arith, i.1), i.2) }

pub mapped_tells : {b : Parts} {A V : Type 0} {r : Production A} {P : Held A} {f : A → V} {Q : Held V} → Tells b r P → ((at end : ℕ) (a : A) → P at end a → Q at end (f a)) →
    Tells b (mapped f r) Q
mapped_tells {b} {A} {V} {r} t k = record { holds = λ at end d i. k at end ((text b r).value d) (t.holds at end d i) }

pub seq_tells : {b : Parts} {A B : Type 0} {r : Production A} {s : Production B} {P : Held A} {Q : Held B} → Tells b r P → Tells b s Q → Tells b (seq r s) (Then P Q)
seq_tells {b} {A} {B} {r} {s} {P} {Q} t u = record { holds = at_phrase } where
  at_phrase : (at end : ℕ) (d : (text b (seq r s)).Phrase) → AreInOrder at end ((text b (seq r s)).tokens d) → Then P Q at end ((text b (seq r s)).value d)
  at_phrase at end d i =
      let c = cut at end ((text b r).tokens d.0) ((text b s).tokens d.1) i in record {
        middle = c.0;
        low = not_before at c.0 ((text b r).tokens d.0) c.1;
        high = not_before c.0 end ((text b s).tokens d.1) c.2;
        first = t.holds at c.0 d.0 c.1;
        second = u.holds c.0 end d.1 c.2;
      }

pub either_tells : {b : Parts} {V : Type 0} {r s : Production V} {P : Held V} → Tells b r P → Tells b s P → Tells b (either r s) P
either_tells {b} {V} {r} {s} {P} t u = record { holds = at_phrase } where
  at_phrase : (at end : ℕ) (d : (text b (either r s)).Phrase) → AreInOrder at end ((text b (either r s)).tokens d) → P at end ((text b (either r s)).value d)
  at_phrase at end (inl d) i = t.holds at end d i
  at_phrase at end (inr d) i = u.holds at end d i

pub opt_tells : {b : Parts} {V : Type 0} {r : Production V} {P : Held V} → Tells b r P → Tells b (opt r) (IfGiven P)
opt_tells {b} {V} {r} {P} t = record { holds = at_phrase } where
  at_phrase : (at end : ℕ) (d : (text b (opt r)).Phrase) → AreInOrder at end ((text b (opt r)).tokens d) → IfGiven P at end ((text b (opt r)).value d)
  at_phrase at end None i = tt
  at_phrase at end (Some d) i = t.holds at end d i

pub many_tells : {b : Parts} {V : Type 0} {r : Production V} {P : Held V} → Widens P → Tells b r P → Tells b (many r) (Each P)
many_tells {b} {V} {r} {P} w t = record { holds = at_phrase } where
  at_phrase : (at end : ℕ) (ds : (text b (many r)).Phrase) → AreInOrder at end ((text b (many r)).tokens ds) → Each P at end ((text b (many r)).value ds)
  at_phrase at end [] i = tt
  at_phrase at end (d ∷ ds) i =
      let more = many_tokens (text b r).tokens ds in
      let c = cut at end ((text b r).tokens d) more i in
      let low : at ≤ c.0 = not_before at c.0 ((text b r).tokens d) c.1 in
      let high : c.0 ≤ end = not_before c.0 end more c.2 in (
        w at c.0 at end ((text b r).value d) (omega arith) high (t.holds at c.0 d c.1),
        wider_each P w c.0 end at end ((text b (many r)).value ds) low (omega arith) (at_phrase c.0 end ds c.2),
      )
