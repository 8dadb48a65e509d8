-- What holds of the values of rules over written tokens: one lemma for each way to put rules together.
use Rattle.std.proofs.Common.{◌≡◌, ℕ, Bool, true, Option, Some, None, List, [], ◌∷◌, inl, inr}
use Rattle.std.specs.List.{AllByRecursion}
use Rattle.pgq_base.specs.declared.refusal.Span.{Span}
use Rattle.sql_lexer.specs.declared.token.Token.{Token}
use Rattle.token_grammar.specs.Grammar.{Grammar, many_tokens}
use Rattle.token_grammar.specs.Rules.{on, spelled_by}
use Rattle.token_grammar.specs.Rules.Rule.{one, mapped, seq, either, opt, many, nest, fork}
use Rattle.token_reading.specs.Tokens.{class, span_of as place_of}
use Rattle.condition_grammar.specs.Conditions.{Inside}
use Rattle.pattern_parser.specs.Insides.{Own, HeldInside, Production, after, before, parens}
use Rattle.plain_queries.proofs.WrittenTokens.{IsWrittenToken, AreWritten, first_written, rest_written}

-- what stands between brackets
abbrev pub Parts : Type 1
Parts = (k : Inside Own) → Grammar Token (HeldInside k)

abbrev pub text : Parts → {V : Type 0} → Production V → Grammar Token V
text b r = spelled_by class b r

abbrev pub Of : Type 0 → Type 1
Of V = V → Type 0

-- it holds of each value that phrases stand for
abbrev pub Given : {V : Type 0} → Grammar Token V → Of V → Type 0
Given g P = (d : g.Phrase) → AreWritten (g.tokens d) → P (g.value d)

-- it holds of each value that the rule spells
pub record Gives (b : Parts) {V : Type 0} (r : Production V) (P : Of V) : Type 0 where
  pub holds : Given (text b r) P

abbrev pub Any : {V : Type 0} → Of V
Any v = Unit {0}

abbrev pub Pair : {A B : Type 0} → Of A → Of B → Of (A × B)
Pair P Q d = P d.0 × Q d.1

abbrev pub IfGiven : {V : Type 0} → Of V → Of (Option V)
IfGiven P None = Unit {0}
IfGiven P (Some v) = P v

abbrev pub Each : {V : Type 0} → Of V → Of (List V)
Each P vs = AllByRecursion P vs

module _ {b : Parts} where
  pub any_gives : {V : Type 0} {r : Production V} → Gives b r Any
  any_gives = record { holds = λ d i. tt }

  pub one_gives : {V : Type 0} {f : ℕ → Bool} {v : Token → V} {P : Of V} → ((t : Token) → on class f t ≡ true → IsWrittenToken t → P (v t)) → Gives b (one f v) P
  one_gives k = record { holds = λ d i. k d.0 d.1 i.0 }

  pub mapped_gives : {A V : Type 0} {r : Production A} {P : Of A} {f : A → V} {Q : Of V} → Gives b r P → ((a : A) → P a → Q (f a)) → Gives b (mapped f r) Q
  mapped_gives {A} {V} {r} t k = record { holds = λ d i. k ((text b r).value d) (t.holds d i) }

  pub seq_gives : {A B : Type 0} {r : Production A} {s : Production B} {P : Of A} {Q : Of B} → Gives b r P → Gives b s Q → Gives b (seq r s) (Pair P Q)
  seq_gives {A} {B} {r} {s} t u = record {
    holds = λ d i. (t.holds d.0 (first_written ((text b r).tokens d.0) ((text b s).tokens d.1) i), u.holds d.1 (rest_written ((text b r).tokens d.0) ((text b s).tokens d.1) i));
  }

  pub either_gives : {V : Type 0} {r s : Production V} {P : Of V} → Gives b r P → Gives b s P → Gives b (either r s) P
  either_gives {V} {r} {s} {P} t u = record { holds = by } where
    by : Given (text b (either r s)) P
    by (inl d) i = t.holds d i
    by (inr d) i = u.holds d i

  pub opt_gives : {V : Type 0} {r : Production V} {P : Of V} → Gives b r P → Gives b (opt r) (IfGiven P)
  opt_gives {V} {r} {P} t = record { holds = by } where
    by : Given (text b (opt r)) (IfGiven P)
    by None i = tt
    by (Some d) i = t.holds d i

  pub many_gives : {V : Type 0} {r : Production V} {P : Of V} → Gives b r P → Gives b (many r) (Each P)
  many_gives {V} {r} {P} t = record { holds = by } where
    by : Given (text b (many r)) (Each P)
    by [] i = tt
    by (d ∷ ds) i =
        let more = many_tokens (text b r).tokens ds in
        (t.holds d (first_written ((text b r).tokens d) more i), by ds (rest_written ((text b r).tokens d) more i))

  -- one behind another
  pub after_gives : {U V : Type 0} {x : Production U} {r : Production V} {P : Of V} → Gives b r P → Gives b (after x r) P
  after_gives t = mapped_gives (seq_gives any_gives t) (λ d h. h.1)

  -- and before another
  pub before_gives : {U V : Type 0} {r : Production U} {x : Production V} {P : Of U} → Gives b r P → Gives b (before r x) P
  before_gives t = mapped_gives (seq_gives t any_gives) (λ d h. h.0)

  -- what is between brackets
  pub nest_gives : {o c : ℕ} (k : Inside Own) (P : Of (HeldInside k)) → Given (b k) P → Gives b (nest place_of o c k) (λ d. P d.1)
  nest_gives k P inner = record { holds = λ d i. inner d.1.0 (first_written ((b k).tokens d.1.0) (d.1.1.0 ∷ []) i.1) }

  pub parens_gives : (k : Own) (P : Of (HeldInside (Inside.own k))) → Given (b (Inside.own k)) P → Gives b (parens k) P
  parens_gives k P inner = mapped_gives (nest_gives (Inside.own k) P inner) (λ d h. h)

  -- the two ways of a fork
  pub fork_gives : {o c : ℕ} {f : ℕ → Bool} {k j : Inside Own} {B V : Type 0} {r : Production B} {one_way : Span → HeldInside k × (Span × B) → V}
      {other_way : Span → HeldInside j × Span → V} {W : Of V} (P : Of (HeldInside k)) (Q : Of (HeldInside j)) → Given (b k) P → Given (b j) Q
      → ((first : Span) (d : HeldInside k × (Span × B)) → P d.0 → W (one_way first d)) → ((first : Span) (d : HeldInside j × Span) → Q d.0 → W (other_way first d))
      → Gives b (fork place_of o c f k r one_way j other_way) W
  fork_gives {o} {c} {f} {k} {j} {B} {V} {r} {one_way} {other_way} {W} P Q g h one_holds other_holds = record { holds = by } where
    by : Given (text b (fork place_of o c f k r one_way j other_way)) W
    by (first, inl d) i =
        one_holds first.0.span ((b k).value d.0, (d.1.0.0.span, (text b r).value d.1.1))
        (g d.0 (first_written ((b k).tokens d.0) (d.1.0.0 ∷ (text b r).tokens d.1.1) i.1))
    by (first, inr d) i = other_holds first.0.span ((b j).value d.0, d.1.0.span) (h d.0 (first_written ((b j).tokens d.0) (d.1.0 ∷ []) i.1))
