-- What holds of the values of rules over tokens whose decimals are sizes: one lemma for each way to put rules together.
use Rattle.std.proofs.Common.{◌≡◌, ℕ, Bool, true, Option, Some, None, List, [], ◌∷◌, ◌++◌, inl, inr}
use Rattle.std.specs.List.{AllByRecursion}
use Rattle.sql_lexer.specs.declared.token.Token.{Token}
use Rattle.token_marks.specs.declared.mark.Mark.{Mark}
use Rattle.token_grammar.specs.Grammar.{Grammar, many_tokens}
use Rattle.token_grammar.specs.Rules.{on, spelled_by}
use Rattle.token_grammar.specs.Rules.Rule.{one, mapped, seq, either, opt, many, nest}
use Rattle.token_reading.specs.Tokens.{class, span_of as place_of}
use Rattle.condition_grammar.specs.Classes.{left_parenthesis, right_parenthesis}
use Rattle.condition_grammar.specs.Conditions.{Inside}
use Rattle.sql_algebra.specs.Grammar.{Nested, HeldInside, Production, the}
use Rattle.sql_reader.specs.Shapes.{IsSized, AreSized}

-- what stands between parentheses
abbrev pub Parts : Type 1
Parts = (k : Inside Nested) → Grammar Token (HeldInside k)

abbrev pub text : Parts → {V : Type 0} → Production V → Grammar Token V
text b r = spelled_by class b r

abbrev pub Of : Type 0 → Type 1
Of V = V → Type 0

-- it holds of each value that the rule spells
pub record Gives (b : Parts) {V : Type 0} (r : Production V) (P : Of V) : Type 0 where
  pub holds : (d : (text b r).Phrase) → AreSized ((text b r).tokens d) → P ((text b r).value d)

abbrev pub Any : {V : Type 0} → Of V
Any v = Unit {0}

abbrev pub Pair : {A B : Type 0} → Of A → Of B → Of (A × B)
Pair P Q d = P d.0 × Q d.1

abbrev pub IfGiven : {V : Type 0} → Of V → Of (Option V)
IfGiven P None = Unit {0}
IfGiven P (Some v) = P v

abbrev pub Each : {V : Type 0} → Of V → Of (List V)
Each P vs = AllByRecursion P vs

first_sized : (ts us : List Token) → AreSized (ts ++ us) → AreSized ts
first_sized [] us h = tt
first_sized (t ∷ ts) us h = (h.0, first_sized ts us h.1)

rest_sized : (ts us : List Token) → AreSized (ts ++ us) → AreSized us
rest_sized [] us h = h
rest_sized (t ∷ ts) us h = rest_sized ts us h.1

module _ {b : Parts} where
  pub any_gives : {V : Type 0} {r : Production V} → Gives b r Any
  any_gives = record { holds = λ d i. tt }

  pub one_gives : {V : Type 0} {f : ℕ → Bool} {v : Token → V} {P : Of V} → ((t : Token) → on class f t ≡ true → IsSized t.kind → P (v t)) → Gives b (one f v) P
  one_gives k = record { holds = λ d i. k d.0 d.1 i.0 }

  pub mapped_gives : {A V : Type 0} {r : Production A} {P : Of A} {f : A → V} {Q : Of V} → Gives b r P → ((a : A) → P a → Q (f a)) → Gives b (mapped f r) Q
  mapped_gives {A} {V} {r} t k = record { holds = λ d i. k ((text b r).value d) (t.holds d i) }

  pub seq_gives : {A B : Type 0} {r : Production A} {s : Production B} {P : Of A} {Q : Of B} → Gives b r P → Gives b s Q → Gives b (seq r s) (Pair P Q)
  seq_gives {A} {B} {r} {s} t u = record {
    holds = λ d i. (t.holds d.0 (first_sized ((text b r).tokens d.0) ((text b s).tokens d.1) i), u.holds d.1 (rest_sized ((text b r).tokens d.0) ((text b s).tokens d.1) i));
  }

  pub either_gives : {V : Type 0} {r s : Production V} {P : Of V} → Gives b r P → Gives b s P → Gives b (either r s) P
  either_gives {V} {r} {s} {P} t u = record { holds = by } where
    by : (d : (text b (either r s)).Phrase) → AreSized ((text b (either r s)).tokens d) → P ((text b (either r s)).value d)
    by (inl d) i = t.holds d i
    by (inr d) i = u.holds d i

  pub opt_gives : {V : Type 0} {r : Production V} {P : Of V} → Gives b r P → Gives b (opt r) (IfGiven P)
  opt_gives {V} {r} {P} t = record { holds = by } where
    by : (d : (text b (opt r)).Phrase) → AreSized ((text b (opt r)).tokens d) → IfGiven P ((text b (opt r)).value d)
    by None i = tt
    by (Some d) i = t.holds d i

  pub many_gives : {V : Type 0} {r : Production V} {P : Of V} → Gives b r P → Gives b (many r) (Each P)
  many_gives {V} {r} {P} t = record { holds = by } where
    by : (ds : (text b (many r)).Phrase) → AreSized ((text b (many r)).tokens ds) → Each P ((text b (many r)).value ds)
    by [] i = tt
    by (d ∷ ds) i =
        let more = many_tokens (text b r).tokens ds in
        (t.holds d (first_sized ((text b r).tokens d) more i), by ds (rest_sized ((text b r).tokens d) more i))

  -- one more, behind a word
  pub behind_gives : {V : Type 0} {r : Production V} {P : Of V} (w : Mark) → Gives b r P → Gives b (mapped (λ d. d.1) (seq (the w) r)) P
  behind_gives w t = mapped_gives (seq_gives any_gives t) (λ d h. h.1)

  -- one, and others that each stand behind a word
  pub list_gives : {V : Type 0} {r : Production V} {P : Of V} (w : Mark) → Gives b r P
      → Gives b (mapped (λ d. d.0 ∷ d.1) (seq r (many (mapped (λ d. d.1) (seq (the w) r))))) (Each P)
  list_gives w t = mapped_gives (seq_gives t (many_gives (behind_gives w t))) (λ d h. h)

  -- what is between parentheses
  pub nest_gives : (k : Inside Nested) (P : Of (HeldInside k)) → ((d : (b k).Phrase) → AreSized ((b k).tokens d) → P ((b k).value d))
      → Gives b (nest place_of left_parenthesis right_parenthesis k) (λ d. P d.1)
  nest_gives k P inner = record { holds = λ d i. inner d.1.0 (first_sized ((b k).tokens d.1.0) (d.1.1.0 ∷ []) i.1) }
