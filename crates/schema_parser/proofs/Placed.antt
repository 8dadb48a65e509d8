-- What holds of the values of a rule where its tokens are in order: one lemma for each way to put rules together.
use Rattle.std.proofs.Common.{ℕ, Bool, Option, Some, None, List, [], ◌∷◌, ◌++◌, map, inl, inr}
use Rattle.std.specs.List.{AllByRecursion}
use Rattle.sql_lexer.specs.declared.token.Token.{Token}
use Rattle.graph_ast.specs.Spans.{LiesIn}
use Rattle.token_grammar.specs.Grammar.{Grammar, many_tokens, opt_tokens}
use Rattle.token_grammar.specs.Grammar.{many as many_of, seq as seq_of, one as one_of}
use Rattle.token_grammar.specs.Rules.{grammar, is, the_token}
use Rattle.token_grammar.specs.Rules.Rule.{one, mapped, seq, either, opt, many, trailing}
use Rattle.token_reading.specs.Tokens.{class}
use Rattle.schema_parser.specs.Tables.{Production, list}
use Rattle.schema_parser.specs.Graphs.{inside}
use Rattle.schema_parser.proofs.OrderedTokens.{EndBy, left_part, right_part, lies}

-- what a production spells, where so many parentheses may be open
abbrev pub text_of : ℕ → {V : Type 0} → Production V → Grammar Token V
text_of n r = grammar class inside n r

abbrev pub IfGiven : {V : Type 0} → (V → Type 0) → Option V → Type 0
IfGiven P None = Unit {0}
IfGiven P (Some v) = P v

-- any number of the rule, each after a token of the class
abbrev followed : {V : Type 0} → ℕ → ℕ → Production V → Grammar Token (List (Token × V))
followed n k r = many_of (seq_of (one_of (is class k) the_token) (text_of n r))

module _ (end : ℕ) where
  -- a phrase whose tokens are in order and end by there has a value of that kind
  pub record Gives {V : Type 0} (r : Production V) (P : V → Type 0) : Type 0 where
    pub holds : (n : ℕ) (d : (text_of n r).Phrase) → EndBy end ((text_of n r).tokens d) → P ((text_of n r).value d)

  pub any_gives : {V : Type 0} {r : Production V} → Gives r (λ v. Unit {0})
  any_gives = record { holds = λ n d i. tt }

  pub one_gives : {V : Type 0} {f : ℕ → Bool} {v : Token → V} {P : V → Type 0} → ((t : Token) → LiesIn end t.span → P (v t)) → Gives (one f v) P
  one_gives h = record { holds = λ n d i. h d.0 (lies end d.0 i) }

  pub mapped_gives : {A V : Type 0} {r : Production A} {P : A → Type 0} {f : A → V} {Q : V → Type 0} → Gives r P → ((a : A) → P a → Q (f a)) → Gives (mapped f r) Q
  mapped_gives {A} {V} {r} g h = record { holds = λ n d i. h ((text_of n r).value d) (g.holds n d i) }

  pub seq_gives : {A B : Type 0} {r : Production A} {s : Production B} {P : A → Type 0} {Q : B → Type 0} → Gives r P → Gives s Q → Gives (seq r s) (λ d. P d.0 × Q d.1)
  seq_gives {A} {B} {r} {s} g h = record {
    holds = λ n d i. (
      g.holds n d.0 (left_part end ((text_of n r).tokens d.0) ((text_of n s).tokens d.1) i),
      h.holds n d.1 (right_part end ((text_of n r).tokens d.0) ((text_of n s).tokens d.1) i),
    );
  }

  pub either_gives : {V : Type 0} {r s : Production V} {P : V → Type 0} → Gives r P → Gives s P → Gives (either r s) P
  either_gives {V} {r} {s} {P} g h = record { holds = at } where
    at : (n : ℕ) (d : (text_of n (either r s)).Phrase) → EndBy end ((text_of n (either r s)).tokens d) → P ((text_of n (either r s)).value d)
    at n (inl d) i = g.holds n d i
    at n (inr d) i = h.holds n d i

  pub opt_gives : {V : Type 0} {r : Production V} {P : V → Type 0} → Gives r P → Gives (opt r) (IfGiven P)
  opt_gives {V} {r} {P} g = record { holds = at } where
    at : (n : ℕ) (d : (text_of n (opt r)).Phrase) → EndBy end ((text_of n (opt r)).tokens d) → IfGiven P ((text_of n (opt r)).value d)
    at n None i = tt
    at n (Some d) i = g.holds n d i

  pub many_gives : {V : Type 0} {r : Production V} {P : V → Type 0} → Gives r P → Gives (many r) (AllByRecursion P)
  many_gives {V} {r} {P} g = record { holds = at } where
    at : (n : ℕ) (ds : (text_of n (many r)).Phrase) → EndBy end ((text_of n (many r)).tokens ds) → AllByRecursion P ((text_of n (many r)).value ds)
    at n [] i = tt
    at n (d ∷ ds) i = (
      g.holds n d (left_part end ((text_of n r).tokens d) (many_tokens ((text_of n r).tokens) ds) i),
      at n ds (right_part end ((text_of n r).tokens d) (many_tokens ((text_of n r).tokens) ds) i),
    )

  pub list_gives : {V : Type 0} {r : Production V} {P : V → Type 0} → Gives r P → Gives (list r) (AllByRecursion P)
  list_gives g = mapped_gives (seq_gives g (many_gives (mapped_gives (seq_gives any_gives g) (λ a h. h.1)))) (λ a h. h)

  pub trailing_gives : {V : Type 0} {k : ℕ} {r : Production V} {P : V → Type 0} → Gives r P → Gives (trailing k r) (AllByRecursion P)
  trailing_gives {V} {k} {r} {P} g = record
      { holds = λ n d i. all n d.0 (left_part end ((followed n k r).tokens d.0) (opt_tokens (λ (e : (one_of (is class k) the_token).Phrase). e.0 ∷ []) d.1) i) } where
        all : (n : ℕ) (ds : (followed n k r).Phrase) → EndBy end ((followed n k r).tokens ds) → AllByRecursion P (map (λ p. p.1) ((followed n k r).value ds))
        all n [] i = tt
        all n (d ∷ ds) i =
            let here = left_part end (d.0.0 ∷ [] ++ (text_of n r).tokens d.1) ((followed n k r).tokens ds) i in (
              g.holds n d.1 (right_part end (d.0.0 ∷ []) ((text_of n r).tokens d.1) here),
              all n ds (right_part end (d.0.0 ∷ [] ++ (text_of n r).tokens d.1) ((followed n k r).tokens ds) i),
            )
