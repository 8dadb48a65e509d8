-- The spans that join two tokens: a type's, and that of DEFAULT LABEL.
use Rattle.std.proofs.Common.{ℕ, zero, suc, ◌≤◌, Some, None, List, [], ◌∷◌, ◌++◌, arith}
use Rattle.sql_lexer.specs.declared.token.Token.{Token}
use Rattle.sql_lexer.specs.Texts.{AreInOrder}
use Rattle.graph_ast.specs.Spans.{LiesIn}
use Rattle.token_grammar.specs.Rules.{within}
use Rattle.token_marks.specs.declared.mark.Mark.{Mark}
use Rattle.token_reading.specs.Tokens.{both}
use Rattle.schema_parser.specs.Tables.{Inside, the, word, words, number_part, type_tail, type_name, end_of}
use Rattle.schema_parser.specs.Graphs.{inside}
use Rattle.token_grammar.specs.Rules.Rule.{seq, many}
use Rattle.schema_parser.proofs.OrderedTokens.{EndBy, not_before, cut}
use Rattle.schema_parser.proofs.Placed.{text_of, Gives}

-- from a place up to another one
record Reaches (at end to : ℕ) : Type 0 where
  later : at ≤ to
  within : to ≤ end

-- behind words that may follow a place
words_reach : (n at end to : ℕ) (ws : (text_of n (many word)).Phrase) → to ≤ at → AreInOrder at end ((text_of n (many word)).tokens ws)
    → Reaches to end (end_of to ((text_of n (many word)).value ws))
words_reach n at end to [] le h = record { later = omega arith; within = omega (arith, le, h) }
words_reach n at end to (w ∷ ws) le (a, b, c) =
    let r = words_reach n w.0.span.to end w.0.span.to ws (omega arith) c in
    record { later = omega (arith, le, a, b, r.later); within = r.within }

all_words : (n at end : ℕ) (d : (text_of n words).Phrase) → AreInOrder at end ((text_of n words).tokens d)
    → Reaches (((text_of n words).value d).span.from) end (((text_of n words).value d).span.to)
unfolding words
all_words n at end (w, ws) (a, b, c) =
    let r = words_reach n w.0.span.to end w.0.span.to ws (omega arith) c in
    record { later = omega (arith, b, r.later); within = r.within }

-- a token behind others
last_reaches : (at end : ℕ) (ts : List Token) (t : Token) → AreInOrder at end (ts ++ t ∷ []) → (at ≤ t.span.to) × AreInOrder t.span.to end []
last_reaches at end ts t h =
    let c = cut at end ts (t ∷ []) h in
    let before : at ≤ c.0 = not_before at c.0 ts c.1 in
    (omega (arith, before, c.2.0, c.2.1), c.2.2)

numbers_reach : (n at end : ℕ) (d : (text_of n number_part).Phrase) → AreInOrder at end ((text_of n number_part).tokens d) → Reaches at end (((text_of n number_part).value d).to)
unfolding number_part within
numbers_reach zero at end d h = absurd d.1.0
numbers_reach (suc n) at end (o, (d, e)) (a, b, c) =
    let r = last_reaches o.0.span.to end ((text_of n (inside Inside.number_list)).tokens d) e.0 c in
    record { later = omega (arith, a, b, r.0); within = r.1 }

tail_reaches : (n at end : ℕ) (d : (text_of n type_tail).Phrase) → AreInOrder at end ((text_of n type_tail).tokens d) → Reaches at end (((text_of n type_tail).value d).to)
unfolding type_tail
tail_reaches n at end (d, ws) h =
    let c = cut at end ((text_of n number_part).tokens d) ((text_of n (many word)).tokens ws) h in
    let r = numbers_reach n at c.0 d c.1 in
    let s = words_reach n c.0 end (((text_of n number_part).value d).to) ws r.within c.2 in
    record { later = omega (arith, r.later, s.later); within = s.within }

type_at : (end n : ℕ) (d : (text_of n type_name).Phrase) → EndBy end ((text_of n type_name).tokens d) → LiesIn end (((text_of n type_name).value d).span)
unfolding type_name
type_at end n (w, None) (at, h) =
    let c = cut at end ((text_of n words).tokens w) [] h in
    let r = all_words n at c.0 w c.1 in
    (r.later, omega (arith, r.within, c.2))
type_at end n (w, Some d) (at, h) =
    let c = cut at end ((text_of n words).tokens w) ((text_of n type_tail).tokens d) h in
    let r = all_words n at c.0 w c.1 in
    let s = tail_reaches n c.0 end d c.2 in
    (omega (arith, r.later, r.within, s.later), s.within)

pub type_lies : (end : ℕ) → Gives end type_name (λ t. LiesIn end t.span)
type_lies end = record { holds = type_at end }

-- two words, one after the other
pub two_lie : (end : ℕ) (a b : Mark) → Gives end (seq (the a) (the b)) (λ d. LiesIn end (both d.0 d.1))
two_lie end a b = record { holds = at } where
  at : (n : ℕ) (d : (text_of n (seq (the a) (the b))).Phrase) → EndBy end ((text_of n (seq (the a) (the b))).tokens d)
      → LiesIn end (both (((text_of n (seq (the a) (the b))).value d).0) (((text_of n (seq (the a) (the b))).value d).1))
  at n (x, y) (from, (p, q, (r, s, t))) = (omega (arith, q, r, s), t)
