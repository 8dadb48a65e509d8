-- The parsers that the code follows, over any leaves, and what it gives.
use Rattle.std.specs.Prelude.{◌≡◌, ℕ, ◌==◌, cond, List, None, Result, Ok, Err}
use Rattle.pgq_base.specs.declared.refusal.Span.{Span}
use Rattle.sql_lexer.specs.declared.token.Token.{Token}
use Rattle.token_marks.specs.declared.mark.Mark.TheVariants as m
use Rattle.pgq_base.specs.declared.refusal.Stop.{Stop}
use Rattle.pgq_base.specs.declared.refusal.Stop.TheVariants.{NoMemory, Refused}
use Rattle.token_grammar.specs.declared.fault.Cause.{Cause}
use Rattle.token_grammar.specs.Parser.{Answer, Parser, parser, one_p, blocked_p}
use Rattle.token_grammar.specs.Rules.{Rule}
use Rattle.token_reading.specs.Tokens.{class, is_mark, span_of}
use Rattle.condition_grammar.specs.Conditions.{Inside, Held}

-- What nests nowhere is the same production, whatever else nests, and is read at any depth. So nothing else stands for what nests.
abbrev pub Alone : Type 0
Alone = Unit {0}

abbrev pub HeldAlone : Alone → Type 0
HeldAlone k = Unit {0}

abbrev pub Production : Type 0 → Type 0 → Type 1
Production L V = Rule Token (Inside Alone) (Held L Alone HeldAlone) V

abbrev pub reads_flat : {L V : Type 0} → Production L V → Parser Token V
reads_flat r = parser class None r

-- a parenthesis, where so many more may be opened
abbrev pub open_p : ℕ → Parser Token Span
open_p n ts = cond (n == 0) (blocked_p (is_mark m.LeftParenthesis) ts) (one_p (is_mark m.LeftParenthesis) span_of ts)

-- What the code gives stands for a value by the function: a function of operands is kept as what it is made of.
abbrev pub ParsesBy : {T U V : Type 0} → (U → V) → Answer T V → Result U (Stop Cause) → List T → Type 0
ParsesBy means a (Ok u) left = a ≡ Answer.got (means u) left
ParsesBy means a (Err (Refused c)) left = a ≡ Answer.fault c left
ParsesBy means a (Err NoMemory) left = Unit {0}

-- What the code gives is the function of the value that is read.
pub record ParsedFrom {T U V : Type 0} (f : V → U) (a : Answer T V) (u : U) (left : List T) : Type 0 where
  pub value : V
  pub read : a ≡ Answer.got value left
  pub made : f value ≡ u

abbrev pub ParsesFrom : {T U V : Type 0} → (V → U) → Answer T V → Result U (Stop Cause) → List T → Type 0
ParsesFrom f a (Ok u) left = ParsedFrom f a u left
ParsesFrom f a (Err (Refused c)) left = a ≡ Answer.fault c left
ParsesFrom f a (Err NoMemory) left = Unit {0}
