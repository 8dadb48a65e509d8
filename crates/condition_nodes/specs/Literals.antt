-- The values of literals, by the kinds of their tokens.
use Rattle.std.specs.Prelude.{ℕ, ◌^◌, nat_lt, nat_le, true, false, cond, List, Option, None, Some, pos}
use Rattle.pgq_base.specs.declared.value.Value.{Value}
use Rattle.pgq_base.specs.declared.value.Value.TheVariants.{Number}
use Rattle.pgq_base.specs.Sizes.{size_value}
use Rattle.civil_dates.specs.Texts.{is_date_text}
use Rattle.sql_lexer.specs.declared.token.Kind.{Kind}
use Rattle.sql_lexer.specs.declared.token.Kind.TheVariants as k
use Rattle.condition_grammar.specs.declared.spanned.Spanned.{Spanned}
use Rattle.condition_grammar.specs.Dates.{date_value}
use Rattle.condition_grammar.specs.Conditions as g
use Rattle.condition_grammar.specs.Conditions.{negative}
use Rattle.condition_nodes.specs.Reading.{Alone, HeldAlone, Production}

abbrev pub literals : (L : Type 0) → Production L (Spanned L)
literals L = g.literals L Alone HeldAlone

-- of a number below 2^63 or a decimal
abbrev pub plain_value : Kind → Option Value
plain_value (k.Number n) = cond (nat_lt n (2 ^ 63)) (Some (Number (pos n))) None
plain_value (k.Decimal size) = Some (size_value false size)
plain_value other = None

-- of what may stand behind a minus
abbrev pub negated_value : Kind → Option Value
negated_value (k.Number n) = cond (nat_le n (2 ^ 63)) (Some (Number (negative n))) None
negated_value (k.Decimal size) = Some (size_value true size)
negated_value other = None

abbrev pub literal_text : Kind → Option (List ℕ)
literal_text (k.Literal text) = Some text
literal_text other = None

-- of a literal whose content is a date's text
abbrev pub literal_date : Kind → Option Value
literal_date (k.Literal text) = cond (is_date_text text) (Some (date_value text)) None
literal_date other = None
