-- Where tokens are refused, and by which code.
use Rattle.std.specs.Prelude.{ℕ, Option, None, Some}
use Rattle.pgq_base.specs.declared.code.Code.{Code}
use Rattle.pgq_base.specs.declared.code.Code.TheVariants as code
use Rattle.pgq_base.specs.declared.refusal.Span.{Span}
use Rattle.pgq_base.specs.declared.refusal.Refusal.{Refusal}
use Rattle.pgq_base.specs.declared.refusal.Stop.{Stop}
use Rattle.pgq_base.specs.declared.refusal.Stop.TheVariants.{Refused, NoMemory}
use Rattle.sql_lexer.specs.declared.token.Token.{Token}
use Rattle.token_grammar.specs.declared.fault.Cause.{Cause}
use Rattle.token_grammar.specs.declared.fault.Cause.TheVariants.{Unexpected, TooDeep}

-- the span of a token, or the text's end
abbrev pub span_at : ℕ → Option Token → Span
span_at end None = record { from = end; to = end }
span_at end (Some token) = token.span

abbrev pub code_for : Cause → Code
code_for Unexpected = code.Unexpected
code_for TooDeep = code.TooDeep

-- the refusal has the property, where there is one
abbrev pub IfRefused : Stop Refusal → (Refusal → Type 0) → Type 0
IfRefused (Refused r) P = P r
IfRefused NoMemory P = Unit {0}
