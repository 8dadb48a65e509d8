-- Spans that lie in a text.
use Rattle.std.specs.Prelude.{ℕ, List}
use Rattle.std.specs.List.{AllByRecursion}
pub use Rattle.pgq_base.specs.Spans.{LiesIn}
use Rattle.pgq_base.specs.declared.refusal.Refusal.{Refusal}
use Rattle.pgq_base.specs.declared.refusal.Stop.{Stop}
use Rattle.pgq_base.specs.declared.refusal.Stop.TheVariants.{Refused, NoMemory}
use Rattle.sql_lexer.specs.declared.token.Token.{Token}

-- the spans of the tokens are parts of a text of that length
abbrev pub TokensLieIn : ℕ → List Token → Type 0
TokensLieIn length tokens = AllByRecursion (λ token. LiesIn length token.span) tokens

-- and so is the place that a refusal names
abbrev pub RefusalLiesIn : ℕ → Stop Refusal → Type 0
RefusalLiesIn length (Refused refusal) = LiesIn length refusal.span
RefusalLiesIn length NoMemory = Unit {0}
