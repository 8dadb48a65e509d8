-- What reading an SQL text answers.
use Rattle.std.specs.Prelude.{◌≡◌, ◌==◌, ℕ, Bool, List, Result, Ok, Err, drop, slice_get}
use Rattle.pgq_base.specs.declared.refusal.Role.TheVariants.{Sql}
use Rattle.pgq_base.specs.declared.refusal.Detail.TheVariants as detail
use Rattle.pgq_base.specs.declared.refusal.Refusal.{Refusal}
use Rattle.token_grammar.specs.declared.fault.Cause.{Cause}
use Rattle.sql_lexer.specs.declared.token.Token.{Token}
use Rattle.sql_algebra.specs.declared.text.SqlText.{SqlText}
use Rattle.token_grammar.specs.Rules.{on}
use Rattle.token_grammar.specs.Texts.{Stays, SpellsAny, FirstFault}
use Rattle.token_marks.specs.declared.mark.Mark.TheVariants as m
pub use Rattle.token_reading.specs.Refusals.{span_at, code_for, IfRefused}
use Rattle.token_reading.specs.Tokens.{class}
use Rattle.sql_algebra.specs.Grammar.{sql_text}
use Rattle.token_marks.specs.Marks.{number_of}

-- the tokens are an SQL text that stands for the text
abbrev pub SpellsSql : List Token → SqlText → Type 0
SpellsSql ts text = SpellsAny sql_text ts text

abbrev pub opens : ℕ → Bool
opens c = c == number_of m.LeftParenthesis

abbrev pub closes : ℕ → Bool
closes c = c == number_of m.RightParenthesis

-- at no place are more than 128 parentheses open
abbrev pub IsShallow : List Token → Type 0
IsShallow ts = Stays (on class opens) (on class closes) 128 0 ts

-- the refusal names the first fault of the tokens
pub record IsFirstFault (ts : List Token) (end : ℕ) (refusal : Refusal) : Type 0 where
  pub role : refusal.role ≡ Sql
  pub detail : refusal.detail ≡ detail.Nothing
  pub cause : Cause
  pub code : refusal.code ≡ code_for cause
  pub place : ℕ
  pub first : FirstFault (on class opens) (on class closes) sql_text 128 ts cause (drop place ts)
  pub span : refusal.span ≡ span_at end (slice_get ts place)

-- reading the tokens of a text of that length gives the text, or the refusal at the first fault
abbrev pub IsOutcome : List Token → ℕ → Result SqlText Refusal → Type 0
IsOutcome ts end (Ok text) = SpellsSql ts text × IsShallow ts
IsOutcome ts end (Err refusal) = IsFirstFault ts end refusal
