-- What reading a query text answers.
use Rattle.std.specs.Prelude.{◌≡◌, ◌==◌, ◌||◌, ℕ, Bool, List, Result, Ok, Err, drop, slice_get}
use Rattle.pgq_base.specs.declared.refusal.Role.TheVariants.{Query}
use Rattle.pgq_base.specs.declared.refusal.Detail.TheVariants as detail
use Rattle.pgq_base.specs.declared.refusal.Refusal.{Refusal}
use Rattle.token_grammar.specs.declared.fault.Cause.{Cause}
use Rattle.sql_lexer.specs.declared.token.Token.{Token}
use Rattle.graph_ast.specs.declared.query.QueryTree.{QueryTree}
use Rattle.token_grammar.specs.Rules.{on}
use Rattle.token_grammar.specs.Texts.{Stays, SpellsAny, FirstFault}
pub use Rattle.token_reading.specs.Refusals.{span_at, code_for, IfRefused}
use Rattle.token_reading.specs.Tokens.{class}
use Rattle.condition_grammar.specs.Classes.{left_parenthesis, right_parenthesis}
use Rattle.pattern_parser.specs.Insides.{left_bracket, right_bracket}
use Rattle.pattern_parser.specs.Queries.{query_text}

-- the tokens are a query text that stands for the tree
abbrev pub SpellsQuery : List Token → QueryTree → Type 0
SpellsQuery ts tree = SpellsAny query_text ts tree

abbrev pub opens : ℕ → Bool
opens c = c == left_parenthesis || c == left_bracket

abbrev pub closes : ℕ → Bool
closes c = c == right_parenthesis || c == right_bracket

-- at no place are more than 64 parentheses and square brackets together open
abbrev pub IsShallow : List Token → Type 0
IsShallow ts = Stays (on class opens) (on class closes) 64 0 ts

-- the refusal names the first fault of the tokens
pub record IsFirstFault (ts : List Token) (end : ℕ) (refusal : Refusal) : Type 0 where
  pub role : refusal.role ≡ Query
  pub detail : refusal.detail ≡ detail.Nothing
  pub cause : Cause
  pub code : refusal.code ≡ code_for cause
  pub place : ℕ
  pub first : FirstFault (on class opens) (on class closes) query_text 64 ts cause (drop place ts)
  pub span : refusal.span ≡ span_at end (slice_get ts place)

-- reading the tokens of a text of that length gives the tree, or the refusal at the first fault
abbrev pub IsOutcome : List Token → ℕ → Result QueryTree Refusal → Type 0
IsOutcome ts end (Ok tree) = SpellsQuery ts tree × IsShallow ts
IsOutcome ts end (Err refusal) = IsFirstFault ts end refusal
