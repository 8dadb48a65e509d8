-- What reading an SQL text in a catalog answers.
use Rattle.std.specs.Prelude.{◌≡◌, ℕ, List, ◌⊎◌, Result, Ok, Err}
use Rattle.pgq_base.specs.declared.refusal.Refusal.{Refusal}
use Rattle.sql_lexer.specs.declared.token.Token.{Token}
use Rattle.graph_ast.specs.declared.catalog.Catalog.{Catalog}
use Rattle.sql_algebra.specs.declared.text.SqlText.{SqlText}
use Rattle.sql_algebra.specs.declared.tree.SqlQuery.{SqlQuery}
use Rattle.sql_parser.specs.Outcomes.{SpellsSql, IsShallow, IsFirstFault}
use Rattle.sql_reader.specs.Queries.{due}

-- the tokens spell a text, with at most 128 open parentheses, and this is due for it in the catalog
pub record IsRead (tokens : List Token) (catalog : Catalog) (answer : Result SqlQuery Refusal) : Type 0 where
  pub text : SqlText
  pub spelled : SpellsSql tokens text
  pub shallow : IsShallow tokens
  pub due_is : due catalog text ≡ answer

-- the query that the tokens spell, or the refusal with the first fault: that of the tokens, or else that of the names and classes
abbrev pub IsAnswer : List Token → ℕ → Catalog → Result SqlQuery Refusal → Type 0
IsAnswer tokens end catalog (Ok query) = IsRead tokens catalog (Ok query)
IsAnswer tokens end catalog (Err refusal) = IsFirstFault tokens end refusal ⊎ IsRead tokens catalog (Err refusal)
