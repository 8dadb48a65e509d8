-- What a schema text within its size is due: the catalog that it stands for, or its first fault. Its tokens are looked at first, then its
-- grammar, and its rules.
use Rattle.std.specs.Prelude.{◌≡◌, ◌≤◌, ℕ, List, length, Result, Ok, Err}
use Rattle.pgq_base.specs.declared.refusal.Refusal.{Refusal}
use Rattle.pgq_base.specs.declared.refusal.Role.{Role}
use Rattle.pgq_base.specs.declared.refusal.Role.TheVariants.{Schema}
use Rattle.sql_lexer.specs.declared.token.Token.{Token}
use Rattle.sql_lexer.specs.Texts.{AreTokens, most_tokens, IsFirstFault, refusal}
use Rattle.graph_ast.specs.declared.schema.SchemaTree.{SchemaTree}
use Rattle.graph_ast.specs.declared.catalog.Catalog.{Catalog}
use Rattle.schema_parser.specs.Outcomes.{IsOutcome}
use Rattle.view_check.specs.Checks as rules
use Rattle.pgq_program.specs.Chains.{Then}

-- the tokens of the text, or its first lexical fault
abbrev pub IsLexed : Role → List ℕ → Result (List Token) Refusal → Type 0
IsLexed role text (Ok tokens) = AreTokens text tokens × (length tokens ≤ most_tokens)
IsLexed role text (Err fault) = (fault ≡ refusal role fault.code fault.span) × IsFirstFault text fault.code fault.span

-- the catalog that the tree stands for, or the first fault by the rules
abbrev pub IsChecked : SchemaTree → Result Catalog Refusal → Type 0
IsChecked tree (Ok catalog) = rules.due tree ≡ Ok catalog
IsChecked tree (Err fault) = rules.due tree ≡ Err fault

-- what the text is due
abbrev pub IsRead : List ℕ → Result Catalog Refusal → Type 0
IsRead text answer = Then (IsLexed Schema text) (λ tokens. Then (IsOutcome tokens (length text)) IsChecked) answer
