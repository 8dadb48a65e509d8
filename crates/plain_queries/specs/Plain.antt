-- What the grammar and the rules together give: a query text without faults stands for a query that can be written as SQL.
use Rattle.std.specs.Prelude.{◌≡◌, ℕ, true, List, None}
use Rattle.sql_lexer.specs.declared.token.Token.{Token}
use Rattle.sql_lexer.specs.Texts.{AreTokens}
use Rattle.graph_ast.specs.declared.catalog.Catalog.{Catalog}
use Rattle.graph_ast.specs.declared.query.QueryTree.{QueryTree}
use Rattle.graph_ast.specs.Catalogs.{IsValidCatalog}
use Rattle.pattern_parser.specs.Outcomes.{SpellsQuery}
use Rattle.pattern_check.specs.Served.{is_served}
use Rattle.pattern_check.specs.Phases.{first_fault}
use Rattle.pattern_check.specs.Checked.{checked}
use Rattle.query_lowering.specs.Translatable.{IsTranslatable}

-- the tokens of a text spell the tree, which has only forms that are served, and the rules give no fault
abbrev pub MakesTranslatable : Type 0
MakesTranslatable =
    (catalog : Catalog) (text : List ℕ) (tokens : List Token) (tree : QueryTree)
    → IsValidCatalog catalog → AreTokens text tokens → SpellsQuery tokens tree → is_served tree ≡ true → first_fault catalog tree ≡ None
    → IsTranslatable catalog (checked catalog tree)
