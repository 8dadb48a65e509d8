-- What a query text within its size is due in a catalog: the query that it stands for, or its first fault. Its tokens are looked at first, then its
-- grammar, then whether it has a form that is not served yet, and then its rules.
use Rattle.std.specs.Prelude.{cond, ℕ, List, length, Result, Ok, Err}
use Rattle.pgq_base.specs.declared.code.Code.TheVariants.{Unexpected}
use Rattle.pgq_base.specs.declared.refusal.Refusal.{Refusal}
use Rattle.pgq_base.specs.declared.refusal.Role.TheVariants.{Query}
use Rattle.sql_lexer.specs.Texts.{refusal}
use Rattle.graph_ast.specs.declared.catalog.Catalog.{Catalog}
use Rattle.graph_ast.specs.declared.checked.CheckedQuery.{CheckedQuery}
use Rattle.graph_ast.specs.declared.query.QueryTree.{QueryTree}
use Rattle.pattern_parser.specs.Outcomes.{IsOutcome}
use Rattle.pattern_check.specs.Served.{is_served}
use Rattle.pattern_check.specs.Checks as rules
use Rattle.pgq_program.specs.Chains.{Then, Only}
use Rattle.pgq_program.specs.Schemas.{IsLexed}

-- a form that is not served yet is refused as a whole
abbrev pub not_served : Refusal
not_served = refusal Query Unexpected (record { from = 0; to = 0 })

abbrev pub served : QueryTree → Result QueryTree Refusal
served tree = cond (is_served tree) (Ok tree) (Err not_served)

-- what the tree is due: the query that it stands for, or the first fault by the rules
abbrev pub IsJudged : Catalog → QueryTree → Result CheckedQuery Refusal → Type 0
IsJudged catalog tree answer = Then (Only (served tree)) (λ tree. Only (rules.due catalog tree)) answer

-- what the text is due
abbrev pub IsQueryRead : Catalog → List ℕ → Result CheckedQuery Refusal → Type 0
IsQueryRead catalog text answer = Then (IsLexed Query text) (λ tokens. Then (IsOutcome tokens (length text)) (IsJudged catalog)) answer
