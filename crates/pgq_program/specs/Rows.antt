-- What an SQL text within its size is due in a catalog, and the rows of a query over an instance. The most rows that are written are this project's own.
use Rattle.std.specs.Prelude.{◌≡◌, ℕ, nat_le, cond, List, length, Result, Ok, Err}
use Rattle.pgq_base.specs.declared.code.Code.TheVariants.{TooManyRows}
use Rattle.pgq_base.specs.declared.refusal.Refusal.{Refusal}
use Rattle.pgq_base.specs.declared.refusal.Role.{Role}
use Rattle.pgq_base.specs.declared.refusal.Role.TheVariants.{Sql}
use Rattle.pgq_base.specs.Instances.{TableRows, InstanceRows}
use Rattle.sql_lexer.specs.Texts.{refusal}
use Rattle.graph_ast.specs.declared.catalog.Catalog.{Catalog}
use Rattle.sql_algebra.specs.declared.tree.SqlQuery.{SqlQuery}
use Rattle.sql_algebra.specs.Meaning.{bag}
use Rattle.sql_parser.specs.Outcomes.{IsOutcome}
use Rattle.sql_reader.specs.Queries as rules
use Rattle.csv_tables.specs.Writing.{table_text}
use Rattle.pgq_program.specs.declared.halt.Halt.{Halt}
use Rattle.pgq_program.specs.declared.halt.Halt.TheVariants as h
use Rattle.pgq_program.specs.Chains.{Then, Only}
use Rattle.pgq_program.specs.Schemas.{IsLexed}

-- its tokens are looked at first, then its grammar, and its rules on names and classes
abbrev pub IsSqlRead : Catalog → List ℕ → Result SqlQuery Refusal → Type 0
IsSqlRead catalog text answer = Then (IsLexed Sql text) (λ tokens. Then (IsOutcome tokens (length text)) (λ tree. Only (rules.due catalog tree))) answer

-- a query with more than 1,000,000 rows is refused as a whole
abbrev pub too_many : Role → Refusal
too_many role = refusal role TooManyRows (record { from = 0; to = 0 })

abbrev pub few_rows : Role → TableRows → Result TableRows Refusal
few_rows role rows = cond (nat_le (length rows) 1000000) (Ok rows) (Err (too_many role))

-- the rows of the query over the instance
abbrev pub rows_due : Role → Catalog → SqlQuery → InstanceRows → Result TableRows Refusal
rows_due role catalog query instance = few_rows role (bag catalog query instance)

-- the text is that of the rows that are due under the names, or this refusal is due, or it is want of memory or a fault
abbrev pub WritesTable : List (List ℕ) → Result TableRows Halt → Result (List ℕ) Halt → Type 0
WritesTable names due (Ok text) = (rows : TableRows) × (due ≡ Ok rows) × (text ≡ table_text names rows)
WritesTable names due (Err (h.Refused refusal)) = due ≡ Err (h.Refused refusal)
WritesTable names due (Err h.Usage) = ⊥
WritesTable names due (Err h.ReadFault) = Unit {0}
WritesTable names due (Err h.NoMemory) = Unit {0}
