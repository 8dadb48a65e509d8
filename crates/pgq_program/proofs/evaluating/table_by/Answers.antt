use Rattle.std.proofs.Common.{subst, IfSome}
use Rattle.sql_algebra.specs.Meaning.{names_of}
use Rattle.pgq_program.specs.Rows.{WritesTable}
use Rattle.pgq_program.specs.Steps.{IsSqlAt, rows_at}
use Rattle.pgq_program.proofs.EvaluatedTables.{with_query}
use Rattle.pgq_program.proofs.evaluating.table_by.Goals as goal

pub returns-clause-told : goal.returns-clause-told
returns-clause-told g c =
    with_query (λ told. IsSqlAt c.args.catalog.now c.args.sql.now told) names_of (λ query told. rows_at c.args.catalog.now query c.args.words.now c.args.places.now told)
    c.in_ok-query.query _ c.table_at.result c.in_ok-query.ensures.told
    (subst (λ files. IfSome files (λ told. WritesTable (names_of c.in_ok-query.query) (rows_at c.args.catalog.now c.in_ok-query.query c.args.words.now c.args.places.now told)
    c.table_at.result))
    c.in_ok-query.ensures.files c.table_at.ensures.told)
