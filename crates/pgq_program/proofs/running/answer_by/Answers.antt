use Rattle.std.proofs.Common.{subst, IfSome}
use Rattle.graph_meaning.specs.Answers.{names}
use Rattle.pgq_program.specs.Rows.{WritesTable}
use Rattle.pgq_program.specs.Steps.{IsQueryAt, answer_at}
use Rattle.pgq_program.proofs.EvaluatedTables.{with_query}
use Rattle.pgq_program.proofs.running.answer_by.Goals as goal

pub returns-clause-told : goal.returns-clause-told
returns-clause-told g c =
    with_query (λ told. IsQueryAt c.args.catalog.now c.args.query.now told) names (λ query told. answer_at c.args.catalog.now query c.args.words.now c.args.places.now told)
    c.in_ok-checked.checked _ c.answer_at.result c.in_ok-checked.ensures.told
    (subst (λ files. IfSome files (λ told. WritesTable (names c.in_ok-checked.checked)
    (answer_at c.args.catalog.now c.in_ok-checked.checked c.args.words.now c.args.places.now told) c.answer_at.result))
    c.in_ok-checked.ensures.files c.answer_at.ensures.told)
