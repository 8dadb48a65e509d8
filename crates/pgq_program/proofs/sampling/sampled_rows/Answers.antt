use Rattle.pgq_program.proofs.SampleDue.{are_few_in}
use Rattle.pgq_program.proofs.sampling.sampled_rows.Goals as goal

pub returns-clause-whole : goal.returns-clause-whole
returns-clause-whole c =
    are_few_in c.args.count c.requires.most c.args.catalog.now c.args.query.now _ c.requires.is c.requires.of_run c.in_ok-instance.ensures.value
    c.answer_rows.result c.answer_rows.ensures
