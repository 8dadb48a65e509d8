use Rattle.sample_bound.proofs.SampleBindings.{answer_is_small}
use Rattle.pgq_program.proofs.SampleDue.{summary_due}
use Rattle.pgq_program.proofs.laws.summary_is_due.Goals as goal

pub returns : goal.returns
returns c n files most = (_, _, answer_is_small n, summary_due n most)
