use Rattle.std.proofs.Common.{◌≡◌, ◌≤◌, sym, subst, length}
use Rattle.sample_run.specs.SampleCatalog.{sample_catalog}
use Rattle.pgq_program.specs.Queries.{IsQueryRead}
use Rattle.pgq_program.specs.Steps.{StepGives, Halted}
use Rattle.pgq_program.proofs.SampleDue.{is_checked, is_read}
use Rattle.pgq_program.proofs.SampledRuns.{query_is_short}
use Rattle.pgq_program.proofs.sampling.sampled_query.Goals as goal

pub query_in-requires-clause-small : goal.query_in-requires-clause-small
query_in-requires-clause-small c = subst (λ l. length l ≤ 1048576) (sym c.sample_query.ensures) query_is_short

pub returns-clause-due : goal.returns-clause-due
returns-clause-due c =
    subst (λ t. StepGives (Halted (IsQueryRead sample_catalog t)) c.query_in.result) c.sample_query.ensures
    (subst (λ k. StepGives (Halted (IsQueryRead k c.sample_query.result.now)) c.query_in.result) c.requires c.query_in.ensures.due)

pub returns-clause-is : goal.returns-clause-is
returns-clause-is c = is_checked c.query_in.result (returns-clause-due c)

pub returns-clause-whole : goal.returns-clause-whole
returns-clause-whole c = is_read c.query_in.result (returns-clause-due c) c.query_in.ensures.never c.query_in.ensures.calm
