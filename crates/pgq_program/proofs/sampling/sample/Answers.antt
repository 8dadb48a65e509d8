use Rattle.std.proofs.Common.{◌≡◌, subst, ◌*◌, length, map}
use Rattle.pgq_base.specs.Instances.{same_values}
use Rattle.pgq_base.specs.declared.rows.Row.{Row}
use Rattle.csv_tables.specs.Outcomes.{values_of}
use Rattle.graph_meaning.specs.Lists.{distinct}
use Rattle.sample_run.specs.SampleRun.{sample_summary}
use Rattle.pgq_program.proofs.SampledRuns.{summarised, refused_rows}
use Rattle.pgq_program.proofs.sampling.sample.Goals as goal

pub returns-clause-told : goal.returns-clause-told
returns-clause-told c =
    summarised c.args.count c.in_ok-query.query c.in_ok-query.ensures.due c.in_ok-rows.rows c.in_ok-summary_of.field-0 c.in_ok-rows.ensures.rows
    (subst (λ l. c.in_ok-summary_of.field-0 ≡ sample_summary c.args.count (3 * c.args.count) (length l) (length (distinct same_values (map values_of l)))) c.as_slice.ensures
    c.in_ok-summary_of.ensures)
