use Rattle.std.proofs.Common.{map, ap, ◌∙◌}
use Rattle.sample_run.specs.SampleRun.{person_row}
use Rattle.sample_run.proofs.RowsMade.{one_more, values_in}
use Rattle.sample_run.proofs.tables.persons.Goals as goal

pub loop-i-preserved : goal.loop-i-preserved
loop-i-preserved c = ap (map values_in) c.in_ok-push.ensures.ok ∙ one_more person_row c.loop-i.rows c.in_ok-person.field-0 c.loop-i.i c.loop-i.invariant c.in_ok-person.ensures
