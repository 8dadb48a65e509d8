use Rattle.sample_run.specs.SampleRun.{rows_for}
use Rattle.sample_run.proofs.RowsMade.{some_more}
use Rattle.sample_run.proofs.tables.edges.Goals as goal

pub loop-i-preserved : goal.loop-i-preserved
loop-i-preserved c = some_more (rows_for c.args.n) c.loop-i.rows c.push_edges.new.rows c.loop-i.i c.loop-i.invariant c.in_ok-push_edges.ensures
