use Rattle.std.proofs.Common.{◌≡◌, map, flat_map}
use Rattle.std.specs.List.{range_with_len}
use Rattle.sample_run.specs.SampleRun.{rows_for}
use Rattle.sample_run.proofs.tables.edges.Given as goal

abbrev pub invariant-loop-i : goal.invariant-loop-i
invariant-loop-i l = map (λ row. row.values) l.rows ≡ flat_map (rows_for l.n) (range_with_len 1 l.i)
