use Rattle.std.proofs.Common.{◌≡◌, map}
use Rattle.std.specs.List.{range_with_len}
use Rattle.sample_run.specs.SampleRun.{person_row}
use Rattle.sample_run.proofs.tables.persons.Given as goal

abbrev pub invariant-loop-i : goal.invariant-loop-i
invariant-loop-i l = map (λ row. row.values) l.rows ≡ map person_row (range_with_len 1 l.i)
