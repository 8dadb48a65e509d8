-- How the program ends.
use Rattle.std.specs.Prelude.{ℕ}
use Rattle.pgq_program.specs.declared.status.Status.{Status}
use Rattle.pgq_program.specs.declared.status.Status.TheVariants.{Done, Refused, Usage, ReadFault, WriteFault, NoMemory}

-- the exit status by which the program tells how the run ended
abbrev pub exit_number : Status → ℕ
exit_number Done = 0
exit_number Refused = 1
exit_number Usage = 2
exit_number ReadFault = 3
exit_number WriteFault = 4
exit_number NoMemory = 5
