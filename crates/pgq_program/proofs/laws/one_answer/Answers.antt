use Rattle.pgq_program.specs.Commands.{command_of}
use Rattle.pgq_program.proofs.OneDue.{single_owes}
use Rattle.pgq_program.proofs.laws.one_answer.Goals as goal

pub returns : goal.returns
returns c = λ words files. single_owes (command_of words) files
