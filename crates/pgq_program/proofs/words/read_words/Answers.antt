use Rattle.pgq_program.proofs.AskedFiles.{asks_if}
use Rattle.pgq_program.proofs.words.read_words.Goals as goal

pub returns-clause-asks : goal.returns-clause-asks
returns-clause-asks c = asks_if c.args.words.now c.command_of.result c.command_of.ensures c.files_are_asked.ensures
