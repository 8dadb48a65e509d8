use Rattle.pgq_program.specs.Commands.{command_of}
use Rattle.pgq_program.proofs.Given.{written_if, told_if, used_if, owed_if}
use Rattle.pgq_program.proofs.PlacedFiles.{line_if}
use Rattle.pgq_program.proofs.top.decide.Goals as goal

pub returns-clause-complete : goal.returns-clause-complete
returns-clause-complete g c = written_if (command_of c.args.words.now) _ _ c.answer_of.result c.answer_of.ensures.cause _ c.answer_of.ensures.due

pub returns-clause-refused : goal.returns-clause-refused
returns-clause-refused g c = told_if (command_of c.args.words.now) _ _ c.answer_of.result c.answer_of.ensures.cause _ c.answer_of.ensures.due

pub returns-clause-told : goal.returns-clause-told
returns-clause-told g c = line_if (command_of c.args.words.now) _ c.answer_of.result c.answer_of.ensures.due

pub returns-clause-used : goal.returns-clause-used
returns-clause-used g c = used_if (command_of c.args.words.now) _ _ c.answer_of.result c.answer_of.ensures.cause _ c.answer_of.ensures.due

pub returns-clause-owed : goal.returns-clause-owed
returns-clause-owed g c = owed_if (command_of c.args.words.now) _ c.answer_of.result c.answer_of.ensures.due
