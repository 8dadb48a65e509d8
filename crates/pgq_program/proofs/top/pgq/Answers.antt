use Rattle.pgq_program.specs.Commands.{command_of}
use Rattle.pgq_program.proofs.ToldRuns.{done_if, line_if, complete_if, refused_if, used_if}
use Rattle.pgq_program.proofs.top.pgq.Goals as goal

pub returns-clause-done : goal.returns-clause-done
returns-clause-done g c = done_if c.decide-said.result c.tell.result c.tell.ensures.status _ _ _ _ (command_of c.args.words.now) _ c.decide-said.ensures.due c.tell.ensures.out

pub returns-clause-complete : goal.returns-clause-complete
returns-clause-complete g c =
    complete_if c.decide-said.result c.tell.result c.tell.ensures.status _ _ _ _ _ _ c.tell.ensures.fault _ _ (command_of c.args.words.now) _ c.decide-said.ensures.complete
    c.tell.ensures.out

pub returns-clause-refused : goal.returns-clause-refused
returns-clause-refused g c =
    refused_if c.decide-said.result c.tell.result c.tell.ensures.status _ _ _ _ _ _ c.tell.ensures.fault _ _ (command_of c.args.words.now) _ c.decide-said.ensures.refused
    c.tell.ensures.err

pub returns-clause-used : goal.returns-clause-used
returns-clause-used g c =
    used_if c.decide-said.result c.tell.result c.tell.ensures.status _ _ _ _ _ _ c.tell.ensures.fault (command_of c.args.words.now) _ c.decide-said.ensures.used

pub returns-clause-line : goal.returns-clause-line
returns-clause-line g c = line_if c.decide-said.result c.tell.result c.tell.ensures.status _ _ _ _ c.tell.ensures.err c.decide-said.ensures.line
