use Rattle.pattern_check.proofs.FaultPlaces.{stop_lies}
use Rattle.pattern_check.proofs.checking.check_query.Goals as goal

pub returns-clause-in_text : goal.returns-clause-in_text
returns-clause-in_text c = λ end h. stop_lies end c.args.catalog.now c.args.tree.now c.judge.result c.judge.ensures.answer h
