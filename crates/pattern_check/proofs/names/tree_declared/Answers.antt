use Rattle.std.proofs.Common.{◌∙◌}
use Rattle.std.proofs.lemmas.Result.{IfOk-weaker}
use Rattle.pattern_check.proofs.Placing.{said_are}
use Rattle.pattern_check.proofs.names.tree_declared.Goals as goal

pub returns : goal.returns
returns c = IfOk-weaker c.all_declared.result _ _ (λ declared e. e ∙ said_are c.args.tree.now c.args.mentions.now c.requires) c.all_declared.ensures
