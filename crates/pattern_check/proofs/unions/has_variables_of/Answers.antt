use Rattle.std.proofs.Common.{◌∙◌, ◌&&◌}
use Rattle.pattern_check.specs.NameRules.{is_declared, is_group, same_truth}
use Rattle.pattern_check.proofs.unions.has_variables_of.Goals as goal

pub returns : goal.returns
returns c =
    c.all_like.ensures
    ∙ c.firsts.ensures (λ name. is_declared c.args.ys.now name && same_truth (is_group c.args.xs.now name) (is_group c.args.ys.now name))
