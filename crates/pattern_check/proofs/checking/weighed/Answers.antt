use Rattle.std.proofs.Common.{rules, ◌≡◌, None, nat_lt}
use Rattle.graph_meaning.specs.Weights.{weight}
use Rattle.pattern_check.specs.Checked.{with_weight}
use Rattle.pattern_check.proofs.Judging.{heavy}
use Rattle.pattern_check.proofs.checking.weighed.Goals as goal

pub returns-in-None : goal.returns-in-None
returns-in-None c =
    let own = weight c.args.catalog.now c.args.query in
    let none : c.in_ok-weight.field-0 ≡ None = search rules in
    heavy (nat_lt 1000000 own) own c.args.tree.now.match_span (with_weight own c.args.query) c.in_ok-weight.field-0 c.refused.result c.in_ok-weight.ensures none c.refused.ensures
