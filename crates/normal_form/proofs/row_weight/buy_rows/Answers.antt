use Rattle.std.proofs.Common.{ℕ, List, map, Bor}
use Rattle.pgq_base.specs.declared.name.Name.{Name}
use Rattle.normal_form.specs.Rows.{seen}
use Rattle.normal_form.proofs.WeightLemmas.{bought}
use Rattle.normal_form.proofs.row_weight.buy_rows.Goals as goal

abbrev named : Bor Name → List ℕ
named n = n.now

pub returns-then-answer-gt0 : goal.returns-then-answer-gt0
returns-then-answer-gt0 c =
    bought (map named c.args.names.now) (map (map seen) c.args.lists.now) c.args.answer c.args.amount c.in_ok-all.all c.if-answer-gt0.true c.in_ok-all.ensures
