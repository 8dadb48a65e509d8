use Rattle.std.proofs.Common.{◌≡◌, ◌<◌, ◌∙◌, true, length, arith, ap, sym, subst}
use Rattle.std.specs.List.{list_any}
use Rattle.row_eval.specs.Slots.{is_kept}
use Rattle.row_eval.specs.Ways.{some_at}
use Rattle.row_eval.proofs.IndexLemmas.{take_whole}
use Rattle.row_eval.proofs.WayLemmas.{ways_next, ways_whole}
use Rattle.row_eval.proofs.ways.ways_among.Goals as goal

pub loop-alternative-preserved : goal.loop-alternative-preserved
loop-alternative-preserved c = λ t within test.
    let i = c.loop-alternative.alternative-index in
    let inside : i < length c.args.alternatives.now = omega arith in
    subst (λ ways. some_at c.args.place t ways ≡ true) (sym c.in_ok-push.ensures.ok)
    (ways_next c.args.place c.args.alternatives.now i c.alternative-item.result c.loop-alternative.ways (record { tied = c.in_ok-tied.tied }) inside c.alternative-item.is
    c.loop-alternative.invariant c.in_ok-tied.ensures t within test)

pub returns : goal.returns
returns c = λ t within test.
    ways_whole c.args.place t c.loop-alternative.ways
    (c.loop-alternative.invariant t within
    (ap (list_any (is_kept t)) (take_whole c.args.alternatives.now c.loop-alternative.alternative-index (omega arith)) ∙ test))
