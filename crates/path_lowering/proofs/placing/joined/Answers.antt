use Rattle.std.proofs.Common.{◌&&◌, ap, ap₂, ◌∙◌}
use Rattle.path_lowering.specs.Placed.{aliases_of, put_into}
use Rattle.path_lowering.proofs.PlacingSteps.{from_filled, where_filled, if_ok, if_both}
use Rattle.path_lowering.proofs.PlacingLemmas.{placing_means}
use Rattle.std.specs.List.{list_all}
use Rattle.sql_algebra.specs.Tuples.{holds, all_members}
use Rattle.sql_algebra.specs.Meaning.{conjunct_holds}
use Rattle.path_lowering.proofs.placing.joined.Goals as goal

pub returns-clause-from : goal.returns-clause-from
returns-clause-from c =
    let is = c.in_ok-slots.ensures ∙ ap (λ l. put_into (aliases_of l) c.args.conditions.items 0 l) c.in_ok-open_slots.ensures in
    if_ok c.chained.result _ _ (λ made h. h ∙ from_filled c.args.sources.items c.args.conditions.items c.in_ok-slots.slots.items is) c.chained.ensures.from

pub returns-clause-conjuncts : goal.returns-clause-conjuncts
returns-clause-conjuncts c =
    let is = c.in_ok-slots.ensures ∙ ap (λ l. put_into (aliases_of l) c.args.conditions.items 0 l) c.in_ok-open_slots.ensures in
    if_ok c.chained.result _ _ (λ made h. h ∙ where_filled c.args.sources.items c.args.conditions.items c.in_ok-slots.slots.items c.requires is) c.chained.ensures.conjuncts

pub returns-clause-means : goal.returns-clause-means
returns-clause-means c =
    let is = c.in_ok-slots.ensures ∙ ap (λ l. put_into (aliases_of l) c.args.conditions.items 0 l) c.in_ok-open_slots.ensures in
    if_both c.chained.result _ _ _ (λ made f w. λ catalog instance tuple.
    ap₂ (λ x y. list_all (holds catalog tuple) (all_members x) && list_all (λ conjunct. conjunct_holds catalog instance conjunct tuple) y)
    (f ∙ from_filled c.args.sources.items c.args.conditions.items c.in_ok-slots.slots.items is)
    (w ∙ where_filled c.args.sources.items c.args.conditions.items c.in_ok-slots.slots.items c.requires is)
    ∙ placing_means catalog instance tuple c.args.sources.items c.args.conditions.items c.requires) c.chained.ensures.from c.chained.ensures.conjuncts
