use Rattle.std.proofs.Common.{◌∙◌, subst, map}
use Rattle.multisets.specs.Bags.{IsIn}
use Rattle.path_lowering.proofs.ConditionLemmas.{tagged_in}
use Rattle.path_lowering.proofs.Facts.{in_map}
use Rattle.path_lowering.proofs.MemberSteps.{item_in}
use Rattle.path_lowering.proofs.sharing.sharing_conditions.Goals as goal

pub same_keys-requires-clause-keys : goal.same_keys-requires-clause-keys
same_keys-requires-clause-keys c = λ spot h.
    let is = c.as_slice.ensures.value ∙ c.in_ok-spots.ensures in
    c.requires.keys spot (tagged_in _ (map (λ p. p.tags.now) c.args.places.now) (map (λ p. p.spot) c.args.places.now) spot (subst (IsIn spot) is h))

pub same_keys-requires-clause-alike : goal.same_keys-requires-clause-alike
same_keys-requires-clause-alike c = λ a b h k.
    let is = c.as_slice.ensures.value ∙ c.in_ok-spots.ensures in
    c.requires.alike _ a b (in_map (λ n. n.now) c.name-item.result c.args.names.now
    (item_in c.args.names.now c.loop-name.name-index c.name-item.result c.name-item.is c.loop-name-test.true)) (subst (IsIn a) is h) (subst (IsIn b) is k)
