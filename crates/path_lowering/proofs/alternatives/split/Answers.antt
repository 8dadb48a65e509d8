use Rattle.std.proofs.Common.{◌≡◌, IfOk, map, ap, subst, Vec, Global}
use Rattle.path_lowering.specs.Emitted.{SqlCondition}
use Rattle.path_lowering.proofs.ApartLemmas.{split_is}
use Rattle.path_lowering.proofs.alternatives.split.Goals as goal

pub returns : goal.returns
returns c =
    subst (λ x. IfOk c.shared_outside.result (λ made. made.items ≡ x))
    (split_is c.args.first.items c.in_ok-common.field-0.common.items c.in_ok-common.field-0.rest.items c.as_slice-2.result.now
    (map (λ (a : Vec SqlCondition Global). a.items) c.args.others.items) (map (λ (a : Vec SqlCondition Global). a.items) c.as_slice.result.now)
    (map (λ (a : Vec SqlCondition Global). a.items) c.in_ok-rests.rests.items)
    (ap (map (λ (a : Vec SqlCondition Global). a.items)) c.as_slice.ensures.value)
    c.in_ok-common.ensures.common c.in_ok-common.ensures.rest c.as_slice-2.ensures.value c.in_ok-rests.ensures) c.shared_outside.ensures
