use Rattle.std.proofs.Common.{◌≡◌, IfOk, map, sym, subst, Vec, Global, arith}
use Rattle.std.proofs.Math.ListN.{length-map}
use Rattle.path_lowering.specs.Emitted.{SqlCondition}
use Rattle.path_lowering.proofs.ApartLemmas.{apart_alone, apart_several}
use Rattle.path_lowering.proofs.alternatives.combined.Goals as goal

pub returns-then-len-eq0 : goal.returns-then-len-eq0
returns-then-len-eq0 c =
    sym (apart_alone c.args.first.items (map (λ (a : Vec SqlCondition Global). a.items) c.args.others.items)
    (let n = length-map c.args.others.items (λ (a : Vec SqlCondition Global). a.items) in omega (arith, n)))

pub returns : goal.returns
returns c =
    subst (λ x. IfOk c.split.result (λ made. made.items ≡ x))
    (apart_several c.args.first.items (map (λ (a : Vec SqlCondition Global). a.items) c.args.others.items)
    (let n = length-map c.args.others.items (λ (a : Vec SqlCondition Global). a.items) in omega (arith, n))) c.split.ensures
