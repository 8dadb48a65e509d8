use Rattle.std.proofs.Common.{◌≡◌, Bool, Decides, IsTrue, sym, subst}
use Rattle.pgq_base.proofs.ValueOrder.{same_value_decides}
use Rattle.pgq_base.proofs.value.Value.same.Goals as goal

pub returns-clause-equal : goal.returns-clause-equal
returns-clause-equal c =
    subst (λ (b : Bool). Decides b (c.args.self.now ≡ c.args.other.now)) (sym c.are_same.ensures) (same_value_decides c.args.self.now c.args.other.now)
