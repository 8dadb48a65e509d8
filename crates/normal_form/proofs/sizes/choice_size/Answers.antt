use Rattle.std.proofs.Common.{length, nat_lt, ap, ◌∙◌}
use Rattle.normal_form.proofs.PairLemmas.{no_operand}
use Rattle.normal_form.proofs.sizes.choice_size.Goals as goal

pub returns-in-None : goal.returns-in-None
returns-in-None c =
    no_operand c.args.path.now c.args.choice.now (c.in-None.ensures.lookup.0 ∙ ap (λ l. nat_lt c.args.choice.now.operand (length l)) c.as_slice.ensures)
