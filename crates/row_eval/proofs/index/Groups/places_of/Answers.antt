use Rattle.std.proofs.Common.{sym, ap, ◌∙◌}
use Rattle.row_eval.specs.Slots.{lent_rows}
use Rattle.row_eval.specs.Served.{row_code, stack_code, shares_code}
use Rattle.row_eval.proofs.IndexLemmas.{places_none}
use Rattle.row_eval.proofs.index.Groups.places_of.Goals as goal

pub returns-in-None : goal.returns-in-None
returns-in-None c =
    let tied = c.args.tied.now in
    sym (places_none (λ row. shares_code (stack_code tied (lent_rows c.args.stack.now)) (row_code tied row))
    (λ row. ap (λ o. shares_code o (row_code tied row)) (sym c.code_of_stack.ensures ∙ c.in-None.is)) 0 (lent_rows c.args.lent.now))
