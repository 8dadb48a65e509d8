use Rattle.std.proofs.Common.{sym, subst}
use Rattle.row_eval.specs.Served.{AllServed}
use Rattle.row_eval.proofs.JoinLemmas.{still_served}
use Rattle.row_eval.proofs.joins.join_one.Goals as goal

pub returns-clause-kept : goal.returns-clause-kept
returns-clause-kept g c = λ all h.
    let T = g.R.RowSource.tables c.args.rows.now in
    subst (λ indexes. AllServed T indexes all) (sym c.in_ok-push.ensures.items) (still_served T c.args.planned.indexes.items c.in_ok-joined.joined.1 all h)
