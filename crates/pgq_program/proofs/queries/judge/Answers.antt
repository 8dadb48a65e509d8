use Rattle.std.proofs.Common.{rules, ◌≡◌, ◌∙◌, sym, true}
use Rattle.pgq_program.proofs.CheckedQueries.{judged}
use Rattle.pgq_program.proofs.queries.judge.Goals as goal

pub returns : goal.returns
returns c =
    let told : c.is_served.result ≡ true = search rules in
    judged c.args.catalog.now c.args.tree.now (sym c.is_served.ensures ∙ told) c.check_query.result c.check_query.ensures.answer
