use Rattle.std.proofs.Common.{◌&&◌, ◌∙◌, ◌++◌, ◌∷◌, [], refl, ap, subst}
use Rattle.pgq_base.specs.Instances.{rows_at}
use Rattle.row_eval.specs.Served.{IsIndexOf}
use Rattle.row_eval.specs.Access.{ways_agree}
use Rattle.row_eval.specs.Ties.{ties_hold}
use Rattle.row_eval.proofs.JoinLemmas.{joined_found, joined_visits, joined_served}
use Rattle.row_eval.proofs.joins.join_table.Goals as goal

pub returns-clause-found : goal.returns-clause-found
returns-clause-found g c = λ s long.
    joined_found (g.R.RowSource.tables c.args.rows.now) c.in_ok-stages.stages c.in_ok-kept.kept c.args.rest c.in_ok-access.access c.args.tests
    c.in_ok-left.left c.args.ways.now c.args.table c.args.place s
    c.in_ok-stages.ensures c.in_ok-kept.ensures c.in_ok-left.ensures c.in_ok-access.ensures.table
    (λ row. c.in_ok-access.ensures.matches s row long ∙ ap (λ tests. ties_hold c.args.place s row tests && ways_agree s row c.args.ways.now) c.as_slice.ensures)

pub returns-clause-served : goal.returns-clause-served
returns-clause-served g c = λ indexes number others.
    joined_served (g.R.RowSource.tables c.args.rows.now) c.in_ok-stages.stages c.in_ok-kept.kept c.args.rest c.in_ok-access.access c.in_ok-left.left c.args.table indexes
    (indexes ++ c.in_ok-index.index ∷ []) c.in_ok-index.index
    c.in_ok-stages.ensures c.in_ok-kept.ensures c.in_ok-access.ensures.table (c.in_ok-access.ensures.index ∙ number) c.requires refl
    (subst (λ keys. IsIndexOf keys (rows_at (g.R.RowSource.tables c.args.rows.now) c.args.table) c.in_ok-index.index) c.as_slice-2.ensures c.in_ok-index.ensures.index) others

pub returns-clause-visits : goal.returns-clause-visits
returns-clause-visits g c = λ s long.
    joined_visits (g.R.RowSource.tables c.args.rows.now) c.in_ok-stages.stages c.in_ok-kept.kept c.args.rest c.in_ok-access.access c.args.tests
    c.in_ok-left.left c.args.ways.now c.args.table c.args.place s
    c.in_ok-stages.ensures c.in_ok-kept.ensures c.in_ok-left.ensures c.in_ok-access.ensures.table long
    (λ row. c.in_ok-access.ensures.matches s row long ∙ ap (λ tests. ties_hold c.args.place s row tests && ways_agree s row c.args.ways.now) c.as_slice.ensures)
