use Rattle.std.proofs.Common.{[], sym, subst}
use Rattle.multisets.specs.Bags.{IsSameMultiset}
use Rattle.graph_meaning.specs.Answers.{answer}
use Rattle.sql_algebra.specs.declared.tree.SqlQuery.{SqlQuery}
use Rattle.sql_algebra.specs.Meaning.{bag}
use Rattle.path_lowering.specs.Apart.{apart}
use Rattle.path_lowering.proofs.ApartLemmas.{apart_combines}
use Rattle.path_lowering.proofs.PlacingSteps.{if_ok}
use Rattle.shortest_lowering.proofs.ComparableLemmas.{fitting}
use Rattle.shortest_lowering.proofs.lower.lower_selected.Goals as goal

pub returns-clause-means : goal.returns-clause-means
returns-clause-means c =
    if_ok c.selected_of.result _ _
    (λ sql is. λ instance fits.
    subst (λ (q : SqlQuery). IsSameMultiset (answer c.args.catalog.now c.args.query.now [] [] instance) (bag c.args.catalog.now q instance)) (sym is)
    (c.selected_law.ensures.answer c.args.catalog.now c.args.query.now instance
    (fitting c.args.catalog.now c.args.query.now c.requires.served instance fits) c.requires.served.lowerable apart apart_combines))
    c.selected_of.ensures
