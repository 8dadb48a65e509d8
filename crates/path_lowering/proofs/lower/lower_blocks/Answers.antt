use Rattle.std.proofs.Common.{◌≡◌, [], IfOk, sym, subst}
use Rattle.multisets.specs.Bags.{IsSameMultiset}
use Rattle.graph_meaning.specs.Answers.{answer}
use Rattle.sql_algebra.specs.declared.tree.SqlQuery.{SqlQuery}
use Rattle.sql_algebra.specs.Meaning.{bag}
use Rattle.path_lowering.proofs.PlacingSteps.{if_ok}
use Rattle.path_lowering.proofs.ServedLemmas.{served_means}
use Rattle.path_lowering.proofs.lower.lower_blocks.Goals as goal

pub returns-clause-means : goal.returns-clause-means
returns-clause-means c =
    if_ok c.lowered_of.result _ _
    (λ sql is. λ unselected instance fits.
    subst (λ (q : SqlQuery). IsSameMultiset (answer c.args.catalog.now c.args.query.now [] [] instance) (bag c.args.catalog.now q instance)) (sym is)
    (served_means c.args.catalog.now c.args.query.now c.requires.served (c.empty_tables_fit.ensures c.args.catalog.now) unselected instance fits)) c.lowered_of.ensures
