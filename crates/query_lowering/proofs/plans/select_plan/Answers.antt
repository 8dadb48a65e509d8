use Rattle.std.proofs.Common.{◌≡◌}
use Rattle.graph_ast.specs.Fits.{without_rows}
use Rattle.graph_ast.specs.Lookups.{graph_at}
use Rattle.graph_meaning.specs.Blocks.{blocks}
use Rattle.path_lowering.specs.Apart.{apart}
use Rattle.path_lowering.specs.Planning.{plan_of_block}
use Rattle.path_lowering.proofs.ApartLemmas.{apart_combines}
use Rattle.path_lowering.proofs.PlacingSteps.{if_ok}
use Rattle.shortest_lowering.specs.Selected.{selected_block}
use Rattle.shortest_lowering.specs.StandsFor.{HasItems, StandForBindings}
use Rattle.shortest_lowering.proofs.ComparableLemmas.{fitting}
use Rattle.query_lowering.proofs.Numbered.{are_numbered}
use Rattle.query_lowering.proofs.Served.{lowerable, served}
use Rattle.query_lowering.proofs.Zipped.{zip_made}
use Rattle.query_lowering.proofs.plans.select_plan.Goals as goal

pub blocks-requires : goal.blocks-requires
blocks-requires c = are_numbered c.args.catalog.now c.args.query.now c.requires

pub plan_blocks-requires-clause-served : goal.plan_blocks-requires-clause-served
plan_blocks-requires-clause-served c = served c.args.catalog.now c.args.query.now c.requires

pub returns-clause-items : goal.returns-clause-items
returns-clause-items c =
    let catalog = c.args.catalog.now in
    let query = c.args.query.now in
    let graph = graph_at catalog query.graph in
    if_ok c.plan_blocks.result _ _
    (λ plans is. zip_made (λ block plan. HasItems catalog graph block plan (selected_block catalog graph apart query block)) (plan_of_block query) (blocks graph query) plans is
    (λ block h. c.plans_law.ensures.items catalog query (without_rows catalog)
    (fitting catalog query (served catalog query c.requires) (without_rows catalog) (c.empty_tables_fit.ensures catalog))
    (lowerable catalog query c.requires) apart apart_combines block h))
    c.plan_blocks.ensures

pub returns-clause-stand : goal.returns-clause-stand
returns-clause-stand c =
    let catalog = c.args.catalog.now in
    let query = c.args.query.now in
    let graph = graph_at catalog query.graph in
    if_ok c.plan_blocks.result _ _
    (λ plans is instance fits. zip_made (λ block plan. StandForBindings catalog instance query block plan (selected_block catalog graph apart query block)) (plan_of_block query)
    (blocks graph query) plans is
    (λ block h. c.plans_law.ensures.stand catalog query instance (fitting catalog query (served catalog query c.requires) instance fits) (lowerable catalog query c.requires)
    apart apart_combines block h))
    c.plan_blocks.ensures
