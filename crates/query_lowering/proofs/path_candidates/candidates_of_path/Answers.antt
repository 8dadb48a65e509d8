use Rattle.std.proofs.Common.{◌≡◌, List, map, ap, ap₂, subst, sym, ◌∙◌}
use Rattle.multisets.specs.Bags.{IsIn}
use Rattle.graph_ast.specs.declared.catalog.Graph.{Graph}
use Rattle.graph_ast.specs.declared.checked.CheckedPath.{CheckedPath}
use Rattle.graph_ast.specs.declared.blocks.PathBlock.{PathBlock}
use Rattle.graph_ast.specs.Lookups.{graph_at}
use Rattle.graph_meaning.specs.Weights.{path_at}
use Rattle.path_lowering.proofs.PlacingSteps.{if_ok}
use Rattle.shortest_lowering.specs.PathCandidates.{IsByItself, path_candidate}
use Rattle.query_lowering.proofs.Numbered.{graph_is_there}
use Rattle.query_lowering.proofs.PathOf.{is_numbered, stands_alone}
use Rattle.query_lowering.proofs.path_candidates.candidates_of_path.Goals as goal

pub graph_of-graph-requires : goal.graph_of-graph-requires
graph_of-graph-requires c = graph_is_there c.args.catalog.now c.args.query.now c.requires.translatable

pub path_blocks-requires : goal.path_blocks-requires
path_blocks-requires c = is_numbered c.args.catalog.now c.args.query.now c.requires.translatable c.args.path c.requires.there

pub candidates_along-requires : goal.candidates_along-requires
candidates_along-requires c = λ part h.
    let catalog = c.args.catalog.now in
    let query = c.args.query.now in
    subst (λ (graph : Graph). IsByItself catalog graph c.path_of-own.result.now part) (sym c.graph_of-graph.ensures)
    (subst (λ (path : CheckedPath). IsByItself catalog (graph_at catalog query.graph) path part) (sym c.path_of-own.ensures)
    (stands_alone catalog query c.requires.translatable c.args.path c.requires.there part
    (subst (λ (l : List PathBlock). IsIn part l) (c.as_slice.ensures ∙ c.in_ok-blocks.ensures) h)
    (c.empty_tables_fit.ensures catalog)))

pub returns : goal.returns
returns c =
    let catalog = c.args.catalog.now in
    let query = c.args.query.now in
    if_ok c.candidates_along.result _ _
    (λ all is. is
    ∙ ap₂ (λ (graph : Graph) (path : CheckedPath). map (path_candidate catalog graph path) c.as_slice.result.now) c.graph_of-graph.ensures c.path_of-own.ensures
    ∙ ap (map (path_candidate catalog (graph_at catalog query.graph) (path_at query c.args.path))) (c.as_slice.ensures ∙ c.in_ok-blocks.ensures))
    c.candidates_along.ensures
