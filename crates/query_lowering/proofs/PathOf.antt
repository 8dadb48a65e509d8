-- A path of a query that is to be written as SQL: it can be numbered, and its path blocks can be laid by themselves.
use Rattle.std.proofs.Common.{ℕ, ◌+◌, ◌*◌, ◌<◌, ◌≤◌, ◌^◌, [], false, length, arith}
use Rattle.std.specs.List.{All}
use Rattle.multisets.specs.Bags.{IsIn}
use Rattle.graph_ast.specs.declared.catalog.Catalog.{Catalog}
use Rattle.graph_ast.specs.declared.checked.CheckedPath.{CheckedPath}
use Rattle.graph_ast.specs.declared.checked.CheckedQuery.{CheckedQuery}
use Rattle.graph_ast.specs.declared.blocks.PathBlock.{PathBlock}
use Rattle.graph_ast.specs.declared.query.Mode.TheVariants.{Walk}
use Rattle.graph_ast.specs.Fits.{Fits, without_rows}
use Rattle.graph_ast.specs.Lookups.{graph_at}
use Rattle.graph_meaning.specs.Blocks.{path_blocks}
use Rattle.graph_meaning.specs.Weights.{path_at}
use Rattle.graph_meaning.proofs.Members.{in_at}
use Rattle.normal_form.specs.Checked.{IsNumbered}
use Rattle.pattern_check.specs.Lowerable.{IsShortPath}
use Rattle.pattern_check.proofs.LowerablePaths.{few_operands}
use Rattle.shortest_lowering.specs.PathCandidates.{IsByItself}
use Rattle.shortest_lowering.proofs.ComparableLemmas.{by_itself}
use Rattle.query_lowering.specs.Translatable.{IsTranslatable}
use Rattle.query_lowering.proofs.Conditions.{of_member}
use Rattle.query_lowering.proofs.Numbered.{graph_is_there, graph_is_valid, fits_number}
use Rattle.query_lowering.proofs.Served.{served}
use Rattle.query_lowering.proofs.Short.{part_short}

-- 129 places are few
few_places : (n most : ℕ) → n ≤ 2 * most + 1 → most ≤ 64 → n < 2 ^ 32
few_places n most h small = omega (arith, h, small)

module _ (catalog : Catalog) (query : CheckedQuery) (ok : IsTranslatable catalog query) (place : ℕ) (there : place < length query.paths) where
  pub path_there : IsIn (path_at query place) query.paths
  path_there = in_at query.paths place (record { mode = Walk; all_shortest = false; operands = [] }) there

  short : IsShortPath (path_at query place)
  short = of_member IsShortPath query.paths ok.lowerable.paths (path_at query place) path_there

  pub is_numbered : IsNumbered catalog query place
  is_numbered =
      let graph = graph_is_valid catalog query ok in record {
        graph = graph_is_there catalog query ok;
        vertices = graph.few_vertices;
        edges = graph.few_edges;
        there = there;
        operands = fits_number (length (path_at query place).operands) 4096 (few_operands (path_at query place) short) (omega arith);
      }

  module _ (part : PathBlock) (part_in : IsIn part (path_blocks (graph_at catalog query.graph) place (path_at query place))) where
    pub few_elements : length part.elements < 2 ^ 32
    few_elements =
        few_places (length part.elements) _ (part_short (graph_at catalog query.graph) (path_at query place) place part part_in) short.short

    pub stands_alone : Fits catalog (without_rows catalog) → IsByItself catalog (graph_at catalog query.graph) (path_at query place) part
    stands_alone fits = by_itself catalog query (served catalog query ok) fits (path_at query place) path_there place part part_in few_elements
