-- The graph of a query that is to be written as SQL is there, and its elements, the paths and their operands can be numbered.
use Rattle.std.proofs.Common.{ℕ, ◌≤◌, ◌<◌, ◌^◌, List, [], ◌∷◌, length, arith}
use Rattle.std.specs.List.{All, AllByRecursion}
use Rattle.std.proofs.lemmas.List.Elements.{All-nil, All-cons}
use Rattle.graph_ast.specs.declared.catalog.Catalog.{Catalog}
use Rattle.graph_ast.specs.declared.checked.CheckedPath.{CheckedPath}
use Rattle.graph_ast.specs.declared.checked.CheckedQuery.{CheckedQuery}
use Rattle.graph_ast.specs.Catalogs.{IsValidGraph}
use Rattle.graph_ast.specs.Lookups.{graph_at}
use Rattle.graph_meaning.proofs.Members.{in_at}
use Rattle.normal_form.specs.Checked.{AreNumbered}
use Rattle.pattern_check.specs.Lowerable.{IsShortPath}
use Rattle.pattern_check.proofs.LowerablePaths.{few_operands}
use Rattle.query_lowering.specs.Translatable.{IsTranslatable}

-- 8 paths, and 4,096 operands, are few
pub fits_number : (n most : ℕ) → n ≤ most → most ≤ 4096 → n < 2 ^ 32
fits_number n most h small = omega (arith, h, small)

all_few : (paths : List CheckedPath) → AllByRecursion IsShortPath paths → All (λ (path : CheckedPath). length path.operands < 2 ^ 32) paths
all_few [] short = All-nil (λ (path : CheckedPath). length path.operands < 2 ^ 32)
all_few (path ∷ paths) short =
    All-cons (λ (path : CheckedPath). length path.operands < 2 ^ 32) path paths (fits_number (length path.operands) 4096 (few_operands path short.0) (omega arith))
    (all_few paths short.1)

pub graph_is_there : (catalog : Catalog) (query : CheckedQuery) → IsTranslatable catalog query → query.graph < length catalog.graphs
graph_is_there catalog query ok = ok.lowerable.graph

pub graph_is_valid : (catalog : Catalog) (query : CheckedQuery) → IsTranslatable catalog query → IsValidGraph catalog (graph_at catalog query.graph)
graph_is_valid catalog query ok =
    ok.valid.graphs (graph_at catalog query.graph) (in_at catalog.graphs query.graph (record { name = []; vertices = []; edges = [] }) (graph_is_there catalog query ok))

pub are_numbered : (catalog : Catalog) (query : CheckedQuery) → IsTranslatable catalog query → AreNumbered catalog query
are_numbered catalog query ok =
    let graph = graph_is_valid catalog query ok in record {
      graph = graph_is_there catalog query ok;
      vertices = graph.few_vertices;
      edges = graph.few_edges;
      paths = fits_number (length query.paths) 8 ok.lowerable.few_paths (omega arith);
      operands = all_few query.paths ok.lowerable.paths;
    }
