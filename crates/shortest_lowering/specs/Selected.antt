-- The SQL query of a graph query, selectors included: a SELECT for each graph block, in their order, in which for each path under ALL SHORTEST
-- no shorter candidate has rows between its ends (this project's own).
use Rattle.std.specs.Prelude.{List, [], map, cond, flat_map}
use Rattle.graph_ast.specs.declared.catalog.Catalog.{Catalog}
use Rattle.graph_ast.specs.declared.catalog.Graph.{Graph}
use Rattle.graph_ast.specs.declared.checked.CheckedQuery.{CheckedQuery}
use Rattle.graph_ast.specs.declared.blocks.Block.{Block}
use Rattle.graph_ast.specs.Lookups.{graph_at}
use Rattle.graph_meaning.specs.Answers.{query_singletons}
use Rattle.graph_meaning.specs.Blocks.{blocks}
use Rattle.sql_algebra.specs.declared.tree.SqlQuery.{SqlQuery}
use Rattle.sql_algebra.specs.declared.tree.Select.{Select}
use Rattle.sql_algebra.specs.declared.tree.Conjunct.{Conjunct}
use Rattle.path_lowering.specs.Blocks.{Laid}
use Rattle.path_lowering.specs.Selects.{select_besides}
use Rattle.path_lowering.specs.Shortest.{none_shorter}
use Rattle.path_lowering.specs.Lowered.{Combining, laid_block, select_of_none, or_none}

module _ (catalog : Catalog) (graph : Graph) (combined : Combining) where
  -- under ALL SHORTEST no candidate of the path has rows between the ends of its places
  abbrev pub shorter_of : Laid → List Conjunct
  shorter_of laid = cond laid.path.all_shortest (none_shorter catalog graph combined laid.path laid.part laid.spots) []

  abbrev pub selected_block : CheckedQuery → Block → Select
  selected_block query block =
      let parts = laid_block catalog graph 65 combined query block in
      select_besides catalog graph 65 (query_singletons query) parts query.condition query.columns [] (flat_map shorter_of parts)

abbrev pub selected_query : Catalog → Combining → CheckedQuery → SqlQuery
selected_query catalog combined query =
    let graph = graph_at catalog query.graph in
    record { selects = or_none (select_of_none catalog graph 65 query.columns) (map (selected_block catalog graph combined query) (blocks graph query)) }
