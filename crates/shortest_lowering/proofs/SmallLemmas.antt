-- The small catalog is valid, and the small query can be lowered.
use Rattle.std.proofs.Common.{arith, ◌≡◌, ℕ, ◌<◌, true, List, [], ◌∷◌, inl, inr, map, refl, sym, ap₂, ◌∙◌, subst, length, flat_map, None, Some, ◌^◌}
use Rattle.std.specs.List.{AllByRecursion}
use Rattle.std.proofs.lemmas.Slice.Eq.{bytes_eq-Decides}
use Rattle.std.specs.Str.{bytes_eq}
use Rattle.multisets.specs.Bags.{IsIn, IsWithoutRepeats}
use Rattle.graph_ast.specs.declared.catalog.Catalog.{Catalog}
use Rattle.graph_ast.specs.declared.catalog.Table.{Table}
use Rattle.graph_ast.specs.declared.catalog.Key.{Key}
use Rattle.graph_ast.specs.declared.catalog.Element.{Element}
use Rattle.graph_ast.specs.declared.catalog.EdgeElement.{EdgeElement}
use Rattle.graph_ast.specs.Lookups.{table_at, column_at, elements_of, graph_at}
use Rattle.graph_ast.specs.Catalogs.{AreColumnsOf, IsValidTable, IsValidElement, IsValidEnd, IsValidGraph, IsValidCatalog, HaveOneClassEach}
use Rattle.expr_tree.specs.Leaves.{EachLeaf}
use Rattle.expr_tree.proofs.FormLemmas.{leaves}
use Rattle.pgq_base.specs.declared.value.Value.TheVariants.{Number}
use Rattle.graph_ast.specs.declared.checked.CheckedPath.{CheckedPath}
use Rattle.graph_ast.specs.declared.checked.CheckedQuery.{CheckedQuery}
use Rattle.graph_ast.specs.declared.checked.Output.{Output}
use Rattle.graph_ast.specs.declared.checked.Piece.{Piece}
use Rattle.graph_ast.specs.declared.blocks.Alternative.{Alternative}
use Rattle.graph_ast.specs.declared.blocks.Block.{Block}
use Rattle.graph_ast.specs.declared.blocks.PathBlock.{PathBlock}
use Rattle.graph_meaning.specs.Lists.{all_different}
use Rattle.graph_meaning.specs.Choices.{choices, expansion_of, pattern_of}
use Rattle.graph_meaning.specs.Blocks.{blocks, query_path_blocks}
use Rattle.graph_meaning.proofs.Decisions.{different_once}
use Rattle.path_lowering.specs.Blocks.{IsPlain}
use Rattle.path_lowering.specs.Layable.{IsServed}
use Rattle.path_lowering.specs.Lowered.{IsLowerable, query_pieces}
use Rattle.shortest_lowering.specs.SmallQuery.{small_catalog, small_graph, small_query, small_path, small_path_blocks, small_blocks}

each_in : {X : Type 0} (P : X → Type 0) (xs : List X) → AllByRecursion P xs → (x : X) → IsIn x xs → P x
each_in P [] all x h = absurd h
each_in P (y ∷ ys) all x (inl e) = subst P e all.0
each_in P (y ∷ ys) all x (inr h) = each_in P ys all.1 x h

pub names_differ : (names : List (List ℕ)) → all_different bytes_eq names ≡ true → IsWithoutRepeats names
names_differ names = different_once bytes_eq bytes_eq-Decides names

one_column : (table : Table) (column : ℕ) → column < length table.columns → AreColumnsOf table (column ∷ [])
one_column table column h = record { some = omega arith; places = each_in (λ c. c < length table.columns) (column ∷ []) (h, tt) }

abbrev vertices : Table
vertices = table_at small_catalog 0

abbrev edges : Table
edges = table_at small_catalog 1

vertices_valid : IsValidTable small_catalog vertices
vertices_valid = record {
  few_columns = omega arith;
  column_names = names_differ (map (λ column. column.name) vertices.columns) refl;
  keys = each_in (λ (key : Key). AreColumnsOf vertices key.columns) vertices.keys (one_column vertices 0 (omega arith), tt);
  references = λ r h. absurd h;
}

edges_valid : IsValidTable small_catalog edges
edges_valid = record {
  few_columns = omega arith;
  column_names = names_differ (map (λ column. column.name) edges.columns) refl;
  keys = each_in (λ (key : Key). AreColumnsOf edges key.columns) edges.keys (one_column edges 0 (omega arith), tt);
  references = λ r h. absurd h;
}

valid_element : (element : Element) → IsIn element (elements_of small_graph) → IsValidElement small_catalog element
valid_element =
    each_in (IsValidElement small_catalog) (elements_of small_graph) (
      record {
        table_there = omega arith;
        key = one_column vertices 0 (omega arith);
        unique = (_, inl refl, λ column. ((λ k. k), λ k. k));
        not_null = each_in (λ column. (column_at vertices column).not_null ≡ true) (0 ∷ []) (refl, tt);
        property_names = names_differ [] refl;
        property_columns = λ p h. absurd h;
      },
      (
        record {
          table_there = omega arith;
          key = one_column edges 0 (omega arith);
          unique = (_, inl refl, λ column. ((λ k. k), λ k. k));
          not_null = each_in (λ column. (column_at edges column).not_null ≡ true) (0 ∷ []) (refl, tt);
          property_names = names_differ [] refl;
          property_columns = λ p h. absurd h;
        },
        tt,
      ),
    )

without_properties : (element : Element) → IsIn element (elements_of small_graph) → element.properties ≡ []
without_properties = each_in (λ (element : Element). element.properties ≡ []) (elements_of small_graph) (refl, (refl, tt))

one_class : HaveOneClassEach small_catalog (elements_of small_graph)
one_class a b p q ha hb hp hq e = absurd (subst (λ l. IsIn p l) (without_properties a ha) hp)

graph_valid : IsValidGraph small_catalog small_graph
graph_valid = record {
  some_vertex = omega arith;
  few_vertices = omega arith;
  few_edges = omega arith;
  element_names = names_differ (map (λ element. element.name) (elements_of small_graph)) refl;
  elements = valid_element;
  sources = each_in (λ (edge : EdgeElement). IsValidEnd small_catalog small_graph edge.element edge.source) small_graph.edges
      (record { columns = one_column edges 1 (omega arith); vertex_there = omega arith; classes = refl }, tt);
  destinations = each_in (λ (edge : EdgeElement). IsValidEnd small_catalog small_graph edge.element edge.destination) small_graph.edges
      (record { columns = one_column edges 2 (omega arith); vertex_there = omega arith; classes = refl }, tt);
  property_classes = one_class;
}

small_valid : IsValidCatalog small_catalog
small_valid = record {
  few_tables = omega arith;
  few_graphs = omega arith;
  table_names = names_differ (map (λ table. table.name) small_catalog.tables) refl;
  graph_names = names_differ (map (λ graph. graph.name) small_catalog.graphs) refl;
  tables = each_in (IsValidTable small_catalog) small_catalog.tables (vertices_valid, (edges_valid, tt));
  graphs = each_in (IsValidGraph small_catalog) small_catalog.graphs (graph_valid, tt);
}

-- no variable is declared, and no condition stands in the path
nameless : (piece : Piece) → IsIn piece (query_pieces small_query) → (pattern_of piece).variable ≡ None
nameless = each_in (λ (piece : Piece). (pattern_of piece).variable ≡ None) (query_pieces small_query) (refl, (refl, (refl, tt)))

none_some : {X : Type 0} (x : X) → None ≡ Some x → ⊥
none_some x h = cc

without_conditions : (path : CheckedPath) → IsIn path small_query.paths → (choice : Alternative) → IsIn choice (choices path) → (expansion_of path choice).conditions ≡ []
without_conditions =
    each_in (λ (path : CheckedPath). (choice : Alternative) → IsIn choice (choices path) → (expansion_of path choice).conditions ≡ []) small_query.paths
    (each_in (λ (choice : Alternative). (expansion_of small_path choice).conditions ≡ []) (choices small_path) (refl, (refl, tt)), tt)

blocks_are : small_blocks ≡ blocks small_graph small_query
blocks_are = refl

path_blocks_are : small_path_blocks ∷ [] ≡ query_path_blocks small_graph small_query
path_blocks_are = refl

lowerable : IsLowerable small_graph small_query
lowerable = record {
  some = omega arith;
  kinds = λ piece other name h k e f. absurd (none_some name (sym (nameless piece h) ∙ e));
  plain = λ path h choice k scoped m. absurd (subst (λ l. IsIn scoped l) (without_conditions path h choice k) m);
  condition = λ c h. absurd (none_some c h);
  columns = each_in (λ (output : Output). EachLeaf IsPlain output.value) small_query.columns
      (subst (AllByRecursion IsPlain) (sym (leaves.literal (Number (Rattle.std.specs.Prelude.pos 1)))) tt, tt);
  few = λ block h. each_in (λ (block : Block). length (flat_map (λ part. part.elements) block.paths) < 2 ^ 32) small_blocks
      (omega arith, (omega arith, tt)) block (subst (λ (l : List Block). IsIn block l) (sym blocks_are) h);
}

small_served : IsServed small_catalog small_query
small_served = record { valid = small_valid; graph = omega arith; lowerable = lowerable }

-- so are all that equal them
module _ (catalog : Catalog) (query : CheckedQuery) (same : catalog ≡ small_catalog) (own : query ≡ small_query) where
  pub served_by : IsServed catalog query
  served_by = subst (λ (c : Catalog). IsServed c query) (sym same) (subst (λ (q : CheckedQuery). IsServed small_catalog q) (sym own) small_served)

  pub blocks_by : (all : List Block) → all ≡ small_blocks → all ≡ blocks (graph_at catalog query.graph) query
  blocks_by all is = is ∙ blocks_are ∙ sym (ap₂ (λ (c : Catalog) (q : CheckedQuery). blocks (graph_at c q.graph) q) same own)

  pub path_blocks_by : (all : List (List PathBlock)) → all ≡ small_path_blocks ∷ [] → all ≡ query_path_blocks (graph_at catalog query.graph) query
  path_blocks_by all is = is ∙ path_blocks_are ∙ sym (ap₂ (λ (c : Catalog) (q : CheckedQuery). query_path_blocks (graph_at c q.graph) q) same own)
