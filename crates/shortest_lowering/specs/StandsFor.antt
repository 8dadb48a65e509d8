-- Which graph binding a tuple of a block's SELECT stands for, by the plan of the SELECT (this project's own).
use Rattle.std.specs.Prelude.{◌≡◌, ℕ, ◌<◌, List, [], map, length, slice_index_or, None}
use Rattle.pgq_base.specs.Instances.{RowValues, InstanceRows}
use Rattle.multisets.specs.Bags.{IsIn, IsWithoutRepeats}
use Rattle.graph_ast.specs.declared.catalog.Catalog.{Catalog}
use Rattle.graph_ast.specs.declared.catalog.Graph.{Graph}
use Rattle.graph_ast.specs.declared.checked.CheckedPath.{CheckedPath}
use Rattle.graph_ast.specs.declared.checked.CheckedQuery.{CheckedQuery}
use Rattle.graph_ast.specs.declared.blocks.PathBlock.{PathBlock}
use Rattle.graph_ast.specs.declared.blocks.Block.{Block}
use Rattle.graph_ast.specs.Lookups.{table_at, graph_at}
use Rattle.graph_meaning.specs.Bindings.{Binding, bindings_in_mode}
use Rattle.graph_meaning.specs.Answers.{GraphBinding, graph_bindings}
use Rattle.graph_meaning.specs.Laws.{LiesIn, LieIn}
use Rattle.graph_meaning.specs.Lists.{numbers_below}
use Rattle.graph_meaning.specs.Rows.{rows_along}
use Rattle.sql_algebra.specs.declared.tree.FromItem.{FromItem}
use Rattle.sql_algebra.specs.declared.tree.Select.{Select}
use Rattle.sql_algebra.specs.Tuples.{Tuple}
use Rattle.path_lowering.specs.declared.plans.SelectPlan.{SelectPlan}
use Rattle.path_lowering.specs.Spots.{element_at}
use Rattle.shortest_lowering.specs.Comparable.{candidate_spots}
use Rattle.shortest_lowering.specs.NoShorter.{true_tuples}

-- there is one of which the fact holds, and no other
pub record IsOfOne {X : Type 0} (P : X → Type 0) : Type 0 where
  pub one : X
  pub is : P one
  pub only : (other : X) → P other → other ≡ one

-- each member of a list stands for one thing of a kind, and for each of these stands one member, once
pub record AreOneToOne {A B : Type 0} (xs : List A) (P : B → Type 0) (Stands : A → B → Type 0) : Type 0 where
  pub each : (x : A) → IsIn x xs → IsOfOne (λ y. P y × Stands x y)
  pub all : (y : B) → P y → IsOfOne (λ x. IsIn x xs × Stands x y)
  pub once : IsWithoutRepeats xs

-- ---- the items of a plan

abbrev pub no_item : FromItem
no_item = record { table = []; alias = []; on = None }

abbrev pub table_of_item : Select → ℕ → List ℕ
table_of_item select item = (slice_index_or select.from item no_item).table

-- the tables of the elements at the places of a path block
abbrev pub tables_along : Catalog → Graph → PathBlock → List (List ℕ)
tables_along catalog graph part = map (λ spot. (table_at catalog (element_at graph spot).table).name) (candidate_spots part)

-- for each path and place of a block the plan has an item of the SELECT, over the table of the element there
pub record HasItems (catalog : Catalog) (graph : Graph) (block : Block) (plan : SelectPlan) (select : Select) : Type 0 where
  pub there : (items : List ℕ) (item : ℕ) → IsIn items plan.items → IsIn item items → item < length select.from
  pub tables : map (map (table_of_item select)) plan.items ≡ map (tables_along catalog graph) block.paths

-- ---- standing for

abbrev pub row_of_item : Tuple → ℕ → RowValues
row_of_item tuple item = slice_index_or (map (λ bound. bound.row) tuple) item []

-- the rows of the plan's items, path by path
abbrev pub rows_by : SelectPlan → Tuple → List (List RowValues)
rows_by plan tuple = map (map (row_of_item tuple)) plan.items

-- a tuple stands for a graph binding where at each place the row of the plan's item is the row of the element there
abbrev pub StandsFor : Graph → InstanceRows → SelectPlan → Tuple → GraphBinding → Type 0
StandsFor graph instance plan tuple binding = map (λ part. rows_along graph instance part.walk) binding ≡ rows_by plan tuple

-- a graph binding that lies in a block
pub record IsBindingOf (graph : Graph) (instance : InstanceRows) (query : CheckedQuery) (block : Block) (binding : GraphBinding) : Type 0 where
  pub there : IsIn binding (graph_bindings graph instance query [])
  pub lies : LieIn binding block

-- The tuples of a SELECT of which every condition is True stand each for one graph binding of the block, and each such binding has exactly one
-- such tuple.
abbrev pub StandForBindings : Catalog → InstanceRows → CheckedQuery → Block → SelectPlan → Select → Type 0
StandForBindings catalog instance query block plan select =
    let graph = graph_at catalog query.graph in
    AreOneToOne (true_tuples catalog instance select) (IsBindingOf graph instance query block) (StandsFor graph instance plan)

-- ---- the tuples of a candidate

-- a binding of a path that its mode keeps, and that lies in a path block
pub record IsPairOf (graph : Graph) (instance : InstanceRows) (path : CheckedPath) (part : PathBlock) (binding : Binding) : Type 0 where
  pub there : IsIn binding (bindings_in_mode graph instance path)
  pub lies : LiesIn binding part

-- a tuple stands for a binding where the row of each place's item is the row of the element there
abbrev pub StandsForPair : Graph → InstanceRows → PathBlock → Tuple → Binding → Type 0
StandsForPair graph instance part tuple binding = rows_along graph instance binding.walk ≡ map (row_of_item tuple) (numbers_below (length part.elements))

abbrev pub StandForPairs : Catalog → InstanceRows → Graph → CheckedPath → PathBlock → Select → Type 0
StandForPairs catalog instance graph path part select = AreOneToOne (true_tuples catalog instance select) (IsPairOf graph instance path part) (StandsForPair graph instance part)
