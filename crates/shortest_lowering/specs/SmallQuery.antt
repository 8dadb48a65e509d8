-- A catalog of one graph over two tables, and a query of the shortest paths of one edge at most in it, with its graph blocks.
use Rattle.std.specs.Prelude.{ℕ, true, pos, List, [], ◌∷◌, codes, None}
use Rattle.pgq_base.specs.declared.value.Value.TheVariants.{Number}
use Rattle.expr_tree.specs.declared.tree.Expr.TheVariants.{Lit}
use Rattle.graph_ast.specs.declared.catalog.Catalog.{Catalog}
use Rattle.graph_ast.specs.declared.catalog.Table.{Table}
use Rattle.graph_ast.specs.declared.catalog.Column.{Column}
use Rattle.graph_ast.specs.declared.catalog.ColumnType.TheVariants.{Integer}
use Rattle.graph_ast.specs.declared.catalog.Graph.{Graph}
use Rattle.graph_ast.specs.declared.catalog.Element.{Element}
use Rattle.graph_ast.specs.declared.catalog.EdgeElement.{EdgeElement}
use Rattle.graph_ast.specs.declared.query.Direction.TheVariants.{Right}
use Rattle.graph_ast.specs.declared.query.Mode.TheVariants.{Walk}
use Rattle.graph_ast.specs.declared.checked.CheckedQuery.{CheckedQuery}
use Rattle.graph_ast.specs.declared.checked.CheckedPath.{CheckedPath}
use Rattle.graph_ast.specs.declared.checked.Output.{Output}
use Rattle.graph_ast.specs.declared.checked.Step.{Step}
use Rattle.graph_ast.specs.declared.checked.Step.TheVariants.{One, Part}
use Rattle.graph_ast.specs.declared.checked.Piece.TheVariants.{Vertex, Edge}
use Rattle.graph_ast.specs.declared.checked.Pattern.{Pattern}
use Rattle.graph_ast.specs.declared.blocks.Tags.{Tags}
use Rattle.graph_ast.specs.declared.blocks.Alternative.{Alternative}
use Rattle.graph_ast.specs.declared.blocks.PathBlock.{PathBlock}
use Rattle.graph_ast.specs.declared.blocks.Block.{Block}

abbrev pub column : List ℕ → Column
column name = record { name = name; kind = Integer; not_null = true }

-- the key of each table is its first column
abbrev pub table : List ℕ → List Column → Table
table name columns = record { name = name; columns = columns; keys = record { columns = 0 ∷ []; primary = true } ∷ []; references = [] }

abbrev pub element : List ℕ → ℕ → Element
element name place = record { name = name; table = place; key = 0 ∷ []; labels = []; properties = [] }

abbrev pub edge : EdgeElement
edge = record {
  element = element (codes "E") 1;
  source = record { columns = 1 ∷ []; vertex = 0 };
  destination = record { columns = 2 ∷ []; vertex = 0 };
}

abbrev pub small_graph : Graph
small_graph = record { name = codes "G"; vertices = element (codes "V") 0 ∷ []; edges = edge ∷ [] }

abbrev pub small_catalog : Catalog
small_catalog = record {
  tables = table (codes "V") (column (codes "I") ∷ []) ∷ table (codes "E") (column (codes "I") ∷ column (codes "A") ∷ column (codes "B") ∷ []) ∷ [];
  graphs = small_graph ∷ [];
}

abbrev pub any_element : Pattern
any_element = record { variable = None; label = None }

abbrev pub small_steps : List Step
small_steps = One (Vertex any_element) ∷ Part 0 1 (Edge Right any_element ∷ []) [] ∷ One (Vertex any_element) ∷ []

abbrev pub small_path : CheckedPath
small_path = record { mode = Walk; all_shortest = true; operands = record { steps = small_steps; conditions = [] } ∷ [] }

abbrev pub small_output : Output
small_output = record { value = Lit (Number (pos 1)); name = codes "C" }

abbrev pub small_query : CheckedQuery
small_query = record { graph = 0; paths = small_path ∷ []; condition = None; columns = small_output ∷ []; weight = 0 }

abbrev pub untagged : Tags
untagged = record { names = [] }

abbrev pub read_by : ℕ → Alternative
read_by count = record { operand = 0; counts = count ∷ [] }

abbrev pub no_edge : PathBlock
no_edge = record { path = 0; tags = untagged ∷ []; elements = 0 ∷ []; alternatives = read_by 0 ∷ [] }

abbrev pub one_edge : PathBlock
one_edge = record { path = 0; tags = untagged ∷ untagged ∷ untagged ∷ []; elements = 0 ∷ 0 ∷ 0 ∷ []; alternatives = read_by 1 ∷ [] }

abbrev pub small_path_blocks : List PathBlock
small_path_blocks = no_edge ∷ one_edge ∷ []

abbrev pub small_blocks : List Block
small_blocks = record { paths = no_edge ∷ [] } ∷ record { paths = one_edge ∷ [] } ∷ []
