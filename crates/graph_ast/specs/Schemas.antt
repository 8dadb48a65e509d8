-- What stands in a schema text, in its order.
use Rattle.std.specs.Prelude.{List, [], ◌∷◌, ◌++◌, map}
use Rattle.std.specs.List.{flat_map}
use Rattle.graph_ast.specs.declared.schema.Statement.{Statement}
use Rattle.graph_ast.specs.declared.schema.Statement.TheVariants as statement
use Rattle.graph_ast.specs.declared.schema.TableDef.{TableDef}
use Rattle.graph_ast.specs.declared.schema.RuleDef.{RuleDef}
use Rattle.graph_ast.specs.declared.schema.GraphDef.{GraphDef}
use Rattle.graph_ast.specs.declared.schema.ElementDef.{ElementDef}

-- the tables of a schema
abbrev pub tables_among : List Statement → List TableDef
tables_among [] = []
tables_among (statement.Table t ∷ statements) = t ∷ tables_among statements
tables_among (statement.Graph g ∷ statements) = tables_among statements

-- the graphs of a schema
abbrev pub graphs_among : List Statement → List GraphDef
graphs_among [] = []
graphs_among (statement.Table t ∷ statements) = graphs_among statements
graphs_among (statement.Graph g ∷ statements) = g ∷ graphs_among statements

-- the rules of a table: those of its columns, then its own
abbrev pub rules_of : TableDef → List RuleDef
rules_of t = flat_map (λ c. c.rules) t.columns ++ t.rules

-- the elements of a graph: its vertex tables, then its edge tables
abbrev pub elements : GraphDef → List ElementDef
elements g = g.vertices ++ map (λ e. e.element) g.edges
