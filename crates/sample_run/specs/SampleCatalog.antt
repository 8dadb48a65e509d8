-- The catalog that the schema text of the generated run stands for.
use Rattle.std.specs.Prelude.{ℕ, Bool, true, false, List, [], ◌∷◌, codes}
use Rattle.graph_ast.specs.declared.catalog.Catalog.{Catalog}
use Rattle.graph_ast.specs.declared.catalog.Table.{Table}
use Rattle.graph_ast.specs.declared.catalog.Column.{Column}
use Rattle.graph_ast.specs.declared.catalog.ColumnType.{ColumnType}
use Rattle.graph_ast.specs.declared.catalog.ColumnType.TheVariants.{Integer, VarChar}
use Rattle.graph_ast.specs.declared.catalog.Key.{Key}
use Rattle.graph_ast.specs.declared.catalog.Reference.{Reference}
use Rattle.graph_ast.specs.declared.catalog.Graph.{Graph}
use Rattle.graph_ast.specs.declared.catalog.Element.{Element}
use Rattle.graph_ast.specs.declared.catalog.EdgeElement.{EdgeElement}
use Rattle.graph_ast.specs.declared.catalog.Property.{Property}

abbrev pub column : List ℕ → ColumnType → Bool → Column
column name kind not_null = record { name = name; kind = kind; not_null = not_null }

-- the key of each table is its first column
abbrev pub first_key : Key
first_key = record { columns = 0 ∷ []; primary = true }

-- a reference to a person
abbrev pub to_person : ℕ → Reference
to_person place = record { columns = place ∷ []; table = 0; targets = 0 ∷ [] }

abbrev pub person_table : Table
person_table = record {
  name = codes "PERSON";
  columns = column (codes "ID") Integer true ∷ column (codes "NAME") (VarChar 20) false ∷ column (codes "AGE") Integer false ∷ [];
  keys = first_key ∷ [];
  references = [];
}

abbrev pub knows_table : Table
knows_table = record {
  name = codes "KNOWS";
  columns = column (codes "ID") Integer true ∷ column (codes "A") Integer false ∷ column (codes "B") Integer false ∷ column (codes "SINCE") Integer false ∷ [];
  keys = first_key ∷ [];
  references = to_person 1 ∷ to_person 2 ∷ [];
}

abbrev pub property : List ℕ → ℕ → Property
property name place = record { name = name; column = place }

abbrev pub person_element : Element
person_element = record {
  name = codes "PERSON";
  table = 0;
  key = 0 ∷ [];
  labels = codes "PERSON" ∷ [];
  properties = property (codes "ID") 0 ∷ property (codes "NAME") 1 ∷ property (codes "AGE") 2 ∷ [];
}

abbrev pub knows_element : Element
knows_element = record {
  name = codes "KNOWS";
  table = 1;
  key = 0 ∷ [];
  labels = codes "KNOWS" ∷ [];
  properties = property (codes "ID") 0 ∷ property (codes "A") 1 ∷ property (codes "B") 2 ∷ property (codes "SINCE") 3 ∷ [];
}

abbrev pub knows_edge : EdgeElement
knows_edge = record {
  element = knows_element;
  source = record { columns = 1 ∷ []; vertex = 0 };
  destination = record { columns = 2 ∷ []; vertex = 0 };
}

abbrev pub sample_graph : Graph
sample_graph = record { name = codes "G"; vertices = person_element ∷ []; edges = knows_edge ∷ [] }

abbrev pub sample_catalog : Catalog
sample_catalog = record { tables = person_table ∷ knows_table ∷ []; graphs = sample_graph ∷ [] }
