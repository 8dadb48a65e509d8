-- What a query finds in a catalog.
use Rattle.std.specs.Prelude.{ℕ, Bool, List, [], ◌∷◌, map, is_some, Option, None, Some}
use Rattle.std.specs.List.{list_any}
use Rattle.pgq_base.specs.declared.value.Class.{Class}
use Rattle.pgq_base.specs.declared.value.Class.TheVariants.{Truth}
use Rattle.graph_ast.specs.declared.catalog.Catalog.{Catalog}
use Rattle.graph_ast.specs.declared.catalog.Graph.{Graph}
use Rattle.graph_ast.specs.declared.catalog.EdgeElement.{EdgeElement}
use Rattle.graph_ast.specs.declared.catalog.Element.{Element}
use Rattle.graph_ast.specs.Lookups.{table_at, column_at, elements_of, column_of}
use Rattle.graph_ast.specs.Types.{class_of_type}
use Rattle.first_faults.specs.Names.{has_text}
use Rattle.pattern_check.specs.Scopes.{Kind, vertices, edges}

abbrev pub elements_of_kind : Graph → Kind → List Element
elements_of_kind graph vertices = graph.vertices
elements_of_kind graph edges = map (λ (edge : EdgeElement). edge.element) graph.edges

-- some element of the graph has the label
abbrev pub is_label : Graph → List ℕ → Bool
is_label graph label = list_any (λ (element : Element). has_text label element.labels) (elements_of graph)

-- the element has the property
abbrev pub has_property : List ℕ → Element → Bool
has_property property element = is_some (column_of element property)

-- the class of the element's column
abbrev pub class_in_element : Catalog → Element → ℕ → Class
class_in_element catalog element column = class_of_type (column_at (table_at catalog element.table) column).kind

-- the class of the property in an element that has it, or else the one in the rest
abbrev pub class_or : Catalog → Element → Option ℕ → Class → Class
class_or catalog element None other = other
class_or catalog element (Some column) other = class_in_element catalog element column

-- the class of a property: its class in the first element that has it, Truth where none has
abbrev pub class_among : Catalog → List ℕ → List Element → Class
class_among catalog property [] = Truth
class_among catalog property (element ∷ elements) = class_or catalog element (column_of element property) (class_among catalog property elements)

abbrev pub property_class : Catalog → Graph → List ℕ → Class
property_class catalog graph property = class_among catalog property (elements_of graph)
