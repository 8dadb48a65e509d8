-- The query that a tree without faults stands for.
use Rattle.std.specs.Prelude.{ℕ, Bool, true, false, List, [], ◌∷◌, map, flat_map, option_map, option_to_list, unwrap_or, Option, None, Some}
use Rattle.pgq_base.specs.declared.value.Class.{Class}
use Rattle.pgq_base.specs.declared.value.Class.TheVariants.{Truth}
use Rattle.expr_tree.specs.declared.tree.Expr.{Expr}
use Rattle.expr_tree.specs.declared.tree.Expr.TheVariants.{Leaf}
use Rattle.expr_tree.specs.Mapping.{mapped}
use Rattle.graph_ast.specs.declared.schema.Named.{Named}
use Rattle.graph_ast.specs.declared.query.QueryTree.{QueryTree}
use Rattle.graph_ast.specs.declared.query.PathTree.{PathTree}
use Rattle.graph_ast.specs.declared.query.Selector.{Selector}
use Rattle.graph_ast.specs.declared.query.SelectorKind.{SelectorKind}
use Rattle.graph_ast.specs.declared.query.SelectorKind.TheVariants as selector
use Rattle.graph_ast.specs.declared.query.ModeWord.{ModeWord}
use Rattle.graph_ast.specs.declared.query.Mode.{Mode}
use Rattle.graph_ast.specs.declared.query.Mode.TheVariants.{Walk}
use Rattle.graph_ast.specs.declared.query.Filler.{Filler}
use Rattle.graph_ast.specs.declared.query.Quantifier.{Quantifier}
use Rattle.graph_ast.specs.declared.query.QuantifierKind.{QuantifierKind}
use Rattle.graph_ast.specs.declared.query.QuantifierKind.TheVariants.{Between, AtLeast, Optional}
use Rattle.graph_ast.specs.declared.query.Condition.{Condition}
use Rattle.graph_ast.specs.declared.query.ElementTest.{ElementTest}
use Rattle.graph_ast.specs.declared.query.PropertyRef.{PropertyRef}
use Rattle.graph_ast.specs.declared.query.Item.{Item}
use Rattle.graph_ast.specs.declared.catalog.Catalog.{Catalog}
use Rattle.graph_ast.specs.declared.catalog.Graph.{Graph}
use Rattle.graph_ast.specs.declared.checked.CheckedQuery.{CheckedQuery}
use Rattle.graph_ast.specs.declared.checked.CheckedPath.{CheckedPath}
use Rattle.graph_ast.specs.declared.checked.Operand.{Operand}
use Rattle.graph_ast.specs.declared.checked.Step.{Step}
use Rattle.graph_ast.specs.declared.checked.Step.TheVariants as step
use Rattle.graph_ast.specs.declared.checked.Piece.{Piece}
use Rattle.graph_ast.specs.declared.checked.Piece.TheVariants as piece
use Rattle.graph_ast.specs.declared.checked.Pattern.{Pattern}
use Rattle.graph_ast.specs.declared.checked.PropertyLeaf.{PropertyLeaf}
use Rattle.graph_ast.specs.declared.checked.Output.{Output}
use Rattle.graph_ast.specs.Lookups.{graph_at, graph_place}
use Rattle.graph_meaning.specs.Weights.{weight}
use Rattle.graph_ast.specs.Patterns.{Giving, Body, Part, body_given}
use Rattle.pattern_check.specs.Graphs.{property_class}
use Rattle.pattern_check.specs.NameRules.{column_name}

abbrev pub Leafed : Type 0
Leafed = Expr PropertyLeaf

-- an element predicate has class Truth, and another leaf its property's
abbrev pub class_of_leaf : Option ElementTest → Class → Class
class_of_leaf None class = class
class_of_leaf (Some predicate) class = Truth

abbrev pub leaf_for : Catalog → Graph → PropertyRef → PropertyLeaf
leaf_for catalog graph leaf = record {
  variable = leaf.variable.name;
  property = leaf.property.name;
  class = class_of_leaf leaf.test (property_class catalog graph leaf.property.name);
  test = leaf.test;
}

-- a condition with the class of each leaf
abbrev pub checked_condition : Catalog → Graph → Condition → Leafed
checked_condition catalog graph condition = mapped (λ (leaf : PropertyRef). Leaf (leaf_for catalog graph leaf)) condition.tree

-- a factor's steps, and its conditions outside its quantified parts
abbrev pub Spliced : Type 0
Spliced = Operand

abbrev pub splice : List Spliced → Spliced
splice factors = record { steps = flat_map (λ (factor : Spliced). factor.steps) factors; conditions = flat_map (λ (factor : Spliced). factor.conditions) factors }

-- the element patterns of a step
abbrev pub pieces_of : Step → List Piece
pieces_of (step.One own) = own ∷ []
pieces_of (step.Part lower upper pieces conditions) = pieces

abbrev pub lower_bound : QuantifierKind → ℕ
lower_bound (Between lower upper) = lower
lower_bound (AtLeast lower) = lower
lower_bound Optional = 0

abbrev pub upper_bound : QuantifierKind → ℕ
upper_bound (Between lower upper) = upper
upper_bound (AtLeast lower) = lower
upper_bound Optional = 1

-- under a quantifier there is a part of its own, and without one all is spliced into the surroundings
abbrev pub quantified : Option Quantifier → Spliced → Spliced
quantified None inside = inside
quantified (Some quantifier) inside = record {
  steps = step.Part (lower_bound quantifier.kind) (upper_bound quantifier.kind) (flat_map pieces_of inside.steps) inside.conditions ∷ [];
  conditions = [];
}

abbrev pub pattern_for : Filler → Pattern
pattern_for filler = record { variable = option_map (λ (variable : Named). variable.name) filler.variable; label = filler.label }

abbrev pub conditions_for : Catalog → Graph → Option Condition → List Leafed
conditions_for catalog graph condition = map (checked_condition catalog graph) (option_to_list condition)

abbrev pub element : Catalog → Graph → Piece → Filler → Spliced
element catalog graph own filler = record { steps = step.One own ∷ []; conditions = conditions_for catalog graph filler.condition }

-- a part has one sequence: with several there is a fault
abbrev pub body_spliced : Body Spliced → Spliced
body_spliced body = splice (flat_map (λ (operand : List Spliced). operand) body.operands)

-- the part's own condition stands behind those of its elements
abbrev pub part_spliced : Catalog → Graph → Part Spliced → Spliced
part_spliced catalog graph part =
    splice (body_spliced part.body ∷ record { steps = []; conditions = conditions_for catalog graph part.condition } ∷ [])

abbrev pub splicing : Catalog → Graph → Giving Spliced
splicing catalog graph = record {
  vertex = λ filler. element catalog graph (piece.Vertex (pattern_for filler)) filler;
  edge = λ direction filler quantifier. quantified quantifier (element catalog graph (piece.Edge direction (pattern_for filler)) filler);
  part = λ part quantifier. quantified quantifier (part_spliced catalog graph part);
}

abbrev pub mode_of : Option ModeWord → Mode
mode_of None = Walk
mode_of (Some word) = word.mode

abbrev pub is_all_shortest : SelectorKind → Bool
is_all_shortest selector.AllShortest = true
is_all_shortest selector.Any = false
is_all_shortest (selector.AnyCount count) = false
is_all_shortest selector.AnyShortest = false
is_all_shortest (selector.Shortest count) = false
is_all_shortest (selector.ShortestGroup count) = false

abbrev pub selects_all_shortest : Option Selector → Bool
selects_all_shortest None = false
selects_all_shortest (Some words) = is_all_shortest words.kind

abbrev pub checked_path : Catalog → Graph → PathTree → CheckedPath
checked_path catalog graph path = record {
  mode = mode_of path.mode;
  all_shortest = selects_all_shortest path.selector;
  operands = map splice (body_given (splicing catalog graph) path.body).operands;
}

abbrev pub name_of : Option Named → List ℕ
name_of None = []
name_of (Some name) = name.name

abbrev pub output : Catalog → Graph → Item → Output
output catalog graph item = record { value = checked_condition catalog graph item.value; name = name_of (column_name item) }

abbrev pub with_weight : ℕ → CheckedQuery → CheckedQuery
with_weight weight query = record { graph = query.graph; paths = query.paths; condition = query.condition; columns = query.columns; weight = weight }

-- without its weight
abbrev pub unweighed_at : Catalog → ℕ → QueryTree → CheckedQuery
unweighed_at catalog place tree =
    let graph = graph_at catalog place in record {
      graph = place;
      paths = map (checked_path catalog graph) tree.paths;
      condition = option_map (checked_condition catalog graph) tree.condition;
      columns = map (output catalog graph) tree.columns;
      weight = 0;
    }

unfoldable pub unweighed : Catalog → QueryTree → CheckedQuery
unweighed catalog tree = unweighed_at catalog (unwrap_or (graph_place catalog tree.graph.name) 0) tree

unfoldable pub checked : Catalog → QueryTree → CheckedQuery
checked catalog tree = with_weight (weight catalog (unweighed catalog tree)) (unweighed catalog tree)
