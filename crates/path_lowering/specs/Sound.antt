-- What is asked of a query whose SELECTs are to be sound in the catalog.
use Rattle.std.specs.Prelude.{◌≡◌, ◌≤◌, Bool, true, List, [], ◌++◌, length, map, flat_map, Some}
use Rattle.std.specs.List.{list_all}
use Rattle.pgq_base.specs.declared.value.Class.{Class}
use Rattle.pgq_base.specs.declared.value.Class.TheVariants.{Truth}
use Rattle.multisets.specs.Bags.{IsIn, IsWithoutRepeats}
use Rattle.expr_tree.specs.declared.tree.Expr.TheVariants.{All, Any}
use Rattle.expr_tree.specs.Classes.{class_in, IsWellClassed}
use Rattle.expr_tree.specs.Leaves.{EachLeaf}
use Rattle.graph_ast.specs.declared.catalog.Catalog.{Catalog}
use Rattle.graph_ast.specs.declared.catalog.Graph.{Graph}
use Rattle.graph_ast.specs.declared.catalog.Element.{Element}
use Rattle.graph_ast.specs.declared.catalog.Property.{Property}
use Rattle.graph_ast.specs.declared.checked.CheckedPath.{CheckedPath}
use Rattle.graph_ast.specs.declared.checked.CheckedQuery.{CheckedQuery}
use Rattle.graph_ast.specs.declared.checked.Operand.{Operand}
use Rattle.graph_ast.specs.declared.checked.Step.{Step}
use Rattle.graph_ast.specs.declared.checked.Step.TheVariants.{One, Part}
use Rattle.graph_ast.specs.declared.checked.Output.{Output}
use Rattle.graph_ast.specs.declared.checked.PropertyLeaf.{PropertyLeaf}
use Rattle.graph_ast.specs.declared.blocks.Alternative.{Alternative}
use Rattle.graph_ast.specs.Lookups.{table_at, column_at, elements_of}
use Rattle.graph_ast.specs.Types.{class_of_type}
use Rattle.graph_meaning.specs.Choices.{Condition, Scoped, choices, expansion_of}
use Rattle.path_lowering.specs.Emitted.{SqlCondition}
use Rattle.path_lowering.specs.Lowered.{Combining}

abbrev pub class_is : PropertyLeaf → Class
class_is leaf = leaf.class

-- each property of the leaf's name, in whichever element, has the leaf's class
abbrev pub HasItsClass : Catalog → Graph → PropertyLeaf → Type 0
HasItsClass catalog graph leaf =
    (element : Element) (property : Property) → IsIn element (elements_of graph) → IsIn property element.properties → property.name ≡ leaf.property
    → class_of_type (column_at (table_at catalog element.table) property.column).kind ≡ leaf.class

-- the operands have the classes that their places ask for
pub record IsSoundExpression (catalog : Catalog) (graph : Graph) (expression : Condition) : Type 0 where
  pub leaves : EachLeaf (HasItsClass catalog graph) expression
  pub well_classed : IsWellClassed class_is expression

pub record IsSoundCondition (catalog : Catalog) (graph : Graph) (condition : Condition) : Type 0 where
  pub sound : IsSoundExpression catalog graph condition
  pub truth : class_in class_is condition ≡ Truth

-- so are the conditions of each choice, the last one and the columns, whose names differ
pub record IsSoundQuery (catalog : Catalog) (graph : Graph) (query : CheckedQuery) : Type 0 where
  pub conditions : (path : CheckedPath) → IsIn path query.paths → (choice : Alternative) → IsIn choice (choices path) → (scoped : Scoped)
      → IsIn scoped (expansion_of path choice).conditions
      → IsSoundCondition catalog graph scoped.condition
  pub condition : (c : Condition) → query.condition ≡ Some c → IsSoundCondition catalog graph c
  pub columns : (output : Output) → IsIn output query.columns → IsSoundExpression catalog graph output.value
  pub names : IsWithoutRepeats (map (λ output. output.name) query.columns)

-- the conditions of a part, of an operand and of a path
abbrev pub conditions_in : Step → List Condition
conditions_in (One piece) = []
conditions_in (Part lower upper pieces conditions) = conditions

abbrev pub operand_conditions : Operand → List Condition
operand_conditions operand = flat_map conditions_in operand.steps ++ operand.conditions

abbrev pub path_conditions : CheckedPath → List Condition
path_conditions path = flat_map operand_conditions path.operands

-- What holds of the conditions of all alternatives holds of what they become, if an AND and an OR of two or more keep it.
abbrev pub IsBuilding : Combining → Type 0
IsBuilding combined =
    (fine : SqlCondition → Bool)
    → ((es : List SqlCondition) → 2 ≤ length es → list_all fine es ≡ true → fine (All es) ≡ true)
    → ((es : List SqlCondition) → 2 ≤ length es → list_all fine es ≡ true → fine (Any es) ≡ true)
    → (alternatives : List (List SqlCondition)) → 1 ≤ length alternatives → list_all (list_all fine) alternatives ≡ true → list_all fine (combined alternatives) ≡ true
