-- The shape that the grammar gives the tree of a schema text: lists that are not empty, and fewer than 2^32 statements.
use Rattle.std.specs.Prelude.{ℕ, ◌<◌, ◌^◌, List, length, Option, None, Some}
use Rattle.std.specs.List.{AllByRecursion}
use Rattle.graph_ast.specs.declared.schema.SchemaTree.{SchemaTree}
use Rattle.graph_ast.specs.declared.schema.RuleKind.{RuleKind}
use Rattle.graph_ast.specs.declared.schema.RuleKind.TheVariants.{NotNull, Primary, Unique, Foreign, Default, Check}
use Rattle.graph_ast.specs.declared.schema.GraphDef.{GraphDef}
use Rattle.graph_ast.specs.declared.schema.EndDef.{EndDef}
use Rattle.graph_ast.specs.declared.schema.EndDef.TheVariants.{Short, Full}
use Rattle.graph_ast.specs.declared.schema.KeyDef.{KeyDef}
use Rattle.graph_ast.specs.Schemas.{tables_among, graphs_among, rules_of, elements}

abbrev pub IsNotEmpty : {A : Type 0} → List A → Type 0
IsNotEmpty xs = 0 < length xs

-- a rule lists a column
abbrev pub RuleHasShape : RuleKind → Type 0
RuleHasShape (Primary names) = IsNotEmpty names
RuleHasShape (Unique names) = IsNotEmpty names
RuleHasShape (Foreign own target listed) = IsNotEmpty own
RuleHasShape NotNull = Unit {0}
RuleHasShape Default = Unit {0}
RuleHasShape Check = Unit {0}

abbrev pub KeyHasShape : Option KeyDef → Type 0
KeyHasShape None = Unit {0}
KeyHasShape (Some key) = IsNotEmpty key.columns

abbrev pub EndHasShape : EndDef → Type 0
EndHasShape (Short vertex) = Unit {0}
EndHasShape (Full own vertex listed) = IsNotEmpty own

pub record GraphHasShape (g : GraphDef) : Type 0 where
  pub vertices : IsNotEmpty g.vertices
  pub keys : AllByRecursion (λ e. KeyHasShape e.key) (elements g)
  pub ends : AllByRecursion (λ e. EndHasShape e.source × EndHasShape e.destination) g.edges

pub record HasShape (tree : SchemaTree) : Type 0 where
  pub few : length tree.statements < 2 ^ 32
  pub tables : AllByRecursion (λ t. AllByRecursion (λ r. RuleHasShape r.kind) (rules_of t)) (tables_among tree.statements)
  pub graphs : AllByRecursion GraphHasShape (graphs_among tree.statements)
