-- The spans of a schema's tree: what holds of each of them.
use Rattle.std.specs.Prelude.{List, Option, None, Some}
use Rattle.std.specs.List.{AllByRecursion}
use Rattle.pgq_base.specs.declared.refusal.Span.{Span}
pub use Rattle.pgq_base.specs.Spans.{LiesIn}
use Rattle.graph_ast.specs.declared.schema.Named.{Named}
use Rattle.graph_ast.specs.declared.schema.SchemaTree.{SchemaTree}
use Rattle.graph_ast.specs.declared.schema.Statement.{Statement}
use Rattle.graph_ast.specs.declared.schema.Statement.TheVariants as statement
use Rattle.graph_ast.specs.declared.schema.TableDef.{TableDef}
use Rattle.graph_ast.specs.declared.schema.ColumnDef.{ColumnDef}
use Rattle.graph_ast.specs.declared.schema.RuleDef.{RuleDef}
use Rattle.graph_ast.specs.declared.schema.RuleKind.{RuleKind}
use Rattle.graph_ast.specs.declared.schema.RuleKind.TheVariants.{NotNull, Primary, Unique, Foreign, Default, Check}
use Rattle.graph_ast.specs.declared.schema.GraphDef.{GraphDef}
use Rattle.graph_ast.specs.declared.schema.ElementDef.{ElementDef}
use Rattle.graph_ast.specs.declared.schema.KeyDef.{KeyDef}
use Rattle.graph_ast.specs.declared.schema.EdgeDef.{EdgeDef}
use Rattle.graph_ast.specs.declared.schema.EndDef.{EndDef}
use Rattle.graph_ast.specs.declared.schema.EndDef.TheVariants.{Short, Full}
use Rattle.graph_ast.specs.declared.schema.LabelDef.{LabelDef}
use Rattle.graph_ast.specs.declared.schema.PropertiesDef.{PropertiesDef}
use Rattle.graph_ast.specs.declared.schema.PropertiesDef.TheVariants.{Nothing, Listed, AllBut}
use Rattle.graph_ast.specs.declared.schema.PropertyDef.{PropertyDef}

abbrev pub NameHas : (Span → Type 0) → Named → Type 0
NameHas P n = P n.span

abbrev pub NamesHave : (Span → Type 0) → List Named → Type 0
NamesHave P names = AllByRecursion (NameHas P) names

abbrev pub GivenNameHas : (Span → Type 0) → Option Named → Type 0
GivenNameHas P None = Unit {0}
GivenNameHas P (Some n) = P n.span

abbrev pub KindHas : (Span → Type 0) → RuleKind → Type 0
KindHas P (Primary names) = NamesHave P names
KindHas P (Unique names) = NamesHave P names
KindHas P (Foreign own target listed) = NamesHave P own × P target.span × NamesHave P listed
KindHas P NotNull = Unit {0}
KindHas P Default = Unit {0}
KindHas P Check = Unit {0}

abbrev pub RuleHas : (Span → Type 0) → RuleDef → Type 0
RuleHas P r = P r.span × KindHas P r.kind

pub record ColumnHas (P : Span → Type 0) (c : ColumnDef) : Type 0 where
  pub name : P c.name.span
  pub written : P c.written.span
  pub rules : AllByRecursion (RuleHas P) c.rules

pub record TableHas (P : Span → Type 0) (t : TableDef) : Type 0 where
  pub name : P t.name.span
  pub columns : AllByRecursion (ColumnHas P) t.columns
  pub rules : AllByRecursion (RuleHas P) t.rules

abbrev pub KeyHas : (Span → Type 0) → Option KeyDef → Type 0
KeyHas P None = Unit {0}
KeyHas P (Some key) = P key.span × NamesHave P key.columns

abbrev pub PropertyHas : (Span → Type 0) → PropertyDef → Type 0
PropertyHas P p = P p.column.span × GivenNameHas P p.name

abbrev pub PropertiesHave : (Span → Type 0) → PropertiesDef → Type 0
PropertiesHave P Nothing = Unit {0}
PropertiesHave P (Listed properties) = AllByRecursion (PropertyHas P) properties
PropertiesHave P (AllBut names) = NamesHave P names

abbrev pub LabelHas : (Span → Type 0) → LabelDef → Type 0
LabelHas P l = P l.span × PropertiesHave P l.properties

pub record ElementHas (P : Span → Type 0) (e : ElementDef) : Type 0 where
  pub table : P e.table.span
  pub alias : GivenNameHas P e.alias
  pub key : KeyHas P e.key
  pub labels : AllByRecursion (LabelHas P) e.labels

abbrev pub EndHas : (Span → Type 0) → EndDef → Type 0
EndHas P (Short vertex) = P vertex.span
EndHas P (Full own vertex listed) = NamesHave P own × P vertex.span × NamesHave P listed

pub record EdgeHas (P : Span → Type 0) (e : EdgeDef) : Type 0 where
  pub element : ElementHas P e.element
  pub source : EndHas P e.source
  pub destination : EndHas P e.destination

pub record GraphHas (P : Span → Type 0) (g : GraphDef) : Type 0 where
  pub name : P g.name.span
  pub vertices : AllByRecursion (ElementHas P) g.vertices
  pub edges : AllByRecursion (EdgeHas P) g.edges

abbrev pub StatementHas : (Span → Type 0) → Statement → Type 0
StatementHas P (statement.Table t) = TableHas P t
StatementHas P (statement.Graph g) = GraphHas P g

-- each span of the tree has it; `EachSpanHas (LiesIn length) tree`: the spans of the tree lie in a text of that length
abbrev pub EachSpanHas : (Span → Type 0) → SchemaTree → Type 0
EachSpanHas P tree = AllByRecursion (StatementHas P) tree.statements
