-- The faults of types in an SQL text: SQL's rules on the classes of operands.
use Rattle.std.specs.Prelude.{ℕ, suc, ◌+◌, not, List, [], ◌∷◌, ◌++◌, drop, Option, None, Some}
use Rattle.pgq_base.specs.declared.refusal.Span.{Span}
use Rattle.pgq_base.specs.declared.code.Code.TheVariants as code
use Rattle.pgq_base.specs.declared.value.Class.{Class}
use Rattle.pgq_base.specs.declared.value.Class.TheVariants.{Number, Truth}
use Rattle.expr_tree.specs.declared.tree.Test.{Test}
use Rattle.expr_tree.specs.declared.tree.Test.TheVariants as test
use Rattle.expr_tree.specs.declared.tree.Expr.{Expr}
use Rattle.expr_tree.specs.declared.tree.Expr.TheOpen.{Expr-F}
use Rattle.expr_tree.specs.declared.tree.Expr.TheFolds.{fold-Expr, map-Expr}
use Rattle.expr_tree.specs.Classes.{same_class, class_step, class_in, children_of}
use Rattle.graph_ast.specs.declared.catalog.Table.{Table}
use Rattle.graph_ast.specs.declared.catalog.Column.{Column}
use Rattle.graph_ast.specs.Types.{class_of_type}
use Rattle.condition_grammar.specs.declared.spanned.Spanned.{Spanned}
use Rattle.condition_grammar.specs.Spans.{first_span, without_first}
use Rattle.sql_algebra.specs.declared.text.ColumnRef.{ColumnRef}
use Rattle.sql_algebra.specs.Catalogs.{column_named}
use Rattle.first_faults.specs.declared.faults.Fault.{Fault}
use Rattle.first_faults.specs.Faults.{when}
use Rattle.sql_reader.specs.declared.types.Demand.{Demand}
use Rattle.sql_reader.specs.Reaches.{Placed, Reach, item_of}

-- ---- the class of a leaf; where its names are unknown it has none, and Number stands in its place

abbrev pub class_of_column : Option Column → Class
class_of_column None = Number
class_of_column (Some column) = class_of_type column.kind

abbrev pub class_in_table : ColumnRef → Option Table → Class
class_in_table leaf None = Number
class_in_table leaf (Some table) = class_of_column (column_named table leaf.column.name)

abbrev pub class_at : ColumnRef → Option Placed → Class
class_at leaf None = Number
class_at leaf (Some item) = class_in_table leaf item.table

abbrev pub leaf_class : Reach → ColumnRef → Class
leaf_class reach leaf = class_at leaf (item_of reach leaf.alias.name)

-- ---- one expression

-- an expression: its class, its number of nodes, and its faults by the spans of its nodes, a node before its children
pub record Typed : Type 0 where
  pub class : Class
  pub nodes : ℕ
  pub faults : List Span → List Fault

-- the fault of an operand of another class than it is to have
abbrev pub mismatch : Option Demand → Class → Span → List Fault
mismatch None class span = []
mismatch (Some demand) class span = when (not (same_class demand.class class)) demand.code span

-- An operand is to have class Truth, or the class of the first operand.
abbrev pub truth_asked : Option Demand
truth_asked = Some (record { class = Truth; code = code.NotTruth })

abbrev pub class_asked : Class → Option Demand
class_asked class = Some (record { class = class; code = code.ClassesDiffer })

-- the faults of an operand, the first of these spans being its own
abbrev pub operand_faults : Option Demand → Typed → List Span → List Fault
operand_faults demand t spans = t.faults spans ++ mismatch demand t.class (first_span spans)

abbrev pub operands_faults : Option Demand → List Typed → List Span → List Fault
operands_faults demand [] spans = []
operands_faults demand (t ∷ ts) spans = operand_faults demand t spans ++ operands_faults demand ts (drop t.nodes spans)

-- an operand's class is not the first one's
abbrev pub differing : List Typed → List Span → List Fault
differing [] spans = []
differing (t ∷ ts) spans = operand_faults None t spans ++ operands_faults (class_asked t.class) ts (drop t.nodes spans)

-- what a test asks of its operand
abbrev pub test_asked : Test → Option Demand
test_asked test.Null = None
test_asked test.True = truth_asked
test_asked test.False = truth_asked
test_asked test.Unknown = truth_asked

-- A comparison, BETWEEN, IN and COALESCE ask for one class, AND, OR, NOT and IS TRUE, FALSE or UNKNOWN for Truth.
abbrev pub node_faults : {L : Type 0} → Expr-F L Typed → List Span → List Fault
node_faults (Expr-F.Lit v) spans = []
node_faults (Expr-F.Null c) spans = []
node_faults (Expr-F.Leaf l) spans = []
node_faults (Expr-F.Compare op a b) spans = differing (a ∷ b ∷ []) spans
node_faults (Expr-F.All es) spans = operands_faults truth_asked es spans
node_faults (Expr-F.Any es) spans = operands_faults truth_asked es spans
node_faults (Expr-F.Not a) spans = operands_faults truth_asked (a ∷ []) spans
node_faults (Expr-F.Is a t negated) spans = operands_faults (test_asked t) (a ∷ []) spans
node_faults (Expr-F.InList a es negated) spans = differing (a ∷ es) spans
node_faults (Expr-F.Between a b c negated) spans = differing (a ∷ b ∷ c ∷ []) spans
node_faults (Expr-F.Coalesce es) spans = differing es spans

abbrev pub total : List Typed → ℕ
total [] = 0
total (t ∷ ts) = t.nodes + total ts

abbrev pub typed_step : {L : Type 0} → (L → Class) → Expr-F L Typed → Typed
typed_step {L} leaf x = record {
  class = class_step leaf (map-Expr L Typed Class (λ t. t.class) x);
  nodes = suc (total (children_of x));
  faults = λ spans. node_faults x (without_first spans);
}

abbrev pub typed : {L : Type 0} → (L → Class) → Expr L → Typed
typed {L} leaf = fold-Expr L Typed (typed_step leaf)

abbrev pub value_types : Reach → Spanned ColumnRef → List Fault
value_types reach value = operand_faults None (typed (leaf_class reach) value.tree) value.spans

-- a condition is of class Truth too
abbrev pub condition_types : Reach → Spanned ColumnRef → List Fault
condition_types reach value = operand_faults truth_asked (typed (leaf_class reach) value.tree) value.spans

abbrev pub class_of_value : Reach → Spanned ColumnRef → Class
class_of_value reach value = class_in (leaf_class reach) value.tree
