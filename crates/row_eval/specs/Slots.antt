-- The values of columns by place: of a row of a stack of rows, at a column's place in it.
use Rattle.std.specs.Prelude.{Bool, List, [], map, slice_index_or}
use Rattle.std.specs.Borrow.{Bor}
use Rattle.pgq_base.specs.declared.rows.Row.{Row}
use Rattle.pgq_base.specs.declared.value.Class.{Class}
use Rattle.pgq_base.specs.declared.value.Class.TheVariants as class
use Rattle.pgq_base.specs.declared.value.Value.{Value}
use Rattle.pgq_base.specs.declared.value.Value.TheVariants as value
use Rattle.pgq_base.specs.Instances.{RowValues, value_at}
use Rattle.expr_tree.specs.declared.tree.Expr.{Expr}
use Rattle.expr_tree.specs.Meaning.{truth_in}
use Rattle.sql_algebra.specs.Tuples.{is_true}
use Rattle.row_eval.specs.declared.frame.Slot.{Slot}

-- rows, the outermost first
abbrev pub Stack : Type 0
Stack = List RowValues

-- the value, and Null where it is not of the class
abbrev pub fitted : Class → Value → Value
fitted class.Truth (value.Truth b) = value.Truth b
fitted class.Number (value.Number n) = value.Number n
fitted class.Number (value.Decimal d) = value.Decimal d
fitted class.Text (value.Text t) = value.Text t
fitted class.Date (value.Date d) = value.Date d
fitted class v = value.Null

abbrev pub slot_value : Stack → Slot → Value
slot_value stack slot = fitted slot.class (value_at (slice_index_or stack slot.item []) slot.column)

abbrev pub slot_class : Slot → Class
slot_class slot = slot.class

-- whether a condition is True of the stack
abbrev pub is_kept : Stack → Expr Slot → Bool
is_kept stack condition = is_true (truth_in (slot_value stack) condition)

-- the rows that are lent
abbrev pub lent_rows : List (Bor Row) → Stack
lent_rows rows = map (λ (b : Bor Row). b.now.values) rows
