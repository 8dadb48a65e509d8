-- How the operands of a node are looked at, one after another: what is asked of the next one, the first faults so far, and the spans ahead.
use Rattle.std.specs.Prelude.{List, [], ◌∷◌, drop, Option, None, option_to_list}
use Rattle.pgq_base.specs.declared.refusal.Span.{Span}
use Rattle.pgq_base.specs.declared.value.Class.{Class}
use Rattle.pgq_base.specs.declared.value.Class.TheVariants as class
use Rattle.expr_tree.specs.declared.tree.Test.{Test}
use Rattle.expr_tree.specs.declared.tree.Test.TheVariants as test
use Rattle.first_faults.specs.declared.faults.Fault.{Fault}
use Rattle.first_faults.specs.Faults.{first_of}
use Rattle.pattern_check.specs.declared.types.Wanted.{Wanted}
use Rattle.pattern_check.specs.declared.types.Wanted.TheVariants.{Anything, Truths, Alike, Of}
use Rattle.pattern_check.specs.declared.types.Row.{Row}
use Rattle.pattern_check.specs.declared.types.Judged.{Judged}
use Rattle.pattern_check.specs.TypeRules.{Operand, Typed, class_differs, not_truth, own_span}

-- ---- what is asked of operands

-- the fault at an operand
abbrev pub misfit : Wanted → Operand → List Fault
misfit Anything operand = []
misfit Truths operand = not_truth operand
misfit Alike operand = []
misfit (Of class) operand = class_differs (record { class = class; span = operand.span }) operand

-- what is asked of the next operand
abbrev pub next : Wanted → Class → Wanted
next Anything class = Anything
next Truths class = Truths
next Alike class = Of class
next (Of other) class = Of other

abbrev pub asked_for : Test → Wanted
asked_for test.Null = Anything
asked_for test.True = Truths
asked_for test.False = Truths
asked_for test.Unknown = Truths

abbrev pub class_asked : Wanted → Class
class_asked Anything = class.Truth
class_asked Truths = class.Truth
class_asked Alike = class.Truth
class_asked (Of class) = class

-- ---- an expression

-- its class, its first fault, and the spans behind its own
pub record Told : Type 0 where
  pub class : Class
  pub first : Option Fault
  pub spans : List Span

abbrev pub told : Judged → Told
told judged = record { class = judged.class; first = judged.first; spans = judged.spans.now }

abbrev pub judge : Typed → List Span → Told
judge typed spans = record { class = typed.class; first = first_of None (typed.faults spans); spans = drop typed.nodes spans }

-- ---- the operands of a node, as far as they were looked at

pub record Seen : Type 0 where
  pub wanted : Wanted
  pub own : Option Fault
  pub inside : Option Fault
  pub spans : List Span

abbrev pub seen : Row → Seen
seen row = record { wanted = row.wanted; own = row.own; inside = row.inside; spans = row.spans.now }

abbrev pub begun : Wanted → List Span → Seen
begun wanted spans = record { wanted = wanted; own = None; inside = None; spans = drop 1 spans }

abbrev pub joined : Seen → Told → Seen
joined row operand = record {
  wanted = next row.wanted operand.class;
  own = first_of row.own (misfit row.wanted (record { class = operand.class; span = own_span row.spans }));
  inside = first_of row.inside (option_to_list operand.first);
  spans = operand.spans;
}

abbrev pub with_operand : Seen → Typed → Seen
with_operand row operand = record {
  wanted = next row.wanted operand.class;
  own = first_of row.own (misfit row.wanted (record { class = operand.class; span = own_span row.spans }));
  inside = first_of row.inside (operand.faults row.spans);
  spans = drop operand.nodes row.spans;
}

abbrev pub with_operands : Seen → List Typed → Seen
with_operands row [] = row
with_operands row (operand ∷ operands) = with_operands (with_operand row operand) operands

abbrev pub finished : Class → Seen → Told
finished class row = record { class = class; first = first_of row.own (option_to_list row.inside); spans = row.spans }
