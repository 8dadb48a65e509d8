-- Where the place that a fault names lies.
use Rattle.std.specs.Prelude.{ℕ, Option, None, Some, Result, Ok, Err}
use Rattle.pgq_base.specs.declared.refusal.Refusal.{Refusal}
use Rattle.pgq_base.specs.declared.refusal.Stop.{Stop}
use Rattle.pgq_base.specs.declared.refusal.Stop.TheVariants.{Refused, NoMemory}
use Rattle.graph_ast.specs.declared.checked.CheckedQuery.{CheckedQuery}
use Rattle.pgq_base.specs.Spans.{LiesIn}
use Rattle.first_faults.specs.declared.faults.Fault.{Fault}

-- the span of a fault lies in a text of that length
abbrev pub FaultLiesIn : ℕ → Option Fault → Type 0
FaultLiesIn end None = Unit {0}
FaultLiesIn end (Some f) = LiesIn end f.span

-- and so does that of a refusal
abbrev pub StopLiesIn : ℕ → Result CheckedQuery (Stop Refusal) → Type 0
StopLiesIn end (Ok query) = Unit {0}
StopLiesIn end (Err (Refused r)) = LiesIn end r.span
StopLiesIn end (Err NoMemory) = Unit {0}
