-- What halts a run.
use Rattle.std.specs.Prelude.{List, ℕ, Option, None, Some, Result, Ok, Err}
use Rattle.pgq_base.specs.declared.refusal.Refusal.{Refusal}
use Rattle.table_loads.specs.declared.stops.TablesStop.{TablesStop}
use Rattle.table_loads.specs.declared.stops.TablesStop.TheVariants as t
use Rattle.pgq_program.specs.declared.halt.Halt.{Halt}
use Rattle.pgq_program.specs.declared.halt.Halt.TheVariants as h

-- a refusal halts the run
abbrev pub halting : {A : Type 0} → Result A Refusal → Result A Halt
halting (Ok x) = Ok x
halting (Err refusal) = Err (h.Refused refusal)

abbrev pub halt_by : TablesStop → Halt
halt_by (t.Refused refusal) = h.Refused refusal
halt_by t.ReadFault = h.ReadFault
halt_by t.NoMemory = h.NoMemory

-- so does what stops the tables of a command
abbrev pub tables_halting : {A : Type 0} → Result A TablesStop → Result A Halt
tables_halting (Ok x) = Ok x
tables_halting (Err stop) = Err (halt_by stop)

-- the places of tables, or Usage where one is unknown or stands twice
abbrev pub places_or : Option (List ℕ) → Result (List ℕ) Halt
places_or None = Err h.Usage
places_or (Some places) = Ok places
