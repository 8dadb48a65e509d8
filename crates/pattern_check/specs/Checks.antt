-- What checking a query answers.
use Rattle.std.specs.Prelude.{Option, None, Some, Result, Ok, Err}
use Rattle.pgq_base.specs.declared.refusal.Role.TheVariants.{Query}
use Rattle.pgq_base.specs.declared.refusal.Detail.TheVariants as detail
use Rattle.pgq_base.specs.declared.refusal.Refusal.{Refusal}
use Rattle.graph_ast.specs.declared.query.QueryTree.{QueryTree}
use Rattle.graph_ast.specs.declared.catalog.Catalog.{Catalog}
use Rattle.graph_ast.specs.declared.catalog.Graph.{Graph}
use Rattle.graph_ast.specs.declared.checked.CheckedQuery.{CheckedQuery}
use Rattle.first_faults.specs.declared.faults.Fault.{Fault}
use Rattle.first_faults.specs.Faults.{first_of}
use Rattle.pattern_check.specs.FormRules.{form_faults}
use Rattle.pattern_check.specs.NameRules.{name_faults}
use Rattle.pattern_check.specs.TypeRules.{type_faults}
use Rattle.pattern_check.specs.SizeRules.{size_faults}
use Rattle.pattern_check.specs.Checked.{checked}
use Rattle.pattern_check.specs.Phases.{or_then, first_fault}

-- the first fault of forms and names
abbrev pub early_fault : Catalog → QueryTree → Option Fault
early_fault catalog tree = or_then (first_of None (form_faults tree)) (first_of None (name_faults catalog tree))

-- the first fault of types and limits
abbrev pub later_fault : Catalog → Graph → QueryTree → Option Fault
later_fault catalog graph tree = or_then (first_of None (type_faults catalog graph tree)) (first_of None (size_faults tree))

abbrev pub refusal_of : Fault → Refusal
refusal_of f = record { role = Query; span = f.span; code = f.code; detail = detail.Nothing }

-- the checked query where there is no fault, and else the refusal with the fault
abbrev pub judged : Option Fault → CheckedQuery → Result CheckedQuery Refusal
judged None query = Ok query
judged (Some f) query = Err (refusal_of f)

-- what checking a query gives unless memory runs out
unfoldable pub due : Catalog → QueryTree → Result CheckedQuery Refusal
due catalog tree = judged (first_fault catalog tree) (checked catalog tree)
