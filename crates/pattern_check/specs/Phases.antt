-- The phases of a query's rules: the first that has a fault decides.
use Rattle.std.specs.Prelude.{nat_lt, List, Option, None, Some, unwrap_or}
use Rattle.pgq_base.specs.declared.code.Code.TheVariants as code
use Rattle.graph_ast.specs.declared.query.QueryTree.{QueryTree}
use Rattle.graph_ast.specs.declared.catalog.Catalog.{Catalog}
use Rattle.graph_ast.specs.Lookups.{graph_at, graph_place}
use Rattle.graph_meaning.specs.Weights.{weight}
use Rattle.first_faults.specs.declared.faults.Fault.{Fault}
use Rattle.first_faults.specs.Faults.{first_of, when}
use Rattle.pattern_check.specs.FormRules.{form_faults}
use Rattle.pattern_check.specs.NameRules.{name_faults}
use Rattle.pattern_check.specs.TypeRules.{type_faults}
use Rattle.pattern_check.specs.SizeRules.{size_faults}
use Rattle.pattern_check.specs.Checked.{unweighed}

-- LoweringTooLarge: the weight is above 1,000,000
abbrev pub lowering_too_large : Catalog → QueryTree → List Fault
lowering_too_large catalog tree = when (nat_lt 1000000 (weight catalog (unweighed catalog tree))) code.LoweringTooLarge tree.match_span

pub data Phase : Type 0 where
  forms : Phase
  names : Phase
  types : Phase
  limits : Phase
  weights : Phase

-- the faults of a phase. A later phase is looked at where the earlier ones have no fault; there the graph is known.
abbrev pub query_faults : Catalog → QueryTree → Phase → List Fault
query_faults catalog tree forms = form_faults tree
query_faults catalog tree names = name_faults catalog tree
query_faults catalog tree types = type_faults catalog (graph_at catalog (unwrap_or (graph_place catalog tree.graph.name) 0)) tree
query_faults catalog tree limits = size_faults tree
query_faults catalog tree weights = lowering_too_large catalog tree

-- the fault of the earlier phase, or else that of the later
abbrev pub or_then : Option Fault → Option Fault → Option Fault
or_then None later = later
or_then (Some f) later = Some f

-- the first fault of the first phase that has one
unfoldable pub first_fault : Catalog → QueryTree → Option Fault
first_fault catalog tree =
    or_then (first_of None (query_faults catalog tree forms))
    (or_then (first_of None (query_faults catalog tree names))
    (or_then (first_of None (query_faults catalog tree types))
    (or_then (first_of None (query_faults catalog tree limits)) (first_of None (query_faults catalog tree weights)))))
