-- The span of a refusal lies in the text in which the spans of the tree lie.
use Rattle.std.proofs.Common.{◌≡◌, ℕ, Option, None, Some, Result, Ok, Err, subst, sym}
use Rattle.pgq_base.specs.declared.refusal.Stop.{Stop}
use Rattle.graph_ast.specs.declared.schema.SchemaTree.{SchemaTree}
use Rattle.graph_ast.specs.declared.catalog.Catalog.{Catalog}
use Rattle.graph_ast.specs.Spans.{LiesIn, EachSpanHas}
use Rattle.first_faults.specs.declared.faults.Fault.{Fault}
use Rattle.view_check.specs.Phases.{first_fault}
use Rattle.view_check.specs.Checks.{FaultLiesIn}
use Rattle.view_check.proofs.FaultSpans.{Found, at_first_fault}

lies : (length : ℕ) (o : Option Fault) → Found (LiesIn length) o → FaultLiesIn length o
lies length None h = tt
lies length (Some f) h = h

pub fault_lies : (length : ℕ) (tree : SchemaTree) → EachSpanHas (LiesIn length) tree → FaultLiesIn length (first_fault tree)
fault_lies length tree h = lies length (first_fault tree) (at_first_fault (LiesIn length) tree h)

-- the fault that is refused
pub found_lies : (length : ℕ) (tree : SchemaTree) (f : Fault) → Some f ≡ first_fault tree → EachSpanHas (LiesIn length) tree → LiesIn length f.span
found_lies length tree f is h = subst (FaultLiesIn length) (sym is) (fault_lies length tree h)
