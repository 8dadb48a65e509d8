-- The first fault's place lies in the text in which the spans of the tree lie.
use Rattle.std.proofs.Common.{◌≡◌, refl, subst, sym, ℕ, Option, None, Some, Result, Ok, Err, arith}
use Rattle.pgq_base.specs.Answers.{Gives}
use Rattle.pgq_base.specs.declared.refusal.Refusal.{Refusal}
use Rattle.pgq_base.specs.declared.refusal.Stop.{Stop}
use Rattle.pgq_base.specs.declared.refusal.Stop.TheVariants.{Refused, NoMemory}
use Rattle.graph_ast.specs.declared.checked.CheckedQuery.{CheckedQuery}
use Rattle.graph_ast.specs.declared.catalog.Catalog.{Catalog}
use Rattle.graph_ast.specs.declared.query.QueryTree.{QueryTree}
use Rattle.graph_ast.specs.QuerySpans.{EachSpanHas}
use Rattle.pgq_base.specs.Spans.{LiesIn}
use Rattle.first_faults.specs.declared.faults.Fault.{Fault}
use Rattle.pattern_check.specs.Checked.{checked}
use Rattle.pattern_check.specs.Checks.{refusal_of, judged, due}
use Rattle.pattern_check.specs.FaultPlaces.{FaultLiesIn, StopLiesIn}
use Rattle.pattern_check.specs.Phases.{first_fault}
use Rattle.pattern_check.proofs.FaultSpans.{Found, at_first_fault}

nowhere : (end : ℕ) → LiesIn end (record { from = 0; to = 0 })
nowhere end = (omega arith, omega arith)

lies : (end : ℕ) (o : Option Fault) → Found (LiesIn end) (nowhere end) o → FaultLiesIn end o
lies end None h = tt
lies end (Some f) h = h

pub fault_lies : (end : ℕ) (catalog : Catalog) (tree : QueryTree) → EachSpanHas (LiesIn end) tree → FaultLiesIn end (first_fault catalog tree)
fault_lies end catalog tree h = lies end (first_fault catalog tree) (at_first_fault (LiesIn end) (nowhere end) catalog tree h)

refused_by : (end : ℕ) (o : Option Fault) (query : CheckedQuery) (r : Refusal) → FaultLiesIn end o → judged o query ≡ Err r → LiesIn end r.span
refused_by end None query r lies e = absurd cc
refused_by end (Some f) query r lies e = let same : refusal_of f ≡ r = cc in subst (λ (r : Refusal). LiesIn end r.span) same lies

-- what checking answers
pub stop_lies : (end : ℕ) (catalog : Catalog) (tree : QueryTree) (result : Result CheckedQuery (Stop Refusal)) → Gives (due catalog tree) result → EachSpanHas (LiesIn end) tree
    → StopLiesIn end result
unfolding due
stop_lies end catalog tree (Ok query) e h = tt
stop_lies end catalog tree (Err (Refused r)) e h = refused_by end (first_fault catalog tree) (checked catalog tree) r (fault_lies end catalog tree h) e
stop_lies end catalog tree (Err NoMemory) e h = tt
