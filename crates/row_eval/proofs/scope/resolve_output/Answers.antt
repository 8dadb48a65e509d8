use Rattle.std.proofs.Common.{sym, subst}
use Rattle.expr_tree.specs.Classes.{IsWellClassed}
use Rattle.row_eval.specs.Scopes.{placed}
use Rattle.row_eval.specs.Slots.{slot_class}
use Rattle.row_eval.proofs.ClassLemmas.{resolved_rules}
use Rattle.row_eval.proofs.scope.resolve_output.Goals as goal

pub invariant_of-result : goal.invariant_of-result
invariant_of-result c = record {
  well_classed = subst (IsWellClassed slot_class) (sym c.in_ok-expr.ensures)
      (resolved_rules c.args.catalog.now (placed c.args.reach.now) c.args.expr.now c.requires);
}
