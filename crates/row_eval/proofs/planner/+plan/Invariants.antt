use Rattle.std.proofs.Common.{◌+◌, ◌≤◌, take, List}
use Rattle.row_eval.specs.declared.access.Access.{Access}
use Rattle.row_eval.specs.Scopes.{placed}
use Rattle.row_eval.specs.Served.{AllServed}
use Rattle.row_eval.specs.Stages.{accesses}
use Rattle.row_eval.specs.Plans.{IsEndOf}
use Rattle.row_eval.specs.Bounds.{IsEndWithin, rows_in, inner_tables}
use Rattle.row_eval.proofs.planner.+plan.Given as goal

abbrev pub invariant-plan_absent-loop-conjunct : goal.invariant-plan_absent-loop-conjunct
invariant-plan_absent-loop-conjunct g l =
    let tables = g.R.RowSource.tables l.planner.rows.now in
    record {
      ends : IsEndOf l.planner.catalog.now tables (take l.conjunct-index l.conjuncts) (placed l.reach) l.end;
      reads_within : IsEndWithin l.planner.catalog.now tables (take l.conjunct-index l.conjuncts) (placed l.reach) l.end;
      read : l.steps ≤ l.fn.steps + rows_in l.planner.catalog.now tables (inner_tables (take l.conjunct-index l.conjuncts));
      served : AllServed tables l.indexes.items (accesses l.end);
      kept : (all : List Access) → AllServed tables l.fn.indexes.items all → AllServed tables l.indexes.items all;
    }
