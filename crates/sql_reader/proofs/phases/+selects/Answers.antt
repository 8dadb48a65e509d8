use Rattle.std.proofs.Common.{rules, ◌≡◌, ◌∙◌, ℕ, ◌+◌, ◌<◌, List, length, map, drop, sym, ap}
use Rattle.std.specs.List.{flat_map}
use Rattle.first_faults.specs.declared.faults.Fault.{Fault}
use Rattle.first_faults.specs.Faults.{first_of}
use Rattle.sql_reader.specs.Levels.{reach_of}
use Rattle.sql_reader.specs.Reaches.{Reach}
use Rattle.sql_reader.specs.Phases.{conjunct_faults, select_faults}
use Rattle.sql_reader.proofs.PhaseSteps.{conjunct_step}
use Rattle.sql_reader.proofs.MadeSelects.{lifted, judged_select}
use Rattle.sql_reader.proofs.phases.+selects.Goals as goal

pub conjuncts_faults-loop-conjunct-preserved : goal.conjuncts_faults-loop-conjunct-preserved
conjuncts_faults-loop-conjunct-preserved t c =
    let i : ℕ = c.loop-conjunct.conjunct-index in
    let faults = conjunct_faults c.args.phase c.args.tables.now in
    let reach : Reach = reach_of c.args.scope.now in
    let within : c.loop-conjunct.conjunct-index < length c.args.conjuncts.now = search rules in
    ap (λ f. first_of f (flat_map (λ (k : Reach → List Fault). k reach) (map faults (drop (i + 1) c.args.conjuncts.now)))) c.in_ok-found.ensures
    ∙ sym (conjunct_step faults reach c.loop-conjunct.found c.args.conjuncts.now i c.conjunct-item.result within c.conjunct-item.is) ∙ c.loop-conjunct.invariant

pub select_faults-returns : goal.select_faults-returns
select_faults-returns t c =
    lifted _ (λ all. all ≡ first_of c.args.found (select_faults c.args.phase c.args.tables.now c.args.select.now (reach_of c.args.outer.now)))
    (λ all last. judged_select c.args.phase c.args.tables.now c.args.select.now _ c.args.outer c.args.found c.in_ok-found.found c.columns_faults-found.result
    c.in_ok-found-2.found all
    c.as_slice.result.now c.as_slice-from.result.now c.as_slice-conjuncts.result.now
    c.in_ok-found.ensures c.columns_faults-found.ensures c.in_ok-found-2.ensures last c.in_ok-items.ensures c.as_slice.ensures c.as_slice-from.ensures c.as_slice-conjuncts.ensures)
    c.conjuncts_faults.result c.conjuncts_faults.ensures
