use Rattle.std.proofs.Common.{rules, ◌≡◌, ◌+◌, ◌-◌, ◌≤◌, ◌<◌, ◌++◌, ◌∷◌, [], List, length, take, drop, get_or, true, false, refl, sym, ap, subst, ◌∙◌, arith, ℕ, Option, None}
use Rattle.std.proofs.lemmas.List.{drop_all, length-append}
use Rattle.std.proofs.lemmas.Result.{IfOk-weaker}
use Rattle.std.proofs.Math.Seq.{take-length}
use Rattle.std.specs.Prelude.{IsSome}
use Rattle.std.specs.Borrow.{Bor}
use Rattle.std.specs.declared.vec.Vec.{Vec}
use Rattle.std.specs.declared.alloc.Global.{Global}
use Rattle.pgq_base.specs.declared.rows.Row.{Row}
use Rattle.pgq_base.specs.Instances.{rows_at}
use Rattle.row_eval.specs.declared.branch.Branch.{Branch}
use Rattle.row_eval.specs.declared.frame.Condition.{Condition}
use Rattle.row_eval.specs.declared.stage.Stage.{Stage}
use Rattle.row_eval.specs.declared.stage.Stage.TheFolds.{the_lemmas}
use Rattle.sql_algebra.specs.Meaning.{has_none}
use Rattle.row_eval.specs.Access.{rows_given, rows_among, matches_row}
use Rattle.row_eval.specs.Slots.{lent_rows}
use Rattle.row_eval.specs.Served.{AllServed}
use Rattle.row_eval.specs.Stages.{all_kept, found, found_on, visits, accesses, Collects}
use Rattle.row_eval.specs.Branches.{rows_left, resumed, places_in, found_from, visits_from, found_later, visits_later, found_reached, Advances, AreRight, IsTopped}
use Rattle.row_eval.proofs.RunLemmas.{stays, begun, ended, further, seen, found_taken, found_passed, visits_taken, visits_passed}
use Rattle.row_eval.proofs.BranchLemmas.{found_kept, visits_kept, found_joined, visits_joined, found_absent, visits_absent, served_join, served_inner}
use Rattle.row_eval.proofs.TriedLemmas.{none_reached, row_left, row_done, tried_within, reached_one}
use Rattle.row_eval.proofs.TurnLemmas.{rows_long, empty, first_found, first_visits, turn_read, turn_parts, turn_kept, turn_over, done_found, done_read, done_smaller, done_high}
use Rattle.row_eval.proofs.TurnLemmas.{more_found, more_read, more_smaller, more_high, more_right}
use Rattle.row_eval.proofs.collect.+run.Goals as goal
use Rattle.row_eval.proofs.collect.+run.Goals.{enter-in-Keep, enter-in-Absent+in_ok-passed-in-Absent}

-- ---- the stages up to the next join

pub enter-is_absent-requires : goal.enter-is_absent-requires
enter-is_absent-requires g t c =
    let T = g.R.RowSource.tables c.args.search.now.rows.now in
    let indexes = c.args.search.now.indexes.now in
    let within : c.loop-left.left - 1 < length c.args.stages.now = omega arith in
    let inner = served_inner T indexes c.args.stages.now (c.loop-left.left - 1) c.index-stages-left.result within c.index-stages-left.is c.requires.served c.in-Absent.inner
    c.in-Absent.is in
    λ κs w. (search (rules, the_lemmas), (search rules, (search rules, subst (λ (l : List Stage). AllServed T indexes (accesses l)) (sym c.as_slice-in-Absent.ensures) inner)))

pub enter-opened-requires : goal.enter-opened-requires
enter-opened-requires g t c =
    let T = g.R.RowSource.tables c.args.search.now.rows.now in
    let indexes = c.args.search.now.indexes.now in
    let within : c.loop-left.left - 1 < length c.args.stages.now = omega arith in
    served_join T indexes c.args.stages.now (c.loop-left.left - 1) c.index-stages-left.result within c.index-stages-left.is c.requires.served c.in-Join.access c.in-Join.is

pub enter-returns-in_err-passed-in-Absent-clause-steps : goal.enter-returns-in_err-passed-in-Absent-clause-steps
enter-returns-in_err-passed-in-Absent-clause-steps g t c =
    let T = g.R.RowSource.tables c.args.search.now.rows.now in
    let S = lent_rows c.args.stack.now.items in
    let one : c.loop-left.left ≡ (c.loop-left.left - 1) + 1 = omega arith in
    let within : c.loop-left.left - 1 < length c.args.stages.now = omega arith in
    let told = visits_absent T c.args.stages.now c.loop-left.left (c.loop-left.left - 1) c.index-stages-left.result S one within c.index-stages-left.is c.in-Absent.inner
    c.in-Absent.is in
    let here : visits T c.as_slice-in-Absent.result.now (lent_rows c.loop-left.stack.items) ≡ visits T c.in-Absent.inner S =
    ap (λ (l : List Stage). visits T l (lent_rows c.loop-left.stack.items)) c.as_slice-in-Absent.ensures ∙ ap (λ s. visits T c.in-Absent.inner (lent_rows s))
    c.loop-left.invariant.same in
    let read = c.is_absent.ensures.steps in
    let so_far = c.loop-left.invariant.read in
    omega (arith, told, here, read, so_far)

pub enter-returns-in-Join-clause-collects : goal.enter-returns-in-Join-clause-collects
enter-returns-in-Join-clause-collects g t c =
    let T = g.R.RowSource.tables c.args.search.now.rows.now in
    let stages = c.args.stages.now in
    let S = lent_rows c.args.stack.now.items in
    let one : c.loop-left.left ≡ (c.loop-left.left - 1) + 1 = omega arith in
    let within : c.loop-left.left - 1 < length stages = omega arith in
    let branch = c.in_ok-branch-in-Join.branch in
    let rows = subst (λ s. rows_left T branch s ≡ rows_given T c.in-Join.access s) (ap lent_rows (c.as_slice-in-Join.ensures.value ∙ c.loop-left.invariant.same))
    c.in_ok-branch-in-Join.ensures.rows in
    let same = found_joined T stages c.loop-left.left (c.loop-left.left - 1) c.index-stages-left.result S one within c.index-stages-left.is c.in-Join.access c.in-Join.is branch
    c.in_ok-branch-in-Join.ensures.behind rows in
    let o = c.args.aim.now.outputs.now in
    let l = c.args.aim.now.limit in
    subst (λ x. Advances o l c.args.out.now c.args.out.now (found T (take c.args.count stages) S) x true) (c.loop-left.invariant.finds ∙ same)
    (stays o l c.args.out.now (found T (take c.args.count stages) S))

pub enter-returns-in-Join-clause-left : goal.enter-returns-in-Join-clause-left
enter-returns-in-Join-clause-left g t c =
    let T = g.R.RowSource.tables c.args.search.now.rows.now in
    let stages = c.args.stages.now in
    let S = lent_rows c.args.stack.now.items in
    let one : c.loop-left.left ≡ (c.loop-left.left - 1) + 1 = omega arith in
    let within : c.loop-left.left - 1 < length stages = omega arith in
    let branch = c.in_ok-branch-in-Join.branch in
    let rows = subst (λ s. rows_left T branch s ≡ rows_given T c.in-Join.access s) (ap lent_rows (c.as_slice-in-Join.ensures.value ∙ c.loop-left.invariant.same))
    c.in_ok-branch-in-Join.ensures.rows in
    let same = visits_joined T stages c.loop-left.left (c.loop-left.left - 1) c.index-stages-left.result S one within c.index-stages-left.is c.in-Join.access c.in-Join.is branch
    c.in_ok-branch-in-Join.ensures.behind rows in
    let read = c.loop-left.invariant.read in
    omega (arith, same, read)

pub enter-returns-in-Join-clause-lower : goal.enter-returns-in-Join-clause-lower
enter-returns-in-Join-clause-lower g t c =
    let T = g.R.RowSource.tables c.args.search.now.rows.now in
    let stages = c.args.stages.now in
    let S = lent_rows c.args.stack.now.items in
    let one : c.loop-left.left ≡ (c.loop-left.left - 1) + 1 = omega arith in
    let within : c.loop-left.left - 1 < length stages = omega arith in
    let branch = c.in_ok-branch-in-Join.branch in
    let rows = subst (λ s. rows_left T branch s ≡ rows_given T c.in-Join.access s) (ap lent_rows (c.as_slice-in-Join.ensures.value ∙ c.loop-left.invariant.same))
    c.in_ok-branch-in-Join.ensures.rows in
    let same = visits_joined T stages c.loop-left.left (c.loop-left.left - 1) c.index-stages-left.result S one within c.index-stages-left.is c.in-Join.access c.in-Join.is branch
    c.in_ok-branch-in-Join.ensures.behind rows in
    let lower = c.loop-left.invariant.lower in
    omega (arith, same, lower)

pub enter-returns-then-not-passed-clause-collects : goal.enter-returns-then-not-passed-clause-collects
enter-returns-then-not-passed-clause-collects g t c =
    let T = g.R.RowSource.tables c.args.search.now.rows.now in
    let stages = c.args.stages.now in
    let S = lent_rows c.args.stack.now.items in
    let left = c.loop-left.left in
    let x = c.index-stages-left.result in
    let one : left ≡ (left - 1) + 1 = omega arith in
    let within : left - 1 < length stages = omega arith in
    let o = c.args.aim.now.outputs.now in
    let l = c.args.aim.now.limit in
    let whole = found T (take c.args.count stages) S in
    elim c.match-stages-left.branch [
      | enter-in-Keep w ↦ (
          let keeps : c.match-stages-left.passed ≡ all_kept w.in-Keep.conditions S =
          w.passed-is ∙ w.all_hold-passed.ensures ∙ ap (λ (cs : List Condition). all_kept cs (lent_rows w.as_slice-in-Keep.result.now)) w.as_slice.ensures
          ∙ ap (λ s. all_kept w.in-Keep.conditions (lent_rows s)) (w.as_slice-in-Keep.ensures.value ∙ c.loop-left.invariant.same) in
          subst (λ x. Advances o l c.args.out.now c.args.out.now whole x true)
          (c.loop-left.invariant.finds
          ∙ found_kept T stages left (left - 1) x S one within c.index-stages-left.is w.in-Keep.conditions w.in-Keep.is false (sym c.if-not-passed.true ∙ keeps))
          (stays o l c.args.out.now whole))
      | enter-in-Absent+in_ok-passed-in-Absent w ↦ (
          let here : found T w.as_slice-in-Absent.result.now (lent_rows c.loop-left.stack.items) ≡ found T w.in-Absent.inner S =
          ap (λ (l : List Stage). found T l (lent_rows c.loop-left.stack.items)) w.as_slice-in-Absent.ensures ∙ ap (λ s. found T w.in-Absent.inner (lent_rows s))
          c.loop-left.invariant.same in
          let absents : c.match-stages-left.passed ≡ has_none (found T w.in-Absent.inner S) = w.passed-is ∙ w.in_ok-passed-in-Absent.ensures.none ∙ ap has_none here in
          subst (λ x. Advances o l c.args.out.now c.args.out.now whole x true)
          (c.loop-left.invariant.finds
          ∙ found_absent T stages left (left - 1) x S one within c.index-stages-left.is w.in-Absent.inner w.in-Absent.is false (sym c.if-not-passed.true ∙ absents))
          (stays o l c.args.out.now whole))
    ]

pub enter-returns-then-not-passed-clause-steps : goal.enter-returns-then-not-passed-clause-steps
enter-returns-then-not-passed-clause-steps g t c =
    let T = g.R.RowSource.tables c.args.search.now.rows.now in
    let stages = c.args.stages.now in
    let S = lent_rows c.args.stack.now.items in
    let left = c.loop-left.left in
    let x = c.index-stages-left.result in
    let one : left ≡ (left - 1) + 1 = omega arith in
    let within : left - 1 < length stages = omega arith in
    let so_far = c.loop-left.invariant.read in
    elim c.match-stages-left.branch [
      | enter-in-Keep w ↦ (let same = w.steps-is in omega (arith, same, so_far))
      | enter-in-Absent+in_ok-passed-in-Absent w ↦ (
          let told = visits_absent T stages left (left - 1) x S one within c.index-stages-left.is w.in-Absent.inner w.in-Absent.is in
          let here : visits T w.as_slice-in-Absent.result.now (lent_rows c.loop-left.stack.items) ≡ visits T w.in-Absent.inner S =
          ap (λ (l : List Stage). visits T l (lent_rows c.loop-left.stack.items)) w.as_slice-in-Absent.ensures ∙ ap (λ s. visits T w.in-Absent.inner (lent_rows s))
          c.loop-left.invariant.same in
          let same = w.steps-is in
          let read = w.in_ok-passed-in-Absent.ensures.steps in
          omega (arith, told, here, same, read, so_far))
    ]

pub enter-returns-then-not-passed-clause-left : goal.enter-returns-then-not-passed-clause-left
enter-returns-then-not-passed-clause-left g t c =
    let T = g.R.RowSource.tables c.args.search.now.rows.now in
    let stages = c.args.stages.now in
    let S = lent_rows c.args.stack.now.items in
    let left = c.loop-left.left in
    let x = c.index-stages-left.result in
    let one : left ≡ (left - 1) + 1 = omega arith in
    let within : left - 1 < length stages = omega arith in
    let so_far = c.loop-left.invariant.read in
    elim c.match-stages-left.branch [
      | enter-in-Keep w ↦ (let same = w.steps-is in omega (arith, same, so_far))
      | enter-in-Absent+in_ok-passed-in-Absent w ↦ (
          let told = visits_absent T stages left (left - 1) x S one within c.index-stages-left.is w.in-Absent.inner w.in-Absent.is in
          let here : visits T w.as_slice-in-Absent.result.now (lent_rows c.loop-left.stack.items) ≡ visits T w.in-Absent.inner S =
          ap (λ (l : List Stage). visits T l (lent_rows c.loop-left.stack.items)) w.as_slice-in-Absent.ensures ∙ ap (λ s. visits T w.in-Absent.inner (lent_rows s))
          c.loop-left.invariant.same in
          let same = w.steps-is in
          let read = w.in_ok-passed-in-Absent.ensures.steps in
          omega (arith, told, here, same, read, so_far))
    ]

pub enter-loop-left-preserved : goal.enter-loop-left-preserved
enter-loop-left-preserved g t c =
    let T = g.R.RowSource.tables c.args.search.now.rows.now in
    let stages = c.args.stages.now in
    let S = lent_rows c.args.stack.now.items in
    let left = c.loop-left.left in
    let x = c.index-stages-left.result in
    let one : left ≡ (left - 1) + 1 = omega arith in
    let within : left - 1 < length stages = omega arith in
    elim c.match-stages-left.branch [
      | enter-in-Keep w ↦ (
          let keeps : c.match-stages-left.passed ≡ all_kept w.in-Keep.conditions S =
          w.passed-is ∙ w.all_hold-passed.ensures ∙ ap (λ (cs : List Condition). all_kept cs (lent_rows w.as_slice-in-Keep.result.now)) w.as_slice.ensures
          ∙ ap (λ s. all_kept w.in-Keep.conditions (lent_rows s)) (w.as_slice-in-Keep.ensures.value ∙ c.loop-left.invariant.same) in
          let fewer = visits_kept T stages left (left - 1) x S one within c.index-stages-left.is w.in-Keep.conditions w.in-Keep.is true (sym c.if-not-passed.false ∙ keeps) in
          let same = w.steps-is in
          record {
            same = ap (λ (v : Vec (Bor Row) Global). v.items) w.stack-is ∙ c.loop-left.invariant.same;
            within = omega (arith, within);
            finds = c.loop-left.invariant.finds
                ∙ found_kept T stages left (left - 1) x S one within c.index-stages-left.is w.in-Keep.conditions w.in-Keep.is true (sym c.if-not-passed.false ∙ keeps);
            read = omega (arith, fewer, same, c.loop-left.invariant.read);
            lower = omega (arith, fewer, c.loop-left.invariant.lower);
          })
      | enter-in-Absent+in_ok-passed-in-Absent w ↦ (
          let finds : found T w.as_slice-in-Absent.result.now (lent_rows c.loop-left.stack.items) ≡ found T w.in-Absent.inner S =
          ap (λ (l : List Stage). found T l (lent_rows c.loop-left.stack.items)) w.as_slice-in-Absent.ensures ∙ ap (λ s. found T w.in-Absent.inner (lent_rows s))
          c.loop-left.invariant.same in
          let absents : c.match-stages-left.passed ≡ has_none (found T w.in-Absent.inner S) = w.passed-is ∙ w.in_ok-passed-in-Absent.ensures.none ∙ ap has_none finds in
          let told = visits_absent T stages left (left - 1) x S one within c.index-stages-left.is w.in-Absent.inner w.in-Absent.is in
          let here : visits T w.as_slice-in-Absent.result.now (lent_rows c.loop-left.stack.items) ≡ visits T w.in-Absent.inner S =
          ap (λ (l : List Stage). visits T l (lent_rows c.loop-left.stack.items)) w.as_slice-in-Absent.ensures ∙ ap (λ s. visits T w.in-Absent.inner (lent_rows s))
          c.loop-left.invariant.same in
          let same = w.steps-is in
          let read = w.in_ok-passed-in-Absent.ensures.steps in
          record {
            same = ap (λ (v : Vec (Bor Row) Global). v.items) w.stack-is ∙ w.in_ok-passed-in-Absent.ensures.stack ∙ c.loop-left.invariant.same;
            within = omega (arith, within);
            finds = c.loop-left.invariant.finds
                ∙ found_absent T stages left (left - 1) x S one within c.index-stages-left.is w.in-Absent.inner w.in-Absent.is true (sym c.if-not-passed.false ∙ absents);
            read = omega (arith, told, here, same, read, c.loop-left.invariant.read);
            lower = omega (arith, told, c.loop-left.invariant.lower);
          })
    ]

-- ---- the whole

pub run-returns-in-Some-clause-collects : goal.run-returns-in-Some-clause-collects
run-returns-in-Some-clause-collects g t c =
    let T = g.R.RowSource.tables c.args.search.now.rows.now in
    let stages = c.args.stages.now in
    let S = lent_rows c.args.stack.now.items in
    let o = c.args.aim.now.outputs.now in
    let l = c.args.aim.now.limit in
    let entered = c.in_ok-entered.entered in
    let branch = c.in-Some.branch in
    let yes_all : entered.all ≡ true = c.in_ok-entered.ensures.all (subst (λ (x : Option Branch). IsSome x) (sym c.in-Some.is) refl) in
    let first : Advances o l c.args.out.now c.enter.new.out (found T stages S) (found_from T stages branch S) true =
    subst (λ b. Advances o l c.args.out.now c.enter.new.out (found T stages S) (found_from T stages branch S) b) yes_all
    (subst (λ (x : Option Branch). Advances o l c.args.out.now c.enter.new.out (found T stages S) (found_reached T stages x S) entered.all) c.in-Some.is
    (subst (λ (x : List Stage). Advances o l c.args.out.now c.enter.new.out (found T x S) (found_reached T stages entered.further S) entered.all) (take-length stages)
    c.in_ok-entered.ensures.collects)) in
    IfOk-weaker c.run_branches.result _ _
    (λ all h. ended o l c.args.out.now c.run_branches.new.out (found T stages S) all
    (further o l c.args.out.now c.enter.new.out c.run_branches.new.out (found T stages S) (found_from T stages branch S) [] all first
    (begun o l c.enter.new.out c.run_branches.new.out (found_from T stages branch S) all
    (subst (λ (s : List (Bor Row)). Collects o l c.enter.new.out c.run_branches.new.out (found_from T stages branch (lent_rows s)) all) c.in_ok-entered.ensures.stack h))))
    c.run_branches.ensures.collects

-- ---- a row of a branch

pub run_rows-agrees_at-requires : goal.run_rows-agrees_at-requires
run_rows-agrees_at-requires g t c =
    let T = g.R.RowSource.tables c.args.search.now.rows.now in
    let branch = c.args.branch.now in
    let within : c.loop-next.next < length c.as_slice-places.result.now = omega arith in
    let low = c.requires.right.0.places c.loop-next.next (subst (λ (l : List ℕ). c.loop-next.next < length l) c.as_slice-places.ensures within) in
    let at : get_or c.as_slice-places.result.now c.loop-next.next 0 ≡ get_or (places_in branch.places) c.loop-next.next 0 =
    ap (λ (l : List ℕ). get_or l c.loop-next.next 0) c.as_slice-places.ensures in
    let long = rows_long branch.rows.now in
    let rows = ap length c.requires.right.0.rows in
    omega (arith, low, at, long, rows)

pub run_rows-returns-then-not-is_done-clause-collects : goal.run_rows-returns-then-not-is_done-clause-collects
run_rows-returns-then-not-is_done-clause-collects g t c =
    let T = g.R.RowSource.tables c.args.search.now.rows.now in
    let stages = c.args.stages.now in
    let branch = c.args.branch.now in
    let access = branch.access.now in
    let S = lent_rows c.args.stack.now.items in
    let P = places_in branch.places in
    let i = c.loop-next.next in
    let slice = c.as_slice-places.result.now in
    let table = rows_at T access.table in
    let row = get_or table (get_or P i 0) [] in
    let at : get_or slice i 0 ≡ get_or P i 0 = ap (λ (l : List ℕ). get_or l i 0) c.as_slice-places.ensures in
    let long = ap length c.as_slice-places.ensures in
    let within : i < length P = omega (arith, long) in
    let now = ap lent_rows (c.as_slice.ensures.value ∙ c.loop-next.invariant.same) in
    let m : matches_row access S row ≡ true =
    subst (λ p. matches_row access S (get_or table p []) ≡ true) at
    (seen access (lent_rows c.as_slice.result.now) S (lent_rows branch.rows.now) table (get_or slice i 0) c.agrees_at.result true now c.requires.right.0.rows c.agrees_at.ensures
    c.if-agrees_at.true) in
    let row_is : lent_rows c.loop-next.stack.items ++ get_or table (get_or slice i 0) [] ∷ [] ≡ S ++ row ∷ [] =
    ap (λ s. lent_rows s ++ get_or table (get_or slice i 0) [] ∷ []) c.loop-next.invariant.same ∙ ap (λ p. S ++ get_or table p [] ∷ []) at in
    let o = c.args.aim.now.outputs.now in
    let l = c.args.aim.now.limit in
    let entered = c.in_ok-entered.entered in
    let collected = subst (λ x. Advances o l c.loop-next.out c.enter_row.new.out (found T (take branch.behind stages) x)
    (found_reached T stages entered.further (lent_rows c.enter_row.new.stack.items)) entered.all) row_is c.in_ok-entered.ensures.collects in
    row_left T stages branch i S o l row (found_taken T access S P i within (found T (take branch.behind stages)) m) c.args.out.now c.loop-next.out c.enter_row.new.out
    (found_from T stages branch S) entered.further (lent_rows c.enter_row.new.stack.items) entered.all (sym c.is_done.ensures ∙ c.if-not-is_done.true)
    c.loop-next.invariant.collects collected

pub run_rows-returns-then-not-is_done-clause-steps : goal.run_rows-returns-then-not-is_done-clause-steps
run_rows-returns-then-not-is_done-clause-steps g t c =
    let T = g.R.RowSource.tables c.args.search.now.rows.now in
    let stages = c.args.stages.now in
    let branch = c.args.branch.now in
    let access = branch.access.now in
    let S = lent_rows c.args.stack.now.items in
    let P = places_in branch.places in
    let i = c.loop-next.next in
    let slice = c.as_slice-places.result.now in
    let table = rows_at T access.table in
    let row = get_or table (get_or P i 0) [] in
    let at : get_or slice i 0 ≡ get_or P i 0 = ap (λ (l : List ℕ). get_or l i 0) c.as_slice-places.ensures in
    let long = ap length c.as_slice-places.ensures in
    let within : i < length P = omega (arith, long) in
    let now = ap lent_rows (c.as_slice.ensures.value ∙ c.loop-next.invariant.same) in
    let m : matches_row access S row ≡ true =
    subst (λ p. matches_row access S (get_or table p []) ≡ true) at
    (seen access (lent_rows c.as_slice.result.now) S (lent_rows branch.rows.now) table (get_or slice i 0) c.agrees_at.result true now c.requires.right.0.rows c.agrees_at.ensures
    c.if-agrees_at.true) in
    let row_is : lent_rows c.loop-next.stack.items ++ get_or table (get_or slice i 0) [] ∷ [] ≡ S ++ row ∷ [] =
    ap (λ s. lent_rows s ++ get_or table (get_or slice i 0) [] ∷ []) c.loop-next.invariant.same ∙ ap (λ p. S ++ get_or table p [] ∷ []) at in
    let taken = visits_taken T access S P i within (visits T (take branch.behind stages)) m in
    let same = ap (visits T (take branch.behind stages)) row_is in
    omega (arith, taken, same, c.enter_row.ensures.steps, c.loop-next.invariant.read)

pub run_rows-returns-then-not-is_done-clause-left : goal.run_rows-returns-then-not-is_done-clause-left
run_rows-returns-then-not-is_done-clause-left g t c =
    let T = g.R.RowSource.tables c.args.search.now.rows.now in
    let stages = c.args.stages.now in
    let branch = c.args.branch.now in
    let access = branch.access.now in
    let S = lent_rows c.args.stack.now.items in
    let P = places_in branch.places in
    let i = c.loop-next.next in
    let slice = c.as_slice-places.result.now in
    let table = rows_at T access.table in
    let row = get_or table (get_or P i 0) [] in
    let at : get_or slice i 0 ≡ get_or P i 0 = ap (λ (l : List ℕ). get_or l i 0) c.as_slice-places.ensures in
    let long = ap length c.as_slice-places.ensures in
    let within : i < length P = omega (arith, long) in
    let now = ap lent_rows (c.as_slice.ensures.value ∙ c.loop-next.invariant.same) in
    let m : matches_row access S row ≡ true =
    subst (λ p. matches_row access S (get_or table p []) ≡ true) at
    (seen access (lent_rows c.as_slice.result.now) S (lent_rows branch.rows.now) table (get_or slice i 0) c.agrees_at.result true now c.requires.right.0.rows c.agrees_at.ensures
    c.if-agrees_at.true) in
    let row_is : lent_rows c.loop-next.stack.items ++ get_or table (get_or slice i 0) [] ∷ [] ≡ S ++ row ∷ [] =
    ap (λ s. lent_rows s ++ get_or table (get_or slice i 0) [] ∷ []) c.loop-next.invariant.same ∙ ap (λ p. S ++ get_or table p [] ∷ []) at in
    let taken = visits_taken T access S P i within (visits T (take branch.behind stages)) m in
    let same = ap (visits T (take branch.behind stages)) row_is in
    let within_tried = tried_within T stages branch i S c.in_ok-entered.entered.further (lent_rows c.enter_row.new.stack.items) in
    omega (arith, taken, same, within_tried, c.in_ok-entered.ensures.left, c.loop-next.invariant.read)

pub run_rows-returns-then-not-is_done-clause-fewer : goal.run_rows-returns-then-not-is_done-clause-fewer
run_rows-returns-then-not-is_done-clause-fewer g t c =
    let T = g.R.RowSource.tables c.args.search.now.rows.now in
    let stages = c.args.stages.now in
    let branch = c.args.branch.now in
    let access = branch.access.now in
    let S = lent_rows c.args.stack.now.items in
    let P = places_in branch.places in
    let i = c.loop-next.next in
    let slice = c.as_slice-places.result.now in
    let table = rows_at T access.table in
    let row = get_or table (get_or P i 0) [] in
    let at : get_or slice i 0 ≡ get_or P i 0 = ap (λ (l : List ℕ). get_or l i 0) c.as_slice-places.ensures in
    let long = ap length c.as_slice-places.ensures in
    let within : i < length P = omega (arith, long) in
    let now = ap lent_rows (c.as_slice.ensures.value ∙ c.loop-next.invariant.same) in
    let m : matches_row access S row ≡ true =
    subst (λ p. matches_row access S (get_or table p []) ≡ true) at
    (seen access (lent_rows c.as_slice.result.now) S (lent_rows branch.rows.now) table (get_or slice i 0) c.agrees_at.result true now c.requires.right.0.rows c.agrees_at.ensures
    c.if-agrees_at.true) in
    let row_is : lent_rows c.loop-next.stack.items ++ get_or table (get_or slice i 0) [] ∷ [] ≡ S ++ row ∷ [] =
    ap (λ s. lent_rows s ++ get_or table (get_or slice i 0) [] ∷ []) c.loop-next.invariant.same ∙ ap (λ p. S ++ get_or table p [] ∷ []) at in
    let taken = visits_taken T access S P i within (visits T (take branch.behind stages)) m in
    let same = ap (visits T (take branch.behind stages)) row_is in
    let within_tried = tried_within T stages branch i S c.in_ok-entered.entered.further (lent_rows c.enter_row.new.stack.items) in
    let one = reached_one c.in_ok-entered.entered.further in
    omega (arith, taken, same, within_tried, one, c.in_ok-entered.ensures.lower, c.loop-next.invariant.lower)

pub run_rows-returns-in_err-entered-clause-steps : goal.run_rows-returns-in_err-entered-clause-steps
run_rows-returns-in_err-entered-clause-steps g t c =
    let T = g.R.RowSource.tables c.args.search.now.rows.now in
    let stages = c.args.stages.now in
    let branch = c.args.branch.now in
    let access = branch.access.now in
    let S = lent_rows c.args.stack.now.items in
    let P = places_in branch.places in
    let i = c.loop-next.next in
    let slice = c.as_slice-places.result.now in
    let table = rows_at T access.table in
    let row = get_or table (get_or P i 0) [] in
    let at : get_or slice i 0 ≡ get_or P i 0 = ap (λ (l : List ℕ). get_or l i 0) c.as_slice-places.ensures in
    let long = ap length c.as_slice-places.ensures in
    let within : i < length P = omega (arith, long) in
    let now = ap lent_rows (c.as_slice.ensures.value ∙ c.loop-next.invariant.same) in
    let m : matches_row access S row ≡ true =
    subst (λ p. matches_row access S (get_or table p []) ≡ true) at
    (seen access (lent_rows c.as_slice.result.now) S (lent_rows branch.rows.now) table (get_or slice i 0) c.agrees_at.result true now c.requires.right.0.rows c.agrees_at.ensures
    c.if-agrees_at.true) in
    let row_is : lent_rows c.loop-next.stack.items ++ get_or table (get_or slice i 0) [] ∷ [] ≡ S ++ row ∷ [] =
    ap (λ s. lent_rows s ++ get_or table (get_or slice i 0) [] ∷ []) c.loop-next.invariant.same ∙ ap (λ p. S ++ get_or table p [] ∷ []) at in
    let taken = visits_taken T access S P i within (visits T (take branch.behind stages)) m in
    let same = ap (visits T (take branch.behind stages)) row_is in
    omega (arith, taken, same, c.enter_row.ensures.steps, c.loop-next.invariant.read)

pub run_rows-loop-next-preserved-else-not-is_done-2 : goal.run_rows-loop-next-preserved-else-not-is_done-2
run_rows-loop-next-preserved-else-not-is_done-2 g t c =
    let T = g.R.RowSource.tables c.args.search.now.rows.now in
    let stages = c.args.stages.now in
    let branch = c.args.branch.now in
    let access = branch.access.now in
    let S = lent_rows c.args.stack.now.items in
    let P = places_in branch.places in
    let i = c.loop-next.next in
    let slice = c.as_slice-places.result.now in
    let table = rows_at T access.table in
    let row = get_or table (get_or P i 0) [] in
    let at : get_or slice i 0 ≡ get_or P i 0 = ap (λ (l : List ℕ). get_or l i 0) c.as_slice-places.ensures in
    let long = ap length c.as_slice-places.ensures in
    let within : i < length P = omega (arith, long) in
    let now = ap lent_rows (c.as_slice.ensures.value ∙ c.loop-next.invariant.same) in
    let m : matches_row access S row ≡ true =
    subst (λ p. matches_row access S (get_or table p []) ≡ true) at
    (seen access (lent_rows c.as_slice.result.now) S (lent_rows branch.rows.now) table (get_or slice i 0) c.agrees_at.result true now c.requires.right.0.rows c.agrees_at.ensures
    c.if-agrees_at.true) in
    let row_is : lent_rows c.loop-next.stack.items ++ get_or table (get_or slice i 0) [] ∷ [] ≡ S ++ row ∷ [] =
    ap (λ s. lent_rows s ++ get_or table (get_or slice i 0) [] ∷ []) c.loop-next.invariant.same ∙ ap (λ p. S ++ get_or table p [] ∷ []) at in
    let taken = visits_taken T access S P i within (visits T (take branch.behind stages)) m in
    let same_visits = ap (visits T (take branch.behind stages)) row_is in
    let o = c.args.aim.now.outputs.now in
    let l = c.args.aim.now.limit in
    let entered = c.in_ok-entered.entered in
    let collected = subst (λ x. Advances o l c.loop-next.out c.enter_row.new.out (found T (take branch.behind stages) x)
    (found_reached T stages entered.further (lent_rows c.enter_row.new.stack.items)) entered.all) row_is c.in_ok-entered.ensures.collects in
    let done = sym c.is_done.ensures ∙ c.if-not-is_done.false in
    let none = none_reached entered.all entered.further done in
    record {
      same = subst (λ (x : Option Branch). IsTopped x c.loop-next.stack.items c.enter_row.new.stack.items) none c.in_ok-entered.ensures.stack ∙ c.loop-next.invariant.same;
      collects = row_done T stages branch i S o l row (found_taken T access S P i within (found T (take branch.behind stages)) m) c.args.out.now c.loop-next.out c.enter_row.new.out
          (found_from T stages branch S) entered.further (lent_rows c.enter_row.new.stack.items) entered.all done c.loop-next.invariant.collects collected;
      read = omega (arith, taken, same_visits, c.in_ok-entered.ensures.left, c.loop-next.invariant.read);
      lower = omega (arith, taken, c.loop-next.invariant.lower);
    }

pub run_rows-loop-next-preserved : goal.run_rows-loop-next-preserved
run_rows-loop-next-preserved g t c =
    let T = g.R.RowSource.tables c.args.search.now.rows.now in
    let stages = c.args.stages.now in
    let branch = c.args.branch.now in
    let access = branch.access.now in
    let S = lent_rows c.args.stack.now.items in
    let P = places_in branch.places in
    let i = c.loop-next.next in
    let slice = c.as_slice-places.result.now in
    let table = rows_at T access.table in
    let row = get_or table (get_or P i 0) [] in
    let at : get_or slice i 0 ≡ get_or P i 0 = ap (λ (l : List ℕ). get_or l i 0) c.as_slice-places.ensures in
    let long = ap length c.as_slice-places.ensures in
    let within : i < length P = omega (arith, long) in
    let now = ap lent_rows (c.as_slice.ensures.value ∙ c.loop-next.invariant.same) in
    let m : matches_row access S row ≡ false =
    subst (λ p. matches_row access S (get_or table p []) ≡ false) at
    (seen access (lent_rows c.as_slice.result.now) S (lent_rows branch.rows.now) table (get_or slice i 0) c.agrees_at.result false now c.requires.right.0.rows c.agrees_at.ensures
    c.if-agrees_at.false) in
    let passed = visits_passed T access S P i within (visits T (take branch.behind stages)) m in
    record {
      same = c.loop-next.invariant.same;
      collects = subst (λ x. Advances c.args.aim.now.outputs.now c.args.aim.now.limit c.args.out.now c.loop-next.out (found_from T stages branch S) x true)
          (found_passed T access S P i within (found T (take branch.behind stages)) m) c.loop-next.invariant.collects;
      read = omega (arith, passed, c.loop-next.invariant.read);
      lower = omega (arith, passed, c.loop-next.invariant.lower);
    }

pub run_rows-returns-clause-collects : goal.run_rows-returns-clause-collects
run_rows-returns-clause-collects g t c =
    let T = g.R.RowSource.tables c.args.search.now.rows.now in
    let stages = c.args.stages.now in
    let branch = c.args.branch.now in
    let S = lent_rows c.args.stack.now.items in
    let P = places_in branch.places in
    let long = ap length c.as_slice-places.ensures in
    let none : drop c.loop-next.next P ≡ [] = drop_all c.loop-next.next P (omega (arith, long)) in
    subst (λ x. Advances c.args.aim.now.outputs.now c.args.aim.now.limit c.args.out.now c.loop-next.out (found_from T stages branch S) x true)
    (ap (λ x. found_on (found T (take branch.behind stages)) S (rows_among T branch.access.now S x)) none) c.loop-next.invariant.collects

-- ---- the branches

pub run_branches-branches-init : goal.run_branches-branches-init
run_branches-branches-init g t c =
    let T = g.R.RowSource.tables c.args.search.now.rows.now in
    let stages = c.args.stages.now in
    let items = c.args.stack.now.items in
    let S = lent_rows items in
    let o = c.args.aim.now.outputs.now in
    let l = c.args.aim.now.limit in
    let is : c.push.new.self.items ≡ c.args.first ∷ [] = c.in_ok-push.ensures.items ∙ ap (λ (bs : List Branch). bs ++ c.args.first ∷ []) c.new-branches.ensures.items in
    let found_is : found_later T stages (length items) c.push.new.self.items S ≡ found_from T stages c.args.first S =
    ap (λ (bs : List Branch). found_later T stages (length items) bs S) is ∙ first_found T stages c.args.first items in
    let visits_is : visits_later T stages (length items) c.push.new.self.items S ≡ visits_from T stages c.args.first S =
    ap (λ (bs : List Branch). visits_later T stages (length items) bs S) is ∙ first_visits T stages c.args.first items in
    let one = ap length is in
    record {
      collects = subst (λ x. Advances o l c.args.out.now c.args.out.now (found_from T stages c.args.first S) x true) (sym found_is)
          (stays o l c.args.out.now (found_from T stages c.args.first S));
      read = omega (arith, visits_is);
      right = subst (AreRight T stages) (sym is) (c.requires.right, tt);
      high = omega (arith, one);
      kept = take-length items;
    }

pub run_branches-returns-in_err-push-3-clause-steps : goal.run_branches-returns-in_err-push-3-clause-steps
run_branches-returns-in_err-push-3-clause-steps g t c =
    let T = g.R.RowSource.tables c.args.search.now.rows.now in
    let stages = c.args.stages.now in
    let base = length c.args.stack.now.items in
    let old = c.branches.stack.items in
    let cut = c.truncate.new.self.items in
    let bs = c.pop.new.self.items in
    let n = c.len-base.result + c.len.result in
    let is : n ≡ base + length bs = omega (arith, c.len-base.ensures, c.args.stack.now.ok.0, c.len.ensures, c.pop.new.self.ok.0) in
    let popped : c.branches.branches.items ≡ bs ++ c.in-Some.branch ∷ [] = c.in-Some.ensures.items in
    turn_read T stages base c.branches.branches.items bs c.in-Some.branch popped old cut n is c.truncate.ensures.items
    c.run_rows.new.steps c.branches.steps c.args.steps.now _ c.branches.invariant.read c.run_rows.ensures.steps

pub run_branches-branches-preserved-in-Continue-branch-4 : goal.run_branches-branches-preserved-in-Continue-branch-4
run_branches-branches-preserved-in-Continue-branch-4 g t c =
    let T = g.R.RowSource.tables c.args.search.now.rows.now in
    let stages = c.args.stages.now in
    let base = length c.args.stack.now.items in
    let old = c.branches.stack.items in
    let cut = c.truncate.new.self.items in
    let bs = c.pop.new.self.items in
    let n = c.len-base.result + c.len.result in
    let is : n ≡ base + length bs = omega (arith, c.len-base.ensures, c.args.stack.now.ok.0, c.len.ensures, c.pop.new.self.ok.0) in
    let popped : c.branches.branches.items ≡ bs ++ c.in-Some.branch ∷ [] = c.in-Some.ensures.items in
    let high : n ≤ length old = (let one = ap length popped in let two = length-append bs (c.in-Some.branch ∷ []) in let high = c.branches.invariant.high in omega
    (arith, is, one, two, high)) in
    let tried = c.in_ok-tried.tried in
    let told = c.in_ok-tried.ensures in
    let all = c.branches.branches.items in
    let new = c.run_rows.new.stack.items in
    let f = c.in-Some-further.further in
    let new_all = c.push-in-Some-further-2.new.self.items in
    let pushed : new_all ≡ (bs ++ resumed c.in-Some.branch tried.next ∷ []) ++ f ∷ [] =
    c.in_ok-push-3.ensures.items ∙ ap (λ (l : List Branch). l ++ f ∷ []) (c.in_ok-push-2.ensures.items ∙ ap (λ (b : Branch). bs ++ b ∷ []) c.resumed.ensures) in
    record {
      collects = more_found T stages base all bs c.in-Some.branch popped old cut n is c.truncate.ensures.items tried.entered.further new told.stack tried.next f
          c.in-Some-further.is high new_all pushed
          c.args.aim.now.outputs.now c.args.aim.now.limit c.args.out.now c.branches.out c.run_rows.new.out _ tried.entered.all c.if-not-all.false c.branches.invariant.collects
          told.collects;
      read = more_read T stages base all bs c.in-Some.branch popped old cut n is c.truncate.ensures.items tried.entered.further new told.stack tried.next f c.in-Some-further.is
          high new_all pushed
          c.run_rows.new.steps c.branches.steps c.args.steps.now _ c.branches.invariant.read told.left;
      right = more_right T stages base all bs c.in-Some.branch popped old cut n is c.truncate.ensures.items tried.entered.further new told.stack tried.next f c.in-Some-further.is
          high new_all pushed c.branches.invariant.right told.right;
      high = more_high T stages base all bs c.in-Some.branch popped old cut n is c.truncate.ensures.items tried.entered.further new told.stack tried.next f c.in-Some-further.is
          high new_all pushed;
      kept = turn_kept T stages base all bs c.in-Some.branch popped old cut n is c.truncate.ensures.items tried.entered.further new told.stack base (omega (arith, is)) high
          ∙ c.branches.invariant.kept;
    }

pub run_branches-branches-smaller-in-Continue-branch-4 : goal.run_branches-branches-smaller-in-Continue-branch-4
run_branches-branches-smaller-in-Continue-branch-4 g t c =
    let T = g.R.RowSource.tables c.args.search.now.rows.now in
    let stages = c.args.stages.now in
    let base = length c.args.stack.now.items in
    let old = c.branches.stack.items in
    let cut = c.truncate.new.self.items in
    let bs = c.pop.new.self.items in
    let n = c.len-base.result + c.len.result in
    let is : n ≡ base + length bs = omega (arith, c.len-base.ensures, c.args.stack.now.ok.0, c.len.ensures, c.pop.new.self.ok.0) in
    let popped : c.branches.branches.items ≡ bs ++ c.in-Some.branch ∷ [] = c.in-Some.ensures.items in
    let high : n ≤ length old = (let one = ap length popped in let two = length-append bs (c.in-Some.branch ∷ []) in let high = c.branches.invariant.high in omega
    (arith, is, one, two, high)) in
    let tried = c.in_ok-tried.tried in
    let told = c.in_ok-tried.ensures in
    let all = c.branches.branches.items in
    let new = c.run_rows.new.stack.items in
    let f = c.in-Some-further.further in
    let new_all = c.push-in-Some-further-2.new.self.items in
    let pushed : new_all ≡ (bs ++ resumed c.in-Some.branch tried.next ∷ []) ++ f ∷ [] =
    c.in_ok-push-3.ensures.items ∙ ap (λ (l : List Branch). l ++ f ∷ []) (c.in_ok-push-2.ensures.items ∙ ap (λ (b : Branch). bs ++ b ∷ []) c.resumed.ensures) in
    more_smaller T stages base all bs c.in-Some.branch popped old cut n is c.truncate.ensures.items tried.entered.further new told.stack tried.next f c.in-Some-further.is high
    new_all pushed told.fewer

pub run_branches-branches-smaller : goal.run_branches-branches-smaller
run_branches-branches-smaller g t c =
    let T = g.R.RowSource.tables c.args.search.now.rows.now in
    let stages = c.args.stages.now in
    let base = length c.args.stack.now.items in
    let old = c.branches.stack.items in
    let cut = c.truncate.new.self.items in
    let bs = c.pop.new.self.items in
    let n = c.len-base.result + c.len.result in
    let is : n ≡ base + length bs = omega (arith, c.len-base.ensures, c.args.stack.now.ok.0, c.len.ensures, c.pop.new.self.ok.0) in
    let popped : c.branches.branches.items ≡ bs ++ c.in-Some.branch ∷ [] = c.in-Some.ensures.items in
    done_smaller T stages base c.branches.branches.items bs c.in-Some.branch popped old cut n is c.truncate.ensures.items c.in_ok-tried.tried.entered.further
    c.run_rows.new.stack.items
    c.in_ok-tried.ensures.stack c.in_ok-tried.tried.next c.in_default-further.is

pub run_branches-branches-preserved : goal.run_branches-branches-preserved
run_branches-branches-preserved g t c =
    let T = g.R.RowSource.tables c.args.search.now.rows.now in
    let stages = c.args.stages.now in
    let base = length c.args.stack.now.items in
    let old = c.branches.stack.items in
    let cut = c.truncate.new.self.items in
    let bs = c.pop.new.self.items in
    let n = c.len-base.result + c.len.result in
    let is : n ≡ base + length bs = omega (arith, c.len-base.ensures, c.args.stack.now.ok.0, c.len.ensures, c.pop.new.self.ok.0) in
    let popped : c.branches.branches.items ≡ bs ++ c.in-Some.branch ∷ [] = c.in-Some.ensures.items in
    let high : n ≤ length old = (let one = ap length popped in let two = length-append bs (c.in-Some.branch ∷ []) in let high = c.branches.invariant.high in omega
    (arith, is, one, two, high)) in
    let tried = c.in_ok-tried.tried in
    let told = c.in_ok-tried.ensures in
    let all = c.branches.branches.items in
    let new = c.run_rows.new.stack.items in
    let none : tried.entered.further ≡ None = c.in_default-further.is in
    record {
      collects = done_found T stages base all bs c.in-Some.branch popped old cut n is c.truncate.ensures.items tried.entered.further new told.stack tried.next none
          c.args.aim.now.outputs.now c.args.aim.now.limit c.args.out.now c.branches.out c.run_rows.new.out _ tried.entered.all c.if-not-all.false c.branches.invariant.collects
          told.collects;
      read = done_read T stages base all bs c.in-Some.branch popped old cut n is c.truncate.ensures.items tried.entered.further new told.stack tried.next none
          c.run_rows.new.steps c.branches.steps c.args.steps.now _ c.branches.invariant.read told.left;
      right = (turn_parts T stages base all bs c.in-Some.branch popped old cut n is c.truncate.ensures.items c.branches.invariant.right).0;
      high = done_high T stages base all bs c.in-Some.branch popped old cut n is c.truncate.ensures.items tried.entered.further new told.stack tried.next none high;
      kept = turn_kept T stages base all bs c.in-Some.branch popped old cut n is c.truncate.ensures.items tried.entered.further new told.stack base (omega (arith, is)) high
          ∙ c.branches.invariant.kept;
    }

pub run_branches-returns-in_err-tried-clause-steps : goal.run_branches-returns-in_err-tried-clause-steps
run_branches-returns-in_err-tried-clause-steps g t c =
    let T = g.R.RowSource.tables c.args.search.now.rows.now in
    let base = length c.args.stack.now.items in
    let bs = c.pop.new.self.items in
    let n = c.len-base.result + c.len.result in
    let is : n ≡ base + length bs = omega (arith, c.len-base.ensures, c.args.stack.now.ok.0, c.len.ensures, c.pop.new.self.ok.0) in
    turn_read T c.args.stages.now base c.branches.branches.items bs c.in-Some.branch c.in-Some.ensures.items c.branches.stack.items c.truncate.new.self.items n is
    c.truncate.ensures.items
    c.run_rows.new.steps c.branches.steps c.args.steps.now _ c.branches.invariant.read c.run_rows.ensures.steps

pub run_branches-returns-then-not-all-clause-collects : goal.run_branches-returns-then-not-all-clause-collects
run_branches-returns-then-not-all-clause-collects g t c =
    let T = g.R.RowSource.tables c.args.search.now.rows.now in
    let base = length c.args.stack.now.items in
    let bs = c.pop.new.self.items in
    let n = c.len-base.result + c.len.result in
    let is : n ≡ base + length bs = omega (arith, c.len-base.ensures, c.args.stack.now.ok.0, c.len.ensures, c.pop.new.self.ok.0) in
    turn_over T c.args.stages.now base c.branches.branches.items bs c.in-Some.branch c.in-Some.ensures.items c.branches.stack.items c.truncate.new.self.items n is
    c.truncate.ensures.items
    c.args.aim.now.outputs.now c.args.aim.now.limit c.args.out.now c.branches.out c.run_rows.new.out _ _ c.in_ok-tried.tried.entered.all c.if-not-all.true
    c.branches.invariant.collects
    c.in_ok-tried.ensures.collects

pub run_branches-returns-then-not-all-clause-stack : goal.run_branches-returns-then-not-all-clause-stack
run_branches-returns-then-not-all-clause-stack g t c =
    let T = g.R.RowSource.tables c.args.search.now.rows.now in
    let stages = c.args.stages.now in
    let base = length c.args.stack.now.items in
    let old = c.branches.stack.items in
    let cut = c.truncate.new.self.items in
    let bs = c.pop.new.self.items in
    let n = c.len-base.result + c.len.result in
    let is : n ≡ base + length bs = omega (arith, c.len-base.ensures, c.args.stack.now.ok.0, c.len.ensures, c.pop.new.self.ok.0) in
    let popped : c.branches.branches.items ≡ bs ++ c.in-Some.branch ∷ [] = c.in-Some.ensures.items in
    let high : n ≤ length old = (let one = ap length popped in let two = length-append bs (c.in-Some.branch ∷ []) in let high = c.branches.invariant.high in omega
    (arith, is, one, two, high)) in
    c.truncate-then-not-all.ensures.items ∙ ap (λ k. take k c.run_rows.new.stack.items) (c.len-base.ensures ∙ c.args.stack.now.ok.0)
    ∙ turn_kept T stages base c.branches.branches.items bs c.in-Some.branch popped old cut n is c.truncate.ensures.items c.in_ok-tried.tried.entered.further
    c.run_rows.new.stack.items
    c.in_ok-tried.ensures.stack base (omega (arith, is)) high
    ∙ c.branches.invariant.kept

pub run_branches-returns-then-not-all-clause-steps : goal.run_branches-returns-then-not-all-clause-steps
run_branches-returns-then-not-all-clause-steps g t c =
    let T = g.R.RowSource.tables c.args.search.now.rows.now in
    let base = length c.args.stack.now.items in
    let bs = c.pop.new.self.items in
    let n = c.len-base.result + c.len.result in
    let is : n ≡ base + length bs = omega (arith, c.len-base.ensures, c.args.stack.now.ok.0, c.len.ensures, c.pop.new.self.ok.0) in
    turn_read T c.args.stages.now base c.branches.branches.items bs c.in-Some.branch c.in-Some.ensures.items c.branches.stack.items c.truncate.new.self.items n is
    c.truncate.ensures.items
    c.run_rows.new.steps c.branches.steps c.args.steps.now _ c.branches.invariant.read c.run_rows.ensures.steps

pub run_branches-returns-clause-collects : goal.run_branches-returns-clause-collects
run_branches-returns-clause-collects g t c =
    let T = g.R.RowSource.tables c.args.search.now.rows.now in
    let stages = c.args.stages.now in
    let S = lent_rows c.args.stack.now.items in
    let o = c.args.aim.now.outputs.now in
    let l = c.args.aim.now.limit in
    let base = length c.args.stack.now.items in
    let none : c.branches.branches.items ≡ [] = empty c.branches.branches.items (sym c.branches.branches.ok.0 ∙ c.in_default.ensures.cases.0) in
    ended o l c.args.out.now c.branches.out (found_from T stages c.args.first S) true
    (subst (λ (bs : List Branch). Advances o l c.args.out.now c.branches.out (found_from T stages c.args.first S)
    (found_later T stages base bs (lent_rows c.branches.stack.items)) true) none
    c.branches.invariant.collects)

pub run_branches-returns-clause-stack : goal.run_branches-returns-clause-stack
run_branches-returns-clause-stack g t c =
    c.truncate-2.ensures.items ∙ ap (λ k. take k c.branches.stack.items) (c.len-base.ensures ∙ c.args.stack.now.ok.0) ∙ c.branches.invariant.kept
