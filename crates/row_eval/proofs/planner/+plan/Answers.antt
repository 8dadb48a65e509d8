use Rattle.std.proofs.Common.{rules, ◌≡◌, ◌+◌, ◌<◌, true, length, take, map, List, sym, ap, subst, arith, ◌∙◌}
use Rattle.sql_algebra.specs.declared.tree.Select.{the_lemmas}
use Rattle.std.specs.List.{list_all}
use Rattle.sql_algebra.specs.declared.tree.Select.{Select}
use Rattle.sql_algebra.specs.declared.tree.Conjunct.{Conjunct}
use Rattle.sql_algebra.specs.declared.tree.FromItem.{FromItem}
use Rattle.sql_algebra.specs.Reaches.{conjunct_is_sound}
use Rattle.sql_algebra.specs.Soundness.{select_is_sound}
use Rattle.row_eval.specs.declared.stage.Stage.{Stage}
use Rattle.row_eval.specs.declared.index.Index.{Index}
use Rattle.std.specs.declared.vec.Vec.{Vec}
use Rattle.std.specs.declared.alloc.Global.{Global}
use Rattle.row_eval.specs.Scopes.{placed, reach_under}
use Rattle.row_eval.specs.Served.{AllServed}
use Rattle.row_eval.specs.Stages.{accesses}
use Rattle.row_eval.specs.Plans.{items_in, IsEndOf, IsPlanOf}
use Rattle.row_eval.proofs.PlannerLemmas.{inner_sound, reach_below, conjunct_sound, end_plain, end_absent, absent_served}
use Rattle.sql_algebra.specs.RowReads.{tables_in}
use Rattle.row_eval.specs.Bounds.{IsEndWithin, IsWithin, rows_in, inner_tables}
use Rattle.row_eval.proofs.ReadsLemmas.{within_plain, within_absent, tables_of_conjunct, tables_more, tables_absent, tables_parts, tables_front}
use Rattle.row_eval.proofs.planner.+plan.Goals as goal
use Rattle.row_eval.proofs.planner.+plan.Goals.{plan_absent-in-Plain, plan_absent-in-NotExists+in_ok-inner-in-NotExists+in_ok-end-in-NotExists}

pub plan_absent-plan-requires : goal.plan_absent-plan-requires
plan_absent-plan-requires g t c =
    let items = items_in (placed c.args.reach.now) in
    let all = c.args.conjuncts.now in
    let i = c.loop-conjunct.conjunct-index in
    let within : i < length all = omega arith in
    let sound : select_is_sound c.args.planner.now.catalog.now c.get.result.now items ≡ true =
    ap (λ (s : Select). select_is_sound c.args.planner.now.catalog.now s items) c.get.ensures
    ∙ conjunct_sound c.args.planner.now.catalog.now items all i c.conjunct-item.result c.in-NotExists.select within c.conjunct-item.is c.in-NotExists.is c.requires.sound in
    λ κs w. (search (rules, the_lemmas), (search rules, (search rules, (sound, (c.requires.below, c.requires.meets)))))

pub plan_absent-loop-conjunct-preserved : goal.plan_absent-loop-conjunct-preserved
plan_absent-loop-conjunct-preserved g t c =
    let T = g.R.RowSource.tables c.args.planner.now.rows.now in
    let catalog = c.args.planner.now.catalog.now in
    let reach = placed c.args.reach.now in
    let all = c.args.conjuncts.now in
    let i = c.loop-conjunct.conjunct-index in
    let inside : i < length all = omega arith in
    let now = c.loop-conjunct.invariant in
    elim c.match-conjunct.branch [
      | plan_absent-in-Plain w ↦ record {
        ends = subst (IsEndOf catalog T (take (i + 1) all) reach) (sym w.end-is)
            (end_plain catalog T reach all i c.conjunct-item.result w.in-Plain.field-0 c.loop-conjunct.end inside c.conjunct-item.is w.in-Plain.is now.ends);
        reads_within = subst (IsEndWithin catalog T (take (i + 1) all) reach) (sym w.end-is)
            (within_plain catalog T reach all i c.conjunct-item.result c.loop-conjunct.end inside c.conjunct-item.is now.reads_within);
        read = (let more = tables_more catalog T all i c.conjunct-item.result inside c.conjunct-item.is in let same = w.steps-is in let read = now.read in
            omega (arith, more, same, read));
        served = subst (λ (indexes : List Index). AllServed T indexes (accesses c.match-conjunct.end)) (sym (ap (λ (v : Vec Index Global). v.items) w.indexes-is))
            (subst (λ (e : List Stage). AllServed T c.loop-conjunct.indexes.items (accesses e)) (sym w.end-is) now.served);
        kept = λ l h. subst (λ (indexes : List Index). AllServed T indexes l) (sym (ap (λ (v : Vec Index Global). v.items) w.indexes-is)) (now.kept l h);
      }
      | plan_absent-in-NotExists+in_ok-inner-in-NotExists+in_ok-end-in-NotExists w ↦
          let inner = w.in_ok-inner-in-NotExists.inner in
          let told = w.in_ok-inner-in-NotExists.ensures in
          let made = w.in_ok-end-in-NotExists.ensures in
          let plan : IsPlanOf catalog T w.in-NotExists.select reach inner.stages = subst (λ (s : Select). IsPlanOf catalog T s reach inner.stages) w.get.ensures told.found in
          let grown : c.match-conjunct.indexes.items ≡ inner.indexes.items = ap (λ (v : Vec Index Global). v.items) w.indexes-is in
          let bound : IsWithin catalog T w.in-NotExists.select reach inner.stages = subst (λ (s : Select). IsWithin catalog T s reach inner.stages) w.get.ensures told.within in
          let tables : rows_in catalog T (tables_of_conjunct c.conjunct-item.result) ≡ rows_in catalog T (tables_in w.get.result.now) =
          ap (rows_in catalog T) (tables_absent c.conjunct-item.result w.in-NotExists.select w.in-NotExists.is)
          ∙ ap (λ (s : Select). rows_in catalog T (tables_in s)) (sym w.get.ensures) in
          record {
            reads_within = subst (IsEndWithin catalog T (take (i + 1) all) reach) (sym w.end-is)
                (within_absent catalog T reach all i c.conjunct-item.result w.in-NotExists.select inner.stages c.loop-conjunct.end w.in_ok-end-in-NotExists.end inside
                c.conjunct-item.is w.in-NotExists.is made bound now.reads_within);
            read = (let more = tables_more catalog T all i c.conjunct-item.result inside c.conjunct-item.is in let same = w.steps-is in let read = now.read in
                let one = told.steps in omega (arith, more, same, read, one, tables));
            ends = subst (IsEndOf catalog T (take (i + 1) all) reach) (sym w.end-is)
                (end_absent catalog T reach all i c.conjunct-item.result w.in-NotExists.select inner.stages c.loop-conjunct.end w.in_ok-end-in-NotExists.end inside
                c.conjunct-item.is w.in-NotExists.is made plan now.ends);
            served = subst (λ (indexes : List Index). AllServed T indexes (accesses c.match-conjunct.end)) (sym grown)
                (subst (λ (e : List Stage). AllServed T inner.indexes.items (accesses e)) (sym w.end-is)
                (absent_served T inner.indexes.items inner.stages c.loop-conjunct.end w.in_ok-end-in-NotExists.end made told.served
                (told.kept (accesses c.loop-conjunct.end) now.served)));
            kept = λ l h. subst (λ (indexes : List Index). AllServed T indexes l) (sym grown) (told.kept l (now.kept l h));
          }
    ]

pub plan-plan_absent-requires : goal.plan-plan_absent-requires
plan-plan_absent-requires g t c =
    let catalog = c.args.planner.now.catalog.now in
    let select = c.args.select.now in
    let outer = c.args.outer.now in
    let reach = c.as_slice-2.result.now in
    let same : placed reach ≡ reach_under select.from (placed outer) =
    ap placed c.as_slice-2.ensures.value ∙ c.in_ok-reach.ensures ∙ ap (λ (items : List FromItem). reach_under items (placed outer)) c.as_slice.ensures in
    let sound = subst (λ (all : List Conjunct). list_all (λ conjunct. conjunct (items_in (placed reach))) (map (conjunct_is_sound catalog) all) ≡ true)
    (sym c.as_slice-conjuncts.ensures)
    (inner_sound catalog select outer reach c.requires.sound same) in
    λ κs w. (search (rules, the_lemmas), (search rules, (search rules, (sound, (reach_below reach select.from outer same c.requires.below, c.requires.meets)))))

pub plan-returns-in_err-end-clause-steps : goal.plan-returns-in_err-end-clause-steps
plan-returns-in_err-end-clause-steps g t c =
    let T = g.R.RowSource.tables c.args.planner.now.rows.now in
    let catalog = c.args.planner.now.catalog.now in
    let inner = c.plan_absent.ensures.steps in
    let same = ap (λ (all : List Conjunct). rows_in catalog T (inner_tables all)) c.as_slice-conjuncts.ensures in
    let parts = tables_parts catalog T c.args.select.now in
    omega (arith, inner, same, parts)

pub plan-returns-clause-steps : goal.plan-returns-clause-steps
plan-returns-clause-steps g t c =
    let T = g.R.RowSource.tables c.args.planner.now.rows.now in
    let catalog = c.args.planner.now.catalog.now in
    let inner = c.plan_absent.ensures.steps in
    let joins = c.plan_joins.ensures.steps in
    let same = ap (λ (all : List Conjunct). rows_in catalog T (inner_tables all)) c.as_slice-conjuncts.ensures in
    let parts = tables_parts catalog T c.args.select.now in
    omega (arith, inner, joins, same, parts)

pub plan_absent-returns-in_err-inner-in-NotExists-clause-steps : goal.plan_absent-returns-in_err-inner-in-NotExists-clause-steps
plan_absent-returns-in_err-inner-in-NotExists-clause-steps g t c =
    let T = g.R.RowSource.tables c.args.planner.now.rows.now in
    let catalog = c.args.planner.now.catalog.now in
    let all = c.args.conjuncts.now in
    let i = c.loop-conjunct.conjunct-index in
    let inside : i < length all = omega arith in
    let tables : rows_in catalog T (tables_of_conjunct c.conjunct-item.result) ≡ rows_in catalog T (tables_in c.get.result.now) =
    ap (rows_in catalog T) (tables_absent c.conjunct-item.result c.in-NotExists.select c.in-NotExists.is)
    ∙ ap (λ (s : Select). rows_in catalog T (tables_in s)) (sym c.get.ensures) in
    let more = tables_more catalog T all i c.conjunct-item.result inside c.conjunct-item.is in
    let front = tables_front catalog T all (i + 1) in
    let read = c.loop-conjunct.invariant.read in
    let one = c.plan.ensures.steps in
    omega (arith, tables, more, front, read, one)

pub plan_absent-returns-in_err-end-in-NotExists-clause-steps : goal.plan_absent-returns-in_err-end-in-NotExists-clause-steps
plan_absent-returns-in_err-end-in-NotExists-clause-steps g t c =
    let T = g.R.RowSource.tables c.args.planner.now.rows.now in
    let catalog = c.args.planner.now.catalog.now in
    let all = c.args.conjuncts.now in
    let i = c.loop-conjunct.conjunct-index in
    let inside : i < length all = omega arith in
    let tables : rows_in catalog T (tables_of_conjunct c.conjunct-item.result) ≡ rows_in catalog T (tables_in c.get.result.now) =
    ap (rows_in catalog T) (tables_absent c.conjunct-item.result c.in-NotExists.select c.in-NotExists.is)
    ∙ ap (λ (s : Select). rows_in catalog T (tables_in s)) (sym c.get.ensures) in
    let more = tables_more catalog T all i c.conjunct-item.result inside c.conjunct-item.is in
    let front = tables_front catalog T all (i + 1) in
    let read = c.loop-conjunct.invariant.read in
    let one = c.plan.ensures.steps in
    omega (arith, tables, more, front, read, one)
