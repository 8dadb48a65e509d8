use Rattle.std.proofs.Common.{◌+◌, ◌≡◌, ◌<◌, ◌++◌, ◌∙◌, [], true, false, List, take, length, get_or, sym, ap, subst, arith}
use Rattle.std.specs.Prelude.{flat_map}
use Rattle.pgq_base.specs.Instances.{TableRows}
use Rattle.sql_algebra.specs.declared.tree.Select.{Select}
use Rattle.sql_algebra.specs.Meaning.{select_rows}
use Rattle.row_eval.specs.Answered.{Answers}
use Rattle.row_eval.proofs.AnswerLemmas.{flat_front, values_long}
use Rattle.row_eval.proofs.SortLemmas.{flat_next}
use Rattle.row_eval.proofs.SelectsLemmas.{selects_next, selects_front}
use Rattle.row_eval.proofs.evaluator.evaluate.Goals as goal

pub returns-then-not-branch-clause-too_many : goal.returns-then-not-branch-clause-too_many
returns-then-not-branch-clause-too_many g c = λ stopped.
    let T = g.R.RowSource.tables c.args.rows.now in
    let f = λ (select : Select). select_rows c.args.catalog.now T select [] in
    let all = c.args.query.now.selects in
    let i = c.loop-select.select-index in
    let same = c.as_slice-select-items.ensures in
    let within : i < length all = omega (arith, ap length same) in
    let is : c.select-item.result ≡ get_or all i c.select-item.result = c.select-item.is ∙ ap (λ (l : List Select). get_or l i c.select-item.result) same in
    let h : Answers 1000000 c.loop-select.out c.run_select.new.out (f c.select-item.result) false =
    subst (λ b. Answers 1000000 c.loop-select.out c.run_select.new.out (f c.select-item.result) b) c.if-not-branch.true c.in_ok-run_select.ensures.rows in
    let long : length c.loop-select.out ≡ length (flat_map f (take i all)) = sym (values_long c.loop-select.out) ∙ ap length c.loop-select.invariant.rows in
    let more = flat_front f all i c.select-item.result within is in
    omega (arith, h, long, more)

pub loop-select-preserved : goal.loop-select-preserved
loop-select-preserved g c =
    let T = g.R.RowSource.tables c.args.rows.now in
    let f = λ (select : Select). select_rows c.args.catalog.now T select [] in
    let all = c.args.query.now.selects in
    let i = c.loop-select.select-index in
    let same = c.as_slice-select-items.ensures in
    let within : i < length all = omega (arith, ap length same) in
    let is : c.select-item.result ≡ get_or all i c.select-item.result = c.select-item.is ∙ ap (λ (l : List Select). get_or l i c.select-item.result) same in
    let h : Answers 1000000 c.loop-select.out c.run_select.new.out (f c.select-item.result) true =
    subst (λ b. Answers 1000000 c.loop-select.out c.run_select.new.out (f c.select-item.result) b) c.if-not-branch.false c.in_ok-run_select.ensures.rows in
    record {
      rows = h.0 ∙ ap (λ (l : TableRows). l ++ f c.select-item.result) c.loop-select.invariant.rows ∙ sym (flat_next f all i c.select-item.result within is);
      few = h.1 c.loop-select.invariant.few;
      read = (let more = selects_next c.args.catalog.now T all i c.select-item.result within is in let one = c.run_select.ensures.steps in
          let read = c.loop-select.invariant.read in omega (arith, more, one, read));
    }

pub returns-in_err-run_select-clause-steps : goal.returns-in_err-run_select-clause-steps
returns-in_err-run_select-clause-steps g c =
    let T = g.R.RowSource.tables c.args.rows.now in
    let all = c.args.query.now.selects in
    let i = c.loop-select.select-index in
    let same = c.as_slice-select-items.ensures in
    let within : i < length all = omega (arith, ap length same) in
    let is : c.select-item.result ≡ get_or all i c.select-item.result = c.select-item.is ∙ ap (λ (l : List Select). get_or l i c.select-item.result) same in
    let more = selects_next c.args.catalog.now T all i c.select-item.result within is in
    let front = selects_front c.args.catalog.now T all (i + 1) in
    let one = c.run_select.ensures.steps in
    let read = c.loop-select.invariant.read in
    omega (arith, more, front, one, read)

pub returns-then-not-branch-clause-steps : goal.returns-then-not-branch-clause-steps
returns-then-not-branch-clause-steps g c =
    let T = g.R.RowSource.tables c.args.rows.now in
    let all = c.args.query.now.selects in
    let i = c.loop-select.select-index in
    let same = c.as_slice-select-items.ensures in
    let within : i < length all = omega (arith, ap length same) in
    let is : c.select-item.result ≡ get_or all i c.select-item.result = c.select-item.is ∙ ap (λ (l : List Select). get_or l i c.select-item.result) same in
    let more = selects_next c.args.catalog.now T all i c.select-item.result within is in
    let front = selects_front c.args.catalog.now T all (i + 1) in
    let one = c.run_select.ensures.steps in
    let read = c.loop-select.invariant.read in
    omega (arith, more, front, one, read)
