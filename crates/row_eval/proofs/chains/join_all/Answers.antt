use Rattle.std.proofs.Common.{◌≡◌, ◌++◌, ◌∷◌, [], ◌∙◌, ap, sym, length, drop, arith, suc}
use Rattle.pgq_base.specs.Instances.{rows_at}
use Rattle.row_eval.specs.Stages.{found, visits}
use Rattle.row_eval.specs.Joins.{passed_on, visits_passed, chain_found, chain_visits, tied_rows, narrowed}
use Rattle.row_eval.proofs.PoppedLemmas.{rows_popped, front_left, back_longer, one_shorter, stack_longer, passed_same}
use Rattle.row_eval.proofs.JoinLemmas.{visits_alike}
use Rattle.row_eval.proofs.chains.join_all.Goals as goal

pub legs-preserved : goal.legs-preserved
legs-preserved g c =
    let T = g.R.RowSource.tables c.args.rows.now in
    let all = c.args.legs.items in
    let now = c.legs.legs.items in
    let new = c.pop.new.self.items in
    let leg = c.in-Some.leg in
    let is : now ≡ new ++ leg ∷ [] = c.in-Some.ensures.items in
    let front = c.legs.invariant.front in
    let shorter : length now ≡ suc (length new) = one_shorter now new leg is in
    record {
      front = front_left all now new leg front is;
      chain = λ s long.
          c.in_ok-planned.ensures.found s (omega (arith, long))
          ∙ ap (λ ways. passed_on (found T c.legs.planned.stages) leg.tests s (narrowed ways s (rows_at T leg.table))) c.as_slice.ensures
          ∙ passed_same (found T c.legs.planned.stages) (chain_found T (drop (length now) all) (found T c.args.end.stages)) leg.tests s
          (λ row. c.legs.invariant.chain (s ++ row ∷ []) (omega (arith, long, shorter, stack_longer s row))) (narrowed leg.ways s (rows_at T leg.table))
          ∙ ap (λ legs. chain_found T legs (found T c.args.end.stages) s) (sym (back_longer all now new leg front is));
      read = λ s long.
          c.in_ok-planned.ensures.visits s (omega (arith, long))
          ∙ ap (λ ways. visits_passed (visits T c.legs.planned.stages) leg.tests s (tied_rows leg.tests s (narrowed ways s (rows_at T leg.table)))) c.as_slice.ensures
          ∙ visits_alike (visits T c.legs.planned.stages) (chain_visits T (drop (length now) all) (visits T c.args.end.stages)) leg.tests s
          (λ row. c.legs.invariant.read (s ++ row ∷ []) (omega (arith, long, shorter, stack_longer s row))) (tied_rows leg.tests s (narrowed leg.ways s (rows_at T leg.table)))
          ∙ ap (λ legs. chain_visits T legs (visits T c.args.end.stages) s) (sym (back_longer all now new leg front is));
      steps = (let fewer = rows_popped T now new leg is in let read = c.in_ok-planned.ensures.steps in omega (arith, fewer, read, c.legs.invariant.steps));
      served = λ h. c.in_ok-planned.ensures.served (c.legs.invariant.served h);
      kept = λ all h. c.in_ok-planned.ensures.kept all (c.legs.invariant.kept all h);
    }
