use Rattle.std.proofs.Common.{◌<◌, ◌++◌, ◌∷◌, [], cond, take, length, arith, sym, ap, ◌∙◌}
use Rattle.row_eval.specs.Slots.{lent_rows}
use Rattle.row_eval.specs.Served.{places_from, is_code, row_code}
use Rattle.row_eval.proofs.IndexLemmas.{places_more, lent_at}
use Rattle.row_eval.proofs.index.groups_of.Goals as goal

pub loop-place-preserved : goal.loop-place-preserved
loop-place-preserved c = λ q.
    let all = lent_rows c.args.lent.now in
    let i = c.loop-place.place in
    let within : i < length c.args.lent.now = omega arith in
    let same = lent_at c.args.lent.now i c.index-lent-place.result within c.index-lent-place.is in
    let places = λ (l : _). places_from (λ row. is_code q (row_code c.args.tied.now row)) 0 l in
    c.in_ok-add_place.ensures q ∙ ap (λ l. cond (is_code q c.code_of_row-code.result) (l ++ i ∷ []) l) (c.loop-place.invariant q)
    ∙ ap (λ code. cond (is_code q code) (places (take i all) ++ i ∷ []) (places (take i all))) (c.code_of_row-code.ensures ∙ ap (row_code c.args.tied.now) same.1)
    ∙ sym (places_more (λ row. is_code q (row_code c.args.tied.now row)) all i same.0)
