use Rattle.std.proofs.Common.{◌≡◌, ◌∙◌, ap}
use Rattle.row_eval.specs.declared.index.Index.{Index}
use Rattle.row_eval.specs.Slots.{lent_rows}
use Rattle.row_eval.specs.Served.{is_candidate, places_from}
use Rattle.row_eval.specs.Branches.{places_in}
use Rattle.row_eval.proofs.KeyLemmas.{given_of_places, places_below}
use Rattle.row_eval.proofs.RunLemmas.{same_some}
use Rattle.row_eval.proofs.branch.opened.Goals as goal

pub returns-clause-right : goal.returns-clause-right
returns-clause-right g c =
    let T = g.R.RowSource.tables c.args.search.now.rows.now in
    let access = c.args.access.now in
    let s = lent_rows c.args.stack.now in
    let same : c.index_at-index.result.now ≡ c.requires.index = same_some c.index_at-index.result.now c.requires.index _ c.index_at-index.ensures c.requires.at in
    let rows = c.as_slice-rows.ensures.value ∙ ap (λ (x : Index). x.rows.items) same in
    let places = c.in_ok-places.ensures
    ∙ ap (λ keys. places_from (is_candidate keys s) 0 (lent_rows c.as_slice-rows.result.now)) c.as_slice-keys.ensures
    ∙ ap (λ lent. places_from (is_candidate access.keys s) 0 (lent_rows lent)) rows in
    record {
      table = c.requires.table;
      rows = ap lent_rows rows ∙ c.requires.right.lent;
      places = places_below T access s c.requires.index c.requires.right (places_in c.in_ok-places.places) places;
    }

pub returns-clause-rows : goal.returns-clause-rows
returns-clause-rows g c =
    let T = g.R.RowSource.tables c.args.search.now.rows.now in
    let access = c.args.access.now in
    let s = lent_rows c.args.stack.now in
    let same : c.index_at-index.result.now ≡ c.requires.index = same_some c.index_at-index.result.now c.requires.index _ c.index_at-index.ensures c.requires.at in
    let rows = c.as_slice-rows.ensures.value ∙ ap (λ (x : Index). x.rows.items) same in
    let places = c.in_ok-places.ensures
    ∙ ap (λ keys. places_from (is_candidate keys s) 0 (lent_rows c.as_slice-rows.result.now)) c.as_slice-keys.ensures
    ∙ ap (λ lent. places_from (is_candidate access.keys s) 0 (lent_rows lent)) rows in
    given_of_places T access s c.requires.index c.requires.right (places_in c.in_ok-places.places) places
