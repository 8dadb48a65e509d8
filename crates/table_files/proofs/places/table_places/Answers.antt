use Rattle.std.proofs.Common.{◌≡◌, ◌+◌, ◌∙◌, nat_eq, true, false, sym, subst}
use Rattle.std.specs.List.{list_any}
use Rattle.table_files.proofs.PlacesNamed.{Placed, placed_more, unknown, twice, once}
use Rattle.table_files.proofs.places.table_places.Goals as goal

pub returns-in_default-clause-value : goal.returns-in_default-clause-value
returns-in_default-clause-value c = unknown c.args.catalog.now c.args.words.now c.loop-word.word-index c.word-item.result c.loop-word-test.true c.word-item.is
    c.loop-word.places c.loop-word.invariant (sym c.in_default.is ∙ c.table.ensures)

pub returns-then-is_among-clause-value : goal.returns-then-is_among-clause-value
returns-then-is_among-clause-value c =
    twice c.args.catalog.now c.args.words.now c.loop-word.word-index c.word-item.result c.loop-word-test.true c.word-item.is c.loop-word.places c.loop-word.invariant
    c.in-Some.place c.in-Some.ensures
    (subst (λ l. list_any (nat_eq c.in-Some.place) l ≡ true) c.as_slice.ensures (sym c.is_among.ensures ∙ c.if-is_among.true))

pub loop-word-preserved : goal.loop-word-preserved
loop-word-preserved c =
    let step = placed_more c.args.catalog.now c.args.words.now c.loop-word.word-index c.word-item.result c.loop-word-test.true c.word-item.is c.loop-word.places
    c.loop-word.invariant c.in-Some.place c.in-Some.ensures
    (subst (λ l. list_any (nat_eq c.in-Some.place) l ≡ false) c.as_slice.ensures (sym c.is_among.ensures ∙ c.if-is_among.false)) in
    subst (Placed c.args.catalog.now c.args.words.now (c.loop-word.word-index + 1)) (sym c.in_ok-push.ensures.ok) step

pub returns-clause-apart : goal.returns-clause-apart
returns-clause-apart c = once c.loop-word.places c.loop-word.invariant.differ
