use Rattle.std.proofs.Common.{rules, ◌+◌, ◌-◌, [], ◌∷◌, ◌++◌, sym, ap, ◌∙◌, arith}
use Rattle.std.proofs.lemmas.Grind.{common_steps}
use Rattle.token_marks.specs.declared.mark.Mark.TheVariants as m
use Rattle.token_grammar.specs.Code.{after_p}
use Rattle.token_grammar.proofs.Loops.{more-step}
use Rattle.token_reading.specs.Tokens.{is_mark, span_of}
use Rattle.condition_grammar.specs.Conditions.{Inside}
use Rattle.sql_algebra.specs.Grammar.{Nested, exists, conjunct}
use Rattle.sql_parser.specs.Reading.{reads, at_depth}
use Rattle.sql_parser.proofs.Nests.{nest_is}
use Rattle.sql_parser.proofs.Listing.{list_start}
use Rattle.sql_parser.proofs.selects.+selects.Goals as goal

pub exists-returns-in_err-open : goal.exists-returns-in_err-open
unfolding exists
exists-returns-in_err-open t c =
    let e = nest_is c.args.depth (Inside.own Nested.inner_select) c.expect.new.tokens in
    first_of (search rules, grind (arith, common_steps))

pub exists-returns-in_err-inner : goal.exists-returns-in_err-inner
unfolding exists
exists-returns-in_err-inner t c =
    let e = nest_is c.args.depth (Inside.own Nested.inner_select) c.expect.new.tokens in
    first_of (search rules, grind (arith, common_steps))

pub exists-returns-in_err-expect-2 : goal.exists-returns-in_err-expect-2
unfolding exists
exists-returns-in_err-expect-2 t c =
    let e = nest_is c.args.depth (Inside.own Nested.inner_select) c.expect.new.tokens in
    first_of (search rules, grind (arith, common_steps))

pub conjuncts-loop-turn-init : goal.conjuncts-loop-turn-init
conjuncts-loop-turn-init t c =
    let P = reads (at_depth c.args.depth) conjunct in
    list_start P (is_mark m.And) (after_p (is_mark m.And) span_of P) c.args.tokens.now c.conjunct.new.tokens c.in_ok-first.first (c.count-turn-end.result - 0) c.push.new.self
    c.in_ok-first.ensures (omega (arith, c.count-turn-end.ensures))
    (c.in_ok-push.ensures.ok ∙ ap (λ l. l ++ c.in_ok-first.first ∷ []) c.new-all.ensures)

pub conjuncts-returns-in_err-item : goal.conjuncts-returns-in_err-item
conjuncts-returns-in_err-item t c =
    let n = c.count-turn-end.result - c.loop-turn.turn in
    let e = more-step (is_mark m.And) span_of (reads (at_depth c.args.depth) conjunct) n (c.count-turn-end.result - (c.loop-turn.turn + 1)) c.loop-turn.all c.loop-turn.tokens
    c.skip.new.self (omega arith) (sym c.next_is.ensures ∙ c.if-not-next_is.false) c.skip.ensures in
    let f = sym e ∙ c.loop-turn.invariant in
    first_of (search rules, grind (arith, common_steps))

pub conjuncts-loop-turn-preserved : goal.conjuncts-loop-turn-preserved
conjuncts-loop-turn-preserved t c =
    let n = c.count-turn-end.result - c.loop-turn.turn in
    let e = more-step (is_mark m.And) span_of (reads (at_depth c.args.depth) conjunct) n (c.count-turn-end.result - (c.loop-turn.turn + 1)) c.loop-turn.all c.loop-turn.tokens
    c.skip.new.self (omega arith) (sym c.next_is.ensures ∙ c.if-not-next_is.false) c.skip.ensures in
    let f = sym e ∙ c.loop-turn.invariant in
    first_of (search rules, grind (arith, common_steps))
