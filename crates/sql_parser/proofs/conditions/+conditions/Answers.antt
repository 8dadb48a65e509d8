use Rattle.std.proofs.Common.{◌+◌, ◌-◌, rules, refl, sym, ap, ◌∙◌, arith}
use Rattle.std.proofs.lemmas.Grind.{common_steps}
use Rattle.token_marks.specs.declared.mark.Mark.TheVariants as m
use Rattle.token_grammar.specs.Parser.Answer.{got}
use Rattle.token_grammar.proofs.Loops.{after-turn}
use Rattle.token_reading.specs.Tokens.{is_mark, span_of}
use Rattle.condition_grammar.specs.Spans.{all_of, any_of}
use Rattle.condition_grammar.specs.Conditions as g
use Rattle.condition_grammar.specs.Conditions.{Inside}
use Rattle.condition_nodes.specs.Gathered.{with_one, conjoined, disjoined}
use Rattle.sql_parser.specs.Reading.{reads, at_depth}
use Rattle.sql_parser.specs.Conditions.{operand, negation, conjunction}
use Rattle.sql_parser.proofs.Nests.{nest_is}
use Rattle.condition_nodes.proofs.GatheredLists.{list_gives, two_gives, whole_one, whole_all, whole_halt}
use Rattle.sql_parser.proofs.conditions.+conditions.Goals as goal

pub more_operands-returns-in_err-item : goal.more_operands-returns-in_err-item
more_operands-returns-in_err-item t c =
    let n = c.count-turn-end.result - c.loop-turn.turn in
    let e = after-turn (is_mark m.Comma) span_of (reads (at_depth c.args.depth) operand) with_one n (c.count-turn-end.result - (c.loop-turn.turn + 1)) c.loop-turn.all
    c.loop-turn.tokens c.skip.new.self (omega arith) (sym c.next_is.ensures ∙ c.if-not-next_is.false) c.skip.ensures in
    let f = sym e ∙ c.loop-turn.invariant in
    first_of (search rules, grind (arith, common_steps))

pub more_operands-loop-turn-preserved : goal.more_operands-loop-turn-preserved
more_operands-loop-turn-preserved t c =
    let n = c.count-turn-end.result - c.loop-turn.turn in
    let e = after-turn (is_mark m.Comma) span_of (reads (at_depth c.args.depth) operand) with_one n (c.count-turn-end.result - (c.loop-turn.turn + 1)) c.loop-turn.all
    c.loop-turn.tokens c.skip.new.self (omega arith) (sym c.next_is.ensures ∙ c.if-not-next_is.false) c.skip.ensures in
    let f = sym e ∙ c.loop-turn.invariant in
    first_of (search rules, grind (arith, common_steps))

pub more_negations-returns-in_err-item : goal.more_negations-returns-in_err-item
more_negations-returns-in_err-item t c =
    let n = c.count-turn-end.result - c.loop-turn.turn in
    let e = after-turn (is_mark m.And) span_of (reads (at_depth c.args.depth) negation) with_one n (c.count-turn-end.result - (c.loop-turn.turn + 1)) c.loop-turn.all
    c.loop-turn.tokens c.skip.new.self (omega arith) (sym c.next_is.ensures ∙ c.if-not-next_is.false) c.skip.ensures in
    let f = sym e ∙ c.loop-turn.invariant in
    first_of (search rules, grind (arith, common_steps))

pub more_negations-loop-turn-preserved : goal.more_negations-loop-turn-preserved
more_negations-loop-turn-preserved t c =
    let n = c.count-turn-end.result - c.loop-turn.turn in
    let e = after-turn (is_mark m.And) span_of (reads (at_depth c.args.depth) negation) with_one n (c.count-turn-end.result - (c.loop-turn.turn + 1)) c.loop-turn.all
    c.loop-turn.tokens c.skip.new.self (omega arith) (sym c.next_is.ensures ∙ c.if-not-next_is.false) c.skip.ensures in
    let f = sym e ∙ c.loop-turn.invariant in
    first_of (search rules, grind (arith, common_steps))

pub more_conjunctions-returns-in_err-item : goal.more_conjunctions-returns-in_err-item
more_conjunctions-returns-in_err-item t c =
    let n = c.count-turn-end.result - c.loop-turn.turn in
    let e = after-turn (is_mark m.Or) span_of (reads (at_depth c.args.depth) conjunction) with_one n (c.count-turn-end.result - (c.loop-turn.turn + 1)) c.loop-turn.all
    c.loop-turn.tokens c.skip.new.self (omega arith) (sym c.next_is.ensures ∙ c.if-not-next_is.false) c.skip.ensures in
    let f = sym e ∙ c.loop-turn.invariant in
    first_of (search rules, grind (arith, common_steps))

pub more_conjunctions-loop-turn-preserved : goal.more_conjunctions-loop-turn-preserved
more_conjunctions-loop-turn-preserved t c =
    let n = c.count-turn-end.result - c.loop-turn.turn in
    let e = after-turn (is_mark m.Or) span_of (reads (at_depth c.args.depth) conjunction) with_one n (c.count-turn-end.result - (c.loop-turn.turn + 1)) c.loop-turn.all
    c.loop-turn.tokens c.skip.new.self (omega arith) (sym c.next_is.ensures ∙ c.if-not-next_is.false) c.skip.ensures in
    let f = sym e ∙ c.loop-turn.invariant in
    first_of (search rules, grind (arith, common_steps))

pub operand_list-returns : goal.operand_list-returns
operand_list-returns t c =
    list_gives (is_mark m.Comma) span_of (reads (at_depth c.args.depth) operand) c.args.tokens.now c.operand.new.tokens c.more_operands.new.tokens c.in_ok-first.first
    c.in_ok-one.one c.in_ok-first.ensures c.in_ok-one.ensures c.more_operands.result c.more_operands.ensures

pub members-returns : goal.members-returns
members-returns t c =
    two_gives (is_mark m.Comma) span_of (reads (at_depth c.args.depth) operand) c.args.tokens.now c.operand.new.tokens c.expect.new.tokens c.operand-2.new.tokens
    c.more_operands.new.tokens c.in_ok-first.first c.in_ok-second.second c.in_ok-expect.field-0 c.in_ok-one.one c.in_ok-two.two
    c.in_ok-first.ensures c.in_ok-one.ensures c.in_ok-expect.ensures c.in_ok-second.ensures c.in_ok-two.ensures c.more_operands.result c.more_operands.ensures

pub conjunction-returns-then-not-next_is : goal.conjunction-returns-then-not-next_is
unfolding g.conjunction
conjunction-returns-then-not-next_is t c = whole_one (is_mark m.And) span_of (reads (at_depth c.args.depth) negation) all_of conjoined (λ c. refl) (λ c d ds. refl)
    c.args.tokens.now c.negation.new.tokens c.in_ok-first.first c.in_ok-first.ensures (sym c.next_is.ensures ∙ c.if-not-next_is.true)

pub conjunction-returns-in_err-all : goal.conjunction-returns-in_err-all
unfolding g.conjunction
conjunction-returns-in_err-all t c =
    let h = whole_halt (is_mark m.And) span_of (reads (at_depth c.args.depth) negation) all_of conjoined (λ c. refl) (λ c d ds. refl) c.args.tokens.now c.negation.new.tokens
    c.more_negations.new.tokens c.in_ok-first.first c.in_ok-one.one c.in_ok-first.ensures c.in_ok-one.ensures c.in_err-all.field-0.0 c.in_err-all.ensures in
    first_of (search rules, grind (arith, common_steps))

pub conjunction-returns : goal.conjunction-returns
unfolding g.conjunction
conjunction-returns t c =
    whole_all (is_mark m.And) span_of (reads (at_depth c.args.depth) negation) all_of conjoined (λ c. refl) (λ c d ds. refl) c.args.tokens.now c.negation.new.tokens
    c.more_negations.new.tokens c.in_ok-first.first c.in_ok-one.one c.in_ok-all.all c.in_ok-first.ensures (sym c.next_is.ensures ∙ c.if-not-next_is.false)
    c.in_ok-one.ensures c.in_ok-all.ensures
    ∙ ap (λ z. got z c.more_negations.new.tokens) (sym c.in_ok-conjoined.ensures)

pub condition-returns-then-not-next_is : goal.condition-returns-then-not-next_is
unfolding g.search_condition
condition-returns-then-not-next_is t c = whole_one (is_mark m.Or) span_of (reads (at_depth c.args.depth) conjunction) any_of disjoined (λ c. refl) (λ c d ds. refl)
    c.args.tokens.now c.conjunction.new.tokens c.in_ok-first.first c.in_ok-first.ensures (sym c.next_is.ensures ∙ c.if-not-next_is.true)

pub condition-returns-in_err-all : goal.condition-returns-in_err-all
unfolding g.search_condition
condition-returns-in_err-all t c =
    let h = whole_halt (is_mark m.Or) span_of (reads (at_depth c.args.depth) conjunction) any_of disjoined (λ c. refl) (λ c d ds. refl) c.args.tokens.now
    c.conjunction.new.tokens c.more_conjunctions.new.tokens c.in_ok-first.first c.in_ok-one.one c.in_ok-first.ensures c.in_ok-one.ensures c.in_err-all.field-0.0
    c.in_err-all.ensures in
    first_of (search rules, grind (arith, common_steps))

pub condition-returns : goal.condition-returns
unfolding g.search_condition
condition-returns t c =
    whole_all (is_mark m.Or) span_of (reads (at_depth c.args.depth) conjunction) any_of disjoined (λ c. refl) (λ c d ds. refl) c.args.tokens.now c.conjunction.new.tokens
    c.more_conjunctions.new.tokens c.in_ok-first.first c.in_ok-one.one c.in_ok-all.all c.in_ok-first.ensures (sym c.next_is.ensures ∙ c.if-not-next_is.false)
    c.in_ok-one.ensures c.in_ok-all.ensures
    ∙ ap (λ z. got z c.more_conjunctions.new.tokens) (sym c.in_ok-disjoined.ensures)

pub coalesce-returns-in_err-open : goal.coalesce-returns-in_err-open
unfolding g.coalesce
coalesce-returns-in_err-open t c =
    let e = nest_is c.args.depth Inside.members c.expect.new.tokens in
    first_of (search rules, grind (arith, common_steps))

pub coalesce-returns-in_err-all : goal.coalesce-returns-in_err-all
unfolding g.coalesce
coalesce-returns-in_err-all t c =
    let e = nest_is c.args.depth Inside.members c.expect.new.tokens in
    first_of (search rules, grind (arith, common_steps))

pub coalesce-returns-in_err-closing : goal.coalesce-returns-in_err-closing
unfolding g.coalesce
coalesce-returns-in_err-closing t c =
    let e = nest_is c.args.depth Inside.members c.expect.new.tokens in
    let read = c.in_ok-all.ensures.read in
    let made = c.in_ok-all.ensures.made in
    first_of (search rules, grind (arith, common_steps))

pub coalesce-returns : goal.coalesce-returns
unfolding g.coalesce
coalesce-returns t c =
    let e = nest_is c.args.depth Inside.members c.expect.new.tokens in
    let read = c.in_ok-all.ensures.read in
    let made = c.in_ok-all.ensures.made in
    first_of (search rules, grind (arith, common_steps))

pub including-returns-in_err-open : goal.including-returns-in_err-open
unfolding g.including
including-returns-in_err-open t c =
    let e = nest_is c.args.depth Inside.operands c.expect-2.new.tokens in
    first_of (search rules, grind (arith, common_steps))

pub including-returns-in_err-all : goal.including-returns-in_err-all
unfolding g.including
including-returns-in_err-all t c =
    let e = nest_is c.args.depth Inside.operands c.expect-2.new.tokens in
    first_of (search rules, grind (arith, common_steps))

pub including-returns-in_err-closing : goal.including-returns-in_err-closing
unfolding g.including
including-returns-in_err-closing t c =
    let e = nest_is c.args.depth Inside.operands c.expect-2.new.tokens in
    let read = c.in_ok-all.ensures.read in
    let made = c.in_ok-all.ensures.made in
    first_of (search rules, grind (arith, common_steps))

pub including-returns : goal.including-returns
unfolding g.including
including-returns t c =
    let e = nest_is c.args.depth Inside.operands c.expect-2.new.tokens in
    let read = c.in_ok-all.ensures.read in
    let made = c.in_ok-all.ensures.made in
    first_of (search rules, grind (arith, common_steps))
