use Rattle.std.proofs.Common.{◌+◌, ◌-◌, Err, rules, refl, sym, ap, subst, ◌∙◌, arith}
use Rattle.std.proofs.lemmas.Grind.{common_steps}
use Rattle.token_marks.specs.declared.mark.Mark.TheVariants as m
use Rattle.token_grammar.specs.Rules.{on}
use Rattle.token_grammar.specs.Rules.Rule.{either, opt}
use Rattle.token_grammar.specs.Parser.{bind, one_p}
use Rattle.token_grammar.specs.Parser.Answer.{got}
use Rattle.token_grammar.specs.Code.{Parses}
use Rattle.token_grammar.proofs.Loops.{after-turn}
use Rattle.token_grammar.proofs.Through.{seq-first}
use Rattle.token_reading.specs.Tokens.{class, is_mark, span_of, named}
use Rattle.condition_grammar.specs.Spans.{all_of, any_of, unless_none}
use Rattle.condition_grammar.specs.Conditions as g
use Rattle.condition_grammar.specs.Conditions.{Inside}
use Rattle.condition_nodes.specs.Gathered.{with_one, conjoined, disjoined}
use Rattle.pattern_parser.specs.Reading.{reads, at_depth, flat}
use Rattle.pattern_parser.specs.Tests.{is_plain, is_group_word, dotted, date_text, test_tail, with_tail, after_name, after_group_word, unnamed_operand, negation, conjunction}
use Rattle.pattern_parser.specs.Conditions.{operand, more_negations, more_conjunctions}
use Rattle.pattern_parser.proofs.Nests.{nest_is}
use Rattle.condition_nodes.proofs.GatheredLists.{list_gives, two_gives, joined_one, joined_all, joined_halt}
use Rattle.pattern_parser.proofs.Puts.{seq_put, ended, ended_parses, with_test}
use Rattle.pattern_parser.proofs.Heads.{own_read, unnamed_read, dotted_read, date_or_name, date_alone, group_or_name, group_alone, by_unnamed, by_plain, by_date, by_group}
use Rattle.pattern_parser.proofs.conditions.+conditions.Goals as goal

pub more_operands-returns-in_err-item : goal.more_operands-returns-in_err-item
more_operands-returns-in_err-item t c =
    let n = c.count-turn-end.result - c.loop-turn.turn in
    let e = after-turn (is_mark m.Comma) span_of (reads (at_depth c.args.depth) operand) with_one n (c.count-turn-end.result - (c.loop-turn.turn + 1)) c.loop-turn.all
    c.loop-turn.tokens c.skip.new.self (omega arith) (sym c.next_is.ensures ∙ c.if-not-next_is.false) c.skip.ensures in
    let f = sym e ∙ c.loop-turn.invariant in
    first_of (search rules, grind (arith, common_steps))

pub more_operands-loop-turn-preserved : goal.more_operands-loop-turn-preserved
more_operands-loop-turn-preserved t c =
    let n = c.count-turn-end.result - c.loop-turn.turn in
    let e = after-turn (is_mark m.Comma) span_of (reads (at_depth c.args.depth) operand) with_one n (c.count-turn-end.result - (c.loop-turn.turn + 1)) c.loop-turn.all
    c.loop-turn.tokens c.skip.new.self (omega arith) (sym c.next_is.ensures ∙ c.if-not-next_is.false) c.skip.ensures in
    let f = sym e ∙ c.loop-turn.invariant in
    first_of (search rules, grind (arith, common_steps))

pub more_negations-returns-in_err-item : goal.more_negations-returns-in_err-item
more_negations-returns-in_err-item t c =
    let n = c.count-turn-end.result - c.loop-turn.turn in
    let e = after-turn (is_mark m.And) span_of (reads (at_depth c.args.depth) negation) with_one n (c.count-turn-end.result - (c.loop-turn.turn + 1)) c.loop-turn.all
    c.loop-turn.tokens c.skip.new.self (omega arith) (sym c.next_is.ensures ∙ c.if-not-next_is.false) c.skip.ensures in
    let f = sym e ∙ c.loop-turn.invariant in
    first_of (search rules, grind (arith, common_steps))

pub more_negations-loop-turn-preserved : goal.more_negations-loop-turn-preserved
more_negations-loop-turn-preserved t c =
    let n = c.count-turn-end.result - c.loop-turn.turn in
    let e = after-turn (is_mark m.And) span_of (reads (at_depth c.args.depth) negation) with_one n (c.count-turn-end.result - (c.loop-turn.turn + 1)) c.loop-turn.all
    c.loop-turn.tokens c.skip.new.self (omega arith) (sym c.next_is.ensures ∙ c.if-not-next_is.false) c.skip.ensures in
    let f = sym e ∙ c.loop-turn.invariant in
    first_of (search rules, grind (arith, common_steps))

pub more_conjunctions-returns-in_err-item : goal.more_conjunctions-returns-in_err-item
more_conjunctions-returns-in_err-item t c =
    let n = c.count-turn-end.result - c.loop-turn.turn in
    let e = after-turn (is_mark m.Or) span_of (reads (at_depth c.args.depth) conjunction) with_one n (c.count-turn-end.result - (c.loop-turn.turn + 1)) c.loop-turn.all
    c.loop-turn.tokens c.skip.new.self (omega arith) (sym c.next_is.ensures ∙ c.if-not-next_is.false) c.skip.ensures in
    let f = sym e ∙ c.loop-turn.invariant in
    first_of (search rules, grind (arith, common_steps))

pub more_conjunctions-loop-turn-preserved : goal.more_conjunctions-loop-turn-preserved
more_conjunctions-loop-turn-preserved t c =
    let n = c.count-turn-end.result - c.loop-turn.turn in
    let e = after-turn (is_mark m.Or) span_of (reads (at_depth c.args.depth) conjunction) with_one n (c.count-turn-end.result - (c.loop-turn.turn + 1)) c.loop-turn.all
    c.loop-turn.tokens c.skip.new.self (omega arith) (sym c.next_is.ensures ∙ c.if-not-next_is.false) c.skip.ensures in
    let f = sym e ∙ c.loop-turn.invariant in
    first_of (search rules, grind (arith, common_steps))

pub operands-returns : goal.operands-returns
operands-returns t c =
    list_gives (is_mark m.Comma) span_of (reads (at_depth c.args.depth) operand) c.args.tokens.now c.operand.new.tokens c.more_operands.new.tokens c.in_ok-first.first
    c.in_ok-one.one c.in_ok-first.ensures c.in_ok-one.ensures c.more_operands.result c.more_operands.ensures

pub members-returns : goal.members-returns
members-returns t c =
    two_gives (is_mark m.Comma) span_of (reads (at_depth c.args.depth) operand) c.args.tokens.now c.operand.new.tokens c.expect.new.tokens c.operand-2.new.tokens
    c.more_operands.new.tokens c.in_ok-first.first c.in_ok-second.second c.in_ok-expect.field-0 c.in_ok-one.one c.in_ok-two.two
    c.in_ok-first.ensures c.in_ok-one.ensures c.in_ok-expect.ensures c.in_ok-second.ensures c.in_ok-two.ensures c.more_operands.result c.more_operands.ensures

pub conjunction_from-returns-then-not-next_is : goal.conjunction_from-returns-then-not-next_is
conjunction_from-returns-then-not-next_is t c = joined_one (is_mark m.And) span_of (reads (at_depth c.args.depth) negation) all_of conjoined (λ c. refl) (λ c d ds. refl)
    c.args.tokens.now c.args.first (sym c.next_is.ensures ∙ c.if-not-next_is.true)

pub conjunction_from-returns-in_err-all : goal.conjunction_from-returns-in_err-all
conjunction_from-returns-in_err-all t c =
    let h = joined_halt (is_mark m.And) span_of (reads (at_depth c.args.depth) negation) all_of conjoined (λ c. refl) (λ c d ds. refl) c.args.tokens.now
    c.more_negations.new.tokens c.args.first c.in_ok-one.one c.in_ok-one.ensures c.in_err-all.field-0.0 c.in_err-all.ensures in
    first_of (search rules, grind (arith, common_steps))

pub conjunction_from-returns : goal.conjunction_from-returns
conjunction_from-returns t c =
    joined_all (is_mark m.And) span_of (reads (at_depth c.args.depth) negation) all_of conjoined (λ c. refl) (λ c d ds. refl) c.args.tokens.now
    c.more_negations.new.tokens c.args.first c.in_ok-one.one c.in_ok-all.all (sym c.next_is.ensures ∙ c.if-not-next_is.false) c.in_ok-one.ensures c.in_ok-all.ensures
    ∙ ap (λ z. got z c.more_negations.new.tokens) (sym c.in_ok-conjoined.ensures)

pub conjunction-returns : goal.conjunction-returns
unfolding g.conjunction
conjunction-returns t c =
    let e = seq-first (reads (at_depth c.args.depth) negation) (reads (at_depth c.args.depth) more_negations) (λ d. all_of d.0 d.1) c.args.tokens.now
    c.negation.new.tokens c.in_ok-first.first c.in_ok-first.ensures in
    subst (λ a. Parses a c.conjunction_from.result c.conjunction_from.new.tokens) (sym e) c.conjunction_from.ensures

pub condition_from-returns-then-not-next_is : goal.condition_from-returns-then-not-next_is
condition_from-returns-then-not-next_is t c = joined_one (is_mark m.Or) span_of (reads (at_depth c.args.depth) conjunction) any_of disjoined (λ c. refl) (λ c d ds. refl)
    c.args.tokens.now c.args.first (sym c.next_is.ensures ∙ c.if-not-next_is.true)

pub condition_from-returns-in_err-all : goal.condition_from-returns-in_err-all
condition_from-returns-in_err-all t c =
    let h = joined_halt (is_mark m.Or) span_of (reads (at_depth c.args.depth) conjunction) any_of disjoined (λ c. refl) (λ c d ds. refl) c.args.tokens.now
    c.more_conjunctions.new.tokens c.args.first c.in_ok-one.one c.in_ok-one.ensures c.in_err-all.field-0.0 c.in_err-all.ensures in
    first_of (search rules, grind (arith, common_steps))

pub condition_from-returns : goal.condition_from-returns
condition_from-returns t c =
    joined_all (is_mark m.Or) span_of (reads (at_depth c.args.depth) conjunction) any_of disjoined (λ c. refl) (λ c d ds. refl) c.args.tokens.now
    c.more_conjunctions.new.tokens c.args.first c.in_ok-one.one c.in_ok-all.all (sym c.next_is.ensures ∙ c.if-not-next_is.false) c.in_ok-one.ensures
    c.in_ok-all.ensures
    ∙ ap (λ z. got z c.more_conjunctions.new.tokens) (sym c.in_ok-disjoined.ensures)

pub condition-returns : goal.condition-returns
unfolding g.search_condition
condition-returns t c =
    let e = seq-first (reads (at_depth c.args.depth) conjunction) (reads (at_depth c.args.depth) more_conjunctions) (λ d. any_of d.0 d.1) c.args.tokens.now
    c.conjunction.new.tokens c.in_ok-first.first c.in_ok-first.ensures in
    subst (λ a. Parses a c.condition_from.result c.condition_from.new.tokens) (sym e) c.condition_from.ensures

pub coalesce-returns-in_err-open : goal.coalesce-returns-in_err-open
unfolding g.coalesce
coalesce-returns-in_err-open t c =
    let e = nest_is c.args.depth Inside.members c.expect.new.tokens in
    first_of (search rules, grind (arith, common_steps))

pub coalesce-returns-in_err-all : goal.coalesce-returns-in_err-all
unfolding g.coalesce
coalesce-returns-in_err-all t c =
    let e = nest_is c.args.depth Inside.members c.expect.new.tokens in
    first_of (search rules, grind (arith, common_steps))

pub coalesce-returns-in_err-closing : goal.coalesce-returns-in_err-closing
unfolding g.coalesce
coalesce-returns-in_err-closing t c =
    let e = nest_is c.args.depth Inside.members c.expect.new.tokens in
    let read = c.in_ok-all.ensures.read in
    let made = c.in_ok-all.ensures.made in
    first_of (search rules, grind (arith, common_steps))

pub coalesce-returns : goal.coalesce-returns
unfolding g.coalesce
coalesce-returns t c =
    let e = nest_is c.args.depth Inside.members c.expect.new.tokens in
    let read = c.in_ok-all.ensures.read in
    let made = c.in_ok-all.ensures.made in
    first_of (search rules, grind (arith, common_steps))

pub including-returns-in_err-open : goal.including-returns-in_err-open
unfolding g.including
including-returns-in_err-open t c =
    let e = nest_is c.args.depth Inside.operands c.expect-2.new.tokens in
    first_of (search rules, grind (arith, common_steps))

pub including-returns-in_err-all : goal.including-returns-in_err-all
unfolding g.including
including-returns-in_err-all t c =
    let e = nest_is c.args.depth Inside.operands c.expect-2.new.tokens in
    first_of (search rules, grind (arith, common_steps))

pub including-returns-in_err-closing : goal.including-returns-in_err-closing
unfolding g.including
including-returns-in_err-closing t c =
    let e = nest_is c.args.depth Inside.operands c.expect-2.new.tokens in
    let read = c.in_ok-all.ensures.read in
    let made = c.in_ok-all.ensures.made in
    first_of (search rules, grind (arith, common_steps))

pub including-returns : goal.including-returns
unfolding g.including
including-returns t c =
    let e = nest_is c.args.depth Inside.operands c.expect-2.new.tokens in
    let read = c.in_ok-all.ensures.read in
    let made = c.in_ok-all.ensures.made in
    first_of (search rules, grind (arith, common_steps))

pub operand-returns-then-next_is_own_operand : goal.operand-returns-then-next_is_own_operand
unfolding g.leaf_or_date g.dotted g.date_text
operand-returns-then-next_is_own_operand t c =
    let e = own_read c.args.depth c.args.tokens.now (sym c.next_is_own_operand.ensures ∙ c.if-next_is_own_operand.true) in
    first_of (search rules, grind (arith, common_steps))

pub operand-returns : goal.operand-returns
operand-returns t c =
    subst (λ a. Parses a c.unnamed_operand.result c.unnamed_operand.new.tokens)
    (sym (unnamed_read c.args.depth c.args.tokens.now (sym c.next_is_own_operand.ensures ∙ c.if-next_is_own_operand.false))) c.unnamed_operand.ensures

pub after_name-returns : goal.after_name-returns
unfolding g.dotted
after_name-returns t c =
    let d = dotted_read c.args.depth c.args.tokens.now (sym c.next_is.ensures ∙ c.if-not-next_is.false) in
    let e = ended (reads flat dotted) (reads (at_depth c.args.depth) (opt test_tail)) with_test c.args.name c.args.tokens.now c.property.new.tokens c.in_ok-leaf.leaf
    (ap (λ z. bind z (λ f l. got (f c.args.name) l)) c.in_ok-property.ensures ∙ ap (λ x. got x c.property.new.tokens) (sym c.in_ok-leaf.ensures)) in
    subst (λ a. Parses a c.test_end.result c.test_end.new.tokens) (sym (ap (λ z. bind z (λ f l. got (f c.args.name) l)) d ∙ e)) c.test_end.ensures

pub date_test-returns-then-next_is_after_name : goal.date_test-returns-then-next_is_after_name
date_test-returns-then-next_is_after_name t c =
    let e = seq_put (one_p (is_mark m.Date) named) (reads (at_depth c.args.depth) (either after_name (with_tail test_tail date_text))) c.args.tokens.now
    c.word_of.new.tokens c.in_ok-word.word c.in_ok-word.ensures in
    let d = date_or_name c.args.depth c.word_of.new.tokens (sym c.next_is_after_name.ensures ∙ c.if-next_is_after_name.true) in
    subst (λ a. Parses a c.after_name.result c.after_name.new.tokens) (sym (e ∙ ap (λ z. bind z (λ f l. got (f c.in_ok-word.word) l)) d)) c.after_name.ensures

pub date_test-returns : goal.date_test-returns
unfolding g.date_text
date_test-returns t c =
    let e = seq_put (one_p (is_mark m.Date) named) (reads (at_depth c.args.depth) (either after_name (with_tail test_tail date_text))) c.args.tokens.now
    c.word_of.new.tokens c.in_ok-word.word c.in_ok-word.ensures in
    let d = date_alone c.args.depth c.word_of.new.tokens (sym c.next_is_after_name.ensures ∙ c.if-next_is_after_name.false) in
    let f = ended (reads flat date_text) (reads (at_depth c.args.depth) (opt test_tail)) with_test c.in_ok-word.word c.word_of.new.tokens c.date.new.tokens
    c.in_ok-date.date c.in_ok-date.ensures in
    subst (λ a. Parses a c.test_end.result c.test_end.new.tokens) (sym (e ∙ ap (λ z. bind z (λ f l. got (f c.in_ok-word.word) l)) d ∙ f)) c.test_end.ensures

pub date_test-returns-in_err-date : goal.date_test-returns-in_err-date
unfolding g.date_text
date_test-returns-in_err-date t c =
    let e = seq_put (one_p (is_mark m.Date) named) (reads (at_depth c.args.depth) (either after_name (with_tail test_tail date_text))) c.args.tokens.now
    c.word_of.new.tokens c.in_ok-word.word c.in_ok-word.ensures in
    let d = date_alone c.args.depth c.word_of.new.tokens (sym c.next_is_after_name.ensures ∙ c.if-next_is_after_name.false) in
    let f = ended_parses (reads flat date_text) (reads (at_depth c.args.depth) (opt test_tail)) with_test c.in_ok-word.word c.word_of.new.tokens c.date.new.tokens
    c.in_err-date.field-0.0 c.in_err-date.ensures in
    let g = subst (λ a. Parses a (Err c.in_err-date.field-0.0) c.date.new.tokens) (sym (e ∙ ap (λ z. bind z (λ f l. got (f c.in_ok-word.word) l)) d)) f in
    first_of (search rules, grind (arith, common_steps))

pub group_word_test-returns-then-next_is_after_name : goal.group_word_test-returns-then-next_is_after_name
group_word_test-returns-then-next_is_after_name t c =
    let e = seq_put (one_p (on class is_group_word) named) (reads (at_depth c.args.depth) (either after_name after_group_word)) c.args.tokens.now c.group_word.new.tokens
    c.in_ok-word.word c.in_ok-word.ensures in
    let d = group_or_name c.args.depth c.group_word.new.tokens (sym c.next_is_after_name.ensures ∙ c.if-next_is_after_name.true) in
    subst (λ a. Parses a c.after_name.result c.after_name.new.tokens) (sym (e ∙ ap (λ z. bind z (λ f l. got (f c.in_ok-word.word) l)) d)) c.after_name.ensures

pub group_word_test-returns : goal.group_word_test-returns
group_word_test-returns t c =
    let e = seq_put (one_p (on class is_group_word) named) (reads (at_depth c.args.depth) (either after_name after_group_word)) c.args.tokens.now c.group_word.new.tokens
    c.in_ok-word.word c.in_ok-word.ensures in
    let d = group_alone c.args.depth c.group_word.new.tokens (sym c.next_is_after_name.ensures ∙ c.if-next_is_after_name.false) in
    subst (λ a. Parses a c.group.result c.group.new.tokens) (sym (e ∙ ap (λ z. bind z (λ f l. got (f c.in_ok-word.word) l)) d)) c.group.ensures

pub test-returns-then-next_is_unnamed : goal.test-returns-then-next_is_unnamed
test-returns-then-next_is_unnamed t c =
    let e = by_unnamed is_plain c.args.depth c.args.tokens.now (sym c.next_is_unnamed.ensures ∙ c.if-next_is_unnamed.true) in
    let f = seq-first (reads (at_depth c.args.depth) unnamed_operand) (reads (at_depth c.args.depth) (opt test_tail)) (λ d. unless_none d.1 d.0) c.args.tokens.now
    c.unnamed_operand.new.tokens c.in_ok-operand.operand c.in_ok-operand.ensures in
    subst (λ a. Parses a c.test_end.result c.test_end.new.tokens) (sym (e ∙ f)) c.test_end.ensures

pub test-returns-in_err-operand : goal.test-returns-in_err-operand
test-returns-in_err-operand t c =
    let e = by_unnamed is_plain c.args.depth c.args.tokens.now (sym c.next_is_unnamed.ensures ∙ c.if-next_is_unnamed.true) in
    first_of (search rules, grind (arith, common_steps))

pub test-returns-then-next_is_plain : goal.test-returns-then-next_is_plain
test-returns-then-next_is_plain t c =
    let e = by_plain is_plain c.args.depth c.args.tokens.now (sym c.next_is_unnamed.ensures ∙ c.if-next_is_unnamed.false) (sym c.next_is_plain.ensures ∙ c.if-next_is_plain.true) in
    let f = seq_put (one_p (on class is_plain) named) (reads (at_depth c.args.depth) after_name) c.args.tokens.now c.plain_name.new.tokens c.in_ok-name.name c.in_ok-name.ensures in
    subst (λ a. Parses a c.after_name.result c.after_name.new.tokens) (sym (e ∙ f)) c.after_name.ensures

pub test-returns-in_err-name : goal.test-returns-in_err-name
test-returns-in_err-name t c =
    let e = by_plain is_plain c.args.depth c.args.tokens.now (sym c.next_is_unnamed.ensures ∙ c.if-next_is_unnamed.false) (sym c.next_is_plain.ensures ∙ c.if-next_is_plain.true) in
    first_of (search rules, grind (arith, common_steps))

pub test-returns-then-next_is : goal.test-returns-then-next_is
test-returns-then-next_is t c =
    subst (λ a. Parses a c.date_test.result c.date_test.new.tokens) (sym (by_date is_plain c.args.depth c.args.tokens.now
    (sym c.next_is_unnamed.ensures ∙ c.if-next_is_unnamed.false) (sym c.next_is_plain.ensures ∙ c.if-next_is_plain.false)
    (sym c.next_is.ensures ∙ c.if-next_is.true))) c.date_test.ensures

pub test-returns : goal.test-returns
test-returns t c =
    subst (λ a. Parses a c.group_word_test.result c.group_word_test.new.tokens)
    (sym (by_group is_plain c.args.depth c.args.tokens.now (sym c.next_is_unnamed.ensures ∙ c.if-next_is_unnamed.false)
    (sym c.next_is_plain.ensures ∙ c.if-next_is_plain.false) (sym c.next_is.ensures ∙ c.if-next_is.false))) c.group_word_test.ensures
