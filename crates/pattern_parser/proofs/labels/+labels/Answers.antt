use Rattle.std.proofs.Common.{◌≡◌, Err, refl, ◌+◌, ◌-◌, ◌++◌, [], ◌∷◌, length, rules, sym, ap, subst, ◌∙◌, arith}
use Rattle.std.proofs.lemmas.Grind.{common_steps}
use Rattle.graph_ast.specs.declared.query.LabelExpr.TheVariants.{And, Or}
use Rattle.token_grammar.specs.Parser.Answer.{got}
use Rattle.token_grammar.specs.Code.{Parses, gathered, pushed, after_p}
use Rattle.token_grammar.proofs.Loops.{more-step}
use Rattle.token_marks.specs.declared.mark.Mark.TheVariants as m
use Rattle.token_reading.specs.Tokens.{is_mark, span_of}
use Rattle.condition_grammar.specs.Conditions.{Inside}
use Rattle.pattern_parser.specs.Insides.{Own}
use Rattle.pattern_parser.specs.Patterns.{and_of, or_of, label_not, label_and, label_union}
use Rattle.pattern_parser.specs.Reading.{reads, at_depth}
use Rattle.pattern_parser.proofs.Nesting.{Bracketed, nest_open}
use Rattle.pattern_parser.proofs.Listed.{listed_one, listed_all, listed_halt}
use Rattle.pattern_parser.proofs.labels.+labels.Goals as goal

pub label_group-returns-in_err-open : goal.label_group-returns-in_err-open
label_group-returns-in_err-open t c =
    let e = nest_open (Inside.own Own.label_group) (λ (d : Bracketed (Inside.own Own.label_group)). d.1) c.args.depth c.args.tokens.now in
    first_of (search rules, grind (arith, common_steps))

pub label_group-returns-in_err-content : goal.label_group-returns-in_err-content
label_group-returns-in_err-content t c =
    let e = nest_open (Inside.own Own.label_group) (λ (d : Bracketed (Inside.own Own.label_group)). d.1) c.args.depth c.args.tokens.now in
    first_of (search rules, grind (arith, common_steps))

pub label_group-returns-in_err-expect : goal.label_group-returns-in_err-expect
label_group-returns-in_err-expect t c =
    let e = nest_open (Inside.own Own.label_group) (λ (d : Bracketed (Inside.own Own.label_group)). d.1) c.args.depth c.args.tokens.now in
    first_of (search rules, grind (arith, common_steps))

pub label_group-returns : goal.label_group-returns
label_group-returns t c =
    let e = nest_open (Inside.own Own.label_group) (λ (d : Bracketed (Inside.own Own.label_group)). d.1) c.args.depth c.args.tokens.now in
    first_of (search rules, grind (arith, common_steps))

pub more_ands-returns-in_err-item : goal.more_ands-returns-in_err-item
more_ands-returns-in_err-item t c =
    let n = c.count-turn-end.result - c.loop-turn.turn in
    let e = more-step (is_mark m.Ampersand) span_of (reads (at_depth c.args.depth) label_not) n
    (c.count-turn-end.result - (c.loop-turn.turn + 1)) c.loop-turn.all c.loop-turn.tokens c.skip.new.self (omega arith)
    (sym c.next_is.ensures ∙ c.if-not-next_is.false) c.skip.ensures in
    let f = sym e ∙ c.loop-turn.invariant in
    first_of (search rules, grind (arith, common_steps))

pub more_ands-loop-turn-preserved : goal.more_ands-loop-turn-preserved
more_ands-loop-turn-preserved t c =
    let n = c.count-turn-end.result - c.loop-turn.turn in
    let e = more-step (is_mark m.Ampersand) span_of (reads (at_depth c.args.depth) label_not) n
    (c.count-turn-end.result - (c.loop-turn.turn + 1)) c.loop-turn.all c.loop-turn.tokens c.skip.new.self (omega arith)
    (sym c.next_is.ensures ∙ c.if-not-next_is.false) c.skip.ensures in
    let f = sym e ∙ c.loop-turn.invariant in
    first_of (search rules, grind (arith, common_steps))

pub label_and-returns-then-not-next_is : goal.label_and-returns-then-not-next_is
unfolding label_and
label_and-returns-then-not-next_is t c = listed_one (is_mark m.Ampersand) (after_p (is_mark m.Ampersand) span_of (reads (at_depth c.args.depth) label_not))
    (reads (at_depth c.args.depth) label_not) and_of And (λ a k ks. refl) c.args.tokens.now c.label_not.new.tokens c.in_ok-first.first c.in_ok-first.ensures
    (sym c.next_is.ensures ∙ c.if-not-next_is.true)

pub label_and-returns-in_err-all : goal.label_and-returns-in_err-all
unfolding label_and
label_and-returns-in_err-all t c =
    let first = c.in_ok-first.first in
    let one : c.push.new.self ≡ first ∷ [] = c.in_ok-push.ensures.ok ∙ ap (λ l. l ++ first ∷ []) c.new-one.ensures in
    let e : Parses (gathered (is_mark m.Ampersand) (after_p (is_mark m.Ampersand) span_of (reads (at_depth c.args.depth) label_not)) pushed (length c.label_not.new.tokens)
    (first ∷ []) c.label_not.new.tokens) (Err c.in_err-all.field-0.0) c.more_ands.new.tokens =
    subst (λ l. Parses (gathered (is_mark m.Ampersand) (after_p (is_mark m.Ampersand) span_of (reads (at_depth c.args.depth) label_not)) pushed
    (length c.label_not.new.tokens) l c.label_not.new.tokens) (Err c.in_err-all.field-0.0) c.more_ands.new.tokens) one c.in_err-all.ensures in
    let g = listed_halt (is_mark m.Ampersand) (after_p (is_mark m.Ampersand) span_of (reads (at_depth c.args.depth) label_not))
    (reads (at_depth c.args.depth) label_not) and_of And (λ a k ks. refl) c.args.tokens.now c.label_not.new.tokens c.more_ands.new.tokens first c.in_ok-first.ensures
    c.in_err-all.field-0.0 e in
    first_of (search rules, grind (arith, common_steps))

pub label_and-returns : goal.label_and-returns
unfolding label_and
label_and-returns t c =
    let first = c.in_ok-first.first in
    let one : c.push.new.self ≡ first ∷ [] = c.in_ok-push.ensures.ok ∙ ap (λ l. l ++ first ∷ []) c.new-one.ensures in
    let e : gathered (is_mark m.Ampersand) (after_p (is_mark m.Ampersand) span_of (reads (at_depth c.args.depth) label_not)) pushed (length c.label_not.new.tokens)
    (first ∷ []) c.label_not.new.tokens ≡ got c.in_ok-all.all c.more_ands.new.tokens =
    subst (λ l. gathered (is_mark m.Ampersand) (after_p (is_mark m.Ampersand) span_of (reads (at_depth c.args.depth) label_not)) pushed
    (length c.label_not.new.tokens) l c.label_not.new.tokens ≡ got c.in_ok-all.all c.more_ands.new.tokens) one c.in_ok-all.ensures in
    listed_all (is_mark m.Ampersand) (after_p (is_mark m.Ampersand) span_of (reads (at_depth c.args.depth) label_not)) (reads (at_depth c.args.depth) label_not) and_of And
    (λ a k ks. refl) c.args.tokens.now c.label_not.new.tokens c.more_ands.new.tokens first c.in_ok-all.all c.in_ok-first.ensures
    (sym c.next_is.ensures ∙ c.if-not-next_is.false) e

pub more_ors-returns-in_err-item : goal.more_ors-returns-in_err-item
more_ors-returns-in_err-item t c =
    let n = c.count-turn-end.result - c.loop-turn.turn in
    let e = more-step (is_mark m.VerticalBar) span_of (reads (at_depth c.args.depth) label_and) n
    (c.count-turn-end.result - (c.loop-turn.turn + 1)) c.loop-turn.all c.loop-turn.tokens c.skip.new.self (omega arith)
    (sym c.next_is.ensures ∙ c.if-not-next_is.false) c.skip.ensures in
    let f = sym e ∙ c.loop-turn.invariant in
    first_of (search rules, grind (arith, common_steps))

pub more_ors-loop-turn-preserved : goal.more_ors-loop-turn-preserved
more_ors-loop-turn-preserved t c =
    let n = c.count-turn-end.result - c.loop-turn.turn in
    let e = more-step (is_mark m.VerticalBar) span_of (reads (at_depth c.args.depth) label_and) n
    (c.count-turn-end.result - (c.loop-turn.turn + 1)) c.loop-turn.all c.loop-turn.tokens c.skip.new.self (omega arith)
    (sym c.next_is.ensures ∙ c.if-not-next_is.false) c.skip.ensures in
    let f = sym e ∙ c.loop-turn.invariant in
    first_of (search rules, grind (arith, common_steps))

pub label_union-returns-then-not-next_is : goal.label_union-returns-then-not-next_is
unfolding label_union
label_union-returns-then-not-next_is t c = listed_one (is_mark m.VerticalBar) (after_p (is_mark m.VerticalBar) span_of (reads (at_depth c.args.depth) label_and))
    (reads (at_depth c.args.depth) label_and) or_of Or (λ a k ks. refl) c.args.tokens.now c.label_and.new.tokens c.in_ok-first.first c.in_ok-first.ensures
    (sym c.next_is.ensures ∙ c.if-not-next_is.true)

pub label_union-returns-in_err-all : goal.label_union-returns-in_err-all
unfolding label_union
label_union-returns-in_err-all t c =
    let first = c.in_ok-first.first in
    let one : c.push.new.self ≡ first ∷ [] = c.in_ok-push.ensures.ok ∙ ap (λ l. l ++ first ∷ []) c.new-one.ensures in
    let e : Parses (gathered (is_mark m.VerticalBar) (after_p (is_mark m.VerticalBar) span_of (reads (at_depth c.args.depth) label_and)) pushed
    (length c.label_and.new.tokens) (first ∷ []) c.label_and.new.tokens) (Err c.in_err-all.field-0.0) c.more_ors.new.tokens =
    subst (λ l. Parses (gathered (is_mark m.VerticalBar) (after_p (is_mark m.VerticalBar) span_of (reads (at_depth c.args.depth) label_and)) pushed
    (length c.label_and.new.tokens) l c.label_and.new.tokens) (Err c.in_err-all.field-0.0) c.more_ors.new.tokens) one c.in_err-all.ensures in
    let g = listed_halt (is_mark m.VerticalBar) (after_p (is_mark m.VerticalBar) span_of (reads (at_depth c.args.depth) label_and))
    (reads (at_depth c.args.depth) label_and) or_of Or (λ a k ks. refl) c.args.tokens.now c.label_and.new.tokens c.more_ors.new.tokens first c.in_ok-first.ensures
    c.in_err-all.field-0.0 e in
    first_of (search rules, grind (arith, common_steps))

pub label_union-returns : goal.label_union-returns
unfolding label_union
label_union-returns t c =
    let first = c.in_ok-first.first in
    let one : c.push.new.self ≡ first ∷ [] = c.in_ok-push.ensures.ok ∙ ap (λ l. l ++ first ∷ []) c.new-one.ensures in
    let e : gathered (is_mark m.VerticalBar) (after_p (is_mark m.VerticalBar) span_of (reads (at_depth c.args.depth) label_and)) pushed (length c.label_and.new.tokens)
    (first ∷ []) c.label_and.new.tokens ≡ got c.in_ok-all.all c.more_ors.new.tokens =
    subst (λ l. gathered (is_mark m.VerticalBar) (after_p (is_mark m.VerticalBar) span_of (reads (at_depth c.args.depth) label_and)) pushed
    (length c.label_and.new.tokens) l c.label_and.new.tokens ≡ got c.in_ok-all.all c.more_ors.new.tokens) one c.in_ok-all.ensures in
    listed_all (is_mark m.VerticalBar) (after_p (is_mark m.VerticalBar) span_of (reads (at_depth c.args.depth) label_and))
    (reads (at_depth c.args.depth) label_and) or_of Or (λ a k ks. refl) c.args.tokens.now c.label_and.new.tokens c.more_ors.new.tokens first c.in_ok-all.all
    c.in_ok-first.ensures (sym c.next_is.ensures ∙ c.if-not-next_is.false) e
