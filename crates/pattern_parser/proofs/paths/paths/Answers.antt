use Rattle.std.proofs.Common.{rules, ◌+◌, ◌-◌, [], ◌∷◌, ◌++◌, sym, ap, ◌∙◌, arith}
use Rattle.std.proofs.lemmas.Grind.{common_steps}
use Rattle.token_grammar.proofs.Loops.{more-step, gathered-stop, gathered-end}
use Rattle.token_grammar.specs.Code.{pushed, after_p}
use Rattle.pattern_parser.specs.Patterns.{path}
use Rattle.token_marks.specs.declared.mark.Mark.TheVariants as m
use Rattle.token_reading.specs.Tokens.{is_mark, span_of}
use Rattle.pattern_parser.specs.Reading.{reads, at_depth}
use Rattle.pattern_parser.proofs.Levels.{list_start}
use Rattle.pattern_parser.proofs.paths.paths.Goals as goal
use Rattle.pattern_parser.proofs.paths.paths.Goals.{else-loop-turn-test, then-loop-turn-test+then-not-next_is}

pub returns-in_err-item : goal.returns-in_err-item
returns-in_err-item c =
    let n = c.count-turn-end.result - c.loop-turn.turn in
    let e = more-step (is_mark m.Comma) span_of (reads (at_depth c.args.depth) path) n (c.count-turn-end.result - (c.loop-turn.turn + 1)) c.loop-turn.all c.loop-turn.tokens
    c.skip.new.self (omega arith) (sym c.next_is.ensures ∙ c.if-not-next_is.false) c.skip.ensures in
    let f = sym e ∙ c.loop-turn.invariant in
    first_of (search rules, grind (arith, common_steps))

pub loop-turn-preserved : goal.loop-turn-preserved
loop-turn-preserved c =
    let n = c.count-turn-end.result - c.loop-turn.turn in
    let e = more-step (is_mark m.Comma) span_of (reads (at_depth c.args.depth) path) n (c.count-turn-end.result - (c.loop-turn.turn + 1)) c.loop-turn.all c.loop-turn.tokens
    c.skip.new.self (omega arith) (sym c.next_is.ensures ∙ c.if-not-next_is.false) c.skip.ensures in
    let f = sym e ∙ c.loop-turn.invariant in
    first_of (search rules, grind (arith, common_steps))

pub loop-turn-init : goal.loop-turn-init
loop-turn-init c =
    list_start (reads (at_depth c.args.depth) path) c.args.tokens.now c.path.new.tokens c.in_ok-first.first
    (c.count-turn-end.result - 0) c.push.new.self c.in_ok-first.ensures (omega (arith, c.count-turn-end.ensures))
    (c.in_ok-push.ensures.ok ∙ ap (λ l. l ++ c.in_ok-first.first ∷ []) c.new-all.ensures)

pub returns : goal.returns
returns c = sym c.loop-turn.invariant ∙ elim c.loop-turn-test.branch [
  | else-loop-turn-test w ↦ gathered-end (is_mark m.Comma) (after_p (is_mark m.Comma) span_of (reads (at_depth c.args.depth) path)) pushed
      (c.count-turn-end.result - c.loop-turn.turn) c.loop-turn.all c.loop-turn.tokens (omega arith)
  | then-loop-turn-test+then-not-next_is w ↦ gathered-stop (is_mark m.Comma) (after_p (is_mark m.Comma) span_of (reads (at_depth c.args.depth) path)) pushed
      (c.count-turn-end.result - c.loop-turn.turn) c.loop-turn.all c.loop-turn.tokens (sym w.next_is.ensures ∙ w.if-not-next_is.true)
]
