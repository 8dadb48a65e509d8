use Rattle.std.proofs.Common.{rules, ◌+◌, ◌-◌, [], ◌∷◌, ◌++◌, sym, ap, ◌∙◌, arith}
use Rattle.std.proofs.lemmas.Grind.{common_steps}
use Rattle.token_grammar.proofs.Loops.{gathered-step, gathered-stop, gathered-end}
use Rattle.token_grammar.specs.Code.{pushed}
use Rattle.sql_parser.proofs.Listing.{list_start}
use Rattle.sql_parser.proofs.lists.list.Goals as goal
use Rattle.sql_parser.proofs.lists.list.Goals.{else-loop-turn-test, then-loop-turn-test+then-not-another_is_next}

pub loop-turn-init : goal.loop-turn-init
loop-turn-init g c =
    list_start (g.I.Listed.first c.args.depth) g.I.Listed.begins (g.I.Listed.another c.args.depth) c.args.tokens.now c.read_first.new.tokens c.in_ok-first.first
    (c.count-turn-end.result - 0) c.push.new.self c.in_ok-first.ensures (omega (arith, c.count-turn-end.ensures))
    (c.in_ok-push.ensures.ok ∙ ap (λ l. l ++ c.in_ok-first.first ∷ []) c.new-all.ensures)

pub returns-in_err-item : goal.returns-in_err-item
returns-in_err-item g c =
    let n = c.count-turn-end.result - c.loop-turn.turn in
    let e = gathered-step g.I.Listed.begins (g.I.Listed.another c.args.depth) pushed n (c.count-turn-end.result - (c.loop-turn.turn + 1)) c.loop-turn.all c.loop-turn.tokens
    (omega arith) (sym c.another_is_next.ensures ∙ c.if-not-another_is_next.false) in
    let f = sym e ∙ c.loop-turn.invariant in
    first_of (search rules, grind (arith, common_steps))

pub loop-turn-preserved : goal.loop-turn-preserved
loop-turn-preserved g c =
    let n = c.count-turn-end.result - c.loop-turn.turn in
    let e = gathered-step g.I.Listed.begins (g.I.Listed.another c.args.depth) pushed n (c.count-turn-end.result - (c.loop-turn.turn + 1)) c.loop-turn.all c.loop-turn.tokens
    (omega arith) (sym c.another_is_next.ensures ∙ c.if-not-another_is_next.false) in
    let f = sym e ∙ c.loop-turn.invariant in
    first_of (search rules, grind (arith, common_steps))

pub returns : goal.returns
returns g c = sym c.loop-turn.invariant ∙ elim c.loop-turn-test.branch [
  | else-loop-turn-test w ↦ gathered-end g.I.Listed.begins (g.I.Listed.another c.args.depth) pushed (c.count-turn-end.result - c.loop-turn.turn) c.loop-turn.all
      c.loop-turn.tokens (omega arith)
  | then-loop-turn-test+then-not-another_is_next w ↦ gathered-stop g.I.Listed.begins (g.I.Listed.another c.args.depth) pushed (c.count-turn-end.result - c.loop-turn.turn)
      c.loop-turn.all c.loop-turn.tokens (sym w.another_is_next.ensures ∙ w.if-not-another_is_next.true)
]
