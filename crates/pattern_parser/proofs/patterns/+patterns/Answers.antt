use Rattle.std.proofs.Common.{◌≡◌, Err, ◌+◌, ◌-◌, ◌++◌, [], ◌∷◌, List, length, rules, sym, ap, subst, ◌∙◌, arith}
use Rattle.std.proofs.lemmas.Grind.{common_steps}
use Rattle.graph_ast.specs.declared.query.Factor.{Factor}
use Rattle.token_grammar.specs.Rules.{on}
use Rattle.token_grammar.specs.Parser.{many_p}
use Rattle.token_grammar.specs.Parser.Answer.{got}
use Rattle.token_grammar.specs.Code.{Parses, folded, gathered}
use Rattle.token_grammar.proofs.Loops.{gathered-step}
use Rattle.token_grammar.proofs.Through.{seq-through}
use Rattle.token_marks.specs.declared.mark.Mark.TheVariants as m
use Rattle.token_reading.specs.Tokens.{class, is_mark}
use Rattle.pattern_parser.specs.declared.pieces.Placed.{Placed}
use Rattle.pattern_parser.specs.declared.pieces.Run.{Run}
use Rattle.pattern_parser.specs.declared.pieces.Operands.{Operands}
use Rattle.pattern_parser.specs.Patterns.{Joined, edge, part_or_vertex, factor, sequence, union, joint}
use Rattle.pattern_parser.specs.Reading.{reads, at_depth, starts_factor, with_factor, with_operand, joined}
use Rattle.pattern_parser.proofs.Levels.{quantifier_level, through_halt}
use Rattle.pattern_parser.proofs.Nesting.{fork_open}
use Rattle.pattern_parser.proofs.Run.{first_run, sequence_from, sequence_value, sequence_made, first_operand, union_from, union_value, union_made}
use Rattle.pattern_parser.proofs.patterns.+patterns.Goals as goal

pub part_or_vertex-returns-in_err-first : goal.part_or_vertex-returns-in_err-first
part_or_vertex-returns-in_err-first t c =
    let e = fork_open c.args.depth c.args.tokens.now in
    first_of (search rules, grind (arith, common_steps))

pub part_or_vertex-returns : goal.part_or_vertex-returns
part_or_vertex-returns t c =
    let e = fork_open c.args.depth c.args.tokens.now in
    first_of (search rules, grind (arith, common_steps))

pub factor-returns-in_err-quantifier : goal.factor-returns-in_err-quantifier
unfolding factor part_or_vertex
factor-returns-in_err-quantifier t c =
    let e = quantifier_level c.args.depth c.edge.new.tokens in
    first_of (search rules, grind (arith, common_steps))

pub factor-returns : goal.factor-returns
unfolding factor part_or_vertex
factor-returns t c =
    let e = quantifier_level c.args.depth c.edge.new.tokens in
    first_of (search rules, grind (arith, common_steps))

pub more_factors-loop-turn-preserved : goal.more_factors-loop-turn-preserved
more_factors-loop-turn-preserved t c =
    let n = c.count-turn-end.result - c.loop-turn.turn in
    let e = gathered-step (on class starts_factor) (reads (at_depth c.args.depth) factor) with_factor n
    (c.count-turn-end.result - (c.loop-turn.turn + 1)) c.loop-turn.run c.loop-turn.tokens (omega arith) (sym c.next_is_factor.ensures ∙ c.if-not-next_is_factor.false) in
    let f = sym e ∙ c.loop-turn.invariant in
    first_of (search rules, grind (arith, common_steps))

pub more_operands-loop-turn-preserved : goal.more_operands-loop-turn-preserved
more_operands-loop-turn-preserved t c =
    let n = c.count-turn-end.result - c.loop-turn.turn in
    let e = gathered-step (is_mark m.VerticalBar) (reads (at_depth c.args.depth) joined) with_operand n
    (c.count-turn-end.result - (c.loop-turn.turn + 1)) c.loop-turn.all c.loop-turn.tokens (omega arith) (sym c.next_is.ensures ∙ c.if-not-next_is.false) in
    let f = sym e ∙ c.loop-turn.invariant in
    first_of (search rules, grind (arith, common_steps))

pub sequence-returns-in_err-run : goal.sequence-returns-in_err-run
unfolding factor part_or_vertex edge sequence
sequence-returns-in_err-run t c =
    let first = c.in_ok-first.first in
    let F = on class starts_factor in
    let P = reads (at_depth c.args.depth) factor in
    let pushed_one : c.push.new.self ≡ first.node ∷ [] = c.in_ok-push.ensures.ok ∙ ap (λ l. l ++ first.node ∷ []) c.new-factors.ensures in
    let e : Parses (gathered F P with_factor (length c.factor.new.tokens) (first_run first) c.factor.new.tokens) (Err c.in_err-run.field-0.0) c.more_factors.new.tokens =
    subst (λ l. Parses (gathered F P with_factor (length c.factor.new.tokens) (let run : Run = record { factors = l; span = first.span } in run) c.factor.new.tokens)
    (Err c.in_err-run.field-0.0) c.more_factors.new.tokens) pushed_one c.in_err-run.ensures in
    let g = through_halt P (many_p F P) sequence_value first (λ (more : List (Placed Factor)). folded with_factor (first_run first) more) sequence_from (sequence_made first)
    c.args.tokens.now c.factor.new.tokens c.more_factors.new.tokens c.in_ok-first.ensures c.in_err-run.field-0.0 e in
    first_of (search rules, grind (arith, common_steps))

pub sequence-returns : goal.sequence-returns
unfolding factor part_or_vertex edge sequence
sequence-returns t c =
    let first = c.in_ok-first.first in
    let F = on class starts_factor in
    let P = reads (at_depth c.args.depth) factor in
    let pushed_one : c.push.new.self ≡ first.node ∷ [] = c.in_ok-push.ensures.ok ∙ ap (λ l. l ++ first.node ∷ []) c.new-factors.ensures in
    let e : gathered F P with_factor (length c.factor.new.tokens) (first_run first) c.factor.new.tokens ≡ got c.in_ok-run.run' c.more_factors.new.tokens =
    subst (λ l. gathered F P with_factor (length c.factor.new.tokens) (let run : Run = record { factors = l; span = first.span } in run) c.factor.new.tokens ≡ got
    c.in_ok-run.run' c.more_factors.new.tokens) pushed_one c.in_ok-run.ensures in
    seq-through P (many_p F P) sequence_value first (λ (more : List (Placed Factor)). folded with_factor (first_run first) more) sequence_from (sequence_made first)
    c.args.tokens.now c.factor.new.tokens c.more_factors.new.tokens c.in_ok-run.run' c.in_ok-first.ensures e

pub union-returns-in_err-all : goal.union-returns-in_err-all
unfolding joint union
union-returns-in_err-all t c =
    let first = c.in_ok-first.first in
    let P = reads (at_depth c.args.depth) sequence in
    let Q = reads (at_depth c.args.depth) joined in
    let pushed_one : c.push.new.self ≡ first.node ∷ [] = c.in_ok-push.ensures.ok ∙ ap (λ l. l ++ first.node ∷ []) c.new-operands.ensures in
    let e0 : Parses (gathered (is_mark m.VerticalBar) Q with_operand (length c.sequence.new.tokens)
    (let all : Operands = record { operands = first.node ∷ []; joints = c.new-joints.result; span = first.span } in all) c.sequence.new.tokens)
    (Err c.in_err-all.field-0.0) c.more_operands.new.tokens =
    subst (λ l. Parses (gathered (is_mark m.VerticalBar) Q with_operand (length c.sequence.new.tokens)
    (let all : Operands = record { operands = l; joints = c.new-joints.result; span = first.span } in all) c.sequence.new.tokens)
    (Err c.in_err-all.field-0.0) c.more_operands.new.tokens) pushed_one c.in_err-all.ensures in
    let e : Parses (gathered (is_mark m.VerticalBar) Q with_operand (length c.sequence.new.tokens) (first_operand first) c.sequence.new.tokens)
    (Err c.in_err-all.field-0.0) c.more_operands.new.tokens =
    subst (λ l. Parses (gathered (is_mark m.VerticalBar) Q with_operand (length c.sequence.new.tokens)
    (let all : Operands = record { operands = first.node ∷ []; joints = l; span = first.span } in all) c.sequence.new.tokens)
    (Err c.in_err-all.field-0.0) c.more_operands.new.tokens) c.new-joints.ensures e0 in
    let g = through_halt P (many_p (is_mark m.VerticalBar) Q) union_value first (λ (more : List Joined). folded with_operand (first_operand first) more) union_from
    (union_made first)
    c.args.tokens.now c.sequence.new.tokens c.more_operands.new.tokens c.in_ok-first.ensures c.in_err-all.field-0.0 e in
    first_of (search rules, grind (arith, common_steps))

pub union-returns : goal.union-returns
unfolding joint union
union-returns t c =
    let first = c.in_ok-first.first in
    let P = reads (at_depth c.args.depth) sequence in
    let Q = reads (at_depth c.args.depth) joined in
    let pushed_one : c.push.new.self ≡ first.node ∷ [] = c.in_ok-push.ensures.ok ∙ ap (λ l. l ++ first.node ∷ []) c.new-operands.ensures in
    let e0 : gathered (is_mark m.VerticalBar) Q with_operand (length c.sequence.new.tokens)
    (let all : Operands = record { operands = first.node ∷ []; joints = c.new-joints.result; span = first.span } in all) c.sequence.new.tokens ≡ got c.in_ok-all.all
    c.more_operands.new.tokens =
    subst (λ l. gathered (is_mark m.VerticalBar) Q with_operand (length c.sequence.new.tokens)
    (let all : Operands = record { operands = l; joints = c.new-joints.result; span = first.span } in all) c.sequence.new.tokens ≡ got c.in_ok-all.all
    c.more_operands.new.tokens) pushed_one c.in_ok-all.ensures in
    let e : gathered (is_mark m.VerticalBar) Q with_operand (length c.sequence.new.tokens)
    (first_operand first) c.sequence.new.tokens ≡ got c.in_ok-all.all c.more_operands.new.tokens =
    subst (λ l. gathered (is_mark m.VerticalBar) Q with_operand (length c.sequence.new.tokens)
    (let all : Operands = record { operands = first.node ∷ []; joints = l; span = first.span } in all) c.sequence.new.tokens ≡ got c.in_ok-all.all
    c.more_operands.new.tokens) c.new-joints.ensures e0 in
    seq-through P (many_p (is_mark m.VerticalBar) Q) union_value first (λ (more : List Joined). folded with_operand (first_operand first) more) union_from (union_made first)
    c.args.tokens.now c.sequence.new.tokens c.more_operands.new.tokens c.in_ok-all.all c.in_ok-first.ensures e
