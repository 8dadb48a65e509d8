use Rattle.std.proofs.Common.{◌≡◌, ◌+◌, ◌-◌, ◌*◌, length}
use Rattle.token_grammar.specs.Rules.{on}
use Rattle.token_grammar.specs.Code.{gathered}
use Rattle.token_marks.specs.declared.mark.Mark.TheVariants as m
use Rattle.token_reading.specs.Tokens.{class, is_mark}
use Rattle.pattern_parser.specs.Patterns.{factor}
use Rattle.pattern_parser.specs.Reading.{reads, at_depth, starts_factor, with_factor, with_operand, joined}
use Rattle.pattern_parser.proofs.patterns.+patterns.Given as goal

abbrev pub decreases-branch : goal.decreases-branch
decreases-branch l = 8 * l.depth

abbrev pub decreases-part_or_vertex : goal.decreases-part_or_vertex
decreases-part_or_vertex l = 8 * l.depth + 1

abbrev pub decreases-factor : goal.decreases-factor
decreases-factor l = 8 * l.depth + 2

abbrev pub decreases-more_factors : goal.decreases-more_factors
decreases-more_factors l = 8 * l.depth + 3

abbrev pub decreases-sequence : goal.decreases-sequence
decreases-sequence l = 8 * l.depth + 4

abbrev pub decreases-more_operands : goal.decreases-more_operands
decreases-more_operands l = 8 * l.depth + 5

abbrev pub decreases-union : goal.decreases-union
decreases-union l = 8 * l.depth + 6

abbrev pub decreases-part : goal.decreases-part
decreases-part l = 8 * l.depth + 7

-- what is read so far, and what would be read from here, make the whole
abbrev pub invariant-more_factors-loop-turn : goal.invariant-more_factors-loop-turn
invariant-more_factors-loop-turn l = gathered (on class starts_factor) (reads (at_depth l.depth) factor) with_factor (l.turn-end - l.turn) l.run l.tokens
    ≡ gathered (on class starts_factor) (reads (at_depth l.depth) factor) with_factor (length l.fn.tokens) l.fn.run l.fn.tokens

abbrev pub invariant-more_operands-loop-turn : goal.invariant-more_operands-loop-turn
invariant-more_operands-loop-turn l = gathered (is_mark m.VerticalBar) (reads (at_depth l.depth) joined) with_operand (l.turn-end - l.turn) l.all l.tokens
    ≡ gathered (is_mark m.VerticalBar) (reads (at_depth l.depth) joined) with_operand (length l.fn.tokens) l.fn.all l.fn.tokens
