use Rattle.std.proofs.Common.{◌≡◌, ◌+◌, ◌-◌, ◌*◌}
use Rattle.token_marks.specs.declared.mark.Mark.TheVariants as m
use Rattle.token_grammar.specs.Code.{gathered, after_p}
use Rattle.token_reading.specs.Tokens.{is_mark, span_of}
use Rattle.condition_nodes.specs.Gathered.{with_one}
use Rattle.sql_parser.specs.Reading.{reads, at_depth}
use Rattle.sql_parser.specs.Conditions.{operand, negation, conjunction, gathers}
use Rattle.sql_parser.proofs.conditions.+conditions.Given as goal

abbrev pub decreases-coalesce : goal.decreases-coalesce
decreases-coalesce l = 15 * l.depth

abbrev pub decreases-parens : goal.decreases-parens
decreases-parens l = 15 * l.depth

abbrev pub decreases-operand : goal.decreases-operand
decreases-operand l = 15 * l.depth + 1

abbrev pub decreases-more_operands : goal.decreases-more_operands
decreases-more_operands l = 15 * l.depth + 2

abbrev pub decreases-operand_list : goal.decreases-operand_list
decreases-operand_list l = 15 * l.depth + 3

abbrev pub decreases-members : goal.decreases-members
decreases-members l = 15 * l.depth + 4

abbrev pub decreases-including : goal.decreases-including
decreases-including l = 15 * l.depth + 5

abbrev pub decreases-predicate_tail : goal.decreases-predicate_tail
decreases-predicate_tail l = 15 * l.depth + 6

abbrev pub decreases-test_tail : goal.decreases-test_tail
decreases-test_tail l = 15 * l.depth + 7

abbrev pub decreases-test : goal.decreases-test
decreases-test l = 15 * l.depth + 8

abbrev pub decreases-negation : goal.decreases-negation
decreases-negation l = 15 * l.depth + 9

abbrev pub decreases-more_negations : goal.decreases-more_negations
decreases-more_negations l = 15 * l.depth + 10

abbrev pub decreases-conjunction : goal.decreases-conjunction
decreases-conjunction l = 15 * l.depth + 11

abbrev pub decreases-more_conjunctions : goal.decreases-more_conjunctions
decreases-more_conjunctions l = 15 * l.depth + 12

abbrev pub decreases-condition : goal.decreases-condition
decreases-condition l = 15 * l.depth + 13

-- what is read so far, and what would be read from here, make the whole
abbrev pub invariant-more_operands-loop-turn : goal.invariant-more_operands-loop-turn
invariant-more_operands-loop-turn l = gathered (is_mark m.Comma) (after_p (is_mark m.Comma) span_of (reads (at_depth l.depth) operand)) with_one (l.turn-end - l.turn) l.all
    l.tokens
    ≡ gathers m.Comma (reads (at_depth l.depth) operand) l.fn.all l.fn.tokens

abbrev pub invariant-more_negations-loop-turn : goal.invariant-more_negations-loop-turn
invariant-more_negations-loop-turn l = gathered (is_mark m.And) (after_p (is_mark m.And) span_of (reads (at_depth l.depth) negation)) with_one (l.turn-end - l.turn) l.all l.tokens
    ≡ gathers m.And (reads (at_depth l.depth) negation) l.fn.all l.fn.tokens

abbrev pub invariant-more_conjunctions-loop-turn : goal.invariant-more_conjunctions-loop-turn
invariant-more_conjunctions-loop-turn l = gathered (is_mark m.Or) (after_p (is_mark m.Or) span_of (reads (at_depth l.depth) conjunction)) with_one (l.turn-end - l.turn) l.all
    l.tokens
    ≡ gathers m.Or (reads (at_depth l.depth) conjunction) l.fn.all l.fn.tokens
