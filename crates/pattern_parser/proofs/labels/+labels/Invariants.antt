use Rattle.std.proofs.Common.{◌≡◌, ◌+◌, ◌-◌, ◌*◌, length}
use Rattle.token_grammar.specs.Code.{gathered, pushed, after_p}
use Rattle.token_marks.specs.declared.mark.Mark.TheVariants as m
use Rattle.token_reading.specs.Tokens.{is_mark, span_of}
use Rattle.pattern_parser.specs.Patterns.{label_not, label_and}
use Rattle.pattern_parser.specs.Reading.{reads, at_depth}
use Rattle.pattern_parser.proofs.labels.+labels.Given as goal

abbrev pub decreases-label_group : goal.decreases-label_group
decreases-label_group l = 7 * l.depth + 0

abbrev pub decreases-label_primary : goal.decreases-label_primary
decreases-label_primary l = 7 * l.depth + 1

abbrev pub decreases-label_not : goal.decreases-label_not
decreases-label_not l = 7 * l.depth + 2

abbrev pub decreases-more_ands : goal.decreases-more_ands
decreases-more_ands l = 7 * l.depth + 3

abbrev pub decreases-label_and : goal.decreases-label_and
decreases-label_and l = 7 * l.depth + 4

abbrev pub decreases-more_ors : goal.decreases-more_ors
decreases-more_ors l = 7 * l.depth + 5

abbrev pub decreases-label_union : goal.decreases-label_union
decreases-label_union l = 7 * l.depth + 6

-- what is read so far, and what would be read from here, make the whole
abbrev pub invariant-more_ands-loop-turn : goal.invariant-more_ands-loop-turn
invariant-more_ands-loop-turn l = gathered (is_mark m.Ampersand) (after_p (is_mark m.Ampersand) span_of (reads (at_depth l.depth) label_not)) pushed
    (l.turn-end - l.turn) l.all l.tokens
    ≡ gathered (is_mark m.Ampersand) (after_p (is_mark m.Ampersand) span_of (reads (at_depth l.depth) label_not)) pushed (length l.fn.tokens) l.fn.all l.fn.tokens

-- what is read so far, and what would be read from here, make the whole
abbrev pub invariant-more_ors-loop-turn : goal.invariant-more_ors-loop-turn
invariant-more_ors-loop-turn l = gathered (is_mark m.VerticalBar) (after_p (is_mark m.VerticalBar) span_of (reads (at_depth l.depth) label_and)) pushed
    (l.turn-end - l.turn) l.all l.tokens
    ≡ gathered (is_mark m.VerticalBar) (after_p (is_mark m.VerticalBar) span_of (reads (at_depth l.depth) label_and)) pushed (length l.fn.tokens) l.fn.all l.fn.tokens
