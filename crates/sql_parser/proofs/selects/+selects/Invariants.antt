use Rattle.std.proofs.Common.{◌≡◌, ◌+◌, ◌-◌, ◌*◌}
use Rattle.token_marks.specs.declared.mark.Mark.TheVariants as m
use Rattle.token_grammar.specs.Code.{gathered, pushed, after_p}
use Rattle.token_reading.specs.Tokens.{is_mark, span_of}
use Rattle.sql_algebra.specs.Grammar.{conjunct}
use Rattle.sql_parser.specs.Reading.{reads, at_depth}
use Rattle.sql_parser.specs.Selects.{conjuncts}
use Rattle.sql_parser.proofs.selects.+selects.Given as goal

abbrev pub decreases-exists : goal.decreases-exists
decreases-exists l = 5 * l.depth

abbrev pub decreases-conjunct : goal.decreases-conjunct
decreases-conjunct l = 5 * l.depth + 1

abbrev pub decreases-conjuncts : goal.decreases-conjuncts
decreases-conjuncts l = 5 * l.depth + 2

abbrev pub decreases-where_part : goal.decreases-where_part
decreases-where_part l = 5 * l.depth + 3

abbrev pub decreases-select : goal.decreases-select
decreases-select l = 5 * l.depth + 4

-- what is read so far, and what would be read from here, make the whole
abbrev pub invariant-conjuncts-loop-turn : goal.invariant-conjuncts-loop-turn
invariant-conjuncts-loop-turn l = gathered (is_mark m.And) (after_p (is_mark m.And) span_of (reads (at_depth l.depth) conjunct)) pushed (l.turn-end - l.turn) l.all l.tokens ≡
    reads (at_depth l.depth) conjuncts l.fn.tokens
