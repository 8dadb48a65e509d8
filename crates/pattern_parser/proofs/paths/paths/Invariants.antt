use Rattle.std.proofs.Common.{◌≡◌, ◌-◌}
use Rattle.token_grammar.specs.Code.{gathered, pushed, after_p}
use Rattle.token_marks.specs.declared.mark.Mark.TheVariants as m
use Rattle.token_reading.specs.Tokens.{is_mark, span_of}
use Rattle.pattern_parser.specs.Patterns.{path}
use Rattle.pattern_parser.specs.Reading.{reads, reads_list, at_depth}
use Rattle.pattern_parser.proofs.paths.paths.Given as goal

-- what is read so far, and what would be read from here, make the whole
abbrev pub invariant-loop-turn : goal.invariant-loop-turn
invariant-loop-turn l = gathered (is_mark m.Comma) (after_p (is_mark m.Comma) span_of (reads (at_depth l.depth) path)) pushed
    (l.turn-end - l.turn) l.all l.tokens ≡ reads_list (reads (at_depth l.depth) path) l.fn.tokens
