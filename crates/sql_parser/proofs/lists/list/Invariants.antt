use Rattle.std.proofs.Common.{◌≡◌, ◌-◌}
use Rattle.token_grammar.specs.Code.{gathered, pushed}
use Rattle.sql_parser.specs.Lists.{reads_list}
use Rattle.sql_parser.proofs.lists.list.Given as goal

-- what is read so far, and what would be read from here, make the whole
abbrev pub invariant-loop-turn : goal.invariant-loop-turn
invariant-loop-turn g l = gathered g.I.Listed.begins (g.I.Listed.another l.depth) pushed (l.turn-end - l.turn) l.all l.tokens ≡ reads_list (g.I.Listed.first l.depth)
    g.I.Listed.begins (g.I.Listed.another l.depth) l.fn.tokens
