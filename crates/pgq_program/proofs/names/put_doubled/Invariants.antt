use Rattle.std.proofs.Common.{◌≡◌, ◌++◌, drop}
use Rattle.sql_lexer.specs.Pieces.{doubled}
use Rattle.pgq_program.proofs.names.put_doubled.Given as goal

abbrev pub invariant-loop-byte : goal.invariant-loop-byte
invariant-loop-byte l = l.line ++ doubled l.quote (drop l.byte-index l.content) ≡ l.initial.line ++ doubled l.quote l.content
