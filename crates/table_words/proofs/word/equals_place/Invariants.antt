use Rattle.std.proofs.Common.{◌≡◌, false, drop}
use Rattle.pgq_base.specs.Files.{after_equals}
use Rattle.table_words.proofs.word.equals_place.Given as goal

abbrev pub invariant-loop-at : goal.invariant-loop-at
invariant-loop-at l = after_equals l.inside (drop l.at l.word) ≡ after_equals false l.word
