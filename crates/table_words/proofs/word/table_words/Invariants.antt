use Rattle.std.proofs.Common.{◌≡◌, drop}
use Rattle.table_words.specs.TableWords.{table_words}
use Rattle.table_words.proofs.Lists.{ahead}
use Rattle.table_words.proofs.word.table_words.Given as goal

abbrev pub invariant-loop-word : goal.invariant-loop-word
invariant-loop-word l = table_words l.words ≡ ahead l.asked (table_words (drop l.word-index l.words))
