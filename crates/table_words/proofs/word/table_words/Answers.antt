use Rattle.std.proofs.Common.{◌≡◌, ◌+◌, ◌∙◌, drop, ap, sym, subst}
use Rattle.table_words.specs.TableWords.{table_word, table_words}
use Rattle.table_words.proofs.Lists.{ahead, next_word}
use Rattle.table_words.proofs.word.table_words.Goals as goal

pub loop-word-preserved : goal.loop-word-preserved
loop-word-preserved c =
    let words = c.args.words.now in
    let i = c.loop-word.word-index in
    let found = sym c.in-Some.is ∙ c.in_ok-table.ensures ∙ ap table_word c.as_text.ensures.value in
    let step = next_word words i c.word-item.result c.loop-word-test.true c.word-item.is c.loop-word.asked c.in-Some.table found c.loop-word.invariant in
    subst (λ asked. table_words words ≡ ahead asked (table_words (drop (i + 1) words))) (sym c.in_ok-push-in-Some.ensures.ok) step
