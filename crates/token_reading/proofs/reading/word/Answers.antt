use Rattle.std.proofs.Common.{sym, ap, ◌∙◌}
use Rattle.token_reading.proofs.FirstTokens.{name_at, word_first}
use Rattle.token_reading.proofs.reading.word.Goals as goal

pub returns-in_default-word_in : goal.returns-in_default-word_in
returns-in_default-word_in c = word_first c.args.tokens.now c.in-Some.token.now c.in-Some.ensures ∙ ap (λ o. name_at o c.in-Some.token.now.span c.args.tokens.now)
    (sym c.in_default-word_in.ensures)

pub returns : goal.returns
returns c = word_first c.args.tokens.now c.in-Some.token.now c.in-Some.ensures
    ∙ ap (λ o. name_at o c.in-Some.token.now.span c.args.tokens.now) (sym c.in-Some-word_in.ensures)
    ∙ (let e = c.in_ok-name.ensures in let f = c.skip.ensures in cc)
