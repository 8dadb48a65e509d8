use Rattle.std.proofs.Common.{sym, ap, ◌∙◌}
use Rattle.token_reading.proofs.FirstTokens.{name_at, name_first}
use Rattle.token_reading.proofs.reading.name.Goals as goal

pub returns-in_default-name_in : goal.returns-in_default-name_in
returns-in_default-name_in c = name_first c.args.tokens.now c.in-Some.token.now c.in-Some.ensures ∙ ap (λ o. name_at o c.in-Some.token.now.span c.args.tokens.now)
    (sym c.in_default-name_in.ensures)

pub returns : goal.returns
returns c = name_first c.args.tokens.now c.in-Some.token.now c.in-Some.ensures
    ∙ ap (λ o. name_at o c.in-Some.token.now.span c.args.tokens.now) (sym c.in-Some-name_in.ensures)
    ∙ (let e = c.in_ok-name.ensures in let f = c.skip.ensures in cc)
