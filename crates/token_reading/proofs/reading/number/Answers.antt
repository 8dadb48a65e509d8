use Rattle.std.proofs.Common.{sym, ap, ◌∙◌}
use Rattle.token_grammar.specs.Parser.Answer.{got}
use Rattle.token_reading.proofs.FirstTokens.{small_at, number_first}
use Rattle.token_reading.proofs.reading.number.Goals as goal

pub returns-in_default-number_in : goal.returns-in_default-number_in
returns-in_default-number_in c = number_first c.args.tokens.now c.in-Some.token.now c.in-Some.ensures ∙ ap (λ o. small_at o c.in-Some.token.now.span c.args.tokens.now)
    (sym c.in_default-number_in.ensures)

pub returns : goal.returns
returns c = number_first c.args.tokens.now c.in-Some.token.now c.in-Some.ensures ∙ ap (λ o. small_at o c.in-Some.token.now.span c.args.tokens.now) (sym c.in-Some-number_in.ensures)
    ∙ ap (λ l. got (c.in-Some-number_in.number, c.in-Some.token.now.span) l) (sym c.skip.ensures)
