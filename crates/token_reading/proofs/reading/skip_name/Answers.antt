use Rattle.std.proofs.Common.{sym, ap, ◌∙◌}
use Rattle.token_grammar.specs.Parser.Answer.{got}
use Rattle.token_reading.proofs.FirstTokens.{unit_at, skip_first}
use Rattle.token_reading.proofs.reading.skip_name.Goals as goal

pub returns-in_default-name_in : goal.returns-in_default-name_in
returns-in_default-name_in c = skip_first c.args.tokens.now c.in-Some.token.now c.in-Some.ensures ∙ ap (λ o. unit_at o c.args.tokens.now) (sym c.in_default-name_in.ensures)

pub returns : goal.returns
returns c = skip_first c.args.tokens.now c.in-Some.token.now c.in-Some.ensures ∙ ap (λ o. unit_at o c.args.tokens.now) (sym c.in-Some-name_in.ensures)
    ∙ ap (λ l. got tt l) (sym c.skip.ensures)
