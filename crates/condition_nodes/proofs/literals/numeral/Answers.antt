use Rattle.std.proofs.Common.{sym, ap, ◌∙◌}
use Rattle.token_grammar.specs.Parser.Answer.{got}
use Rattle.token_grammar.specs.Code.{tail}
use Rattle.condition_nodes.proofs.FirstLiterals.{chosen, valued, plain_first}
use Rattle.condition_nodes.proofs.literals.numeral.Goals as goal

pub returns-in_default-plain_value : goal.returns-in_default-plain_value
returns-in_default-plain_value g c = plain_first c.args.tokens.now c.in-Some.token.now c.in-Some.ensures
    ∙ ap (λ o. chosen (valued) o c.in-Some.token.now.span c.args.tokens.now) (sym c.in_default-plain_value.ensures)

pub returns : goal.returns
returns g c = plain_first c.args.tokens.now c.in-Some.token.now c.in-Some.ensures
    ∙ ap (λ o. chosen (valued) o c.in-Some.token.now.span c.args.tokens.now) (sym c.in-Some-plain_value.ensures)
    ∙ ap (λ w. got w (tail c.args.tokens.now)) (sym c.in_ok-literal.ensures) ∙ ap (λ l. got c.in_ok-literal.literal l) (sym c.skip.ensures)
