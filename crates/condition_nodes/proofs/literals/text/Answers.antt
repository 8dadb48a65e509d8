use Rattle.std.proofs.Common.{sym, ap, ◌∙◌}
use Rattle.token_grammar.specs.Parser.Answer.{got}
use Rattle.token_grammar.specs.Code.{tail}
use Rattle.condition_nodes.proofs.FirstLiterals.{chosen, texted, text_first}
use Rattle.condition_nodes.proofs.literals.text.Goals as goal

pub returns-in_default-literal_text : goal.returns-in_default-literal_text
returns-in_default-literal_text g c = text_first c.args.tokens.now c.in-Some.token.now c.in-Some.ensures
    ∙ ap (λ o. chosen (texted) o c.in-Some.token.now.span c.args.tokens.now) (sym c.in_default-literal_text.ensures)

pub returns : goal.returns
returns g c = text_first c.args.tokens.now c.in-Some.token.now c.in-Some.ensures
    ∙ ap (λ o. chosen (texted) o c.in-Some.token.now.span c.args.tokens.now) (sym c.in-Some-literal_text.ensures)
    ∙ ap (λ b. got (texted b c.in-Some.token.now.span) (tail c.args.tokens.now)) (sym c.in_ok-copy.ensures)
    ∙ ap (λ w. got w (tail c.args.tokens.now)) (sym c.in_ok-literal.ensures) ∙ ap (λ l. got c.in_ok-literal.literal l) (sym c.skip.ensures)
