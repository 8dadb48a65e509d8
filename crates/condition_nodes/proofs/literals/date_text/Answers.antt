use Rattle.std.proofs.Common.{sym, ap, ◌∙◌}
use Rattle.token_grammar.specs.Parser.Answer.{got}
use Rattle.token_grammar.specs.Code.{tail}
use Rattle.condition_grammar.specs.Spans.{literal}
use Rattle.condition_nodes.proofs.FirstLiterals.{chosen, dated_from, date_first}
use Rattle.condition_nodes.proofs.literals.date_text.Goals as goal

pub returns-in_default-literal_date : goal.returns-in_default-literal_date
returns-in_default-literal_date g c = date_first c.args.word c.args.tokens.now c.in-Some.token.now c.in-Some.ensures
    ∙ ap (λ o. chosen (dated_from c.args.word) o c.in-Some.token.now.span c.args.tokens.now) (sym c.in_default-literal_date.ensures)

pub returns : goal.returns
returns g c = date_first c.args.word c.args.tokens.now c.in-Some.token.now c.in-Some.ensures
    ∙ ap (λ o. chosen (dated_from c.args.word) o c.in-Some.token.now.span c.args.tokens.now) (sym c.in-Some-literal_date.ensures)
    ∙ ap (λ s. got (literal s c.in-Some-literal_date.value) (tail c.args.tokens.now)) (sym c.reach-span.ensures)
    ∙ ap (λ w. got w (tail c.args.tokens.now)) (sym c.in_ok-literal.ensures) ∙ ap (λ l. got c.in_ok-literal.literal l) (sym c.skip.ensures)
