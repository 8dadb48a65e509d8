use Rattle.std.proofs.Common.{sym, ap, ◌∙◌}
use Rattle.token_grammar.specs.Parser.Answer.{got}
use Rattle.condition_nodes.proofs.FirstLiterals.{chosen, paired, negated_first}
use Rattle.condition_nodes.proofs.literals.negated_numeral.Goals as goal

pub returns-in_default-negated_value : goal.returns-in_default-negated_value
returns-in_default-negated_value c = negated_first c.args.tokens.now c.in-Some.token.now c.in-Some.ensures
    ∙ ap (λ o. chosen paired o c.in-Some.token.now.span c.args.tokens.now) (sym c.in_default-negated_value.ensures)

pub returns : goal.returns
returns c = negated_first c.args.tokens.now c.in-Some.token.now c.in-Some.ensures
    ∙ ap (λ o. chosen paired o c.in-Some.token.now.span c.args.tokens.now) (sym c.in-Some-negated_value.ensures)
    ∙ ap (λ l. got (c.in-Some-negated_value.value, c.in-Some.token.now.span) l) (sym c.skip.ensures)
