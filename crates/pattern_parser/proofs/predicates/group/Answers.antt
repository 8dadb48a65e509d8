use Rattle.std.proofs.Common.{rules, ◌≡◌, sym, ap, subst, ◌∙◌, arith}
use Rattle.std.proofs.lemmas.Grind.{common_steps}
use Rattle.token_grammar.specs.Parser.{bind}
use Rattle.token_grammar.specs.Parser.Answer.{got}
use Rattle.token_grammar.specs.Rules.Rule.{opt, mapped, nest}
use Rattle.token_grammar.specs.Code.{Parses}
use Rattle.token_reading.specs.Tokens.{span_of}
use Rattle.condition_grammar.specs.Classes.{left_parenthesis, right_parenthesis}
use Rattle.condition_grammar.specs.Conditions as g
use Rattle.condition_grammar.specs.Conditions.{Inside}
use Rattle.pattern_parser.specs.Insides.{Own}
use Rattle.pattern_parser.specs.Tests.{after_group_word, grouped, truth_test}
use Rattle.pattern_parser.specs.Reading.{reads, at_depth, flat}
use Rattle.pattern_parser.proofs.Nests.{nest_is, nested_p}
use Rattle.pattern_parser.proofs.Puts.{ended, with_test}
use Rattle.pattern_parser.proofs.predicates.group.Goals as goal

pub returns : goal.returns
unfolding after_group_word g.truth_test g.truth_word
returns c =
    let k : Inside Own = Inside.own Own.variables in
    let n : nested_p c.args.depth k c.args.tokens.now ≡ got (c.in_ok-open.field-0, c.in_ok-variables.variables, c.in_ok-closing.closing) c.expect.new.tokens = first_of
    (search rules, grind (arith, common_steps)) in
    let e = ended (reads (at_depth c.args.depth) (mapped (λ d. grouped d.1 d.2) (nest span_of left_parenthesis right_parenthesis k))) (reads flat (opt truth_test))
    with_test c.args.word c.args.tokens.now c.expect.new.tokens c.in_ok-predicate.predicate
    (ap (λ z. bind (bind z (λ d l. got (grouped d.1 d.2) l)) (λ f l. got (f c.args.word) l)) (nest_is c.args.depth k c.args.tokens.now ∙ n)
    ∙ ap (λ x. got x c.expect.new.tokens) (sym c.in_ok-predicate.ensures)) in
    subst (λ a. Parses a c.truth_end.result c.truth_end.new.tokens) (sym e) c.truth_end.ensures
