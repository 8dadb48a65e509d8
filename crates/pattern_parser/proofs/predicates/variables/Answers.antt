use Rattle.std.proofs.Common.{ap, subst, ◌∙◌, [], ◌∷◌, ◌++◌}
use Rattle.token_grammar.specs.Rules.{on}
use Rattle.token_grammar.specs.Parser.{one_p}
use Rattle.token_grammar.specs.Code.{Parses}
use Rattle.token_marks.specs.declared.mark.Mark.TheVariants as m
use Rattle.token_reading.specs.Tokens.{is_mark, span_of, class, is_name, named}
use Rattle.pattern_parser.proofs.TwoOrMore.{two_from}
use Rattle.pattern_parser.proofs.predicates.variables.Goals as goal

pub returns : goal.returns
returns c =
    let all = c.in_ok-push-2.ensures.ok ∙ ap (λ l. l ++ c.in_ok-second.second ∷ []) (c.in_ok-push.ensures.ok ∙ ap (λ l. l ++ c.in_ok-first.first ∷ []) c.new-all.ensures) in
    let e = two_from (is_mark m.Comma) span_of (one_p (on class is_name) named) c.args.tokens.now c.name.new.tokens c.expect.new.tokens c.name-2.new.tokens
    c.in_ok-first.first c.in_ok-second.second c.in_ok-expect.field-0 c.push-2.new.self c.in_ok-first.ensures c.in_ok-expect.ensures c.in_ok-second.ensures all in
    subst (λ a. Parses a c.more_names.result c.more_names.new.tokens) e c.more_names.ensures
