use Rattle.std.proofs.Common.{sym, ap, subst, ◌∙◌}
use Rattle.token_grammar.specs.Parser.{bind}
use Rattle.token_grammar.specs.Parser.Answer.{got}
use Rattle.token_grammar.specs.Rules.Rule.{opt}
use Rattle.token_grammar.specs.Code.{Parses}
use Rattle.condition_grammar.specs.Conditions as g
use Rattle.pattern_parser.specs.Tests.{relation, truth_test}
use Rattle.pattern_parser.specs.Reading.{reads, flat}
use Rattle.pattern_parser.proofs.Puts.{ended, with_test}
use Rattle.pattern_parser.proofs.predicates.relation_test.Goals as goal

pub returns : goal.returns
unfolding g.truth_test g.truth_word
returns c =
    let e = ended (reads flat relation) (reads flat (opt truth_test)) with_test c.args.vertex c.args.tokens.now c.relation.new.tokens c.in_ok-predicate.predicate
    (ap (λ z. bind z (λ f l. got (f c.args.vertex) l)) c.in_ok-relation.ensures ∙ ap (λ x. got x c.relation.new.tokens) (sym c.in_ok-predicate.ensures)) in
    subst (λ a. Parses a c.truth_end.result c.truth_end.new.tokens) (sym e) c.truth_end.ensures
