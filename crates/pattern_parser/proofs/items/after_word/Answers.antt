use Rattle.std.proofs.Common.{rules, sym, subst, arith}
use Rattle.std.proofs.lemmas.Grind.{common_steps}
use Rattle.token_grammar.specs.Code.{Parses}
use Rattle.pattern_parser.specs.Tests.{after_name}
use Rattle.pattern_parser.specs.Queries.{item_rest, after_word}
use Rattle.pattern_parser.specs.Reading.{reads, at_depth}
use Rattle.pattern_parser.proofs.Puts.{ended, ended_parses}
use Rattle.pattern_parser.proofs.items.after_word.Goals as goal

pub returns-in_err-first : goal.returns-in_err-first
unfolding after_word
returns-in_err-first c =
    let f = ended_parses (reads (at_depth c.args.depth) after_name) (reads (at_depth c.args.depth) item_rest) (λ c f. f c) c.args.word c.args.tokens.now
    c.after_name.new.tokens c.in_err-first.field-0.0 c.in_err-first.ensures in
    first_of (search rules, grind (arith, common_steps))

pub returns : goal.returns
unfolding after_word
returns c =
    let e = ended (reads (at_depth c.args.depth) after_name) (reads (at_depth c.args.depth) item_rest) (λ c f. f c) c.args.word c.args.tokens.now c.after_name.new.tokens
    c.in_ok-first.first c.in_ok-first.ensures in
    subst (λ a. Parses a c.item_rest.result c.item_rest.new.tokens) (sym (e)) c.item_rest.ensures
