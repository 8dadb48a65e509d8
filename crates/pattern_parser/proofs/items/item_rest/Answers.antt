use Rattle.std.proofs.Common.{rules, sym, ap, ◌∙◌, arith}
use Rattle.std.proofs.lemmas.Grind.{common_steps}
use Rattle.token_grammar.specs.Parser.{bind}
use Rattle.token_grammar.specs.Parser.Answer.{got}
use Rattle.pattern_parser.specs.Tests.{more_members}
use Rattle.pattern_parser.specs.Queries.{alias, item_of, item_rest}
use Rattle.pattern_parser.specs.Reading.{reads, at_depth, flat}
use Rattle.pattern_parser.proofs.Puts.{ended, ended_parses}
use Rattle.pattern_parser.proofs.items.item_rest.Goals as goal

pub returns-in_err-condition : goal.returns-in_err-condition
unfolding item_rest alias
returns-in_err-condition c =
    let f = ended_parses (reads (at_depth c.args.depth) more_members) (reads flat alias) item_of c.args.first c.args.tokens.now c.more_members.new.tokens
    c.in_err-condition.field-0.0 c.in_err-condition.ensures in
    first_of (search rules, grind (arith, common_steps))

pub returns-in_err-name : goal.returns-in_err-name
unfolding item_rest alias
returns-in_err-name c =
    let e = ended (reads (at_depth c.args.depth) more_members) (reads flat alias) item_of c.args.first c.args.tokens.now c.more_members.new.tokens
    c.in_ok-condition.condition c.in_ok-condition.ensures in
    first_of (search rules, grind (arith, common_steps))

pub returns : goal.returns
unfolding item_rest alias
returns c =
    ended (reads (at_depth c.args.depth) more_members) (reads flat alias) item_of c.args.first c.args.tokens.now c.more_members.new.tokens c.in_ok-condition.condition
    c.in_ok-condition.ensures
    ∙ ap (λ z. bind z (λ n l. got (item_of c.in_ok-condition.condition n) l)) c.in_ok-name.ensures ∙ ap (λ i. got i c.alias.new.tokens) (sym c.item_of.ensures)
