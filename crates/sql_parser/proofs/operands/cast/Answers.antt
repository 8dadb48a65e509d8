use Rattle.std.proofs.Common.{rules, arith}
use Rattle.std.proofs.lemmas.Grind.{common_steps}
use Rattle.condition_grammar.specs.Conditions.{Inside}
use Rattle.sql_algebra.specs.Grammar.{Nested, cast}
use Rattle.sql_parser.proofs.Nests.{nest_is}
use Rattle.sql_parser.proofs.operands.cast.Goals as goal

pub returns-in_err-open : goal.returns-in_err-open
unfolding cast
returns-in_err-open c =
    let e = nest_is c.args.depth (Inside.own Nested.null_type) c.expect.new.tokens in
    first_of (search rules, grind (arith, common_steps))

pub returns-in_err-class : goal.returns-in_err-class
unfolding cast
returns-in_err-class c =
    let e = nest_is c.args.depth (Inside.own Nested.null_type) c.expect.new.tokens in
    first_of (search rules, grind (arith, common_steps))

pub returns-in_err-closing : goal.returns-in_err-closing
unfolding cast
returns-in_err-closing c =
    let e = nest_is c.args.depth (Inside.own Nested.null_type) c.expect.new.tokens in
    first_of (search rules, grind (arith, common_steps))
