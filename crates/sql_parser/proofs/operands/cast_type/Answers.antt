use Rattle.std.proofs.Common.{rules, arith}
use Rattle.std.proofs.lemmas.Grind.{common_steps}
use Rattle.condition_grammar.specs.Conditions.{Inside}
use Rattle.sql_algebra.specs.Grammar.{Nested, cast_type}
use Rattle.sql_parser.proofs.Nests.{nest_is}
use Rattle.sql_parser.proofs.operands.cast_type.Goals as goal

pub returns-in_err-open : goal.returns-in_err-open
unfolding cast_type
returns-in_err-open c =
    let e = nest_is c.args.depth (Inside.own Nested.length_part) c.expect-then-next_is-3.new.tokens in
    first_of (search rules, grind (arith, common_steps))

pub returns-in_err-length : goal.returns-in_err-length
unfolding cast_type
returns-in_err-length c =
    let e = nest_is c.args.depth (Inside.own Nested.length_part) c.expect-then-next_is-3.new.tokens in
    first_of (search rules, grind (arith, common_steps))

pub returns-in_err-expect-4 : goal.returns-in_err-expect-4
unfolding cast_type
returns-in_err-expect-4 c =
    let e = nest_is c.args.depth (Inside.own Nested.length_part) c.expect-then-next_is-3.new.tokens in
    first_of (search rules, grind (arith, common_steps))
