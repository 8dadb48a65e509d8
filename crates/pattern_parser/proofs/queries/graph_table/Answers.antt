use Rattle.std.proofs.Common.{rules, arith}
use Rattle.std.proofs.lemmas.Grind.{common_steps}
use Rattle.condition_grammar.specs.Conditions.{Inside}
use Rattle.pattern_parser.specs.Insides.{Own}
use Rattle.pattern_parser.proofs.Nesting.{Bracketed, nest_open}
use Rattle.pattern_parser.proofs.queries.graph_table.Goals as goal

pub returns-in_err-open : goal.returns-in_err-open
returns-in_err-open c =
    let e = nest_open (Inside.own Own.table) (λ (d : Bracketed (Inside.own Own.table)). d.1) c.args.depth c.args.tokens.now in
    first_of (search rules, grind (arith, common_steps))

pub returns-in_err-content : goal.returns-in_err-content
returns-in_err-content c =
    let e = nest_open (Inside.own Own.table) (λ (d : Bracketed (Inside.own Own.table)). d.1) c.args.depth c.args.tokens.now in
    first_of (search rules, grind (arith, common_steps))

pub returns-in_err-expect : goal.returns-in_err-expect
returns-in_err-expect c =
    let e = nest_open (Inside.own Own.table) (λ (d : Bracketed (Inside.own Own.table)). d.1) c.args.depth c.args.tokens.now in
    first_of (search rules, grind (arith, common_steps))

pub returns : goal.returns
returns c =
    let e = nest_open (Inside.own Own.table) (λ (d : Bracketed (Inside.own Own.table)). d.1) c.args.depth c.args.tokens.now in
    first_of (search rules, grind (arith, common_steps))
