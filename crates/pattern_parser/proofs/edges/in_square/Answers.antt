use Rattle.std.proofs.Common.{rules, sym, ap, ◌∙◌, arith}
use Rattle.std.proofs.lemmas.Grind.{common_steps}
use Rattle.token_grammar.specs.Parser.{choose}
use Rattle.token_grammar.specs.Parser.Answer.{fault}
use Rattle.token_grammar.specs.declared.fault.Cause.TheVariants.{Unexpected as unexpected, TooDeep as too_deep}
use Rattle.token_marks.specs.declared.mark.Mark.TheVariants as m
use Rattle.condition_grammar.specs.Conditions.{Inside}
use Rattle.pattern_parser.specs.Insides.{Own}
use Rattle.pattern_parser.proofs.Nesting.{Bracketed, nest_zero, nest_suc}
use Rattle.pattern_parser.proofs.edges.in_square.Goals as goal

pub returns-then-next_is : goal.returns-then-next_is
returns-then-next_is c = nest_zero m.LeftBracket m.RightBracket (Inside.own Own.filler) (λ (d : Bracketed (Inside.own Own.filler)). d.1) c.args.depth c.args.tokens.now
    c.if-depth-eq0.true ∙ ap (λ b. choose b (fault too_deep c.args.tokens.now) (fault unexpected c.args.tokens.now)) (sym c.next_is.ensures ∙ c.if-next_is.true)

pub returns-in_err-content : goal.returns-in_err-content
returns-in_err-content c =
    let e = nest_suc m.LeftBracket m.RightBracket (Inside.own Own.filler) (λ (d : Bracketed (Inside.own Own.filler)). d.1) c.args.depth c.args.tokens.now c.if-depth-eq0.false in
    first_of (search rules, grind (arith, common_steps))

pub returns-in_err-expect-2 : goal.returns-in_err-expect-2
returns-in_err-expect-2 c =
    let e = nest_suc m.LeftBracket m.RightBracket (Inside.own Own.filler) (λ (d : Bracketed (Inside.own Own.filler)). d.1) c.args.depth c.args.tokens.now c.if-depth-eq0.false in
    first_of (search rules, grind (arith, common_steps))

pub returns : goal.returns
returns c =
    let e = nest_suc m.LeftBracket m.RightBracket (Inside.own Own.filler) (λ (d : Bracketed (Inside.own Own.filler)). d.1) c.args.depth c.args.tokens.now c.if-depth-eq0.false in
    first_of (search rules, grind (arith, common_steps))
