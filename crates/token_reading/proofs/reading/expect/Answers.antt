use Rattle.token_reading.proofs.FirstTokens.{expected, unexpected_mark}
use Rattle.token_reading.proofs.reading.expect.Goals as goal

pub returns-then-class_of-number : goal.returns-then-class_of-number
returns-then-class_of-number c = unexpected_mark c.args.tokens.now c.in-Some.token.now c.class_of.result c.number.result c.args.wanted c.in-Some.ensures c.class_of.ensures
    c.number.ensures c.if-class_of-number.true

pub returns : goal.returns
returns c = expected c.args.tokens.now c.skip.new.self c.in-Some.token.now c.class_of.result c.number.result c.args.wanted c.in-Some.ensures c.class_of.ensures c.number.ensures
    c.if-class_of-number.false c.skip.ensures
