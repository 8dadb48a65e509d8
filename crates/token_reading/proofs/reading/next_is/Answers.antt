use Rattle.token_reading.proofs.FirstTokens.{next_marked}
use Rattle.token_reading.proofs.reading.next_is.Goals as goal

pub returns-in-Some : goal.returns-in-Some
returns-in-Some c = next_marked c.args.tokens.now c.in-Some.token.now c.class_of.result c.number.result c.args.wanted c.in-Some.ensures c.class_of.ensures c.number.ensures
