use Rattle.std.proofs.Common.{None, Some}
use Rattle.token_reading.proofs.FirstTokens.{next_word}
use Rattle.token_reading.proofs.reading.next_is_word.Goals as goal

pub returns-in-Some-word_in : goal.returns-in-Some-word_in
returns-in-Some-word_in c = next_word c.args.tokens.now c.in-Some.token.now (Some _) c.in-Some.ensures c.in-Some-word_in.ensures

pub returns-in-None : goal.returns-in-None
returns-in-None c = next_word c.args.tokens.now c.in-Some.token.now None c.in-Some.ensures c.in-None.ensures
