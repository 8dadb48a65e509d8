use Rattle.std.proofs.Common.{None, Some}
use Rattle.token_reading.proofs.FirstTokens.{next_name}
use Rattle.token_reading.proofs.reading.next_is_name.Goals as goal

pub returns-in-Some-name_in : goal.returns-in-Some-name_in
returns-in-Some-name_in c = next_name c.args.tokens.now c.in-Some.token.now (Some _) c.in-Some.ensures c.in-Some-name_in.ensures

pub returns-in-None : goal.returns-in-None
returns-in-None c = next_name c.args.tokens.now c.in-Some.token.now None c.in-Some.ensures c.in-None.ensures
