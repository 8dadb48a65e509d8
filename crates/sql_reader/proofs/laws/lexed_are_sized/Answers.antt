use Rattle.sql_reader.proofs.SizedTokens.{lexed_sized}
use Rattle.sql_reader.proofs.laws.lexed_are_sized.Goals as goal

pub returns : goal.returns
returns c = lexed_sized
