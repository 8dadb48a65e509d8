use Rattle.sql_reader.proofs.Spelled.{query_spelled}
use Rattle.sql_reader.proofs.laws.query_is_told.Goals as goal

pub returns : goal.returns
returns c = query_spelled
