use Rattle.sql_reader.proofs.ShapedTexts.{has_shape}
use Rattle.sql_reader.proofs.laws.grammar_gives_shape.Goals as goal

pub returns : goal.returns
returns c = has_shape
