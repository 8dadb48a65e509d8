use Rattle.sql_algebra.proofs.OneText.{one_text}
use Rattle.sql_parser.proofs.parsing.one_tree.Goals as goal

pub returns : goal.returns
returns c = one_text
