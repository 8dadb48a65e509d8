use Rattle.std.proofs.Common.{length}
use Rattle.sql_lexer.proofs.Uniqueness.{tokens_ordered}
use Rattle.schema_parser.proofs.GraphSpans.{spans_lie}
use Rattle.schema_parser.proofs.parsing.tree_in_text.Goals as goal

pub returns : goal.returns
returns c = λ text tokens tree a s. spans_lie (length text) tokens tree (tokens_ordered text tokens a) s
