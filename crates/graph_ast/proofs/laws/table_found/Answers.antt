use Rattle.std.proofs.Common.{[]}
use Rattle.graph_ast.proofs.Found.{finds}
use Rattle.graph_ast.proofs.laws.table_found.Goals as goal

pub returns : goal.returns
returns c = λ catalog. finds (λ table. table.name) (record { name = []; columns = []; keys = []; references = [] }) catalog.tables
