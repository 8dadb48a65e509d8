use Rattle.std.proofs.Common.{[]}
use Rattle.graph_ast.proofs.Found.{finds}
use Rattle.graph_ast.proofs.laws.graph_found.Goals as goal

pub returns : goal.returns
returns c = λ catalog. finds (λ graph. graph.name) (record { name = []; vertices = []; edges = [] }) catalog.graphs
