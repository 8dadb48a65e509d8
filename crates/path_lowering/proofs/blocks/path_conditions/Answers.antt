use Rattle.std.proofs.Common.{List, subst}
use Rattle.multisets.specs.Bags.{IsIn}
use Rattle.graph_ast.specs.declared.blocks.Alternative.{Alternative}
use Rattle.path_lowering.proofs.blocks.path_conditions.Goals as goal

pub part_conditions-requires-clause-there : goal.part_conditions-requires-clause-there
part_conditions-requires-clause-there c = λ choice h. c.requires.there choice (subst (λ (l : List Alternative). IsIn choice l) c.as_slice-alternatives.ensures h)
