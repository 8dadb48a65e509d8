use Rattle.shortest_lowering.proofs.BindingTuples.{block_stands}
use Rattle.shortest_lowering.proofs.PlanItems.{block_has_items}
use Rattle.shortest_lowering.proofs.plan_laws.plans_law.Goals as goal

pub returns-clause-items : goal.returns-clause-items
returns-clause-items c = block_has_items

pub returns-clause-stand : goal.returns-clause-stand
returns-clause-stand c = block_stands
