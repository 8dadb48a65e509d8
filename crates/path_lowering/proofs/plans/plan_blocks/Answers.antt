use Rattle.std.proofs.Common.{◌≡◌, List, subst}
use Rattle.multisets.specs.Bags.{IsIn}
use Rattle.graph_ast.specs.declared.blocks.Block.{Block}
use Rattle.path_lowering.proofs.ServedLemmas.{plannable}
use Rattle.path_lowering.proofs.plans.plan_blocks.Goals as goal

pub plans_of-requires : goal.plans_of-requires
plans_of-requires c = λ block h.
    plannable c.args.catalog.now c.args.query.now c.requires.served (c.empty_tables_fit.ensures c.args.catalog.now) block
    (subst (λ (l : List Block). IsIn block l) c.requires.blocks h)
