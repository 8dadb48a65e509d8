use Rattle.std.proofs.Common.{◌≡◌, IfOk, ap, length, subst, arith}
use Rattle.path_lowering.specs.Apart.{apart}
use Rattle.path_lowering.proofs.PathSteps.{along_joined}
use Rattle.path_lowering.proofs.blocks.+paths.Goals as goal

pub returns-in_ok-laid-in-len1-up-parts-clause-conditions : goal.returns-in_ok-laid-in-len1-up-parts-clause-conditions
returns-in_ok-laid-in-len1-up-parts-clause-conditions t c =
    subst (λ x. IfOk c.add_paths.result (λ all. all.conditions.items ≡ x))
    (along_joined c.args.scene.now.catalog.now c.args.scene.now.graph.now c.args.scene.now.prefix apart c.args.paths.now c.args.parts.now c.args.items.now c.path-item.result
    c.part-item.result
    (length c.as_slice-count.result.now) c.args.laid.conditions.items c.in_ok-laid-in-len1-up-parts.laid.conditions.items c.path-item.is (omega arith) c.part-item.is (omega arith)
    (ap length c.as_slice-count.ensures) c.in_ok-laid-in-len1-up-parts.ensures.conditions) c.add_paths.ensures.conditions
