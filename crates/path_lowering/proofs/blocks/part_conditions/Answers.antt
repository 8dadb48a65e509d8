use Rattle.std.proofs.Common.{◌≡◌, ◌-◌, IfOk, map, length, drop, ap, subst, arith, Vec, Global}
use Rattle.graph_ast.specs.declared.blocks.Alternative.{Alternative}
use Rattle.graph_meaning.specs.Choices.{expansion_of}
use Rattle.path_lowering.specs.Emitted.{SqlCondition, choice_conditions}
use Rattle.path_lowering.specs.Apart.{apart}
use Rattle.path_lowering.proofs.PathSteps.{rejoined}
use Rattle.path_lowering.proofs.MemberSteps.{item_in, in_drop, in_take}
use Rattle.path_lowering.proofs.blocks.part_conditions.Goals as goal

pub choice_conditions-requires-clause-there : goal.choice_conditions-requires-clause-there
choice_conditions-requires-clause-there c = c.requires.there c.first-item.result (item_in c.args.alternatives.now 0 c.first-item.result c.first-item.is (omega arith))

pub alternatives_of-requires-clause-there : goal.alternatives_of-requires-clause-there
alternatives_of-requires-clause-there c = λ choice h.
    c.requires.there choice (in_drop choice c.args.alternatives.now 1 (in_take choice (drop 1 c.args.alternatives.now) (length c.args.alternatives.now - 1) h))

pub returns-in_ok-more-in-len1-up : goal.returns-in_ok-more-in-len1-up
returns-in_ok-more-in-len1-up c =
    subst (λ x. IfOk c.combined.result (λ made. made.items ≡ x))
    (ap apart (rejoined (λ (choice : Alternative). choice_conditions c.args.scene.now.catalog.now c.args.scene.now.graph.now c.args.scene.now.prefix
    (expansion_of c.args.path.now choice) c.args.spots.now)
    c.args.alternatives.now c.first-item.result c.in_ok-own-in-len1-up.own.items (map (λ (a : Vec SqlCondition Global). a.items) c.in_ok-more-in-len1-up.more.items)
    c.first-item.is (omega arith)
    c.in_ok-own-in-len1-up.ensures c.in_ok-more-in-len1-up.ensures)) c.combined.ensures
