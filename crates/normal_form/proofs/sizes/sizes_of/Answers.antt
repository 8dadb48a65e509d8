use Rattle.std.proofs.Common.{ap, ◌∙◌, ◌+◌, arith}
use Rattle.graph_meaning.specs.Weights.{choice_size}
use Rattle.normal_form.specs.Spending.{counted}
use Rattle.normal_form.proofs.SizeLemmas.{counted_more}
use Rattle.normal_form.proofs.sizes.sizes_of.Goals as goal

pub loop-choice-preserved : goal.loop-choice-preserved
loop-choice-preserved c =
    c.sum-size.ensures
    ∙ ap (λ n. counted (c.loop-choice.size + n)) c.choice_size.ensures
    ∙ counted_more (choice_size c.args.path.now) c.args.choices.now c.loop-choice.choice-index c.choice-item.result c.loop-choice.size (omega arith) c.choice-item.is
    c.loop-choice.invariant
