use Rattle.std.proofs.Common.{rules, ◌≡◌, ◌∙◌, ◌+◌, ◌<◌, ◌≤◌, ◌++◌, [], ◌∷◌, List, ℕ, Some, None, Option, length, get_or, drop, map, cond, sym, ap, is_some, slice_get, true}
use Rattle.std.proofs.Common.{bytes_eq, Bor}
use Rattle.std.specs.List.{flat_map}
use Rattle.graph_ast.specs.declared.schema.LabelDef.{LabelDef}
use Rattle.view_check.specs.GraphRules.{exposed_in}
use Rattle.view_check.specs.Firsts.{first_named, or_first}
use Rattle.view_check.proofs.FirstLemmas.{lists_step, lists_end}
use Rattle.view_check.proofs.firsts.with_element.Goals as goal

pub loop-label-preserved : goal.loop-label-preserved
loop-label-preserved c =
    let i : ℕ = c.loop-label.label-index in
    let labels : List LabelDef = c.args.element.now.labels in
    let x : LabelDef = c.label-item.result in
    let within : i < length labels = search rules in
    let is : x ≡ get_or labels i x = search rules in (
      c.in_ok-state.ensures.left,
      λ q.
          ap (λ p. or_first p (first_named (flat_map (λ (l : LabelDef). exposed_in c.args.at.1.now l.span l.properties) (drop (i + 1) labels)) q)) (c.in_ok-state.ensures.value q)
          ∙ lists_step (λ (l : LabelDef). exposed_in c.args.at.1.now l.span l.properties) (first_named c.loop-label.state.firsts q) q labels i x within is
          ∙ c.loop-label.invariant.1 q,
    )

pub returns-clause-value : goal.returns-clause-value
returns-clause-value c = λ q.
    let labels : List LabelDef = c.args.element.now.labels in
    let end : length labels ≤ c.loop-label.label-index = search rules in
    lists_end (λ (l : LabelDef). exposed_in c.args.at.1.now l.span l.properties) (first_named c.loop-label.state.firsts q) q labels c.loop-label.label-index end
    ∙ c.loop-label.invariant.1 q
