use Rattle.std.proofs.Common.{rules, ◌≡◌, ◌∙◌, ◌+◌, ◌<◌, ◌≤◌, ◌++◌, [], ◌∷◌, List, ℕ, not, Some, None, Option, length, get_or, drop, map, cond, sym, ap, subst, is_some}
use Rattle.std.proofs.Common.{slice_get, true, bytes_eq, Bor, MatchOption}
use Rattle.std.specs.List.{flat_map}
use Rattle.first_faults.specs.Faults.{first_of}
use Rattle.graph_ast.specs.declared.schema.LabelDef.{LabelDef}
use Rattle.view_check.specs.GraphRules.{exposed_in}
use Rattle.view_check.specs.Firsts.{against}
use Rattle.view_check.proofs.AgainstLemmas.{labels_step}
use Rattle.view_check.proofs.disagreements.element_faults.Goals as goal

pub loop-label-preserved : goal.loop-label-preserved
loop-label-preserved c =
    let i : ℕ = c.loop-label.label-index in
    let labels : List LabelDef = c.args.element.now.labels in
    let x : LabelDef = c.label-item.result in
    let within : i < length labels = search rules in
    let is : x ≡ get_or labels i x = search rules in (
      c.in_ok-state.ensures.bad,
      ap (λ f. first_of f (against c.args.by.1 c.args.by.0.now (flat_map (λ (l : LabelDef). exposed_in c.args.at.1.now l.span l.properties) (drop (i + 1) labels))))
          c.in_ok-state.ensures.found
          ∙ sym (labels_step c.args.by.1 c.args.by.0.now c.args.at.1.now c.loop-label.state.found labels i x within is)
          ∙ c.loop-label.invariant.1,
    )
