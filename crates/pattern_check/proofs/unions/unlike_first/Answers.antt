use Rattle.std.proofs.Common.{rules, ◌∙◌, ◌+◌, ◌<◌, List, Option, ap, sym, drop, length, flat_map, option_copied, option_to_list}
use Rattle.graph_ast.specs.declared.query.Joint.{Joint}
use Rattle.first_faults.specs.Faults.{first_of}
use Rattle.pattern_check.specs.declared.mentions.Mention.{Mention}
use Rattle.pattern_check.specs.NameRules.{variables_differ, unlike_first}
use Rattle.pattern_check.specs.Mentions.{row_said, rows_said}
use Rattle.pattern_check.proofs.NamePhase.{operands_on}
use Rattle.pattern_check.proofs.unions.unlike_first.Goals as goal

pub loop-i-preserved : goal.loop-i-preserved
loop-i-preserved c =
    let xs : List (List Mention) = c.args.operands.now in
    let joints : List Joint = c.args.joints.now in
    let model = c.args.model.now in
    let x : List Mention = c.index-operands-i.result in
    let within : c.loop-i.i < length c.args.operands.now = search rules in
    ap (λ o. first_of o (unlike_first model (rows_said (drop (c.loop-i.i + 1) xs)) (drop (c.loop-i.i + 1) joints)))
    (c.in_ok-found.ensures
    ∙ ap (λ (l : List Mention). first_of c.loop-i.found (flat_map (variables_differ model (row_said l)) (option_to_list (option_copied c.item_at.result)))) c.as_slice.ensures
    ∙ ap (λ (j : Option Joint). first_of c.loop-i.found (flat_map (variables_differ model (row_said x)) (option_to_list j))) c.item_at.ensures)
    ∙ sym (operands_on c.loop-i.found model xs joints c.loop-i.i x within c.index-operands-i.is) ∙ c.loop-i.invariant
