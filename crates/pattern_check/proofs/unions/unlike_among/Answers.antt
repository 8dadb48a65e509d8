use Rattle.std.proofs.Common.{◌≡◌, ◌∙◌, List, Some, ap, sym, drop, slice_get, option_copied}
use Rattle.std.proofs.lemmas.Result.{IfOk-weaker}
use Rattle.first_faults.specs.Faults.{first_of}
use Rattle.pattern_check.specs.declared.mentions.Mention.{Mention}
use Rattle.pattern_check.specs.Scopes.{Declaration}
use Rattle.pattern_check.specs.NameRules.{unlike_first}
use Rattle.pattern_check.specs.Mentions.{row_said, rows_said}
use Rattle.pattern_check.proofs.NamePhase.{among_first}
use Rattle.pattern_check.proofs.unions.unlike_among.Goals as goal

pub returns-in_ok-model-in-Some : goal.returns-in_ok-model-in-Some
returns-in_ok-model-in-Some c =
    let ops : List (List Mention) = c.args.operands.now in
    let x : List Mention = c.in-Some.model.now in
    let here : slice_get ops 0 ≡ Some x = sym c.item_at.ensures ∙ ap option_copied c.in-Some.is in
    IfOk-weaker c.unlike_first.result _ _
    (λ found e. e
    ∙ ap (λ (l : List (List Mention)). first_of c.args.first (unlike_first c.in_ok-model-in-Some.model (rows_said l) c.args.joints.now)) c.behind_first.ensures
    ∙ ap (λ (m : List Declaration). first_of c.args.first (unlike_first m (rows_said (drop 1 ops)) c.args.joints.now))
    (c.in_ok-model-in-Some.ensures ∙ ap row_said c.as_slice.ensures)
    ∙ ap (first_of c.args.first) (among_first ops x c.args.joints.now here)) c.unlike_first.ensures
