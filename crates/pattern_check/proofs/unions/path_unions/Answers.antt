use Rattle.std.proofs.Common.{rules, ◌∙◌, ap, List}
use Rattle.std.proofs.lemmas.Result.{IfOk-weaker}
use Rattle.graph_ast.specs.declared.query.Joint.{Joint}
use Rattle.first_faults.specs.Faults.{first_of}
use Rattle.pattern_check.specs.declared.mentions.Mention.{Mention}
use Rattle.pattern_check.specs.NameRules.{unlike_among}
use Rattle.pattern_check.specs.Mentions.{rows_said}
use Rattle.pattern_check.proofs.NamePhase.{unions_at}
use Rattle.pattern_check.proofs.unions.path_unions.Goals as goal

pub returns : goal.returns
returns c =
    let joints : List Joint = c.as_slice-2.result.now in
    let same = c.as_slice.ensures in
    IfOk-weaker c.unlike_among.result _ _
    (λ found e. e ∙ ap (first_of c.args.first) (ap (λ (l : List (List Mention)). unlike_among (rows_said l) joints) same
    ∙ unions_at c.args.path.now _ joints c.in_ok-operands.ensures (search rules))) c.unlike_among.ensures
