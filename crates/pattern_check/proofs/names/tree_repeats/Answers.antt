use Rattle.std.proofs.Common.{◌∙◌, [], ap, sym}
use Rattle.std.proofs.lemmas.Result.{IfOk-weaker}
use Rattle.first_faults.specs.Faults.{first_of}
use Rattle.pattern_check.specs.NameRules.{declaration_faults_behind}
use Rattle.pattern_check.proofs.Placing.{declared_are}
use Rattle.pattern_check.proofs.RepeatLaws.{repeats_found}
use Rattle.pattern_check.proofs.names.tree_repeats.Goals as goal

pub returns : goal.returns
returns c =
    IfOk-weaker c.declaration_faults.result _ _
    (λ found e. e
    ∙ ap (first_of c.args.first) (sym (repeats_found c.args.mentions.now) ∙ ap (declaration_faults_behind []) (declared_are c.args.tree.now c.args.mentions.now c.requires)))
    c.declaration_faults.ensures
