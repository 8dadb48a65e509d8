use Rattle.std.proofs.Common.{rules, ◌<◌, length}
use Rattle.pattern_check.specs.NameRules.{unnamed_column}
use Rattle.pattern_check.proofs.Faultless.{none_at}
use Rattle.pattern_check.proofs.checked.outputs.Goals as goal

pub output-requires : goal.output-requires
output-requires c =
    let within : c.loop-item.item-index < length c.args.columns.now = search rules in
    none_at unnamed_column c.args.columns.now c.loop-item.item-index c.item-item.result within c.item-item.is c.requires
