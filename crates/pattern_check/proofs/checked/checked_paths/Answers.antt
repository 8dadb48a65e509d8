use Rattle.std.proofs.Common.{rules, ◌<◌, length}
use Rattle.pattern_check.specs.SizeRules.{path_faults}
use Rattle.pattern_check.proofs.Faultless.{none_at}
use Rattle.pattern_check.proofs.checked.checked_paths.Goals as goal

pub checked_path-requires : goal.checked_path-requires
checked_path-requires c =
    let within : c.loop-path.path-index < length c.args.paths.now = search rules in
    none_at path_faults c.args.paths.now c.loop-path.path-index c.path-item.result within c.path-item.is c.requires
