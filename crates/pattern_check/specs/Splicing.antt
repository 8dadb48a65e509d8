-- What factors give, one behind the other.
use Rattle.std.specs.Prelude.{◌++◌}
use Rattle.pattern_check.specs.Checked.{Spliced}

abbrev pub behind : Spliced → Spliced → Spliced
behind first second = record { steps = first.steps ++ second.steps; conditions = first.conditions ++ second.conditions }
