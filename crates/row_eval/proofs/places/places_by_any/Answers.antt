use Rattle.std.proofs.Common.{arith}
use Rattle.row_eval.specs.Slots.{lent_rows}
use Rattle.row_eval.proofs.KeyLemmas.{groups_long}
use Rattle.row_eval.proofs.places.places_by_any.Goals as goal

pub groups_at-requires : goal.groups_at-requires
groups_at-requires c = (let long = groups_long (lent_rows c.args.lent.now) c.args.keys.now c.args.groups.now c.requires in omega (arith, long))
