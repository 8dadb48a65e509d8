use Rattle.sql_algebra.specs.Soundness.{condition_is_sound}
use Rattle.row_eval.specs.Scopes.{placed}
use Rattle.row_eval.specs.Plans.{items_in}
use Rattle.row_eval.proofs.SortLemmas.{plain_alone}
use Rattle.row_eval.proofs.sorting.sort_conjunct.Goals as goal

pub sort_in-requires-clause-sound : goal.sort_in-requires-clause-sound
sort_in-requires-clause-sound c =
    plain_alone (condition_is_sound c.args.catalog.now (items_in (placed c.args.reach.now))) c.args.conjunct.now c.in-Plain.condition c.in-Plain.is c.requires.sound
