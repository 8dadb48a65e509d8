use Rattle.path_lowering.proofs.SoundConditions.{apart_builds, in_one_builds}
use Rattle.path_lowering.proofs.SoundQuery.{query_sound}
use Rattle.path_lowering.proofs.sound_laws.sound_law.Goals as goal

pub returns-clause-sound : goal.returns-clause-sound
returns-clause-sound c = λ catalog query served ok combined combines builds. query_sound catalog query served (c.empty_tables_fit.ensures catalog) combined combines builds ok

pub returns-clause-split : goal.returns-clause-split
returns-clause-split c = apart_builds

pub returns-clause-whole : goal.returns-clause-whole
returns-clause-whole c = in_one_builds
