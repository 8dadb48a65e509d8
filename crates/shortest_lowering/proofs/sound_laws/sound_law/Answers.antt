use Rattle.path_lowering.proofs.ApartLemmas.{apart_combines}
use Rattle.path_lowering.proofs.SoundConditions.{apart_builds}
use Rattle.path_lowering.specs.Apart.{apart}
use Rattle.shortest_lowering.proofs.SelectedSound.{selected_sound}
use Rattle.shortest_lowering.proofs.sound_laws.sound_law.Goals as goal

pub returns : goal.returns
returns c = λ catalog query served ok. selected_sound catalog query served (c.empty_tables_fit.ensures catalog) apart apart_combines apart_builds ok
