use Rattle.path_lowering.proofs.ApartLemmas.{apart_combines}
use Rattle.path_lowering.proofs.SoundConditions.{apart_builds}
use Rattle.path_lowering.specs.Apart.{apart}
use Rattle.shortest_lowering.proofs.SelectedPrintable.{selected_printable}
use Rattle.shortest_lowering.proofs.sound_laws.printable_law.Goals as goal

pub returns : goal.returns
returns c = λ catalog query served named ok. selected_printable catalog query served (c.empty_tables_fit.ensures catalog) apart apart_combines apart_builds named ok
