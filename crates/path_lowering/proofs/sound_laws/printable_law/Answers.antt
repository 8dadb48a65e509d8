use Rattle.path_lowering.proofs.PrintableQuery.{query_printable}
use Rattle.path_lowering.proofs.sound_laws.printable_law.Goals as goal

pub returns : goal.returns
returns c = λ catalog query served named ok combined combines builds. query_printable catalog query served (c.empty_tables_fit.ensures catalog) combined combines builds named ok
