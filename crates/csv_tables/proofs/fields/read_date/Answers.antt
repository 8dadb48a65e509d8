use Rattle.std.proofs.Common.{sym, refl}
use Rattle.csv_tables.proofs.FieldLemmas.{of_date, of_no_date}
use Rattle.csv_tables.proofs.fields.read_date.Goals as goal

pub returns-in-Some : goal.returns-in-Some
returns-in-Some c = sym (of_date c.args.field.now c.in-Some.date c.in-Some.ensures.found)

pub returns-in-None : goal.returns-in-None
returns-in-None c = sym (of_no_date c.args.field.now (c.in-None.ensures.none refl))
