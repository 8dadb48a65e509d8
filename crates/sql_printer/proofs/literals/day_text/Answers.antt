use Rattle.civil_dates.proofs.DateTexts.{one_written}
use Rattle.sql_algebra.specs.DayTexts.{day_text}
use Rattle.sql_algebra.proofs.DayLemmas.{day_text_names}
use Rattle.sql_printer.proofs.literals.day_text.Goals as goal

pub returns : goal.returns
returns c = one_written c.text_of_date.result (day_text c.args.date.day) c.args.date.day c.text_of_date.ensures (day_text_names c.args.date)
