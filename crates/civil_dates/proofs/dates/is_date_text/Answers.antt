use Rattle.std.proofs.Common.{◌∙◌}
use Rattle.civil_dates.proofs.DateTexts.{found_tells}
use Rattle.civil_dates.proofs.dates.is_date_text.Goals as goal

pub returns : goal.returns
returns c = c.is_some.ensures ∙ found_tells c.args.text.now c.date_of_text.result c.date_of_text.ensures.found c.date_of_text.ensures.none
