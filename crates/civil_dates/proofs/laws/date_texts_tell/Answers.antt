use Rattle.civil_dates.proofs.DateTexts.{date_text_tells}
use Rattle.civil_dates.proofs.laws.date_texts_tell.Goals as goal

pub returns : goal.returns
returns c = date_text_tells
