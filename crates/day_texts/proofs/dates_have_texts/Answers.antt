use Rattle.day_texts.proofs.DateLemmas.{date_of_text}
use Rattle.day_texts.proofs.DayLemmas.{day_text_names}
use Rattle.day_texts.proofs.dates_have_texts.Goals as goal

pub returns : goal.returns
returns c = record { text = day_text_names; date = date_of_text }
