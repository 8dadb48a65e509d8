use Rattle.sql_reader.proofs.TellingTexts.{faultless_sound}
use Rattle.sql_reader.proofs.laws.faultless_is_sound.Goals as goal

pub returns : goal.returns
returns c = faultless_sound
