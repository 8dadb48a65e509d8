use Rattle.sql_reader.proofs.TellingTexts.{sound_faultless}
use Rattle.sql_reader.proofs.laws.sound_is_faultless.Goals as goal

pub returns : goal.returns
returns c = sound_faultless
