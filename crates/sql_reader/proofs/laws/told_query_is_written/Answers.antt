use Rattle.std.proofs.Common.{sym, subst}
use Rattle.sql_algebra.specs.Soundness.{IsSound}
use Rattle.sql_reader.proofs.TellingTexts.{sound_faultless}
use Rattle.sql_reader.proofs.Written.{written}
use Rattle.sql_reader.proofs.laws.told_query_is_written.Goals as goal

pub returns : goal.returns
returns c = λ catalog text query same sound.
    let is = written catalog text query sound same in
    (is, sound_faultless catalog text (subst (λ q. IsSound q catalog) (sym is) sound))
