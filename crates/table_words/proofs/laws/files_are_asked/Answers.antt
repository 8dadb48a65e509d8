use Rattle.table_words.proofs.Lists.{asked_files}
use Rattle.table_words.proofs.laws.files_are_asked.Goals as goal

pub returns : goal.returns
returns c = asked_files c.one_front.ensures.found
