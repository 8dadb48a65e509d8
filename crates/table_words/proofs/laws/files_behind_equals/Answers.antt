use Rattle.table_words.proofs.Forms.{is_word, file_is}
use Rattle.table_words.proofs.laws.files_behind_equals.Goals as goal

pub returns : goal.returns
returns c = λ word asked h. file_is word asked (is_word c.one_front.ensures.found word asked h)
