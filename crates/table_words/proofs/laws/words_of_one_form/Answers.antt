use Rattle.table_words.proofs.Forms.{is_word, word_there}
use Rattle.table_words.proofs.laws.words_of_one_form.Goals as goal

pub returns : goal.returns
returns c = λ word asked. (is_word c.one_front.ensures.found word asked, word_there c.one_front.ensures.stands word asked)
