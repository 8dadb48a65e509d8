use Rattle.table_words.proofs.Asking.{by_form}
use Rattle.table_words.proofs.word.table_word.Goals as goal

pub returns : goal.returns
returns c = by_form c.args.word.now (c.words_of_one_form.ensures c.args.word.now) c.read_word.result c.read_word.ensures
