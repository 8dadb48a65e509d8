use Rattle.condition_grammar.proofs.DateLemmas.{date_of_text}
use Rattle.condition_grammar.proofs.laws.date_named.Goals as goal

pub returns : goal.returns
returns c = date_of_text
