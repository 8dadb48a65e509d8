use Rattle.token_reading.proofs.Classes.{name_class, word_class, number_class}
use Rattle.token_reading.proofs.Samples.{below, reached}
use Rattle.token_reading.proofs.laws.classes_tell.Goals as goal

pub returns-clause-names : goal.returns-clause-names
returns-clause-names c = name_class

pub returns-clause-words : goal.returns-clause-words
returns-clause-words c = word_class

pub returns-clause-numbers : goal.returns-clause-numbers
returns-clause-numbers c = number_class

pub returns-clause-below : goal.returns-clause-below
returns-clause-below c = below

pub returns-clause-reached : goal.returns-clause-reached
returns-clause-reached c = reached
