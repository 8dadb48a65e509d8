-- Items of COLUMNS by the word that they begin with.
use Rattle.graph_ast.specs.declared.query.Item.{Item}
use Rattle.token_grammar.specs.Rules.Rule.{one, mapped, seq, either}
use Rattle.token_marks.specs.declared.mark.Mark.TheVariants as m
use Rattle.token_reading.specs.Tokens.{named}
use Rattle.pattern_parser.specs.Insides.{Production, word}
use Rattle.pattern_parser.specs.Queries.{item_with, is_leaf_word, count_gather, leaf_gather, after_word}

abbrev pub count_item : Production Item
count_item = mapped item_with (seq (word m.Count) (either count_gather after_word))

abbrev pub leaf_item : Production Item
leaf_item = mapped item_with (seq (one is_leaf_word named) (either leaf_gather after_word))
