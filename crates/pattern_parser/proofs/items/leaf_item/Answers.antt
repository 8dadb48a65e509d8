use Rattle.std.proofs.Common.{sym, ap, subst, ◌∙◌}
use Rattle.token_grammar.specs.Rules.{on}
use Rattle.token_grammar.specs.Rules.Rule.{either}
use Rattle.token_grammar.specs.Parser.{choose, bind, one_p}
use Rattle.token_grammar.specs.Parser.Answer.{got}
use Rattle.token_grammar.specs.Code.{Parses}
use Rattle.token_reading.specs.Tokens.{class, named}
use Rattle.pattern_parser.specs.Queries.{is_leaf_word, leaf_gather, after_word}
use Rattle.pattern_parser.specs.Reading.{reads, at_depth}
use Rattle.pattern_parser.proofs.Puts.{seq_put}
use Rattle.pattern_parser.proofs.items.leaf_item.Goals as goal

pub returns-then-next_is : goal.returns-then-next_is
unfolding leaf_gather
returns-then-next_is c =
    let e = seq_put (one_p (on class is_leaf_word) named) (reads (at_depth c.args.depth) (either leaf_gather after_word)) c.args.tokens.now c.leaf_word.new.tokens
    c.in_ok-word.word c.in_ok-word.ensures in
    let d = ap (λ b. choose b (reads (at_depth c.args.depth) leaf_gather c.leaf_word.new.tokens) (reads (at_depth c.args.depth) after_word c.leaf_word.new.tokens))
    (sym c.next_is.ensures ∙ c.if-next_is.true) in
    subst (λ a. Parses a c.leaf_gather.result c.leaf_gather.new.tokens) (sym (e ∙ ap (λ z. bind z (λ f l. got (f c.in_ok-word.word) l)) d)) c.leaf_gather.ensures

pub returns : goal.returns
unfolding leaf_gather
returns c =
    let e = seq_put (one_p (on class is_leaf_word) named) (reads (at_depth c.args.depth) (either leaf_gather after_word)) c.args.tokens.now c.leaf_word.new.tokens
    c.in_ok-word.word c.in_ok-word.ensures in
    let d = ap (λ b. choose b (reads (at_depth c.args.depth) leaf_gather c.leaf_word.new.tokens) (reads (at_depth c.args.depth) after_word c.leaf_word.new.tokens))
    (sym c.next_is.ensures ∙ c.if-next_is.false) in
    subst (λ a. Parses a c.after_word.result c.after_word.new.tokens) (sym (e ∙ ap (λ z. bind z (λ f l. got (f c.in_ok-word.word) l)) d)) c.after_word.ensures
