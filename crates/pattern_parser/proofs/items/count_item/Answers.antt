use Rattle.std.proofs.Common.{sym, ap, subst, ◌∙◌}
use Rattle.token_grammar.specs.Rules.Rule.{either}
use Rattle.token_grammar.specs.Parser.{choose, bind, one_p}
use Rattle.token_grammar.specs.Parser.Answer.{got}
use Rattle.token_grammar.specs.Code.{Parses}
use Rattle.token_marks.specs.declared.mark.Mark.TheVariants as m
use Rattle.token_reading.specs.Tokens.{is_mark, named}
use Rattle.pattern_parser.specs.Queries.{count_gather, after_word}
use Rattle.pattern_parser.specs.Reading.{reads, at_depth}
use Rattle.pattern_parser.proofs.Puts.{seq_put}
use Rattle.pattern_parser.proofs.items.count_item.Goals as goal

pub returns-then-next_is : goal.returns-then-next_is
unfolding count_gather
returns-then-next_is c =
    let e = seq_put (one_p (is_mark m.Count) named) (reads (at_depth c.args.depth) (either count_gather after_word)) c.args.tokens.now c.word_of.new.tokens
    c.in_ok-word.word c.in_ok-word.ensures in
    let d = ap (λ b. choose b (reads (at_depth c.args.depth) count_gather c.word_of.new.tokens) (reads (at_depth c.args.depth) after_word c.word_of.new.tokens))
    (sym c.next_is.ensures ∙ c.if-next_is.true) in
    subst (λ a. Parses a c.count_gather.result c.count_gather.new.tokens) (sym (e ∙ ap (λ z. bind z (λ f l. got (f c.in_ok-word.word) l)) d)) c.count_gather.ensures

pub returns : goal.returns
unfolding count_gather
returns c =
    let e = seq_put (one_p (is_mark m.Count) named) (reads (at_depth c.args.depth) (either count_gather after_word)) c.args.tokens.now c.word_of.new.tokens
    c.in_ok-word.word c.in_ok-word.ensures in
    let d = ap (λ b. choose b (reads (at_depth c.args.depth) count_gather c.word_of.new.tokens) (reads (at_depth c.args.depth) after_word c.word_of.new.tokens))
    (sym c.next_is.ensures ∙ c.if-next_is.false) in
    subst (λ a. Parses a c.after_word.result c.after_word.new.tokens) (sym (e ∙ ap (λ z. bind z (λ f l. got (f c.in_ok-word.word) l)) d)) c.after_word.ensures
