use Rattle.std.proofs.Common.{rules, sym, subst, ◌∙◌, arith}
use Rattle.std.proofs.lemmas.Grind.{common_steps}
use Rattle.token_grammar.specs.Code.{Parses}
use Rattle.pattern_parser.specs.Queries.{first_member, item_rest}
use Rattle.pattern_parser.specs.Reading.{reads, at_depth}
use Rattle.pattern_parser.proofs.Puts.{seq_put}
use Rattle.pattern_parser.proofs.Ungathered.{first_is_member, by_member}
use Rattle.pattern_parser.proofs.items.item.Goals as goal

pub returns-in_err-first : goal.returns-in_err-first
returns-in_err-first c =
    let count = sym c.next_is.ensures ∙ c.if-next_is.false in
    let leaf = sym c.next_is_leaf_word.ensures ∙ c.if-next_is_leaf_word.false in
    let e = by_member c.args.depth c.args.tokens.now count leaf in
    let f = first_is_member c.args.depth c.args.tokens.now count leaf in
    first_of (search rules, grind (arith, common_steps))

pub returns : goal.returns
returns c =
    let count = sym c.next_is.ensures ∙ c.if-next_is.false in
    let leaf = sym c.next_is_leaf_word.ensures ∙ c.if-next_is_leaf_word.false in
    let e = seq_put (reads (at_depth c.args.depth) first_member) (reads (at_depth c.args.depth) item_rest) c.args.tokens.now c.negation.new.tokens c.in_ok-first.first
    (first_is_member c.args.depth c.args.tokens.now count leaf ∙ c.in_ok-first.ensures) in
    subst (λ a. Parses a c.item_rest.result c.item_rest.new.tokens) (sym (by_member c.args.depth c.args.tokens.now count leaf ∙ e)) c.item_rest.ensures
