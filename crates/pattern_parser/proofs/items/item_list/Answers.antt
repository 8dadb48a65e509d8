use Rattle.std.proofs.Common.{refl, ap, subst, ◌∙◌, [], ◌∷◌, ◌++◌, length}
use Rattle.token_grammar.specs.Code.{Parses}
use Rattle.pattern_parser.specs.Queries.{item}
use Rattle.pattern_parser.specs.Reading.{reads, at_depth}
use Rattle.pattern_parser.proofs.Levels.{list_start}
use Rattle.pattern_parser.proofs.items.item_list.Goals as goal

pub returns : goal.returns
returns c =
    let all = c.in_ok-push.ensures.ok ∙ ap (λ l. l ++ c.in_ok-first.first ∷ []) c.new-all.ensures in
    let e = list_start (reads (at_depth c.args.depth) item) c.args.tokens.now c.item.new.tokens c.in_ok-first.first (length c.item.new.tokens) c.push.new.self
    c.in_ok-first.ensures refl all in
    subst (λ a. Parses a c.more_items.result c.more_items.new.tokens) e c.more_items.ensures
