use Rattle.std.proofs.Common.{ℕ, ◌∷◌, [], ◌++◌, ap, ◌∙◌, Vec, Global}
use Rattle.graph_ast.specs.declared.blocks.Alternative.{Alternative}
use Rattle.graph_ast.specs.declared.blocks.PathBlock.{PathBlock}
use Rattle.normal_form.specs.Merged.{put_at}
use Rattle.normal_form.proofs.Merging.{put_fresh, kept_fresh, put_behind, kept_behind}
use Rattle.normal_form.proofs.merged.Merged.put.Goals as goal

pub returns-then-added-clause-kept : goal.returns-then-added-clause-kept
returns-then-added-clause-kept c =
    let choice : Alternative = c.args.choice.now in
    let made : Alternative → PathBlock = λ a. record { path = c.args.path; tags = c.args.tags.now; elements = c.args.elements.now; alternatives = a ∷ [] } in
    kept_fresh (λ (k : Vec ℕ Global). k.items) c.args.self.keys.keys c.args.self.words c.args.self.blocks.items c.requires.kept c.args.path
    ((c.args.tags.now, c.args.elements.now), choice) c.args.word c.requires.word
    c.in_ok-key.field-0 c.in_ok-key.ensures c.insert_full.new.self.keys c.in_ok-place.ensures.keys c.in_ok-place.added c.in_ok-place.ensures.added c.push.new.self.items
    c.if-added.true
    (c.in_ok-push.ensures.items ∙ ap (λ (b : PathBlock). c.args.self.blocks.items ++ b ∷ []) (c.in_ok-block_with.ensures ∙ ap made c.in_ok-copy.ensures))

pub returns-then-added-clause-blocks : goal.returns-then-added-clause-blocks
returns-then-added-clause-blocks c =
    let choice : Alternative = c.args.choice.now in
    let made : Alternative → PathBlock = λ a. record { path = c.args.path; tags = c.args.tags.now; elements = c.args.elements.now; alternatives = a ∷ [] } in
    put_fresh (λ (k : Vec ℕ Global). k.items) c.args.self.keys.keys c.args.self.words c.args.self.blocks.items c.requires.kept c.args.path
    ((c.args.tags.now, c.args.elements.now), choice) c.args.word c.requires.word
    c.in_ok-key.field-0 c.in_ok-key.ensures c.insert_full.new.self.keys c.in_ok-place.ensures.keys c.in_ok-place.added c.in_ok-place.ensures.added c.push.new.self.items
    c.if-added.true
    (c.in_ok-push.ensures.items ∙ ap (λ (b : PathBlock). c.args.self.blocks.items ++ b ∷ []) (c.in_ok-block_with.ensures ∙ ap made c.in_ok-copy.ensures))

pub returns-clause-kept : goal.returns-clause-kept
returns-clause-kept c =
    let choice : Alternative = c.args.choice.now in
    kept_behind (λ (k : Vec ℕ Global). k.items) c.args.self.keys.keys c.args.self.words c.args.self.blocks.items c.requires.kept c.args.path
    ((c.args.tags.now, c.args.elements.now), choice) c.args.word c.requires.word
    c.in_ok-key.field-0 c.in_ok-key.ensures c.insert_full.new.self.keys c.in_ok-place.ensures.keys c.in_ok-place.added c.in_ok-place.ensures.added c.in_ok-self.field-0.items
    c.in_ok-place.place c.in_ok-place.ensures.index c.if-added.false
    (c.in_ok-self.ensures ∙ ap (put_at c.args.self.blocks.items c.in_ok-place.place) c.in_ok-copy.ensures)

pub returns-clause-blocks : goal.returns-clause-blocks
returns-clause-blocks c =
    let choice : Alternative = c.args.choice.now in
    put_behind (λ (k : Vec ℕ Global). k.items) c.args.self.keys.keys c.args.self.words c.args.self.blocks.items c.requires.kept c.args.path
    ((c.args.tags.now, c.args.elements.now), choice) c.args.word c.requires.word
    c.in_ok-key.field-0 c.in_ok-key.ensures c.insert_full.new.self.keys c.in_ok-place.ensures.keys c.in_ok-place.added c.in_ok-place.ensures.added c.in_ok-self.field-0.items
    c.in_ok-place.place c.in_ok-place.ensures.index c.if-added.false
    (c.in_ok-self.ensures ∙ ap (put_at c.args.self.blocks.items c.in_ok-place.place) c.in_ok-copy.ensures)
