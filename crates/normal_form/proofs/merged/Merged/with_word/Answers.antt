use Rattle.std.proofs.Common.{◌∷◌, [], ◌++◌, ◌<◌, List, length, ap, ◌∙◌, arith}
use Rattle.std.specs.List.{position_or_len}
use Rattle.graph_ast.specs.declared.blocks.Tags.{Tags}
use Rattle.graph_meaning.specs.Bindings.{same_tags}
use Rattle.normal_form.proofs.Merging.{kept_grown, word_there, word_pushed}
use Rattle.normal_form.proofs.merged.Merged.with_word.Goals as goal

pub returns-then-place-as_slice-clause-word : goal.returns-then-place-as_slice-clause-word
returns-then-place-as_slice-clause-word c =
    let within : c.place_of-place.result < length c.args.self.words = omega (arith, c.if-place-as_slice.true, ap length c.as_slice-2.ensures) in
    word_there c.args.self.words c.args.tags.now c.place_of-place.result (c.place_of-place.ensures ∙ ap (position_or_len (same_tags c.args.tags.now)) c.as_slice.ensures) within

pub returns-clause-kept : goal.returns-clause-kept
returns-clause-kept c =
    kept_grown c.args.self.words c.push.new.self c.args.tags.now _ c.args.self.blocks.items
    (c.in_ok-push.ensures.ok ∙ ap (λ (t : List Tags). c.args.self.words ++ t ∷ []) c.in_ok-copy_tags.ensures) c.requires

pub returns-clause-word : goal.returns-clause-word
returns-clause-word c =
    word_pushed c.args.self.words c.push.new.self c.args.tags.now c.place_of-place.result
    (c.in_ok-push.ensures.ok ∙ ap (λ (t : List Tags). c.args.self.words ++ t ∷ []) c.in_ok-copy_tags.ensures)
    (c.place_of-place.ensures ∙ ap (position_or_len (same_tags c.args.tags.now)) c.as_slice.ensures)
