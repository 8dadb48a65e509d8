-- Path blocks that are found by numbers.
use Rattle.std.specs.Prelude.{ℕ, true, ◌≡◌, Bool, List, ◌∷◌, map}
use Rattle.std.specs.List.{list_any, list_all, position_or_len}
use Rattle.graph_ast.specs.declared.blocks.Tags.{Tags}
use Rattle.graph_ast.specs.declared.blocks.PathBlock.{PathBlock}
use Rattle.graph_meaning.specs.Bindings.{same_tags}
use Rattle.graph_meaning.specs.Blocks.{Shape}
use Rattle.normal_form.specs.declared.merged.Merged.{Merged}

-- a shape as numbers: the place of its tags among those that were met, and its elements
abbrev pub key_of : List (List Tags) → Shape → List ℕ
key_of words shape = position_or_len (same_tags shape.0) words ∷ shape.1

abbrev pub key_of_block : List (List Tags) → PathBlock → List ℕ
key_of_block words block = key_of words (block.tags, block.elements)

-- whether these tags were met
abbrev pub is_met : List (List Tags) → List Tags → Bool
is_met words tags = list_any (same_tags tags) words

-- these tags were met, and stand at the place
abbrev pub IsWord : List (List Tags) → List Tags → ℕ → Type 0
IsWord words tags place = (place ≡ position_or_len (same_tags tags) words) × (is_met words tags ≡ true)

-- the tags of each block were met, and its key stands at its place
pub record AreKept (words : List (List Tags)) (numbers : List (List ℕ)) (blocks : List PathBlock) : Type 0 where
  pub keys : numbers ≡ map (key_of_block words) blocks
  pub met : list_all (λ block. is_met words block.tags) blocks ≡ true

abbrev pub IsKept : Merged → Type 0
IsKept merged = AreKept merged.words (map (λ key. key.items) merged.keys.keys) merged.blocks.items
