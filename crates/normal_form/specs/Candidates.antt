-- The sizes of path blocks together, by their ends and numbers of places.
use Rattle.std.specs.Prelude.{ℕ, ◌-◌, ◌≡◌, Bool, ◌&&◌, nat_eq, List, length, filter, slice_index_or}
use Rattle.std.specs.List.{sum_by}
use Rattle.std.specs.Option.{unwrap_or}
use Rattle.std.specs.HashMap.{HashMap, get}
use Rattle.graph_ast.specs.declared.checked.CheckedPath.{CheckedPath}
use Rattle.graph_ast.specs.declared.blocks.PathBlock.{PathBlock}
use Rattle.graph_meaning.specs.Weights.{block_size, is_candidate}
use Rattle.normal_form.specs.Spending.{counted}

-- the first and the last element, and the number of places
abbrev pub Ends : Type 0
Ends = ℕ × ℕ × ℕ

abbrev pub ends_of : PathBlock → Ends
ends_of block = (slice_index_or block.elements 0 0, slice_index_or block.elements (length block.elements - 1) 0, length block.elements)

abbrev pub same_ends : Ends → Ends → Bool
same_ends x y = (nat_eq x.0 y.0 && nat_eq x.1 y.1) && nat_eq x.2 y.2

-- the sizes of the path blocks with these ends and this number of places
abbrev pub size_by_ends : CheckedPath → List PathBlock → Ends → ℕ
size_by_ends path blocks ends = sum_by (block_size path) (filter (λ block. same_ends (ends_of block) ends) blocks)

-- what a table of numbers has, and 0 where it has none
abbrev pub entry : {S : Type 0} → HashMap Ends ℕ S → Ends → ℕ
entry table ends = unwrap_or (get same_ends table ends) 0

-- a table has the sizes of path blocks by their ends, as far as 64 bits hold them
abbrev pub HasSizes : {S : Type 0} → CheckedPath → List PathBlock → HashMap Ends ℕ S → Type 0
HasSizes path blocks table = (ends : Ends) → entry table ends ≡ counted (size_by_ends path blocks ends)

-- the sizes of a path block's candidates among some path blocks
abbrev pub candidate_sizes : CheckedPath → List PathBlock → PathBlock → ℕ
candidate_sizes path blocks block = sum_by (block_size path) (filter (is_candidate block) blocks)
