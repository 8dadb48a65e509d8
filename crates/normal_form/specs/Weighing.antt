-- The path blocks of all path patterns, and what is left after their assignments.
use Rattle.std.specs.Prelude.{ℕ, ◌+◌, ◌<◌, ◌≡◌, List, Option, None, Some}
use Rattle.graph_ast.specs.declared.catalog.Graph.{Graph}
use Rattle.graph_ast.specs.declared.checked.CheckedPath.{CheckedPath}
use Rattle.graph_ast.specs.declared.blocks.PathBlock.{PathBlock}
use Rattle.graph_meaning.specs.Weights.{prefix_weight, place_weight}
use Rattle.normal_form.specs.declared.weight.Lists.{Lists}

-- the assignments of a path pattern
abbrev pub assignments_weight : Graph → CheckedPath → ℕ
assignments_weight graph path = prefix_weight graph path + place_weight graph path

-- what is left after a cost, with the path blocks of each path pattern
pub record HasLists (amount cost : ℕ) (all : List (List PathBlock)) (found : Lists) : Type 0 where
  pub left : found.left + cost ≡ amount
  pub lists : found.lists ≡ all

-- nothing where the cost is above the amount
abbrev pub AreWeighed : ℕ → ℕ → List (List PathBlock) → Option Lists → Type 0
AreWeighed amount cost all None = amount < cost
AreWeighed amount cost all (Some found) = HasLists amount cost all found
