-- What is left of an amount, with what was made of it on the way.
use Rattle.std.specs.Prelude.{ℕ, ◌+◌, ◌*◌, ◌<◌, ◌≡◌, List, length, Option, None, Some}
use Rattle.graph_ast.specs.declared.catalog.Graph.{Graph}
use Rattle.graph_ast.specs.declared.checked.CheckedPath.{CheckedPath}
use Rattle.graph_ast.specs.declared.blocks.Alternative.{Alternative}
use Rattle.graph_ast.specs.declared.blocks.PathBlock.{PathBlock}
use Rattle.graph_meaning.specs.Blocks.{complete}
use Rattle.graph_meaning.specs.Weights.{choice_size}
use Rattle.normal_form.specs.Found.{prefixes}
use Rattle.normal_form.specs.Kept.{IsKept}
use Rattle.normal_form.specs.declared.path_weight.Gathering.{Gathering}
use Rattle.normal_form.specs.declared.path_weight.Weighed.{Weighed}

-- the feasible assignments of a choice, of the first place, the first two and so on, and those of all places by the choice's size
abbrev pub choice_weight : Graph → CheckedPath → Alternative → ℕ
choice_weight graph path choice = prefixes graph path choice + length (complete graph path choice) * choice_size path choice

-- what is left after a cost, with the path blocks so far
pub record IsGathering (amount cost : ℕ) (all : List PathBlock) (gathering : Gathering) : Type 0 where
  pub left : gathering.left + cost ≡ amount
  pub kept : IsKept gathering.merged
  pub blocks : gathering.merged.blocks.items ≡ all

-- nothing where the cost is above the amount
abbrev pub IsGathered : ℕ → ℕ → List PathBlock → Option Gathering → Type 0
IsGathered amount cost blocks None = amount < cost
IsGathered amount cost blocks (Some gathering) = IsGathering amount cost blocks gathering

-- what is left after a cost, with the path blocks of a path pattern
pub record IsWeighing (amount cost : ℕ) (all : List PathBlock) (weighed : Weighed) : Type 0 where
  pub left : weighed.left + cost ≡ amount
  pub blocks : weighed.blocks ≡ all

abbrev pub IsWeighed : ℕ → ℕ → List PathBlock → Option Weighed → Type 0
IsWeighed amount cost blocks None = amount < cost
IsWeighed amount cost blocks (Some weighed) = IsWeighing amount cost blocks weighed
