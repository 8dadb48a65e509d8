-- What a variable holds is at one of the places.
use Rattle.std.proofs.Common.{◌≡◌, ℕ, List, Option, None, Some, IfSome, sym}
use Rattle.multisets.specs.Bags.{IsIn}
use Rattle.graph_ast.specs.declared.blocks.Tags.{Tags}
use Rattle.graph_meaning.specs.Lists.{tagged}
use Rattle.path_lowering.specs.declared.spots.Spot.{Spot}
use Rattle.path_lowering.specs.Emitted.{spot_by}
use Rattle.path_lowering.proofs.ConditionLemmas.{tagged_in, first_in}

pub holder_there : (tags : List Tags) (spots : List Spot) (name : List ℕ) (P : Spot → Type 0) → ((spot : Spot) → IsIn spot spots → P spot) → (o : Option Spot) → o
    ≡ spot_by tags spots name → IfSome o P
holder_there tags spots name P all None is = tt
holder_there tags spots name P all (Some spot) is = all spot (tagged_in name tags spots spot (first_in (tagged name tags spots) spot (sym is)))
