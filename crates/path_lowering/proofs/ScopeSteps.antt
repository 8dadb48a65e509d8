-- What a variable of some element patterns holds is at one of the places.
use Rattle.std.proofs.Common.{◌≡◌, ℕ, List, Option, None, Some, IfSome, sym, slice_get}
use Rattle.multisets.specs.Bags.{IsIn}
use Rattle.graph_meaning.specs.Choices.{PlacedPiece}
use Rattle.graph_meaning.specs.Conditions.{place_in}
use Rattle.path_lowering.specs.declared.spots.Spot.{Spot}
use Rattle.path_lowering.specs.Emitted.{spot_in}
use Rattle.path_lowering.proofs.PieceLemmas.{got_in}

-- what is read at a place of a list is in it
read_there : (spots : List Spot) (P : Spot → Type 0) → ((spot : Spot) → IsIn spot spots → P spot) → (place : Option ℕ) → (o : Option Spot)
    → o ≡ elim place [ None ↦ None | Some n ↦ slice_get spots n ] → IfSome o P
read_there spots P all place None is = tt
read_there spots P all None (Some spot) is = cc
read_there spots P all (Some n) (Some spot) is = all spot (got_in spots n spot (sym is))

pub scoped_there : (scope : List PlacedPiece) (spots : List Spot) (name : List ℕ) (P : Spot → Type 0) → ((spot : Spot) → IsIn spot spots → P spot)
    → (o : Option Spot) → o ≡ spot_in scope spots name → IfSome o P
scoped_there scope spots name P all o is = read_there spots P all (place_in scope name) o is
