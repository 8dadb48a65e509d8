-- The items of a block's FROM.
use Rattle.std.proofs.Common.{◌≡◌, ℕ, suc, ◌<◌, ◌≤◌, Bool, true, false, cond, List, [], ◌∷◌, ◌++◌, map, length, get_or, refl, sym, ap, subst, ◌∙◌, inl, inr, nat_eq, arith}
use Rattle.std.proofs.Common.{append_assoc, Decides}
use Rattle.std.proofs.lemmas.List.{length-append}
use Rattle.std.proofs.Math.ListN.{get_or-append}
use Rattle.std.proofs.Math.Seq.{get_or-append_seam}
use Rattle.std.proofs.lemmas.Bool.{eqb-true}
use Rattle.multisets.specs.Bags.{IsIn}
use Rattle.graph_ast.specs.declared.catalog.Catalog.{Catalog}
use Rattle.graph_ast.specs.declared.catalog.Graph.{Graph}
use Rattle.path_lowering.specs.declared.spots.Spot.{Spot}
use Rattle.path_lowering.specs.Emitted.{SqlCondition, alias_of}
use Rattle.path_lowering.specs.declared.placing.Source.{Source}
use Rattle.path_lowering.specs.Placed.{joined_items, from_of}
use Rattle.path_lowering.specs.Blocks.{own_spots, source_of, sources_of}
use Rattle.path_lowering.proofs.ItemLemmas.{Place, item_tables, IsInOrder}
use Rattle.path_lowering.proofs.TupleLemmas.{AreNumbered}

-- each place finds its table among the items
module _ {X : Type 0} (same : X → X → Bool) (decides : (x y : X) → Decides (same x y) (x ≡ y)) (d : X) where
  pub looked_up : (places : List (Place same decides d)) (seen : List (List X)) → IsInOrder same decides d seen places → (p : Place same decides d) → IsIn p places
      → (p.0 < length (seen ++ item_tables same decides d (length seen) places)) × (get_or (seen ++ item_tables same decides d (length seen) places) p.0 [] ≡ p.1)
  looked_up [] seen order p h = absurd h
  looked_up (place ∷ places) seen order p h = go (nat_eq place.0 (length seen)) refl order h (λ s o k. looked_up places s o p k)
    where
      go : (b : Bool) → nat_eq place.0 (length seen) ≡ b
          → elim b as (λ c. Type 0) [
            | true ↦ IsInOrder same decides d (seen ++ place.1 ∷ []) places
            | false ↦ (place.0 < length seen) × (get_or seen place.0 [] ≡ place.1)
                × IsInOrder same decides d seen places
          ]
          → IsIn p (place ∷ places)
          → ((s : List (List X)) → IsInOrder same decides d s places → IsIn p places
          → (p.0 < length (s ++ item_tables same decides d (length s) places)) × (get_or (s ++ item_tables same decides d (length s) places) p.0 [] ≡ p.1))
          → (p.0 < length (seen ++ cond b (place.1 ∷ item_tables same decides d (suc (length seen)) places) (item_tables same decides d (length seen) places)))
          × (get_or (seen ++ cond b (place.1 ∷ item_tables same decides d (suc (length seen)) places) (item_tables same decides d (length seen) places)) p.0 [] ≡ p.1)
      go true e o (inl s) more =
          let item : p.0 ≡ length seen = ap (λ x. x.0) (sym s) ∙ eqb-true _ _ e in
          let n = length-append seen (place.1 ∷ item_tables same decides d (suc (length seen)) places) in (
            omega (arith, item, n),
            ap (λ i. get_or (seen ++ place.1 ∷ item_tables same decides d (suc (length seen)) places) i []) item
                ∙ get_or-append_seam seen place.1 (item_tables same decides d (suc (length seen)) places) [] ∙ ap (λ x. x.1) s,
          )
      go true e o (inr k) more =
          let n : length (seen ++ place.1 ∷ []) ≡ suc (length seen) = length-append seen (place.1 ∷ []) ∙ omega arith in
          let whole : (seen ++ place.1 ∷ []) ++ item_tables same decides d (length (seen ++ place.1 ∷ [])) places
          ≡ seen ++ place.1 ∷ item_tables same decides d (suc (length seen)) places =
          append_assoc seen (place.1 ∷ []) (item_tables same decides d (length (seen ++ place.1 ∷ [])) places)
          ∙ ap (λ m. seen ++ place.1 ∷ item_tables same decides d m places) n in
          subst (λ l. (p.0 < length l) × (get_or l p.0 [] ≡ p.1)) whole (more (seen ++ place.1 ∷ []) o k)
      go false e o (inl s) more =
          let below : p.0 < length seen = subst (λ x. x.0 < length seen) s o.0 in
          let n = length-append seen (item_tables same decides d (length seen) places) in (
            omega (arith, below, n),
            get_or-append seen (item_tables same decides d (length seen) places) [] p.0 below ∙ ap (λ x. get_or seen x.0 []) (sym s) ∙ o.1 ∙ ap (λ x. x.1) s,
          )
      go false e o (inr k) more = more seen o.2 k

-- the tables and the aliases of a chain are those of its sources
joined_tables : (aliases : List (List ℕ)) (conditions : List SqlCondition) (number : ℕ) (sources : List Source)
    → map (λ item. item.table) (joined_items aliases conditions number sources) ≡ map (λ source. source.table) sources
joined_tables aliases conditions number [] = refl
joined_tables aliases conditions number (s ∷ ss) = ap (λ l. s.table ∷ l) (joined_tables aliases conditions (suc number) ss)

pub from_tables : (sources : List Source) (conditions : List SqlCondition) → map (λ item. item.table) (from_of sources conditions) ≡ map (λ source. source.table) sources
from_tables [] conditions = refl
from_tables (s ∷ ss) conditions = ap (λ l. s.table ∷ l) (joined_tables (map (λ source. source.alias) (s ∷ ss)) conditions 1 ss)

-- sources with the aliases of their numbers
abbrev SourcesNumbered : ℕ → ℕ → List Source → Type 0
SourcesNumbered prefix number [] = Unit {0}
SourcesNumbered prefix number (s ∷ ss) = (s.alias ≡ alias_of prefix number) × SourcesNumbered prefix (suc number) ss

joined_numbered : (prefix : ℕ) (aliases : List (List ℕ)) (conditions : List SqlCondition) (at number : ℕ) (sources : List Source) → SourcesNumbered prefix number sources
    → AreNumbered prefix number (joined_items aliases conditions at sources)
joined_numbered prefix aliases conditions at number [] h = tt
joined_numbered prefix aliases conditions at number (s ∷ ss) h = (h.0, joined_numbered prefix aliases conditions (suc at) (suc number) ss h.1)

from_numbered : (prefix : ℕ) (sources : List Source) (conditions : List SqlCondition) → SourcesNumbered prefix 0 sources → AreNumbered prefix 0 (from_of sources conditions)
from_numbered prefix [] conditions h = tt
from_numbered prefix (s ∷ ss) conditions h = (h.0, joined_numbered prefix (map (λ source. source.alias) (s ∷ ss)) conditions 1 1 ss h.1)

module _ (catalog : Catalog) (graph : Graph) (prefix : ℕ) where
  own_numbered : (next : ℕ) (spots : List Spot) → SourcesNumbered prefix next (map (source_of catalog graph prefix) (own_spots next spots))
  own_numbered next [] = tt
  own_numbered next (s ∷ ss) = go (nat_eq s.item next) refl (own_numbered (suc next) ss) (own_numbered next ss)
    where
      go : (b : Bool) → nat_eq s.item next ≡ b → SourcesNumbered prefix (suc next) (map (source_of catalog graph prefix) (own_spots (suc next) ss))
          → SourcesNumbered prefix next (map (source_of catalog graph prefix) (own_spots next ss))
          → SourcesNumbered prefix next (map (source_of catalog graph prefix) (cond b (s ∷ own_spots (suc next) ss) (own_spots next ss)))
      go true e more skip = (ap (alias_of prefix) (eqb-true _ _ e), more)
      go false e more skip = skip

  pub items_numbered : (spots : List Spot) (conditions : List SqlCondition) → AreNumbered prefix 0 (from_of (sources_of catalog graph prefix spots) conditions)
  items_numbered spots conditions = from_numbered prefix (sources_of catalog graph prefix spots) conditions (own_numbered 0 spots)

  -- of the places that begin an item, what is asked of each
  pub own_tables : {X : Type 0} (same : X → X → Bool) (decides : (x y : X) → Decides (same x y) (x ≡ y)) (d : X) (table : Spot → List X) (next : ℕ) (spots : List Spot)
      → map table (own_spots next spots) ≡ item_tables same decides d next (map (λ spot. (spot.item, table spot)) spots)
  own_tables same decides d table next [] = refl
  own_tables same decides d table next (s ∷ ss) = go (nat_eq s.item next) (own_tables same decides d table (suc next) ss) (own_tables same decides d table next ss)
    where
      go : (b : Bool) → map table (own_spots (suc next) ss) ≡ item_tables same decides d (suc next) (map (λ spot. (spot.item, table spot)) ss) → map table (own_spots next ss)
          ≡ item_tables same decides d next (map (λ spot. (spot.item, table spot)) ss)
          → map table (cond b (s ∷ own_spots (suc next) ss) (own_spots next ss))
          ≡ cond b (table s ∷ item_tables same decides d (suc next) (map (λ spot. (spot.item, table spot)) ss))
          (item_tables same decides d next (map (λ spot. (spot.item, table spot)) ss))
      go true more skip = ap (λ l. table s ∷ l) more
      go false more skip = skip

  pub own_few : (next : ℕ) (spots : List Spot) → length (own_spots next spots) ≤ length spots
  own_few next [] = omega arith
  own_few next (s ∷ ss) = go (nat_eq s.item next) (own_few (suc next) ss) (own_few next ss)
    where
      go : (b : Bool) → length (own_spots (suc next) ss) ≤ length ss → length (own_spots next ss) ≤ length ss
          → length (cond b (s ∷ own_spots (suc next) ss) (own_spots next ss)) ≤ suc (length ss)
      go true more skip = omega arith
      go false more skip = omega arith
