-- Rows of path blocks: one for each of some path patterns, each with what it costs.
use Rattle.std.specs.Prelude.{ℕ, ◌≡◌, ◌+◌, ◌-◌, Bool, nat_eq, List, [], ◌∷◌, ◌++◌, length, map, filter, flat_map, take, Option, None, Some}
use Rattle.std.specs.List.{sum_by, list_all}
use Rattle.graph_ast.specs.declared.blocks.PathBlock.{PathBlock}
use Rattle.graph_meaning.specs.Lists.{numbers_below, first_of, all_same, tagged, combinations}
use Rattle.normal_form.specs.declared.rows.Costed.{Costed}

-- a path block, and what it costs
abbrev pub BlockCost : Type 0
BlockCost = PathBlock × ℕ

abbrev pub seen : Costed → BlockCost
seen part = (part.block.now, part.cost)

-- the elements at the places of a path block that are tagged with a name
abbrev pub tagged_in : List ℕ → PathBlock → List ℕ
tagged_in name block = tagged name block.tags block.elements

-- those of all path blocks of a row
abbrev pub tagged_along : List ℕ → List BlockCost → List ℕ
tagged_along name row = flat_map (λ part. tagged_in name part.0) row

-- whether, for each of the names, all places of a row that are tagged with it have one element
abbrev pub is_joined : List (List ℕ) → List BlockCost → Bool
is_joined names row = list_all (λ name. all_same nat_eq (tagged_along name row)) names

-- whether elements are an element that stands before them, or where there is none the same as one another
abbrev pub are_as : Option ℕ → List ℕ → Bool
are_as None elements = all_same nat_eq elements
are_as (Some element) elements = list_all (nat_eq element) elements

-- whether a path block may follow a row: at each of the names it has the element that the row has
abbrev pub joins : List (List ℕ) → List BlockCost → PathBlock → Bool
joins names row block = list_all (λ name. are_as (first_of (tagged_along name row)) (tagged_in name block)) names

-- two lists of the same names: what holds of all names of the one holds of all names of the other
abbrev pub HaveSame : List (List ℕ) → List (List ℕ) → Type 0
HaveSame names others = (p : List ℕ → Bool) → list_all p names ≡ list_all p others

-- a row, followed by each path block that may follow it
abbrev pub extended : List (List ℕ) → List BlockCost → List BlockCost → List (List BlockCost)
extended names list row = map (λ part. row ++ part ∷ []) (filter (λ part. joins names row part.0) list)

-- the rows of one path block from each list in which, for each of the names, all places that are tagged with it have one element
abbrev pub joined : List (List ℕ) → List (List BlockCost) → List (List BlockCost)
joined names lists = filter (is_joined names) (combinations lists)

-- 1 for each row of the first two lists, of the first three and so on, but not of all
abbrev pub payment : List (List ℕ) → List (List BlockCost) → ℕ
payment names lists = sum_by (λ more. length (joined names (take (more + 2) lists))) (numbers_below (length lists - 2))
