-- What is known of the places of a candidate that can be laid.
use Rattle.std.proofs.Common.{◌≡◌, ℕ, zero, suc, ◌+◌, ◌≤◌, ◌<◌, add-one, List, [], ◌∷◌, ◌++◌, length, get_or, slice_index_or, ap, ◌∙◌, subst, sym, arith}
use Rattle.std.specs.List.{range_with_len}
use Rattle.std.proofs.lemmas.List.FromFn.{length-range_with_len}
use Rattle.multisets.specs.Bags.{IsIn}
use Rattle.graph_ast.specs.declared.catalog.Catalog.{Catalog}
use Rattle.graph_ast.specs.declared.catalog.Graph.{Graph}
use Rattle.graph_ast.specs.declared.checked.CheckedPath.{CheckedPath}
use Rattle.graph_ast.specs.declared.blocks.Tags.{Tags}
use Rattle.graph_ast.specs.declared.blocks.Alternative.{Alternative}
use Rattle.graph_ast.specs.declared.blocks.PathBlock.{PathBlock}
use Rattle.graph_meaning.specs.Lists.{numbers_below, tagged}
use Rattle.graph_meaning.specs.Choices.{singletons_of}
use Rattle.path_lowering.specs.declared.spots.Kind.TheVariants.{Vertex}
use Rattle.path_lowering.specs.declared.spots.Spot.{Spot}
use Rattle.path_lowering.specs.Spots.{element_at}
use Rattle.path_lowering.specs.Shown.{HasProperties, HasKey}
use Rattle.path_lowering.specs.Blocks.{sources_of}
use Rattle.path_lowering.specs.Layable.{IsChoiceAt}
use Rattle.path_lowering.proofs.AnswerLemmas.{spots_many}
use Rattle.path_lowering.proofs.LayableLemmas.{has_key, has_properties}
use Rattle.path_lowering.proofs.ServedLemmas.{choice_at}
use Rattle.shortest_lowering.specs.Comparable.{candidate_spots, IsStanding}

-- there is an item for each place
pub items_enough : (n : ℕ) → n ≤ length (numbers_below n)
items_enough n = let long = length-range_with_len 0 n in omega (arith, long)

more_numbers : (a n : ℕ) → range_with_len a (suc n) ≡ range_with_len a n ++ (a + n) ∷ []
more_numbers a zero = let same : a ≡ a + 0 = omega arith in ap (λ m. m ∷ []) same
more_numbers a (suc n) =
    let same : (a + 1) + n ≡ a + suc n = omega arith in
    ap (λ l. a ∷ l) (more_numbers (a + 1) n ∙ ap (λ m. range_with_len (a + 1) n ++ m ∷ []) same)

-- one number more
pub number_next : (made new : List ℕ) (n : ℕ) → made ≡ numbers_below n → new ≡ made ++ n ∷ [] → new ≡ numbers_below (n + 1)
number_next made new n so_far joined =
    let same : 0 + n ≡ n = omega arith in
    joined ∙ ap (λ l. l ++ n ∷ []) so_far ∙ sym (rw add-one (more_numbers 0 n ∙ ap (λ m. numbers_below n ++ m ∷ []) same))

-- what is read at a place
pub read_at : {X : Type 0} (d : X) (xs : List X) (i : ℕ) (x : X) → x ≡ get_or xs i x → i < length xs → x ≡ slice_index_or xs i d
read_at d [] i x is h = absurd (omega arith)
read_at d (y ∷ ys) zero x is h = is
read_at d (y ∷ ys) (suc i) x is h = read_at d ys i x is (omega arith)

module _ (catalog : Catalog) (graph : Graph) (path : CheckedPath) (other : PathBlock) (ok : IsStanding catalog graph path other)
    (spots : List Spot) (is : spots ≡ candidate_spots other) where
  pub properties_there : (spot : Spot) → IsIn spot spots → HasProperties catalog graph spot
  properties_there spot h =
      has_properties catalog graph ok.valid spot
      (ok.layable.elements (numbers_below (length other.elements)) (items_enough (length other.elements)) spot (subst (λ (l : List Spot). IsIn spot l) is h))

  pub key_there : (spot : Spot) → IsIn spot spots → HasKey catalog graph spot
  key_there spot h =
      has_key catalog graph ok.valid spot
      (ok.layable.elements (numbers_below (length other.elements)) (items_enough (length other.elements)) spot (subst (λ (l : List Spot). IsIn spot l) is h))

  pub choice_there : (choice : Alternative) → IsIn choice other.alternatives → IsChoiceAt catalog graph path spots choice
  choice_there choice h =
      subst (λ (l : List Spot). IsChoiceAt catalog graph path l choice) (sym is)
      (choice_at catalog graph ok.valid path other ok.layable (numbers_below (length other.elements)) (items_enough (length other.elements)) choice h)

  pub alike_there : (names : List (List ℕ)) (tags : List Tags) → names ≡ singletons_of path → tags ≡ other.tags
      → (name : List ℕ) (a b : Spot) → IsIn name names → IsIn a (tagged name tags spots) → IsIn b (tagged name tags spots) → element_at graph a ≡ element_at graph b
  alike_there names tags named same name a b k h i =
      ok.alike name a b (subst (λ (l : List (List ℕ)). IsIn name l) named k) (go a h) (go b i)
    where
      go : (s : Spot) → IsIn s (tagged name tags spots) → IsIn s (tagged name other.tags (candidate_spots other))
      go s h = subst (λ (l : List Spot). IsIn s (tagged name other.tags l)) is (subst (λ (t : List Tags). IsIn s (tagged name t spots)) same h)

  -- as many as tags
  pub spots_there : length other.tags ≡ length spots
  spots_there =
      ok.layable.tags ∙ sym (spots_many Vertex other.elements (numbers_below (length other.elements)) (items_enough (length other.elements)))
      ∙ ap length (sym is)

  pub sources_there : (prefix : ℕ) → 1 ≤ length (sources_of catalog graph prefix spots)
  sources_there prefix = subst (λ (l : List Spot). 1 ≤ length (sources_of catalog graph prefix l)) (sym is) (ok.sources prefix)
