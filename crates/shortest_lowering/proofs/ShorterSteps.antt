-- The SELECT of a candidate from its parts, and the conjunct of one candidate more.
use Rattle.std.proofs.Common.{◌≡◌, ℕ, zero, suc, ◌+◌, ◌<◌, add-one, Bool, true, false, cond, List, [], ◌∷◌, ◌++◌, map, filter, length, get_or, take, sym, ap, ap₂, ◌∙◌, arith}
use Rattle.std.proofs.Common.{append_assoc, Option, None}
use Rattle.graph_ast.specs.declared.catalog.Catalog.{Catalog}
use Rattle.graph_ast.specs.declared.catalog.Graph.{Graph}
use Rattle.graph_ast.specs.declared.checked.CheckedPath.{CheckedPath}
use Rattle.graph_ast.specs.declared.checked.Output.{Output}
use Rattle.graph_ast.specs.declared.blocks.Tags.{Tags}
use Rattle.graph_ast.specs.declared.blocks.PathBlock.{PathBlock}
use Rattle.graph_meaning.specs.Choices.{Condition, singletons_of}
use Rattle.sql_algebra.specs.declared.tree.Conjunct.{Conjunct}
use Rattle.sql_algebra.specs.declared.tree.Select.{Select}
use Rattle.path_lowering.specs.declared.spots.Spot.{Spot}
use Rattle.path_lowering.specs.Emitted.{SqlCondition, mode_conditions, sharing_conditions}
use Rattle.path_lowering.specs.Blocks.{Laid, laid_tags, laid_spots, alternatives_of, block_conditions}
use Rattle.path_lowering.specs.Selects.{select_with, select_for, select_besides}
use Rattle.path_lowering.specs.Shortest.{one_column, candidate_laid}
use Rattle.path_lowering.specs.Apart.{apart}
use Rattle.path_lowering.proofs.Lists.{append-nil, map-append, filter-append}
use Rattle.shortest_lowering.specs.Comparable.{candidate_spots, candidate_conditions, with_conjuncts}
use Rattle.shortest_lowering.specs.PathCandidates.{path_select}

pub nothing_besides : (catalog : Catalog) (graph : Graph) (prefix : ℕ) (names : List (List ℕ)) (parts : List Laid) (condition : Option Condition)
    (outputs : List Output) (more : List Conjunct)
    → with_conjuncts (select_for catalog graph prefix names parts condition outputs) more ≡ select_besides catalog graph prefix names parts condition outputs [] more
nothing_besides catalog graph prefix names parts condition outputs more =
    ap (λ conditions. with_conjuncts (select_with catalog graph prefix (laid_tags parts) (laid_spots parts) conditions outputs) more)
    (sym (append-nil (block_conditions catalog graph prefix names parts condition)))

-- the SELECT over the same places with the same conditions
pub select_same : (catalog : Catalog) (graph : Graph) (prefix : ℕ) (tags tags_too : List Tags) (spots spots_too : List Spot)
    (conditions conditions_too : List SqlCondition) (outputs outputs_too : List Output)
    → tags ≡ tags_too → spots ≡ spots_too → conditions ≡ conditions_too → outputs ≡ outputs_too
    → select_with catalog graph prefix tags spots conditions outputs ≡ select_with catalog graph prefix tags_too spots_too conditions_too outputs_too
select_same catalog graph prefix tags tags_too spots spots_too conditions conditions_too outputs outputs_too t s c o =
    ap₂ (λ (x : List Tags) (y : List Spot). select_with catalog graph prefix x y conditions outputs) t s
    ∙ ap₂ (λ (x : List SqlCondition) (y : List Output). select_with catalog graph prefix tags_too spots_too x y) c o

-- a candidate is one path, of which each singleton has its places
pub candidate_alone : (catalog : Catalog) (graph : Graph) (path : CheckedPath) (other : PathBlock)
    → select_with catalog graph 83 other.tags (candidate_spots other) (candidate_conditions catalog graph 83 path other) (one_column ∷ []) ≡ path_select catalog graph path other
candidate_alone catalog graph path other =
    let spots = candidate_spots other in
    let front = apart (alternatives_of catalog graph 83 path other spots) ++ mode_conditions catalog graph 83 path.mode spots in
    ap₂ (λ (a b : List SqlCondition). select_with catalog graph 83 other.tags spots (a ++ b) (one_column ∷ []))
    (sym (append-nil front)) (sym (append-nil (sharing_conditions catalog graph 83 (singletons_of path) other.tags spots)))
    ∙ ap₂ (λ (x : List Tags) (y : List Spot). select_with catalog graph 83 x y
    ((front ++ []) ++ (sharing_conditions catalog graph 83 (singletons_of path) x y ++ [])) (one_column ∷ []))
    (sym (append-nil other.tags)) (sym (append-nil spots))

pub candidate_is : (catalog : Catalog) (graph : Graph) (path : CheckedPath) (other : PathBlock) (more : List Conjunct)
    → with_conjuncts (select_with catalog graph 83 other.tags (candidate_spots other) (candidate_conditions catalog graph 83 path other) (one_column ∷ [])) more
    ≡ select_besides catalog graph 83 (singletons_of path) (candidate_laid catalog graph apart path other ∷ []) None (one_column ∷ []) [] more
candidate_is catalog graph path other more =
    ap (λ (select : Select). with_conjuncts select more) (candidate_alone catalog graph path other)
    ∙ nothing_besides catalog graph 83 (singletons_of path) (candidate_laid catalog graph apart path other ∷ []) None (one_column ∷ []) more

take_next : {X : Type 0} (xs : List X) (i : ℕ) (x : X) → x ≡ get_or xs i x → i < length xs → take (suc i) xs ≡ take i xs ++ x ∷ []
take_next [] i x is h = absurd (omega arith)
take_next (y ∷ ys) zero x is h = ap (λ z. z ∷ []) (sym is)
take_next (y ∷ ys) (suc i) x is h = ap (λ l. y ∷ l) (take_next ys i x is (omega arith))

module _ {A B : Type 0} (f : A → B) (p : A → Bool) (xs : List A) (i : ℕ) (x : A) (is : x ≡ get_or xs i x) (within : i < length xs) where
  kept_next : (b : Bool) → p x ≡ b → map f (filter p (take (i + 1) xs)) ≡ map f (filter p (take i xs)) ++ map f (cond b (x ∷ []) [])
  kept_next b e =
      ap (λ l. map f (filter p l)) (rw add-one (take_next xs i x is within))
      ∙ ap (map f) (filter-append p (take i xs) (x ∷ []) ∙ ap (λ t. filter p (take i xs) ++ cond t (x ∷ []) []) e)
      ∙ map-append f (filter p (take i xs)) (cond b (x ∷ []) [])

  -- one more that passes, and one that does not
  pub passed_next : (before made new : List B) (y : B) → made ≡ before ++ map f (filter p (take i xs)) → p x ≡ true → y ≡ f x
      → new ≡ made ++ y ∷ [] → new ≡ before ++ map f (filter p (take (i + 1) xs))
  passed_next before made new y so_far passes one joined =
      joined ∙ ap₂ (λ l z. l ++ z ∷ []) so_far one ∙ append_assoc before (map f (filter p (take i xs))) (f x ∷ [])
      ∙ ap (λ l. before ++ l) (sym (kept_next true passes))

  pub left_next : (before made : List B) → made ≡ before ++ map f (filter p (take i xs)) → p x ≡ false → made ≡ before ++ map f (filter p (take (i + 1) xs))
  left_next before made so_far fails = so_far ∙ ap (λ l. before ++ l) (sym (kept_next false fails ∙ append-nil (map f (filter p (take i xs)))))
