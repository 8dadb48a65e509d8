-- The rows of a candidate that pass are those that its path's mode keeps.
use Rattle.std.proofs.Common.{◌≡◌, ℕ, ◌≤◌, Bool, true, false, ◌&&◌, List, [], ◌∷◌, ◌++◌, map, length, refl, sym, ap, ap₂, subst, ◌∙◌, None}
use Rattle.std.proofs.lemmas.List.FromFn.{length-range_with_len}
use Rattle.pgq_base.specs.Instances.{RowValues, InstanceRows}
use Rattle.multisets.specs.Bags.{IsIn}
use Rattle.graph_ast.specs.declared.catalog.Catalog.{Catalog}
use Rattle.graph_ast.specs.declared.catalog.Graph.{Graph}
use Rattle.graph_ast.specs.declared.checked.CheckedPath.{CheckedPath}
use Rattle.graph_ast.specs.declared.blocks.PathBlock.{PathBlock}
use Rattle.graph_meaning.specs.Lists.{numbers_below, agree, combinations}
use Rattle.graph_meaning.specs.View.{same_element, rows_of}
use Rattle.graph_meaning.specs.Walks.{Walk, places_of}
use Rattle.graph_meaning.specs.Choices.{singletons_of}
use Rattle.graph_meaning.specs.Readings.{reads}
use Rattle.graph_meaning.specs.Rows.{tables_of, tuples, walk_with, mode_passes}
use Rattle.graph_meaning.proofs.Members.{both_parts, some_of, from_combinations}
use Rattle.path_lowering.specs.Spots.{element_at}
use Rattle.path_lowering.specs.Blocks.{Laid, IsPart}
use Rattle.path_lowering.specs.Selects.{place_elements, passes_path, passes_block}
use Rattle.path_lowering.specs.Lowered.{Combining}
use Rattle.path_lowering.specs.Shortest.{candidate_laid}
use Rattle.path_lowering.proofs.Lists.{append-nil}
use Rattle.path_lowering.proofs.AnswerLemmas.{Fitting, places_are, tables_are, path_is, picks_many, tables_many}

-- a test that another implies adds nothing
implied : (m a : Bool) → (m ≡ true → a ≡ true) → ((m && true) && (a && true)) ≡ m
implied true a h = ap (λ b. b && true) (h refl)
implied false a h = refl

module _ (catalog : Catalog) (graph : Graph) (instance : InstanceRows) (combined : Combining) (path : CheckedPath) (other : PathBlock)
    (fitting : Fitting graph instance path other) (part : IsPart graph path other) where
  abbrev own : Laid
  own = candidate_laid catalog graph combined path other

  many : length other.elements ≤ length (numbers_below (length other.elements))
  many = let n = length-range_with_len 0 (length other.elements) in omega (Rattle.std.proofs.Common.arith, n)

  pub tables_same : combinations (map (λ spot. rows_of instance (element_at graph spot)) (own.spots ++ [])) ≡ tuples graph instance other.elements
  tables_same = ap (λ spots. combinations (map (λ spot. rows_of instance (element_at graph spot)) spots)) (append-nil own.spots)
      ∙ ap combinations (tables_are graph instance other.elements (numbers_below (length other.elements)) fitting.numbers many)

  module _ (rows : List RowValues) (there : IsIn rows (tuples graph instance other.elements)) where
    long : length rows ≡ length other.elements
    long = picks_many graph instance rows (tables_of graph instance other.elements) (from_combinations rows (tables_of graph instance other.elements) there)
        ∙ tables_many graph instance other.elements fitting.numbers

    abbrev walk : Walk
    walk = walk_with graph other.elements rows

    -- what an alternative reads agrees at each singleton
    read_agrees : mode_passes graph instance path other rows ≡ true → agree same_element (singletons_of path) other.tags (places_of walk) ≡ true
    read_agrees h =
        let choice = some_of (λ choice. reads graph instance path choice walk) other.alternatives (both_parts _ _ h).0 in
        let inner = both_parts _ _ (both_parts _ _ choice.2).1 in
        subst (λ tags. agree same_element (singletons_of path) tags (places_of walk) ≡ true) (part.tagged choice.0 choice.1) (both_parts _ _ inner.1).0

    pub passes_same : passes_block graph instance (singletons_of path) (own ∷ []) None rows ≡ mode_passes graph instance path other rows
    passes_same =
        let here = places_are graph instance other.elements (numbers_below (length other.elements)) rows fitting.numbers many long in
        ap₂ (λ (m : Bool) (a : Bool). (m && true) && (a && true))
        (ap (passes_path graph instance path other) here ∙ path_is graph instance path other fitting rows long)
        (ap₂ (agree same_element (singletons_of path)) (append-nil other.tags) (ap (λ spots. place_elements graph spots rows) (append-nil own.spots) ∙ here))
        ∙ implied (mode_passes graph instance path other rows) (agree same_element (singletons_of path) other.tags (places_of walk)) read_agrees
