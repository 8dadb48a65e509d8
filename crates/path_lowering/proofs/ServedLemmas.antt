-- A graph block of a query that can be lowered is ready to be laid.
use Rattle.std.proofs.Common.{◌≡◌, ℕ, ◌+◌, ◌*◌, ◌≤◌, ◌<◌, ◌^◌, Bool, true, List, [], ◌∷◌, map, flat_map, length, refl, sym, ap, ap₂, subst, ◌∙◌, inl, inr, arith, nat_eq}
use Rattle.std.proofs.Common.{length-append}
use Rattle.std.specs.List.{AllZip, enumerate_from, list_all}
use Rattle.std.proofs.Math.ListN.{length-map}
use Rattle.std.proofs.lemmas.Bool.{eqb-true}
use Rattle.pgq_base.specs.Instances.{InstanceRows}
use Rattle.multisets.specs.Bags.{IsIn, IsSameMultiset}
use Rattle.graph_ast.specs.declared.catalog.Catalog.{Catalog}
use Rattle.graph_ast.specs.declared.catalog.Graph.{Graph}
use Rattle.graph_ast.specs.declared.checked.CheckedPath.{CheckedPath}
use Rattle.graph_ast.specs.declared.checked.CheckedQuery.{CheckedQuery}
use Rattle.graph_ast.specs.declared.blocks.Tags.{Tags}
use Rattle.graph_ast.specs.declared.blocks.Alternative.{Alternative}
use Rattle.graph_ast.specs.declared.blocks.PathBlock.{PathBlock}
use Rattle.graph_ast.specs.declared.blocks.Block.{Block}
use Rattle.graph_ast.specs.Catalogs.{IsValidGraph}
use Rattle.graph_ast.specs.Lookups.{graph_at}
use Rattle.graph_ast.specs.Fits.{Fits, without_rows}
use Rattle.graph_meaning.specs.Lists.{agree, all_same, tagged}
use Rattle.graph_meaning.specs.Choices.{choices, expansion_of, operand_at, counts_of}
use Rattle.graph_meaning.specs.Answers.{answer, query_singletons}
use Rattle.graph_meaning.specs.Blocks.{path_blocks, blocks}
use Rattle.graph_meaning.proofs.Members.{from_map, from_flat, from_below}
use Rattle.graph_meaning.proofs.BlockRows.{alternative_is}
use Rattle.graph_meaning.proofs.GraphRows.{block_picks}
use Rattle.path_lowering.specs.declared.spots.Kind.{Kind}
use Rattle.path_lowering.specs.declared.spots.Kind.TheVariants.{Vertex, Edge}
use Rattle.path_lowering.specs.declared.spots.Spot.{Spot}
use Rattle.path_lowering.specs.Spots.{element_of_kind, same_kind, spots_along}
use Rattle.path_lowering.specs.Blocks.{laid_tags, laid_spots, own_spots, source_of}
use Rattle.path_lowering.specs.Selects.{IsBlockLaid}
use Rattle.path_lowering.specs.Lowered.{IsUnselected, laid_block, lowered_query}
use Rattle.path_lowering.specs.Apart.{apart}
use Rattle.path_lowering.specs.Layable.{IsChoiceAt, IsLayable, IsPlannable, IsReady, IsServed}
use Rattle.sql_algebra.specs.Meaning.{bag}
use Rattle.path_lowering.proofs.ClosingLemmas.{lowered_is}
use Rattle.path_lowering.proofs.ApartLemmas.{apart_combines}
use Rattle.path_lowering.proofs.ConditionLemmas.{tagged_map}
use Rattle.path_lowering.proofs.Facts.{in_at, in_map}
use Rattle.path_lowering.proofs.LayableLemmas.{choice_there}
use Rattle.path_lowering.proofs.LaidLemmas.{Belongs, belongs, elements_there, tags_many, all_belong, plan_long, plan_is_long, block_laid}
use Rattle.path_lowering.proofs.PlacingLemmas.{each_of}
use Rattle.path_lowering.proofs.Theorems.{first_item}

-- a choice names one of the operands
operand_there : (path : CheckedPath) (choice : Alternative) → IsIn choice (choices path) → choice.operand < length path.operands
operand_there path choice h =
    let of = from_flat (λ place. map (λ counts. record { operand = place; counts = counts }) (counts_of (operand_at path place).steps)) choice
    (Rattle.graph_meaning.specs.Lists.numbers_below (length path.operands)) h in
    let made = from_map (λ counts. record { operand = of.0; counts = counts }) choice (counts_of (operand_at path of.0).steps) of.2 in
    subst (λ (a : Alternative). a.operand < length path.operands) made.2 (from_below (length path.operands) of.0 of.1)

-- what is known of the choices of a path block, along its places
pub choice_at : (catalog : Catalog) (graph : Graph) → IsValidGraph catalog graph → (path : CheckedPath) (part : PathBlock) → IsLayable graph path part → (items : List ℕ)
    → length part.elements ≤ length items → (choice : Alternative) → IsIn choice part.alternatives → IsChoiceAt catalog graph path (spots_along Vertex part.elements items) choice
choice_at catalog graph valid path part ok items many choice h = record {
  operand = operand_there path choice (ok.choices choice h);
  room = (let sized : length part.elements ≡ 2 * (expansion_of path choice).edges + 1 = ok.is_part.sized choice h in let few = ok.few in omega arith);
  pieces = choice_there catalog graph valid path part ok items many choice h;
}

-- members that are the same as the first are the same
first_same : {X : Type 0} (same : X → X → Bool) (is : (x y : X) → same x y ≡ true → x ≡ y) (x : X) (xs : List X) → list_all (same x) xs ≡ true → (y : X) → IsIn y (x ∷ xs) → x ≡ y
first_same same is x xs all y (inl e) = e
first_same same is x xs all y (inr h) = is x y (each_of (same x) xs all y h)

all_alike : {X : Type 0} (same : X → X → Bool) (is : (x y : X) → same x y ≡ true → x ≡ y) (xs : List X) → all_same same xs ≡ true → (x y : X) → IsIn x xs → IsIn y xs → x ≡ y
all_alike same is [] all x y h k = absurd h
all_alike same is (z ∷ zs) all x y h k = sym (first_same same is z zs all x h) ∙ first_same same is z zs all y k

kind_is : (x y : Kind) → same_kind x y ≡ true → x ≡ y
kind_is Vertex Vertex h = refl
kind_is Vertex Edge h = cc
kind_is Edge Vertex h = cc
kind_is Edge Edge h = refl

-- what places of one name have in common
alike_at : {X : Type 0} (same : X → X → Bool) (is : (x y : X) → same x y ≡ true → x ≡ y) (f : Spot → X) (names : List (List ℕ)) (tags : List Tags) (spots : List Spot)
    → agree same names tags (map f spots) ≡ true → (name : List ℕ) → IsIn name names → (a b : Spot) → IsIn a (tagged name tags spots) → IsIn b (tagged name tags spots) → f a ≡ f b
alike_at same is f names tags spots all name there a b h k =
    let own : all_same same (map f (tagged name tags spots)) ≡ true = ap (all_same same) (sym (tagged_map f name tags spots))
    ∙ each_of (λ n. all_same same (tagged n tags (map f spots))) names all name there in
    all_alike same is (map f (tagged name tags spots)) own (f a) (f b) (in_map f a (tagged name tags spots) h) (in_map f b (tagged name tags spots) k)

module _ (catalog : Catalog) (query : CheckedQuery) (served : IsServed catalog query) (fits : Fits catalog (without_rows catalog)) where
  abbrev graph : Graph
  graph = graph_at catalog query.graph

  graph_in : IsIn graph catalog.graphs
  graph_in = in_at catalog.graphs query.graph (record { name = []; vertices = []; edges = [] }) served.graph

  pub graph_valid : IsValidGraph catalog graph
  graph_valid = served.valid.graphs graph graph_in

  abbrev instance : InstanceRows
  instance = without_rows catalog

  abbrev BelongsTo : CheckedPath → PathBlock → Type 0
  BelongsTo = Belongs catalog graph graph_valid instance fits query served.lowerable

  layable : (path : CheckedPath) (place : ℕ) (part : PathBlock) → IsIn path query.paths → IsIn part (path_blocks graph place path) → length part.elements < 2 ^ 32
      → IsLayable graph path part
  layable path place part among h few =
      let is = belongs catalog graph graph_valid instance fits query served.lowerable path place part among h in record {
        is_part = is.is_part;
        choices = λ choice k. (alternative_is graph path place part h choice k).there;
        tags = is.many;
        few = few;
        elements = λ items many spot k. elements_there catalog graph graph_valid instance fits query served.lowerable part.elements items is.fitting.numbers spot k;
      }

  all_layable : (n : ℕ) (paths : List CheckedPath) (parts : List PathBlock) → ((path : CheckedPath) → IsIn path paths → IsIn path query.paths)
      → length (flat_map (λ part. part.elements) parts) < 2 ^ 32
      → AllZip IsIn parts (map (λ (n : ℕ × CheckedPath). path_blocks graph n.0 n.1) (enumerate_from n paths)) → AllZip (IsLayable graph) paths parts
  all_layable n [] [] among few h = tt
  all_layable n [] (p ∷ ps) among few h = absurd h
  all_layable n (path ∷ paths) [] among few h = absurd h
  all_layable n (path ∷ paths) (p ∷ ps) among few h =
      let both = length-append p.elements (flat_map (λ part. part.elements) ps) in
      (layable path n p (among path (inl refl)) h.0 (omega (arith, both)), all_layable (n + 1) paths ps (λ q k. among q (inr k)) (omega (arith, both)) h.1)

  module _ (block : Block) (there : IsIn block (blocks graph query)) where
    abbrev picks : AllZip IsIn block.paths (map (λ (n : ℕ × CheckedPath). path_blocks graph n.0 n.1) (enumerate_from 0 query.paths))
    picks = block_picks catalog graph graph_valid instance fits [] query block there

    are : AllZip BelongsTo query.paths block.paths
    are = all_belong catalog graph graph_valid instance fits query served.lowerable 0 query.paths block.paths (λ path h. h) picks

    many : length (flat_map (λ part. part.tags) block.paths) ≡ length (flat_map (λ part. part.elements) block.paths)
    many = tags_many catalog graph graph_valid instance fits query served.lowerable query.paths block.paths are

    laid : (prefix : ℕ) → IsBlockLaid catalog graph prefix (query_singletons query) (laid_block catalog graph prefix apart query block) query.condition query.columns
    laid prefix = block_laid catalog graph graph_valid instance fits query served.lowerable prefix apart apart_combines block there

    pub ready : (prefix : ℕ) → IsReady catalog graph prefix query block
    ready prefix = record {
      valid = graph_valid;
      paths = all_layable 0 query.paths block.paths (λ path h. h) (served.lowerable.few block there) picks;
      many = plan_is_long catalog graph graph_valid instance fits query served.lowerable prefix apart apart_combines block there;
      there = (laid prefix).elements;
      sources = subst (λ n. 1 ≤ n) (sym (length-map (own_spots 0 (laid_spots (laid_block catalog graph prefix apart query block))) (source_of catalog graph prefix)))
          (first_item (laid prefix).shared (laid_tags (laid_block catalog graph prefix apart query block)) (laid_spots (laid_block catalog graph prefix apart query block))
          (laid prefix).some
          (sym (sym (length-map (laid_spots (laid_block catalog graph prefix apart query block)) (λ spot. spot.item)) ∙ ap length (laid prefix).planned
          ∙ plan_long (laid prefix).shared [] 0 (laid_tags (laid_block catalog graph prefix apart query block)))) (laid prefix).planned);
      few = (let few = served.lowerable.few block there in omega (arith, many, few));
      alike = λ name a b k h i.
          let tags = laid_tags (laid_block catalog graph prefix apart query block) in
          let spots = laid_spots (laid_block catalog graph prefix apart query block) in
          ap₂ (λ kind number. element_of_kind graph kind number)
          (alike_at same_kind kind_is (λ spot. spot.kind) (query_singletons query) tags spots (laid prefix).kinds name k a b h i)
          (alike_at nat_eq (λ x y e. eqb-true x y e) (λ spot. spot.element) (query_singletons query) tags spots (laid prefix).numbers name k a b h i);
    }

    pub plannable : IsPlannable query block
    plannable = record { few = (ready 65).few; many = (ready 65).many }

  -- the lowered query means the answer
  pub served_means : IsUnselected query → (tables : InstanceRows) → Fits catalog tables
      → IsSameMultiset (answer catalog query [] [] tables) (bag catalog (lowered_query catalog apart query) tables)
  served_means unselected tables own =
      lowered_is catalog tables query (record { valid = served.valid; there = graph_in; fits = own }) served.lowerable unselected apart apart_combines
