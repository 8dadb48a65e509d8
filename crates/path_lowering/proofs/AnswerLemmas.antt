-- The rows of a block, laid out, are those of the block's part of the answer.
use Rattle.std.proofs.Common.{◌≡◌, ℕ, zero, suc, ◌+◌, ◌*◌, ◌≤◌, Bool, true, false, ◌&&◌, cond, List, [], ◌∷◌, ◌++◌, map, filter, flat_map, length, drop, refl, sym, ap, ap₂, ◌∙◌}
use Rattle.std.proofs.Common.{inl, inr, arith, Option, None, Some, length-append}
use Rattle.std.specs.List.{AllZip, enumerate_from}
use Rattle.pgq_base.specs.Instances.{RowValues, TableRows, InstanceRows}
use Rattle.expr_tree.specs.Meaning.{value_in}
use Rattle.multisets.specs.Bags.{IsIn}
use Rattle.graph_ast.specs.declared.catalog.Catalog.{Catalog}
use Rattle.graph_ast.specs.declared.catalog.Graph.{Graph}
use Rattle.graph_ast.specs.declared.checked.CheckedPath.{CheckedPath}
use Rattle.graph_ast.specs.declared.checked.CheckedQuery.{CheckedQuery}
use Rattle.graph_ast.specs.declared.checked.Output.{Output}
use Rattle.graph_ast.specs.declared.blocks.Tags.{Tags}
use Rattle.graph_ast.specs.declared.blocks.Alternative.{Alternative}
use Rattle.graph_ast.specs.declared.blocks.PathBlock.{PathBlock}
use Rattle.graph_ast.specs.declared.blocks.Block.{Block}
use Rattle.graph_ast.specs.Lookups.{vertex_element, edge_element}
use Rattle.graph_meaning.specs.Lists.{agree, combinations}
use Rattle.graph_meaning.specs.View.{Identity, Edge as ViewEdge, AVertex, AnEdge, same_element, rows_of, vertex_of, edge_of}
use Rattle.graph_meaning.specs.Walks.{Walk, edge_count, elements_after, places_of}
use Rattle.graph_meaning.specs.Choices.{Condition, expansion_of, place_count}
use Rattle.graph_meaning.specs.Conditions.{leaf_value, held_by}
use Rattle.graph_meaning.specs.Readings.{reads}
use Rattle.graph_meaning.specs.Bindings.{keeps_mode, bindings_in_mode, is_selected, group_count}
use Rattle.graph_meaning.specs.Answers.{GraphBinding, all_tags, all_elements, query_singletons, meets_where, is_joined, answer_row}
use Rattle.graph_meaning.specs.Rows.{tables_after, tables_of, tuples, steps_with, walk_with, binding_with, bindings_with, rows_read, part_passes, parts_pass, mode_passes}
use Rattle.graph_meaning.specs.Rows.{rows_pass, block_tuples, answer_of_block}
use Rattle.graph_meaning.proofs.Members.{from_filter, from_combinations, ArePicks}
use Rattle.graph_meaning.proofs.RowLemmas.{AreNumbers, AreNumbersAfter}
use Rattle.path_lowering.specs.declared.spots.Kind.TheVariants.{Vertex, Edge}
use Rattle.path_lowering.specs.declared.spots.Spot.{Spot}
use Rattle.path_lowering.specs.Spots.{element_at, of_row, spots_along}
use Rattle.path_lowering.specs.Blocks.{Laid, laid_tags, laid_spots, reads_at, meets_last}
use Rattle.path_lowering.specs.Selects.{steps_through, walk_through, place_elements, passes_path, passes_paths, passes_block, block_row, block_rows, block_rows_besides}
use Rattle.path_lowering.specs.Lowered.{Combining, lay_all}
use Rattle.path_lowering.proofs.Truths.{and_kept}
use Rattle.path_lowering.proofs.Lists.{map-each, filter-each, map-again, map-append, map-flat_map, flat_map-each, append-nil, filter-map}
use Rattle.path_lowering.proofs.SelectLemmas.{nat_eq_decides}
use Rattle.path_lowering.proofs.BlockLemmas.{any-each}

map_itself : {A : Type 0} (xs : List A) → map (λ x. x) xs ≡ xs
map_itself [] = refl
map_itself (x ∷ xs) = ap (λ l. x ∷ l) (map_itself xs)

append_twice : {A : Type 0} (xs ys zs : List A) → (xs ++ ys) ++ zs ≡ xs ++ (ys ++ zs)
append_twice [] ys zs = refl
append_twice (x ∷ xs) ys zs = ap (λ l. x ∷ l) (append_twice xs ys zs)

flat_append : {A B : Type 0} (f : A → List B) (xs ys : List A) → flat_map f (xs ++ ys) ≡ flat_map f xs ++ flat_map f ys
flat_append f [] ys = refl
flat_append f (x ∷ xs) ys = ap (λ l. f x ++ l) (flat_append f xs ys) ∙ sym (append_twice (f x) (flat_map f xs) (flat_map f ys))

flat_map-map : {A B C : Type 0} (f : B → List C) (g : A → B) (xs : List A) → flat_map f (map g xs) ≡ flat_map (λ x. f (g x)) xs
flat_map-map f g [] = refl
flat_map-map f g (x ∷ xs) = ap (λ l. f (g x) ++ l) (flat_map-map f g xs)

flat_map-flat_map : {A B C : Type 0} (f : B → List C) (g : A → List B) (xs : List A) → flat_map f (flat_map g xs) ≡ flat_map (λ x. flat_map f (g x)) xs
flat_map-flat_map f g [] = refl
flat_map-flat_map f g (x ∷ xs) = flat_append f (g x) (flat_map g xs) ∙ ap (λ l. flat_map f (g x) ++ l) (flat_map-flat_map f g xs)

-- one member of each of two rows of lists
combinations_append : {X : Type 0} (xs ys : List (List X)) → combinations (xs ++ ys) ≡ flat_map (λ a. map (λ b. a ++ b) (combinations ys)) (combinations xs)
combinations_append [] ys = sym (append-nil (map (λ b. [] ++ b) (combinations ys)) ∙ map_itself (combinations ys))
combinations_append {X} (x ∷ xs) ys =
    flat_map-each _ _ x (λ v h.
    ap (map (λ rest. v ∷ rest)) (combinations_append xs ys)
    ∙ map-flat_map (λ rest. v ∷ rest) (λ a. map (λ b. a ++ b) (combinations ys)) (combinations xs)
    ∙ flat_map-each _ _ (combinations xs) (λ a k. map-again (λ rest. v ∷ rest) (λ b. a ++ b) (combinations ys))
    ∙ sym (flat_map-map with_rest (λ a. v ∷ a) (combinations xs)))
    ∙ sym (flat_map-flat_map with_rest (λ v. map (λ rest. v ∷ rest) (combinations xs)) x)
  where
    with_rest : List X → List (List X)
    with_rest = λ a. map (λ b. a ++ b) (combinations ys)

abbrev pub all_rows : {X : Type 0} → List (List X) → List X
all_rows rows = flat_map (λ own. own) rows

combinations_all : {A X : Type 0} (tables : A → List (List X)) (parts : List A) → combinations (flat_map tables parts)
    ≡ map all_rows (combinations (map (λ part. combinations (tables part)) parts))
combinations_all tables [] = refl
combinations_all tables (p ∷ ps) =
    combinations_append (tables p) (flat_map tables ps)
    ∙ flat_map-each _ _ (combinations (tables p)) (λ a h.
    ap (map (λ b. a ++ b)) (combinations_all tables ps)
    ∙ map-again (λ b. a ++ b) all_rows (combinations (map (λ part. combinations (tables part)) ps))
    ∙ sym (map-again all_rows (λ rest. a ∷ rest) (combinations (map (λ part. combinations (tables part)) ps))))
    ∙ sym (map-flat_map all_rows (λ a. map (λ rest. a ∷ rest) (combinations (map (λ part. combinations (tables part)) ps))) (combinations (tables p)))

through_again : (steps : List (ViewEdge × Identity)) → steps_through (elements_after steps) ≡ steps
through_again [] = refl
through_again (s ∷ steps) = ap (λ l. s ∷ l) (through_again steps)

walk_again : (walk : Walk) → walk_through (places_of walk) ≡ walk
walk_again walk = λ i. record { start = walk.start; steps = through_again walk.steps i }

drop_all : {X : Type 0} (us vs : List X) (n : ℕ) → length us ≡ n → drop n (us ++ vs) ≡ vs
drop_all [] vs zero h = refl
drop_all [] vs (suc n) h = absurd (omega (arith, h))
drop_all (u ∷ us) vs zero h = absurd (omega (arith, h))
drop_all (u ∷ us) vs (suc n) h = drop_all us vs n (omega (arith, h))

pub rest_long : {X : Type 0} (n : ℕ) (xs : List X) (m : ℕ) → length xs ≡ n + m → length (drop n xs) ≡ m
rest_long zero xs m h = omega (arith, h)
rest_long (suc n) [] m h = absurd (omega (arith, h))
rest_long (suc n) (x ∷ xs) m h = rest_long n xs m (omega (arith, h))

enumerated : {A B : Type 0} (f : A → B) (n : ℕ) (xs : List A) → map (λ p. f p.1) (enumerate_from n xs) ≡ map f xs
enumerated f n [] = refl
enumerated f n (x ∷ xs) = ap (λ l. f x ∷ l) (enumerated f (n + 1) xs)

pub spots_many : (kind : Rattle.path_lowering.specs.declared.spots.Kind.Kind) (ns items : List ℕ) → length ns ≤ length items → length (spots_along kind ns items) ≡ length ns
spots_many kind [] items many = refl
spots_many kind (n ∷ ns) [] many = absurd (omega (arith, many))
spots_many kind (n ∷ ns) (a ∷ items) many = ap suc (spots_many (Rattle.path_lowering.specs.Spots.other_kind kind) ns items (omega (arith, many)))

module _ (graph : Graph) (instance : InstanceRows) where
  abbrev table_of : Spot → TableRows
  table_of spot = rows_of instance (element_at graph spot)

  -- along a path: what stands at the places, their tables, the number of edges
  after_are : (ns items : List ℕ) (rows : List RowValues) → AreNumbersAfter graph ns → length ns ≤ length items → length rows ≡ length ns
      → place_elements graph (spots_along Edge ns items) rows ≡ elements_after (steps_with graph ns rows)
  after_are [] items rows are many long = refl
  after_are (e ∷ []) items rows are many long = absurd are
  after_are (e ∷ v ∷ ns) [] rows are many long = absurd (omega (arith, many))
  after_are (e ∷ v ∷ ns) (a ∷ []) rows are many long = absurd (omega (arith, many))
  after_are (e ∷ v ∷ ns) (a ∷ b ∷ items) [] are many long = absurd (omega (arith, long))
  after_are (e ∷ v ∷ ns) (a ∷ b ∷ items) (r ∷ []) are many long = absurd (omega (arith, long))
  after_are (e ∷ v ∷ ns) (a ∷ b ∷ items) (r ∷ s ∷ rows) are many long =
      ap (λ l. AnEdge (edge_of graph e r) ∷ AVertex (vertex_of graph v s) ∷ l) (after_are ns items rows are.2 (omega (arith, many)) (omega (arith, long)))

  pub places_are : (ns items : List ℕ) (rows : List RowValues) → AreNumbers graph ns → length ns ≤ length items → length rows ≡ length ns
      → place_elements graph (spots_along Vertex ns items) rows ≡ places_of (walk_with graph ns rows)
  places_are [] items rows are many long = absurd are
  places_are (v ∷ ns) [] rows are many long = absurd (omega (arith, many))
  places_are (v ∷ ns) (a ∷ items) [] are many long = absurd (omega (arith, long))
  places_are (v ∷ ns) (a ∷ items) (r ∷ rows) are many long = ap (λ l. AVertex (vertex_of graph v r) ∷ l) (after_are ns items rows are.1 (omega (arith, many)) (omega (arith, long)))

  tables_after_are : (ns items : List ℕ) → AreNumbersAfter graph ns → length ns ≤ length items → map table_of (spots_along Edge ns items) ≡ tables_after graph instance ns
  tables_after_are [] items are many = refl
  tables_after_are (e ∷ []) items are many = absurd are
  tables_after_are (e ∷ v ∷ ns) [] are many = absurd (omega (arith, many))
  tables_after_are (e ∷ v ∷ ns) (a ∷ []) are many = absurd (omega (arith, many))
  tables_after_are (e ∷ v ∷ ns) (a ∷ b ∷ items) are many =
      ap (λ l. rows_of instance (edge_element graph e).element ∷ rows_of instance (vertex_element graph v) ∷ l) (tables_after_are ns items are.2 (omega (arith, many)))

  pub tables_are : (ns items : List ℕ) → AreNumbers graph ns → length ns ≤ length items → map table_of (spots_along Vertex ns items) ≡ tables_of graph instance ns
  tables_are [] items are many = absurd are
  tables_are (v ∷ ns) [] are many = absurd (omega (arith, many))
  tables_are (v ∷ ns) (a ∷ items) are many = ap (λ l. rows_of instance (vertex_element graph v) ∷ l) (tables_after_are ns items are.1 (omega (arith, many)))

  steps_many : (ns : List ℕ) (rows : List RowValues) → AreNumbersAfter graph ns → length rows ≡ length ns → length ns ≡ 2 * length (steps_with graph ns rows)
  steps_many [] rows are long = refl
  steps_many (e ∷ []) rows are long = absurd are
  steps_many (e ∷ v ∷ ns) [] are long = absurd (omega (arith, long))
  steps_many (e ∷ v ∷ ns) (r ∷ []) are long = absurd (omega (arith, long))
  steps_many (e ∷ v ∷ ns) (r ∷ s ∷ rows) are long = let more = steps_many ns rows are.2 (omega (arith, long)) in omega (arith, more)

  places_many : (ns : List ℕ) (rows : List RowValues) → AreNumbers graph ns → length rows ≡ length ns → length ns ≡ 2 * edge_count (walk_with graph ns rows) + 1
  places_many [] rows are long = absurd are
  places_many (v ∷ ns) [] are long = absurd (omega (arith, long))
  places_many (v ∷ ns) (r ∷ rows) are long = let more = steps_many ns rows are.1 (omega (arith, long)) in omega (arith, more)

  pub picks_many : (rows : List RowValues) (tables : List TableRows) → ArePicks rows tables → length rows ≡ length tables
  picks_many [] [] h = refl
  picks_many [] (t ∷ ts) h = absurd h
  picks_many (r ∷ rows) [] h = absurd h
  picks_many (r ∷ rows) (t ∷ ts) h = ap suc (picks_many rows ts h.1)

  tables_after_many : (ns : List ℕ) → AreNumbersAfter graph ns → length (tables_after graph instance ns) ≡ length ns
  tables_after_many [] are = refl
  tables_after_many (e ∷ []) are = absurd are
  tables_after_many (e ∷ v ∷ ns) are = ap (λ n. suc (suc n)) (tables_after_many ns are.2)

  pub tables_many : (ns : List ℕ) → AreNumbers graph ns → length (tables_of graph instance ns) ≡ length ns
  tables_many [] are = absurd are
  tables_many (v ∷ ns) are = ap suc (tables_after_many ns are.1)

  place_first : (spots : List Spot) (r more : List RowValues) → length r ≡ length spots → place_elements graph spots (r ++ more) ≡ place_elements graph spots r
  place_first [] [] [] long = refl
  place_first [] [] (m ∷ more) long = refl
  place_first [] (x ∷ r) more long = absurd (omega (arith, long))
  place_first (s ∷ ss) [] more long = absurd (omega (arith, long))
  place_first (s ∷ ss) (x ∷ r) more long = ap (λ l. of_row graph s.kind s.element x ∷ l) (place_first ss r more (omega (arith, long)))

  place_both : (spots others : List Spot) (r more : List RowValues) → length r ≡ length spots
      → place_elements graph (spots ++ others) (r ++ more) ≡ place_elements graph spots r ++ place_elements graph others more
  place_both [] others [] more long = refl
  place_both [] others (x ∷ r) more long = absurd (omega (arith, long))
  place_both (s ∷ ss) others [] more long = absurd (omega (arith, long))
  place_both (s ∷ ss) others (x ∷ r) more long = ap (λ l. of_row graph s.kind s.element x ∷ l) (place_both ss others r more (omega (arith, long)))

  -- what is needed of a path and its path block
  pub record Fitting (path : CheckedPath) (part : PathBlock) : Type 0 where
    pub numbers : AreNumbers graph part.elements
    pub sized : (choice : Alternative) → IsIn choice part.alternatives → length part.elements ≡ place_count (expansion_of path choice)

  -- rows of one path: as many as places
  abbrev AreLong : List (List RowValues) → List PathBlock → Type 0
  AreLong rows parts = AllZip (λ r part. length r ≡ length part.elements) rows parts

  long_from : (paths : List CheckedPath) (parts : List PathBlock) (rows : List (List RowValues)) → AllZip Fitting paths parts
      → ArePicks rows (map (λ part. tuples graph instance part.elements) parts) → AreLong rows parts
  long_from paths [] [] are h = tt
  long_from paths [] (r ∷ rs) are h = absurd h
  long_from paths (p ∷ ps) [] are h = absurd h
  long_from [] (p ∷ ps) (r ∷ rs) are h = absurd are
  long_from (path ∷ paths) (p ∷ ps) (r ∷ rs) are h = (
    picks_many r (tables_of graph instance p.elements) (from_combinations r (tables_of graph instance p.elements) h.0) ∙ tables_many p.elements are.0.numbers,
    long_from paths ps rs are.1 h.1,
  )

  -- one path
  module _ (path : CheckedPath) (part : PathBlock) (ok : Fitting path part) (r : List RowValues) (long : length r ≡ length part.elements) where
    abbrev walk : Walk
    walk = walk_with graph part.elements r

    reads_are : (choice : Alternative) → IsIn choice part.alternatives → reads_at graph instance path choice (places_of walk) ≡ reads graph instance path choice walk
    reads_are choice h =
        let many = places_many part.elements r ok.numbers long in
        let sized = ok.sized choice h in
        let same : edge_count walk ≡ (expansion_of path choice).edges = omega (arith, many, sized) in
        sym (ap (λ b. b && reads_at graph instance path choice (places_of walk)) ((nat_eq_decides (edge_count walk) (expansion_of path choice).edges).1 same))

    pub path_is : passes_path graph instance path part (places_of walk) ≡ mode_passes graph instance path part r
    path_is = ap₂ (λ a b. a && b) (any-each _ _ part.alternatives reads_are) (ap (keeps_mode path.mode) (walk_again walk))

  -- the selector of a path keeps the binding of rows
  abbrev pub row_selected : CheckedPath → PathBlock → List RowValues → Bool
  row_selected path part r = is_selected (group_count path 0) (bindings_in_mode graph instance path) (binding_with graph part r)

  -- and so for each path
  abbrev pub all_selected : List CheckedPath → List PathBlock → List (List RowValues) → Bool
  all_selected [] parts rows = true
  all_selected (path ∷ paths) [] rows = true
  all_selected (path ∷ paths) (p ∷ ps) [] = true
  all_selected (path ∷ paths) (p ∷ ps) (r ∷ rs) = row_selected path p r && all_selected paths ps rs

  abbrev all_read : List CheckedPath → List PathBlock → List (List RowValues) → Bool
  all_read [] parts rows = true
  all_read (path ∷ paths) [] rows = false
  all_read (path ∷ paths) (p ∷ ps) [] = false
  all_read (path ∷ paths) (p ∷ ps) (r ∷ rs) = mode_passes graph instance path p r && all_read paths ps rs

  apart : (a b s t u : Bool) → ((a && (b && s)) && (t && u)) ≡ (((a && b) && t) && (s && u))
  apart true true true t u = refl
  apart true true false true u = refl
  apart true true false false u = refl
  apart true false s t u = refl
  apart false b s t u = refl

  pass_apart : (n : ℕ) (paths : List CheckedPath) (parts : List PathBlock) (rows : List (List RowValues))
      → parts_pass graph instance [] (enumerate_from n paths) parts rows ≡ (all_read paths parts rows && all_selected paths parts rows)
  pass_apart n [] parts rows = refl
  pass_apart n (path ∷ paths) [] rows = refl
  pass_apart n (path ∷ paths) (p ∷ ps) [] = refl
  pass_apart n (path ∷ paths) (p ∷ ps) (r ∷ rs) =
      ap (λ b. part_passes graph instance path 0 p r && b) (pass_apart (n + 1) paths ps rs)
      ∙ apart (rows_read graph instance path p r) (keeps_mode path.mode (walk_with graph p.elements r)) (row_selected path p r) (all_read paths ps rs) (all_selected paths ps rs)

  -- without a selector each binding is kept
  none_selected : (paths : List CheckedPath) (parts : List PathBlock) (rows : List (List RowValues)) → ((path : CheckedPath) → IsIn path paths → path.all_shortest ≡ false)
      → all_selected paths parts rows ≡ true
  none_selected [] parts rows h = refl
  none_selected (path ∷ paths) [] rows h = refl
  none_selected (path ∷ paths) (p ∷ ps) [] h = refl
  none_selected (path ∷ paths) (p ∷ ps) (r ∷ rs) h =
      ap₂ (λ a b. a && b) (ap (λ b. is_selected (cond b (Some 1) None) (bindings_in_mode graph instance path) (binding_with graph p r)) (h path (inl refl)))
      (none_selected paths ps rs (λ q k. h q (inr k)))

  module _ (catalog : Catalog) (prefix : ℕ) (combined : Combining) where
    abbrev laid : List CheckedPath → List PathBlock → List ℕ → List Laid
    laid = lay_all catalog graph prefix combined

    abbrev numbers_in : List PathBlock → List ℕ
    numbers_in parts = flat_map (λ part. part.elements) parts

    abbrev tags_in : List PathBlock → List Tags
    tags_in parts = flat_map (λ part. part.tags) parts

    -- enough items for the first part, and for those behind it
    pub items_split : (p : PathBlock) (ps : List PathBlock) (items : List ℕ) → length items ≡ length (numbers_in (p ∷ ps))
        → (length p.elements ≤ length items) × (length (drop (length p.elements) items) ≡ length (numbers_in ps))
    items_split p ps items long =
        let a = length-append p.elements (numbers_in ps) in
        (omega (arith, a, long), rest_long (length p.elements) items (length (numbers_in ps)) (long ∙ a))

    all_tables : (paths : List CheckedPath) (parts : List PathBlock) (items : List ℕ) → AllZip Fitting paths parts → length items ≡ length (numbers_in parts)
        → map table_of (laid_spots (laid paths parts items)) ≡ flat_map (λ part. tables_of graph instance part.elements) parts
    all_tables [] [] items are long = refl
    all_tables [] (p ∷ ps) items are long = absurd are
    all_tables (path ∷ paths) [] items are long = absurd are
    all_tables (path ∷ paths) (p ∷ ps) items are long =
        let split = items_split p ps items long in
        map-append table_of (spots_along Vertex p.elements items) (laid_spots (laid paths ps (drop (length p.elements) items)))
        ∙ ap₂ (λ l m. l ++ m) (tables_are p.elements items are.0.numbers split.0) (all_tables paths ps (drop (length p.elements) items) are.1 split.1)

    pub tags_laid : (paths : List CheckedPath) (parts : List PathBlock) (items : List ℕ) → AllZip Fitting paths parts → laid_tags (laid paths parts items) ≡ tags_in parts
    tags_laid [] [] items are = refl
    tags_laid [] (p ∷ ps) items are = absurd are
    tags_laid (path ∷ paths) [] items are = absurd are
    tags_laid (path ∷ paths) (p ∷ ps) items are = ap (λ l. p.tags ++ l) (tags_laid paths ps (drop (length p.elements) items) are.1)

    tags_bound : (parts : List PathBlock) (rows : List (List RowValues)) → AreLong rows parts → all_tags (bindings_with graph parts rows) ≡ tags_in parts
    tags_bound [] [] l = refl
    tags_bound [] (r ∷ rs) l = absurd l
    tags_bound (p ∷ ps) [] l = absurd l
    tags_bound (p ∷ ps) (r ∷ rs) l = ap (λ t. p.tags ++ t) (tags_bound ps rs l.1)

    elements_laid : (paths : List CheckedPath) (parts : List PathBlock) (items : List ℕ) (rows : List (List RowValues)) → AllZip Fitting paths parts → length items
        ≡ length (numbers_in parts) → AreLong rows parts
        → place_elements graph (laid_spots (laid paths parts items)) (all_rows rows) ≡ all_elements (bindings_with graph parts rows)
    elements_laid [] [] items [] are long l = refl
    elements_laid [] [] items (r ∷ rs) are long l = absurd l
    elements_laid [] (p ∷ ps) items rows are long l = absurd are
    elements_laid (path ∷ paths) [] items rows are long l = absurd are
    elements_laid (path ∷ paths) (p ∷ ps) items [] are long l = absurd l
    elements_laid (path ∷ paths) (p ∷ ps) items (r ∷ rs) are long l =
        let split = items_split p ps items long in
        place_both (spots_along Vertex p.elements items) (laid_spots (laid paths ps (drop (length p.elements) items))) r (all_rows rs)
        (l.0 ∙ sym (spots_many Vertex p.elements items split.0))
        ∙ ap₂ (λ a b. a ++ b) (places_are p.elements items r are.0.numbers split.0 l.0) (elements_laid paths ps (drop (length p.elements) items) rs are.1 split.1 l.1)

    passes_laid : (paths : List CheckedPath) (parts : List PathBlock) (items : List ℕ) (rows : List (List RowValues)) → AllZip Fitting paths parts → length items
        ≡ length (numbers_in parts) → AreLong rows parts
        → passes_paths graph instance (laid paths parts items) (all_rows rows) ≡ all_read paths parts rows
    passes_laid [] [] items [] are long l = refl
    passes_laid [] [] items (r ∷ rs) are long l = absurd l
    passes_laid [] (p ∷ ps) items rows are long l = absurd are
    passes_laid (path ∷ paths) [] items rows are long l = absurd are
    passes_laid (path ∷ paths) (p ∷ ps) items [] are long l = absurd l
    passes_laid (path ∷ paths) (p ∷ ps) items (r ∷ rs) are long l =
        let split = items_split p ps items long in
        let many = l.0 ∙ sym (spots_many Vertex p.elements items split.0) in
        ap₂ (λ a b. a && b)
        (ap (passes_path graph instance path p) (place_first (spots_along Vertex p.elements items) r (all_rows rs) many ∙ places_are p.elements items r are.0.numbers split.0 l.0)
        ∙ path_is path p are.0 r l.0)
        (ap (passes_paths graph instance (laid paths ps (drop (length p.elements) items))) (drop_all r (all_rows rs) (length (spots_along Vertex p.elements items)) many)
        ∙ passes_laid paths ps (drop (length p.elements) items) rs are.1 split.1 l.1)

    behind : (a j s : Bool) → ((a && j) && s) ≡ ((a && s) && j)
    behind true true s = sym (and_kept s)
    behind true false true = refl
    behind true false false = refl
    behind false j s = refl

    last_is : (parts : GraphBinding) (condition : Option Condition) → meets_last graph instance (held_by (all_tags parts) (all_elements parts)) condition
        ≡ meets_where graph instance condition parts
    last_is parts None = refl
    last_is parts (Some c) = refl

    -- a block, laid out
    module _ (query : CheckedQuery) (block : Block) (items : List ℕ) (are : AllZip Fitting query.paths block.paths) (long : length items ≡ length (numbers_in block.paths)) where
      abbrev parts : List Laid
      parts = laid query.paths block.paths items

      abbrev names : List (List ℕ)
      names = query_singletons query

      module _ (rows : List (List RowValues)) (l : AreLong rows block.paths) where
        abbrev bound : GraphBinding
        bound = bindings_with graph block.paths rows

        tags_same : laid_tags parts ≡ all_tags bound
        tags_same = tags_laid query.paths block.paths items are ∙ sym (tags_bound block.paths rows l)

        elements_same : place_elements graph (laid_spots parts) (all_rows rows) ≡ all_elements bound
        elements_same = elements_laid query.paths block.paths items rows are long l

        pub passes_same : (passes_block graph instance names parts query.condition (all_rows rows) && all_selected query.paths block.paths rows)
            ≡ rows_pass graph instance query [] block rows
        passes_same =
            ap (λ b. b && all_selected query.paths block.paths rows)
            (ap₂ (λ a b. a && b) (passes_laid query.paths block.paths items rows are long l)
            (ap₂ (λ t e. agree same_element names t e && meets_last graph instance (held_by t e) query.condition) tags_same elements_same
            ∙ ap (λ b. agree same_element names (all_tags bound) (all_elements bound) && b) (last_is bound query.condition)))
            ∙ behind (all_read query.paths block.paths rows) (is_joined graph instance query bound) (all_selected query.paths block.paths rows)
            ∙ ap (λ b. b && is_joined graph instance query bound) (sym (pass_apart 0 query.paths block.paths rows))

        pub row_same : block_row graph instance parts query.columns (all_rows rows) ≡ answer_row graph instance query [] bound
        row_same =
            ap₂ (λ t e. map (λ (output : Output). value_in (leaf_value graph instance (held_by t e)) output.value) query.columns) tags_same elements_same
            ∙ sym (enumerated (λ (output : Output). value_in (leaf_value graph instance (held_by (all_tags bound) (all_elements bound))) output.value) 0 query.columns)

      abbrev made : List RowValues → RowValues
      made = block_row graph instance parts query.columns

      pub many : (rows : List (List RowValues)) → IsIn rows (block_tuples graph instance block) → AreLong rows block.paths
      many rows h = long_from query.paths block.paths rows are (from_combinations rows (map (λ part. tuples graph instance part.elements) block.paths) h)

      -- where one test more says what the selectors keep, the rows that pass it are those of the block's part of the answer
      module _ (extra : List RowValues → Bool)
          (selects : (rows : List (List RowValues)) → IsIn rows (block_tuples graph instance block) → extra (all_rows rows) ≡ all_selected query.paths block.paths rows) where
        abbrev passes : List RowValues → Bool
        passes rows = passes_block graph instance names parts query.condition rows && extra rows

        pub rows_besides : filter passes (combinations (map table_of (laid_spots parts)))
            ≡ map all_rows (filter (rows_pass graph instance query [] block) (block_tuples graph instance block))
        rows_besides =
            ap (λ tables. filter passes (combinations tables)) (all_tables query.paths block.paths items are long)
            ∙ ap (filter passes) (combinations_all (λ part. tables_of graph instance part.elements) block.paths)
            ∙ filter-map passes all_rows (block_tuples graph instance block)
            ∙ ap (map all_rows) (filter-each (λ rows. passes (all_rows rows)) (rows_pass graph instance query [] block) (block_tuples graph instance block)
            (λ rows h. ap (λ b. passes_block graph instance names parts query.condition (all_rows rows) && b) (selects rows h) ∙ passes_same rows (many rows h)))

        pub block_is_besides : block_rows_besides graph instance names parts query.condition query.columns extra ≡ answer_of_block graph instance query [] [] block
        block_is_besides =
            ap (map made) rows_besides
            ∙ map-again made all_rows (filter (rows_pass graph instance query [] block) (block_tuples graph instance block))
            ∙ map-each (λ rows. made (all_rows rows)) (λ rows. answer_row graph instance query [] (bindings_with graph block.paths rows))
            (filter (rows_pass graph instance query [] block) (block_tuples graph instance block))
            (λ rows h. row_same rows (many rows (from_filter (rows_pass graph instance query [] block) rows (block_tuples graph instance block) h).0))

      pub block_is : ((path : CheckedPath) → IsIn path query.paths → path.all_shortest ≡ false) → block_rows graph instance names parts query.condition query.columns
          ≡ answer_of_block graph instance query [] [] block
      block_is unselected =
          ap (map made) (filter-each (passes_block graph instance names parts query.condition) (λ rows. passes_block graph instance names parts query.condition rows && true)
          (combinations (map table_of (laid_spots parts))) (λ rows h. sym (and_kept (passes_block graph instance names parts query.condition rows))))
          ∙ block_is_besides (λ rows. true) (λ rows h. sym (none_selected query.paths block.paths rows unselected))
