-- The lowered query is sound in the catalog.
use Rattle.std.proofs.Common.{◌≡◌, ℕ, ◌+◌, ◌≤◌, true, false, List, [], ◌∷◌, map, flat_map, filter, drop, length, refl, sym, ap, ap₂, subst, ◌∙◌, inl, inr, is_some, arith}
use Rattle.std.specs.List.{AllZip, enumerate_from, list_all}
use Rattle.pgq_base.specs.declared.value.Class.{Class}
use Rattle.multisets.specs.Bags.{IsIn}
use Rattle.pgq_base.specs.declared.value.Value.TheVariants.{Truth}
use Rattle.expr_tree.specs.declared.tree.Expr.TheVariants.{Lit}
use Rattle.expr_tree.specs.Classes.{class_in}
use Rattle.expr_tree.proofs.ClassLemmas.{same_self}
use Rattle.graph_ast.specs.declared.catalog.Catalog.{Catalog}
use Rattle.graph_ast.specs.declared.catalog.Graph.{Graph}
use Rattle.graph_ast.specs.declared.checked.CheckedPath.{CheckedPath}
use Rattle.graph_ast.specs.declared.checked.CheckedQuery.{CheckedQuery}
use Rattle.graph_ast.specs.declared.blocks.Alternative.{Alternative}
use Rattle.graph_ast.specs.declared.blocks.Block.{Block}
use Rattle.graph_ast.specs.declared.blocks.PathBlock.{PathBlock}
use Rattle.graph_ast.specs.Catalogs.{IsValidGraph}
use Rattle.graph_ast.specs.Fits.{Fits, without_rows}
use Rattle.graph_ast.specs.Lookups.{graph_at, vertex_element}
use Rattle.graph_meaning.specs.Answers.{query_singletons}
use Rattle.graph_meaning.specs.Bindings.{same_tags, choices_with}
use Rattle.graph_meaning.specs.Blocks.{block_of, is_feasible, path_blocks, blocks, shapes}
use Rattle.graph_meaning.specs.Choices.{choices, tags_of}
use Rattle.graph_meaning.proofs.BindingLemmas.{same_tags_decides}
use Rattle.graph_meaning.proofs.BlockRows.{alternative_is}
use Rattle.graph_meaning.proofs.GraphRows.{block_picks}
use Rattle.graph_meaning.proofs.Members.{from_map}
use Rattle.sql_algebra.specs.declared.tree.Select.{Select}
use Rattle.sql_algebra.specs.Soundness.{value_is_sound, differ_from, select_is_sound, classes_of, same_classes, selects_agree, IsSound}
use Rattle.sql_algebra.proofs.Folds.{select_sound, plain_sound}
use Rattle.path_lowering.specs.Adding.{null_of}
use Rattle.path_lowering.specs.Blocks.{Laid, plan_of, alternatives_of}
use Rattle.path_lowering.specs.Selects.{IsBlockLaid}
use Rattle.path_lowering.specs.Lowered.{Combining, IsCombining, lay_all, laid_block, select_of_block, select_of_none, or_none, lowered_query}
use Rattle.path_lowering.specs.Layable.{IsServed}
use Rattle.path_lowering.specs.Sound.{class_is, IsSoundQuery, IsBuilding}
use Rattle.path_lowering.proofs.LaidLemmas.{IsShaped, belongs, block_laid}
use Rattle.path_lowering.proofs.LayableLemmas.{first_table}
use Rattle.path_lowering.proofs.Lists.{map-again}
use Rattle.path_lowering.proofs.PlacingLemmas.{and_join, kept_in, of_each}
use Rattle.path_lowering.proofs.ServedLemmas.{graph_valid}
use Rattle.path_lowering.proofs.SharedLemmas.{in_mapped}
use Rattle.path_lowering.proofs.SoundForms.{null_value_sound, truth_sound}
use Rattle.path_lowering.proofs.SoundReach.{names_apart, table_found}
use Rattle.path_lowering.proofs.SoundSelect.{IsSoundlyMade, select_is, classes_are}

some_in : {X : Type 0} (xs : List X) (x : X) → IsIn x xs → 1 ≤ length xs
some_in [] x h = absurd h
some_in (y ∷ ys) x h = omega arith

-- a path block has an alternative
pub some_alternative : (graph : Graph) (path : CheckedPath) (place : ℕ) (part : PathBlock) → IsIn part (path_blocks graph place path) → IsShaped graph path part
    → 1 ≤ length part.alternatives
some_alternative graph path place part h shape =
    let made = from_map (block_of graph path place) part (shapes graph path) h in
    subst (λ (b : PathBlock). IsShaped graph path b → 1 ≤ length b.alternatives) made.2
    (λ s. some_in (filter (λ choice. is_feasible graph path choice made.0.1) (choices_with path made.0.0)) s.choice
    (kept_in (λ choice. is_feasible graph path choice made.0.1) (choices_with path made.0.0) s.choice
    (kept_in (λ choice. same_tags (tags_of path choice) made.0.0) (choices path) s.choice s.there ((same_tags_decides (tags_of path s.choice) made.0.0).1 s.tags)) s.feasible))
    shape

classes_same : (cs : List Class) → same_classes cs cs ≡ true
classes_same [] = refl
classes_same (c ∷ cs) = and_join _ _ (same_self c) (classes_same cs)

-- a path and its path block
pub record IsChosen (graph : Graph) (query : CheckedQuery) (path : CheckedPath) (part : PathBlock) : Type 0 where
  pub among : IsIn path query.paths
  pub some : 1 ≤ length part.alternatives
  pub choices : (choice : Alternative) → IsIn choice part.alternatives → IsIn choice (choices path)

-- a path block that is laid, with what its alternatives become
pub record IsLaidFrom (catalog : Catalog) (graph : Graph) (prefix : ℕ) (combined : Combining) (query : CheckedQuery) (laid : Laid) : Type 0 where
  pub chosen : IsChosen graph query laid.path laid.part
  pub conditions : laid.conditions ≡ combined (alternatives_of catalog graph prefix laid.path laid.part laid.spots)

laid_from : (catalog : Catalog) (graph : Graph) (prefix : ℕ) (combined : Combining) (query : CheckedQuery) (paths : List CheckedPath) (parts : List PathBlock) (items : List ℕ)
    → AllZip (IsChosen graph query) paths parts → (one : Laid) → IsIn one (lay_all catalog graph prefix combined paths parts items)
    → IsLaidFrom catalog graph prefix combined query one
laid_from catalog graph prefix combined query [] parts items are one h = absurd h
laid_from catalog graph prefix combined query (path ∷ paths) [] items are one h = absurd h
laid_from catalog graph prefix combined query (path ∷ paths) (p ∷ ps) items are one (inl e) =
    subst (λ (l : Laid). IsLaidFrom catalog graph prefix combined query l) e (record { chosen = are.0; conditions = refl })
laid_from catalog graph prefix combined query (path ∷ paths) (p ∷ ps) items are one (inr h) =
    laid_from catalog graph prefix combined query paths ps (drop (length p.elements) items) are.1 one h

module _ (catalog : Catalog) (query : CheckedQuery) (served : IsServed catalog query) (fits : Fits catalog (without_rows catalog)) where
  abbrev graph : Graph
  graph = graph_at catalog query.graph

  valid : IsValidGraph catalog graph
  valid = graph_valid catalog query served fits

  all_chosen : (n : ℕ) (paths : List CheckedPath) (parts : List PathBlock) → ((path : CheckedPath) → IsIn path paths → IsIn path query.paths)
      → AllZip IsIn parts (map (λ (n : ℕ × CheckedPath). path_blocks graph n.0 n.1) (enumerate_from n paths)) → AllZip (IsChosen graph query) paths parts
  all_chosen n [] [] among h = tt
  all_chosen n [] (p ∷ ps) among h = absurd h
  all_chosen n (path ∷ paths) [] among h = absurd h
  all_chosen n (path ∷ paths) (p ∷ ps) among h = (
    record {
      among = among path (inl refl);
      some = some_alternative graph path n p h.0 (belongs catalog graph valid (without_rows catalog) fits query served.lowerable path n p (among path (inl refl)) h.0).shape;
      choices = λ choice k. (alternative_is graph path n p h.0 choice k).there;
    },
    all_chosen (n + 1) paths ps (λ q k. among q (inr k)) h.1,
  )

  module _ (combined : Combining) where
    -- what is known of the path blocks of a graph block
    pub from_block : (prefix : ℕ) (block : Block) → IsIn block (blocks graph query) → (one : Laid) → IsIn one (laid_block catalog graph prefix combined query block)
        → IsLaidFrom catalog graph prefix combined query one
    from_block prefix block there one h =
        laid_from catalog graph prefix combined query query.paths block.paths (plan_of (query_singletons query) (flat_map (λ part. part.tags) block.paths))
        (all_chosen 0 query.paths block.paths (λ path k. k) (block_picks catalog graph valid (without_rows catalog) fits [] query block there)) one h

    module _ (combines : IsCombining combined) (builds : IsBuilding combined) (ok : IsSoundQuery catalog graph query) where
      laid : (block : Block) → IsIn block (blocks graph query) → IsBlockLaid catalog graph 65 (query_singletons query) (laid_block catalog graph 65 combined query block)
          query.condition query.columns
      laid block there = block_laid catalog graph valid (without_rows catalog) fits query served.lowerable 65 combined combines block there

      made : (block : Block) (there : IsIn block (blocks graph query)) (one : Laid) → IsIn one (laid_block catalog graph 65 combined query block)
          → IsSoundlyMade catalog graph 65 combined one
      made block there one h =
          let from = from_block 65 block there one h in
          record {
            some = from.chosen.some;
            conditions = from.conditions;
            scoped = λ choice k scoped l. ok.conditions one.path from.chosen.among choice (from.chosen.choices choice k) scoped l;
          }

      block_sound : (block : Block) → IsIn block (blocks graph query) → select_is_sound catalog (select_of_block catalog graph 65 combined query block) [] ≡ true
      block_sound block there =
          select_is catalog graph 65 (query_singletons query) (laid_block catalog graph 65 combined query block) query.condition query.columns served.valid valid
          (laid block there) combined builds
          (made block there) ok.condition ok.columns ok.names

      block_classes : (block : Block) → IsIn block (blocks graph query)
          → classes_of (select_of_block catalog graph 65 combined query block).columns ≡ map (λ output. class_in class_is output.value) query.columns
      block_classes block there =
          classes_are catalog graph 65 (query_singletons query) (laid_block catalog graph 65 combined query block) query.condition query.columns served.valid valid
          (laid block there) combined builds
          (made block there) ok.condition ok.columns

      abbrev none : Select
      none = select_of_none catalog graph 65 query.columns

      none_sound : select_is_sound catalog none [] ≡ true
      none_sound =
          ap (λ f. f []) (select_sound catalog none)
          ∙ and_join _ _ (and_join _ _ (and_join _ _ (and_join _ _ (and_join _ _
          (and_join _ _ (ap is_some (table_found catalog served.valid (vertex_element graph 0).table (first_table catalog graph valid))) refl)
          refl)
          (ap (differ_from []) (map-again (λ column. column.name) null_of query.columns) ∙ names_apart (map (λ output. output.name) query.columns) ok.names))
          (of_each (λ column. value_is_sound catalog (none.from) column.value) none.columns
          (λ column h. let m = in_mapped null_of column query.columns h in
          ap (λ c. value_is_sound catalog (none.from) c.value) (sym m.2) ∙ null_value_sound catalog none.from (class_in class_is m.0.value))))
          refl)
          (and_join _ _ (ap (λ f. f none.from) (plain_sound catalog (Lit (Truth false))) ∙ truth_sound catalog none.from false) refl)

      all_sound : (those : List Block) → ((block : Block) → IsIn block those → IsIn block (blocks graph query))
          → list_all (λ select. select_is_sound catalog select []) (or_none none (map (select_of_block catalog graph 65 combined query) those)) ≡ true
      all_sound [] there = and_join _ _ none_sound refl
      all_sound (b ∷ bs) there = each (b ∷ bs) there
        where
          each : (some : List Block) → ((block : Block) → IsIn block some → IsIn block (blocks graph query))
              → list_all (λ select. select_is_sound catalog select []) (map (select_of_block catalog graph 65 combined query) some) ≡ true
          each [] there = refl
          each (c ∷ cs) there = and_join _ _ (block_sound c (there c (inl refl))) (each cs (λ d k. there d (inr k)))

      all_agree : (those : List Block) → ((block : Block) → IsIn block those → IsIn block (blocks graph query))
          → selects_agree (or_none none (map (select_of_block catalog graph 65 combined query) those)) ≡ true
      all_agree [] there = refl
      all_agree (b ∷ bs) there = each bs (λ d k. there d (inr k))
        where
          each : (some : List Block) → ((block : Block) → IsIn block some → IsIn block (blocks graph query))
              → list_all (λ select. same_classes (classes_of (select_of_block catalog graph 65 combined query b).columns) (classes_of select.columns))
              (map (select_of_block catalog graph 65 combined query) some) ≡ true
          each [] here = refl
          each (c ∷ cs) here =
              and_join _ _ (ap₂ same_classes (block_classes b (there b (inl refl))) (block_classes c (here c (inl refl)))
              ∙ classes_same (map (λ output. class_in class_is output.value) query.columns))
              (each cs (λ d k. here d (inr k)))

      pub query_sound : IsSound (lowered_query catalog combined query) catalog
      query_sound = and_join _ _ (all_sound (blocks graph query) (λ block h. h)) (all_agree (blocks graph query) (λ block h. h))
