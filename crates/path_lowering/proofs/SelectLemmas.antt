-- The rows of a block's SELECT are the rows of the block.
use Rattle.std.proofs.Common.{◌≡◌, ℕ, zero, suc, ◌+◌, ◌*◌, ◌<◌, ◌≤◌, ◌^◌, Bool, true, false, ◌&&◌, cond, List, [], ◌∷◌, ◌++◌, map, filter, length, get_or, drop, refl, sym, ap}
use Rattle.std.proofs.Common.{ap₂, subst, ◌∙◌, inl, inr, nat_eq, Option, None, Some, arith, Decides}
use Rattle.std.specs.List.{list_all}
use Rattle.std.proofs.Math.ListN.{get_or-append, length-map}
use Rattle.std.proofs.lemmas.List.{get_or-map}
use Rattle.std.proofs.lemmas.List.Folds.{list_all-map, list_all-append}
use Rattle.std.proofs.lemmas.Bool.{and_parts, eqb-true, eq-eqb}
use Rattle.pgq_base.specs.declared.value.Value.{Value}
use Rattle.pgq_base.specs.Instances.{RowValues, TableRows, InstanceRows, value_at, same_values}
use Rattle.pgq_base.proofs.ValueOrder.{same_values_decides}
use Rattle.multisets.specs.Bags.{IsIn, IsWithoutRepeats}
use Rattle.expr_tree.specs.Leaves.{EachLeaf}
use Rattle.expr_tree.specs.Meaning.{value_in}
use Rattle.graph_ast.specs.declared.catalog.Catalog.{Catalog}
use Rattle.graph_ast.specs.declared.catalog.Graph.{Graph}
use Rattle.graph_ast.specs.declared.checked.Output.{Output}
use Rattle.graph_ast.specs.declared.blocks.Tags.{Tags}
use Rattle.graph_ast.specs.Lookups.{table_at, column_at}
use Rattle.graph_ast.specs.Catalogs.{IsValidElement, IsValidGraph, IsValidCatalog}
use Rattle.graph_ast.specs.Fits.{Fits}
use Rattle.graph_meaning.specs.Lists.{agree, combinations}
use Rattle.graph_meaning.specs.View.{same_element, rows_of}
use Rattle.graph_meaning.specs.Walks.{Walk, places_of, elements_after}
use Rattle.graph_meaning.specs.Choices.{Condition, singletons_of}
use Rattle.graph_meaning.specs.Conditions.{held_by}
use Rattle.graph_meaning.specs.Conditions as graph_side
use Rattle.sql_algebra.specs.declared.tree.Select.{Select}
use Rattle.sql_algebra.specs.declared.tree.FromItem.{FromItem}
use Rattle.sql_algebra.specs.declared.tree.Conjunct.{Conjunct}
use Rattle.sql_algebra.specs.Catalogs as sql_side
use Rattle.sql_algebra.specs.Tuples.{Tuple, tuples_under, leaf_value, holds, all_members}
use Rattle.sql_algebra.specs.Meaning.{conjunct_holds, select_rows, output_row}
use Rattle.sql_algebra.proofs.Folds.{select_means}
use Rattle.path_lowering.specs.declared.spots.Kind.TheVariants.{Vertex, Edge}
use Rattle.path_lowering.specs.declared.spots.Spot.{Spot}
use Rattle.path_lowering.specs.Spots.{element_at, of_row, row_at, elements_at, spots_along, same_kind}
use Rattle.path_lowering.specs.Emitted.{SqlCondition, lowered, spot_by}
use Rattle.path_lowering.specs.declared.placing.Source.{Source}
use Rattle.path_lowering.specs.Placed.{from_of, where_of}
use Rattle.path_lowering.specs.Shown.{Shows, count_of_kind}
use Rattle.path_lowering.specs.Blocks.{alternatives_of, reads_at, IsPlain, IsPart, SaysAny, Laid, laid_tags, laid_spots, block_conditions, own_spots, source_of, sources_of}
use Rattle.path_lowering.specs.Blocks.{column_for, plan_of, share_name}
use Rattle.path_lowering.specs.Selects.{walk_through, steps_through, place_elements, passes_path, passes_paths, passes_block, block_row, block_rows_besides, select_besides}
use Rattle.path_lowering.specs.Selects.{SayBesides, IsUnder}
use Rattle.path_lowering.proofs.Truths.{and_together}
use Rattle.path_lowering.proofs.Facts.{element_valid}
use Rattle.path_lowering.proofs.Lists.{map-each, map-append, filter-each, map-again, filter-map, filter-twice}
use Rattle.path_lowering.proofs.ConditionLemmas.{value_means, follows_tags}
use Rattle.path_lowering.proofs.PlacingLemmas.{placing_means, in_kept}
use Rattle.path_lowering.proofs.ItemLemmas.{Place, item_tables, agrees, IsInOrder, spread, spread_rows}
use Rattle.path_lowering.proofs.SourceLemmas.{looked_up, from_tables, items_numbered, own_tables, own_few}
use Rattle.path_lowering.proofs.TupleLemmas.{bound_to, bound_rows, tables_of, tuples_under_are, combination_many, combination_at, rows_found, column_found, leaf_found, passed_over}
use Rattle.path_lowering.proofs.BlockLemmas.{block_means}

-- the elements of rows for items are those of the rows that the places have
elements_spread : (graph : Graph) (rows : List RowValues) (spots : List Spot) → place_elements graph spots (map (row_at rows) spots) ≡ elements_at graph rows spots
elements_spread graph rows [] = refl
elements_spread graph rows (s ∷ ss) = ap (λ l. of_row graph s.kind s.element (row_at rows s) ∷ l) (elements_spread graph rows ss)

place_front : (graph : Graph) (some more : List Spot) (f : Spot → RowValues) → place_elements graph some (map f (some ++ more)) ≡ place_elements graph some (map f some)
place_front graph [] more f = refl
place_front graph (s ∷ ss) more f = ap (λ l. of_row graph s.kind s.element (f s) ∷ l) (place_front graph ss more f)

drop_front : {A B : Type 0} (f : A → B) (xs ys : List A) → drop (length xs) (map f (xs ++ ys)) ≡ map f ys
drop_front f [] ys = refl
drop_front f (x ∷ xs) ys = drop_front f xs ys

pub nat_eq_decides : (a b : ℕ) → Decides (nat_eq a b) (a ≡ b)
nat_eq_decides a b = (eqb-true a b, eq-eqb a b)

-- along a path the walk through the elements has them at its places
steps_placed : (graph : Graph) (rows : List RowValues) (edges : ℕ) (numbers items : List ℕ) → length numbers ≡ 2 * edges → length numbers ≤ length items
    → elements_after (steps_through (elements_at graph rows (spots_along Edge numbers items))) ≡ elements_at graph rows (spots_along Edge numbers items)
steps_placed graph rows edges [] items size many = refl
steps_placed graph rows edges (n ∷ ns) [] size many = absurd (omega arith)
steps_placed graph rows zero (n ∷ ns) (a ∷ more) size many = absurd (omega arith)
steps_placed graph rows (suc edges) (n ∷ []) (a ∷ more) size many = absurd (omega arith)
steps_placed graph rows (suc edges) (n ∷ m ∷ ns) (a ∷ []) size many = absurd (omega arith)
steps_placed graph rows (suc edges) (n ∷ m ∷ ns) (a ∷ b ∷ more) size many =
    ap (λ l. of_row graph Edge n (get_or rows a []) ∷ of_row graph Vertex m (get_or rows b []) ∷ l) (steps_placed graph rows edges ns more (omega arith) (omega arith))

walk_placed : (graph : Graph) (rows : List RowValues) (edges : ℕ) (numbers items : List ℕ) → length numbers ≡ 2 * edges + 1 → length numbers ≤ length items
    → places_of (walk_through (elements_at graph rows (spots_along Vertex numbers items))) ≡ elements_at graph rows (spots_along Vertex numbers items)
walk_placed graph rows edges [] items size many = absurd (omega arith)
walk_placed graph rows edges (n ∷ ns) [] size many = absurd (omega arith)
walk_placed graph rows edges (n ∷ ns) (a ∷ more) size many = ap (λ l. of_row graph Vertex n (get_or rows a []) ∷ l)
    (steps_placed graph rows edges ns more (omega arith) (omega arith))

module _ (catalog : Catalog) (graph : Graph) (instance : InstanceRows) (prefix : ℕ) (names : List (List ℕ)) (parts : List Laid) (condition : Option Condition)
    (outputs : List Output) (besides : List SqlCondition)
    (sound : IsValidCatalog catalog) (valid : IsValidGraph catalog graph) (fits : Fits catalog instance) where
  abbrev spots : List Spot
  spots = laid_spots parts

  abbrev tags : List Tags
  tags = laid_tags parts

  abbrev conditions : List SqlCondition
  conditions = block_conditions catalog graph prefix names parts condition ++ besides

  abbrev sources : List Source
  sources = sources_of catalog graph prefix spots

  abbrev items : List FromItem
  items = from_of sources conditions

  abbrev rows_for : Spot → TableRows
  rows_for spot = rows_of instance (element_at graph spot)

  abbrev name_for : Spot → List ℕ
  name_for spot = (table_at catalog (element_at graph spot).table).name

  abbrev places : List (Place same_values same_values_decides [])
  places = map (λ spot. (spot.item, rows_for spot)) spots

  abbrev named_places : List (Place nat_eq nat_eq_decides 0)
  named_places = map (λ spot. (spot.item, name_for spot)) spots

  module _ (there : (spot : Spot) → IsIn spot spots → spot.element < count_of_kind graph spot.kind) (few : length spots < 2 ^ 32)
      (order : IsInOrder same_values same_values_decides [] [] places) (named_order : IsInOrder nat_eq nat_eq_decides 0 [] named_places) where
    element_ok : (spot : Spot) → IsIn spot spots → IsValidElement catalog (element_at graph spot)
    element_ok spot h = element_valid catalog graph valid spot.kind spot.element (there spot h)

    -- the tables of the items
    names_are : map (λ item. item.table) items ≡ item_tables nat_eq nat_eq_decides 0 0 named_places
    names_are =
        from_tables sources conditions ∙ map-again (λ source. source.table) (source_of catalog graph prefix) (own_spots 0 spots)
        ∙ own_tables catalog graph prefix nat_eq nat_eq_decides 0 name_for 0 spots

    own_in : (next : ℕ) (some : List Spot) (spot : Spot) → IsIn spot (own_spots next some) → IsIn spot some
    own_in next [] spot h = absurd h
    own_in next (s ∷ ss) spot h = go (nat_eq s.item next) h (own_in (suc next) ss spot) (own_in next ss spot)
      where
        go : (b : Bool) → IsIn spot (cond b (s ∷ own_spots (suc next) ss) (own_spots next ss)) → (IsIn spot (own_spots (suc next) ss) → IsIn spot ss)
            → (IsIn spot (own_spots next ss) → IsIn spot ss) → IsIn spot (s ∷ ss)
        go true (inl e) more skip = inl e
        go true (inr k) more skip = inr (more k)
        go false k more skip = inr (skip k)

    tables_are : tables_of catalog instance items ≡ item_tables same_values same_values_decides [] 0 places
    tables_are =
        sym (map-again (sql_side.rows_of catalog instance) (λ item. item.table) items)
        ∙ ap (map (sql_side.rows_of catalog instance)) (from_tables sources conditions ∙ map-again (λ source. source.table) (source_of catalog graph prefix) (own_spots 0 spots))
        ∙ map-again (sql_side.rows_of catalog instance) name_for (own_spots 0 spots)
        ∙ map-each _ rows_for (own_spots 0 spots) (λ spot h. rows_found catalog sound instance (element_at graph spot).table (element_ok spot (own_in 0 spots spot h)).table_there)
        ∙ own_tables catalog graph prefix same_values same_values_decides [] rows_for 0 spots

    placed_in : (table : Spot → List (List Value)) (spot : Spot) (some : List Spot) → IsIn spot some → IsIn {X = ℕ × List (List Value)} (spot.item, table spot)
        (map (λ s. (s.item, table s)) some)
    placed_in table spot [] h = absurd h
    placed_in table spot (s ∷ ss) (inl e) = inl (ap (λ x. (x.item, table x)) e)
    placed_in table spot (s ∷ ss) (inr h) = inr (placed_in table spot ss h)

    named_in : (table : Spot → List ℕ) (spot : Spot) (some : List Spot) → IsIn spot some → IsIn {X = ℕ × List ℕ} (spot.item, table spot) (map (λ s. (s.item, table s)) some)
    named_in table spot [] h = absurd h
    named_in table spot (s ∷ ss) (inl e) = inl (ap (λ x. (x.item, table x)) e)
    named_in table spot (s ∷ ss) (inr h) = inr (named_in table spot ss h)

    no_item : FromItem
    no_item = record { table = []; alias = []; on = None }

    many_items : length items ≡ length (own_spots 0 spots)
    many_items =
        sym (length-map items (λ item. item.table)) ∙ ap length (from_tables sources conditions) ∙ length-map sources (λ source. source.table)
        ∙ length-map (own_spots 0 spots) (source_of catalog graph prefix)

    -- the item of a place is there, with the table of the place's element
    pub item_found : (spot : Spot) → IsIn spot spots → (d : FromItem) → (spot.item < length items) × ((get_or items spot.item d).table ≡ name_for spot)
    item_found spot h d =
        let found = looked_up nat_eq nat_eq_decides 0 named_places [] named_order (spot.item, name_for spot) (named_in name_for spot spots h) in
        let below : spot.item < length items = subst (λ n. spot.item < n) (length-map items (λ item. item.table)) (subst (λ l. spot.item < length l) (sym names_are) found.0) in
        (below, sym (get_or-map (λ item. item.table) items spot.item d [] below) ∙ ap (λ l. get_or l spot.item []) names_are ∙ found.1)

    -- what rows for the items show at the places
    module _ (outer : Tuple) (rows : List RowValues) (chosen : IsIn rows (combinations (tables_of catalog instance items))) where
      abbrev tuple : Tuple
      tuple = bound_to items rows ++ outer

      rows_sized : length rows ≡ length items
      rows_sized = combination_many (tables_of catalog instance items) rows chosen ∙ length-map items (λ item. sql_side.rows_of catalog instance item.table)

      row_there : (spot : Spot) → IsIn spot spots → IsIn (row_at rows spot) (rows_for spot)
      row_there spot h =
          let found = looked_up same_values same_values_decides [] places [] order (spot.item, rows_for spot) (placed_in rows_for spot spots h) in
          subst (IsIn (row_at rows spot)) (ap (λ l. get_or l spot.item []) tables_are ∙ found.1)
          (combination_at (tables_of catalog instance items) rows chosen spot.item [] (subst (λ l. spot.item < length l) (sym tables_are) found.0))

      column_there : (spot : Spot) → IsIn spot spots → (place : ℕ) → place < length (table_at catalog (element_at graph spot).table).columns
          → leaf_value catalog tuple (Rattle.path_lowering.specs.Emitted.leaf_of catalog graph prefix spot place) ≡ value_at (row_at rows spot) place
      column_there spot h place k =
          let found = item_found spot h no_item in
          let n = own_few catalog graph prefix 0 spots in
          let zeroth : spot.item ≡ 0 + spot.item = omega arith in
          leaf_found catalog prefix outer items rows 0 spot.item no_item (Rattle.path_lowering.specs.Emitted.leaf_of catalog graph prefix spot place)
          (items_numbered catalog graph prefix spots conditions) rows_sized found.0 (omega (arith, many_items, n, few))
          (ap (Rattle.path_lowering.specs.Emitted.alias_of prefix) zeroth)
          ∙ ap (λ t. value_at (row_at rows spot) (sql_side.column_place catalog t (column_at (table_at catalog (element_at graph spot).table) place).name)) found.1
          ∙ ap (value_at (row_at rows spot)) (column_found catalog sound instance (element_at graph spot).table place (element_ok spot h).table_there k)

      -- a place has in the tuple the row of its item
      rows_seen : map (row_at (map (λ bound. bound.row) tuple)) spots ≡ map (row_at rows) spots
      rows_seen =
          map-each (row_at (map (λ bound. bound.row) tuple)) (row_at rows) spots
          (λ spot h.
          ap (λ l. row_at l spot) (map-append (λ bound. bound.row) (bound_to items rows) outer ∙ ap (λ l. l ++ map (λ bound. bound.row) outer) (bound_rows items rows rows_sized))
          ∙ get_or-append rows (map (λ bound. bound.row) outer) [] spot.item (subst (λ n. spot.item < n) (sym rows_sized) (item_found spot h no_item).0))

      pub shows : Shows catalog graph instance prefix (leaf_value catalog tuple) rows spots
      shows = record { elements = there; members = row_there; columns = column_there }

    -- each part is a path block, laid along the places of its path
    pub record LaidOk (laid : Laid) : Type 0 where
      pub items : List ℕ
      pub many : length laid.part.elements ≤ length items
      pub spots_are : laid.spots ≡ spots_along Vertex laid.part.elements items
      pub part : IsPart graph laid.path laid.part
      pub says : SaysAny (alternatives_of catalog graph prefix laid.path laid.part laid.spots) laid.conditions
      pub tags_many : length laid.part.tags ≡ length laid.part.elements
      pub edges : ℕ
      pub sized : length laid.part.elements ≡ 2 * edges + 1
      pub names_in : (name : List ℕ) → IsIn name (singletons_of laid.path) → IsIn name names

    abbrev walk_for : List RowValues → Laid → Walk
    walk_for rows laid = walk_through (elements_at graph rows laid.spots)

    walk_ok : (rows : List RowValues) (laid : Laid) → LaidOk laid → places_of (walk_for rows laid) ≡ elements_at graph rows laid.spots
    walk_ok rows laid ok = subst (λ s. places_of (walk_through (elements_at graph rows s)) ≡ elements_at graph rows s) (sym ok.spots_are)
        (walk_placed graph rows ok.edges laid.part.elements ok.items ok.sized ok.many)

    passes_paths_spread : (rows : List RowValues) (some : List Laid)
        → list_all (λ laid. passes_path graph instance laid.path laid.part (elements_at graph rows laid.spots)) some
        ≡ passes_paths graph instance some (map (row_at rows) (laid_spots some))
    passes_paths_spread rows [] = refl
    passes_paths_spread rows (laid ∷ more) =
        ap₂ (λ a b. a && b)
        (ap (passes_path graph instance laid.path laid.part) (sym (place_front graph laid.spots (laid_spots more) (row_at rows) ∙ elements_spread graph rows laid.spots)))
        (passes_paths_spread rows more ∙ ap (passes_paths graph instance more) (sym (drop_front (row_at rows) laid.spots (laid_spots more))))

    module _ (laid_all : (laid : Laid) → IsIn laid parts → LaidOk laid)
        (numbers : agree nat_eq names tags (map (λ spot. spot.element) spots) ≡ true) (kinds : agree same_kind names tags (map (λ spot. spot.kind) spots) ≡ true)
        (plain : (c : Condition) → condition ≡ Some c → EachLeaf IsPlain c) (plain_outputs : (output : Output) → IsIn output outputs → EachLeaf IsPlain output.value)
        (some : 1 ≤ length sources) (outer : Tuple) (more : List Conjunct) (extra : List RowValues → Bool)
        (say : SayBesides catalog graph instance prefix spots outer besides more extra) where
      abbrev select : Select
      select = select_besides catalog graph prefix names parts condition outputs besides more

      abbrev passes : List RowValues → Bool
      passes rows = passes_block graph instance names parts condition rows && extra rows

      abbrev combos : List (List RowValues)
      combos = combinations (tables_of catalog instance items)

      abbrev tuple_of : List RowValues → Tuple
      tuple_of rows = bound_to items rows ++ outer

      abbrev layer_holds : Tuple → Bool
      layer_holds t = list_all (holds catalog t) (all_members items) && list_all (λ conjunct. conjunct t)
          (map (conjunct_holds catalog instance) (where_of sources conditions ++ more))

      abbrev spread_of : List RowValues → List RowValues
      spread_of rows = spread same_values same_values_decides [] [] places rows

      spread_is : (rows : List RowValues) → spread_of rows ≡ map (row_at rows) spots
      spread_is rows = map-again (λ place. get_or rows place.0 []) (λ spot. (spot.item, rows_for spot)) spots

      under : (rows : List RowValues) → IsUnder catalog prefix outer (tuple_of rows)
      under rows = record { kept = passed_over catalog prefix outer items rows 0 (items_numbered catalog graph prefix spots conditions) }

      abbrev block_true : List RowValues → Bool
      block_true rows = list_all (holds catalog (tuple_of rows)) (block_conditions catalog graph prefix names parts condition)

      abbrev besides_true : List RowValues → Bool
      besides_true rows = list_all (holds catalog (tuple_of rows)) besides

      abbrev more_true : List RowValues → Bool
      more_true rows = list_all (λ conjunct. conjunct_holds catalog instance conjunct (tuple_of rows)) more

      block_true_is : (rows : List RowValues) → IsIn rows combos → block_true rows ≡ passes_block graph instance names parts condition (spread_of rows)
      block_true_is rows h =
          block_means catalog graph instance prefix (leaf_value catalog (tuple_of rows)) rows valid fits names parts condition (walk_for rows) (shows outer rows h)
          (λ laid k. let ok = laid_all laid k in record {
            items = ok.items;
            many = ok.many;
            spots_are = ok.spots_are;
            part = ok.part;
            says = ok.says;
            tags_many = ok.tags_many;
            walk = walk_ok rows laid ok;
            names_in = ok.names_in;
          })
          numbers kinds plain
          ∙ ap₂ (λ a elements. a && (agree same_element names tags elements && Rattle.path_lowering.specs.Blocks.meets_last graph instance (held_by tags elements) condition))
          (passes_paths_spread rows parts) (sym (elements_spread graph rows spots))
          ∙ ap (passes_block graph instance names parts condition) (sym (spread_is rows))

      holds_is : (rows : List RowValues) → IsIn rows combos → layer_holds (tuple_of rows) ≡ passes (spread_of rows)
      holds_is rows h =
          let members = list_all (holds catalog (tuple_of rows)) (all_members items) in
          let standing = list_all (λ conjunct. conjunct_holds catalog instance conjunct (tuple_of rows)) (where_of sources conditions) in
          ap (λ b. members && b)
          (list_all-map (λ conjunct. conjunct (tuple_of rows)) (conjunct_holds catalog instance) (where_of sources conditions ++ more)
          ∙ list_all-append (λ conjunct. conjunct_holds catalog instance conjunct (tuple_of rows)) (where_of sources conditions) more)
          ∙ sym (and_together members standing (more_true rows))
          ∙ ap (λ b. b && more_true rows)
          (placing_means catalog instance (tuple_of rows) sources conditions some
          ∙ list_all-append (holds catalog (tuple_of rows)) (block_conditions catalog graph prefix names parts condition) besides)
          ∙ and_together (block_true rows) (besides_true rows) (more_true rows)
          ∙ ap₂ (λ a b. a && b) (block_true_is rows h) (say rows (tuple_of rows) (shows outer rows h) (under rows) ∙ ap extra (sym (spread_is rows)))

      output_is : (rows : List RowValues) → IsIn rows combos
          → output_row catalog select.columns (tuple_of rows) ≡ block_row graph instance parts outputs (spread_of rows)
      output_is rows h =
          map-again (λ column. value_in (leaf_value catalog (tuple_of rows)) column.value) (column_for catalog graph prefix tags spots) outputs
          ∙ map-each _ _ outputs (λ output k.
          value_means catalog graph instance prefix (leaf_value catalog (tuple_of rows)) rows spots valid fits (shows outer rows h) (spot_by tags spots)
          (held_by tags (elements_at graph rows spots))
          (follows_tags catalog graph instance prefix (leaf_value catalog (tuple_of rows)) rows spots valid fits (shows outer rows h) tags) output.value (plain_outputs output k)
          ∙ ap (λ elements. value_in (graph_side.leaf_value graph instance (held_by tags elements)) output.value) (sym (elements_spread graph rows spots)))
          ∙ ap (block_row graph instance parts outputs) (sym (spread_is rows))

      abbrev made : List RowValues → RowValues
      made = block_row graph instance parts outputs

      -- rows that pass agree where places share an item
      abbrev PassingAgree : Type 0
      PassingAgree = (rows : List RowValues) → IsIn rows (combinations (map rows_for spots)) → passes_block graph instance names parts condition rows ≡ true
          → agrees same_values same_values_decides [] [] places rows ≡ true

      abbrev AllOnce : Type 0
      AllOnce = (place : Place same_values same_values_decides []) → IsIn place places → IsWithoutRepeats place.1

      abbrev kept : List Tuple
      kept = filter layer_holds (tuples_under catalog instance items outer)

      -- the tuples of which all conditions are True are those of rows that pass
      kept_are : kept ≡ map tuple_of (filter (λ rows. passes (spread_of rows)) combos)
      kept_are =
          ap (filter layer_holds) (tuples_under_are catalog instance items outer) ∙ filter-map layer_holds tuple_of combos
          ∙ ap (map tuple_of) (filter-each _ (λ rows. passes (spread_of rows)) combos holds_is)

      spread_kept : PassingAgree → AllOnce → map spread_of (filter (λ rows. passes (spread_of rows)) combos) ≡ filter passes (combinations (map rows_for spots))
      spread_kept agree_there once =
          sym (filter-map passes spread_of combos)
          ∙ ap (λ l. filter passes (map spread_of (combinations l))) tables_are
          ∙ ap (filter passes) (spread_rows same_values same_values_decides [] places once [] order [] (record { many = refl; each = λ k below. absurd (omega arith) }))
          ∙ ap (λ l. filter passes (filter (agrees same_values same_values_decides [] [] places) (combinations l)))
          (map-again (λ place. place.1) (λ spot. (spot.item, rows_for spot)) spots)
          ∙ filter-twice passes (agrees same_values same_values_decides [] [] places) (combinations (map rows_for spots))
          (λ rows h p. agree_there rows h (and_parts (passes_block graph instance names parts condition rows) (extra rows) p).0)

      -- the rows that these tuples have at the places, and the rows of the SELECT
      pub places_are : PassingAgree → AllOnce → map (λ tuple. map (row_at (map (λ bound. bound.row) tuple)) spots) kept ≡ filter passes (combinations (map rows_for spots))
      places_are agree_there once =
          let seen = λ (tuple : Tuple). map (row_at (map (λ bound. bound.row) tuple)) spots in
          let those = filter (λ rows. passes (spread_of rows)) combos in
          ap (map seen) kept_are ∙ map-again seen tuple_of those
          ∙ map-each _ spread_of those (λ rows h. rows_seen outer rows (in_kept _ combos rows h).0 ∙ sym (spread_is rows)) ∙ spread_kept agree_there once

      pub select_is : PassingAgree → AllOnce → select_rows catalog instance select outer ≡ block_rows_besides graph instance names parts condition outputs extra
      select_is agree_there once =
          let those = filter (λ rows. passes (spread_of rows)) combos in
          ap (λ f. f outer) (select_means catalog instance select)
          ∙ ap (map (output_row catalog select.columns)) kept_are
          ∙ map-again (output_row catalog select.columns) tuple_of those
          ∙ map-each _ (λ rows. made (spread_of rows)) those (λ rows h. output_is rows (in_kept _ combos rows h).0)
          ∙ sym (map-again made spread_of those)
          ∙ ap (map made) (spread_kept agree_there once)
