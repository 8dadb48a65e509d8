-- The SELECT of a block that is laid out gives the rows of the block.
use Rattle.std.proofs.Common.{◌≡◌, ℕ, ◌+◌, ◌<◌, ◌≤◌, Bool, true, not, ◌&&◌, cond, List, [], ◌∷◌, ◌++◌, map, filter, length, get_or, refl, sym, ap, ap₂, subst, ◌∙◌, inl, inr}
use Rattle.std.proofs.Common.{Option, nat_eq, arith}
use Rattle.std.specs.List.{list_all}
use Rattle.std.proofs.lemmas.List.{length-append}
use Rattle.std.proofs.Math.ListN.{length-map}
use Rattle.std.proofs.lemmas.Bool.{and_parts, eq-eqb}
use Rattle.pgq_base.specs.Instances.{RowValues, InstanceRows, values_at, same_values}
use Rattle.pgq_base.proofs.ValueOrder.{same_values_decides}
use Rattle.multisets.specs.Bags.{IsIn, IsWithoutRepeats}
use Rattle.graph_ast.specs.declared.catalog.Catalog.{Catalog}
use Rattle.graph_ast.specs.declared.catalog.Graph.{Graph}
use Rattle.graph_ast.specs.declared.catalog.Element.{Element}
use Rattle.graph_ast.specs.declared.checked.Output.{Output}
use Rattle.graph_ast.specs.declared.blocks.Tags.{Tags}
use Rattle.graph_ast.specs.Lookups.{table_at}
use Rattle.graph_ast.specs.Catalogs.{IsValidElement, IsValidGraph, IsValidCatalog}
use Rattle.graph_ast.specs.Fits.{Fits, has_null}
use Rattle.graph_meaning.specs.Lists.{all_same, tagged, agree, combinations}
use Rattle.graph_meaning.specs.View.{same_element, rows_of}
use Rattle.graph_meaning.specs.Choices.{Condition}
use Rattle.sql_algebra.specs.Tuples.{Tuple, tuples_under, holds, all_members}
use Rattle.sql_algebra.specs.declared.tree.Conjunct.{Conjunct}
use Rattle.sql_algebra.specs.declared.tree.FromItem.{FromItem}
use Rattle.sql_algebra.specs.declared.tree.Select.{Select}
use Rattle.sql_algebra.specs.Meaning.{conjunct_holds, select_rows}
use Rattle.path_lowering.specs.declared.spots.Kind.TheVariants.{Vertex}
use Rattle.path_lowering.specs.declared.spots.Spot.{Spot}
use Rattle.path_lowering.specs.Spots.{element_at, row_at, spots_along, same_kind}
use Rattle.path_lowering.specs.Blocks.{Laid, laid_tags, laid_spots, block_conditions, column_for, own_spots, source_of, sources_of, plan_of, meets_last}
use Rattle.path_lowering.specs.Selects.{place_elements, passes_paths, passes_block, block_row, block_rows, select_for, IsLaidOut, IsBlockLaid, block_rows_besides, select_besides}
use Rattle.path_lowering.specs.Selects.{SayBesides}
use Rattle.path_lowering.specs.Emitted.{SqlCondition}
use Rattle.path_lowering.specs.Placed.{from_of, where_of}
use Rattle.path_lowering.proofs.Truths.{and_kept}
use Rattle.path_lowering.proofs.PlacingLemmas.{each_of, of_each}
use Rattle.path_lowering.proofs.Facts.{element_valid, key_value, without_null}
use Rattle.path_lowering.proofs.Lists.{map-again, append-nil, filter-each}
use Rattle.path_lowering.proofs.ItemLemmas.{Place, agrees, IsInOrder}
use Rattle.path_lowering.proofs.BlockLemmas.{numbers_along}
use Rattle.path_lowering.proofs.SelectLemmas.{nat_eq_decides, LaidOk, item_found, places_are, select_is}
use Rattle.path_lowering.proofs.SharedLemmas.{Full, fulls_of, fulls_tags, fulls_spots, once_before, places_in_order, rows_agree, in_mapped}

-- no row of an element's table stands twice
rows_once : (catalog : Catalog) (instance : InstanceRows) → Fits catalog instance → (element : Element) → IsValidElement catalog element
    → IsWithoutRepeats (rows_of instance element)
rows_once catalog instance fits element valid =
    let key = valid.unique.0 in
    once_before (λ values. not (has_null values)) (values_at key.columns) (rows_of instance element)
    (λ row h. ap not (without_null key.columns row (λ c k. key_value catalog instance fits element valid row h c ((valid.unique.2 c).0 k))))
    ((fits.rows element.table valid.table_there).keys key valid.unique.1)

pub first_item : (names : List (List ℕ)) (tags : List Tags) (spots : List Spot) → 1 ≤ length spots → length tags ≡ length spots → map (λ spot. spot.item) spots
    ≡ plan_of names tags → 1 ≤ length (own_spots 0 spots)
first_item names tags [] some many is = absurd (omega arith)
first_item names [] (s ∷ ss) some many is = absurd (omega arith)
first_item names (t ∷ ts) (s ∷ ss) some many is =
    let zeroth : s.item ≡ 0 = cc in
    subst (λ b. 1 ≤ length (cond b (s ∷ own_spots 1 ss) (own_spots 0 ss))) (sym (eq-eqb s.item 0 zeroth)) (omega arith)

-- places that agree for some names agree for some of these
agree_among : {X : Type 0} (same : X → X → Bool) (some names : List (List ℕ)) (tags : List Tags) (xs : List X) → ((name : List ℕ) → IsIn name some → IsIn name names)
    → agree same names tags xs ≡ true → agree same some tags xs ≡ true
agree_among same some names tags xs among h = of_each (λ name. all_same same (tagged name tags xs)) some
    (λ name k. each_of (λ name. all_same same (tagged name tags xs)) names h name (among name k))

module _ (catalog : Catalog) (graph : Graph) (instance : InstanceRows) (prefix : ℕ) (names : List (List ℕ)) (parts : List Laid) (condition : Option Condition)
    (outputs : List Output)
    (sound : IsValidCatalog catalog) (graph_in : IsIn graph catalog.graphs) (fits : Fits catalog instance) (ok : IsBlockLaid catalog graph prefix names parts condition outputs)
  where
    abbrev valid : IsValidGraph catalog graph
    valid = sound.graphs graph graph_in

    abbrev spots : List Spot
    spots = laid_spots parts

    abbrev tags : List Tags
    tags = laid_tags parts

    abbrev fulls : List Full
    fulls = fulls_of tags spots

    tags_sized : (some : List Laid) → ((laid : Laid) → IsIn laid some → IsLaidOut catalog graph prefix names laid) → length (laid_tags some) ≡ length (laid_spots some)
    tags_sized [] all = refl
    tags_sized (laid ∷ more) all =
        let here = all laid (inl refl) in
        let own : length laid.part.tags ≡ length laid.spots =
        here.tags_many ∙ ap length (sym (numbers_along Vertex laid.part.elements here.items here.many)) ∙ length-map (spots_along Vertex laid.part.elements here.items)
        (λ spot. spot.element) ∙ ap length (sym here.spots) in
        length-append laid.part.tags (laid_tags more) ∙ ap₂ ◌+◌ own (tags_sized more (λ l h. all l (inr h))) ∙ sym (length-append laid.spots (laid_spots more))

    sized : length tags ≡ length spots
    sized = tags_sized parts ok.parts_laid

    spot_ok : (spot : Spot) → IsIn spot spots → IsValidElement catalog (element_at graph spot)
    spot_ok spot h = element_valid catalog graph valid spot.kind spot.element (ok.elements spot h)

    full_in : (some : List Tags) (those : List Spot) (f : Full) → IsIn f (fulls_of some those) → IsIn f.spot those
    full_in [] those f h = absurd h
    full_in (t ∷ ts) [] f h = absurd h
    full_in (t ∷ ts) (s ∷ ss) f (inl e) = inl (ap (λ x. x.spot) e)
    full_in (t ∷ ts) (s ∷ ss) f (inr h) = inr (full_in ts ss f h)

    tags_are : map (λ f. f.tags) fulls ≡ tags
    tags_are = fulls_tags tags spots sized

    spots_are : map (λ f. f.spot) fulls ≡ spots
    spots_are = fulls_spots tags spots sized

    numbers_full : agree nat_eq ok.shared (map (λ f. f.tags) fulls) (map (λ f. f.spot.element) fulls) ≡ true
    numbers_full =
        ap₂ (agree nat_eq ok.shared) tags_are (sym (map-again (λ spot. spot.element) (λ f. f.spot) fulls) ∙ ap (map (λ spot. spot.element)) spots_are)
        ∙ agree_among nat_eq ok.shared names tags (map (λ spot. spot.element) spots) ok.among ok.numbers

    kinds_full : agree same_kind ok.shared (map (λ f. f.tags) fulls) (map (λ f. f.spot.kind) fulls) ≡ true
    kinds_full =
        ap₂ (agree same_kind ok.shared) tags_are (sym (map-again (λ spot. spot.kind) (λ f. f.spot) fulls) ∙ ap (map (λ spot. spot.kind)) spots_are)
        ∙ agree_among same_kind ok.shared names tags (map (λ spot. spot.kind) spots) ok.among ok.kinds

    planned_full : map (λ f. f.spot.item) fulls ≡ plan_of ok.shared (map (λ f. f.tags) fulls)
    planned_full =
        sym (map-again (λ spot. spot.item) (λ f. f.spot) fulls) ∙ ap (map (λ spot. spot.item)) spots_are ∙ ok.planned ∙ ap (plan_of ok.shared) (sym tags_are)

    order : IsInOrder same_values same_values_decides [] [] (map (λ spot. (spot.item, rows_of instance (element_at graph spot))) spots)
    order =
        subst (λ l. IsInOrder same_values same_values_decides [] [] (map (λ spot. (spot.item, rows_of instance (element_at graph spot))) l)) spots_are
        (places_in_order graph instance ok.shared fulls numbers_full kinds_full planned_full same_values same_values_decides [] (rows_of instance))

    named_order : IsInOrder nat_eq nat_eq_decides 0 [] (map (λ spot. (spot.item, (table_at catalog (element_at graph spot).table).name)) spots)
    named_order =
        subst (λ l. IsInOrder nat_eq nat_eq_decides 0 [] (map (λ spot. (spot.item, (table_at catalog (element_at graph spot).table).name)) l)) spots_are
        (places_in_order graph instance ok.shared fulls numbers_full kinds_full planned_full nat_eq nat_eq_decides 0 (λ element. (table_at catalog element.table).name))

    passing_agree : (rows : List RowValues) → IsIn rows (combinations (map (λ spot. rows_of instance (element_at graph spot)) spots))
        → passes_block graph instance names parts condition rows ≡ true
        → agrees same_values same_values_decides [] [] (map (λ spot. (spot.item, rows_of instance (element_at graph spot))) spots) rows ≡ true
    passing_agree rows h passes =
        let all : agree same_element names tags (place_elements graph spots rows) ≡ true =
        (and_parts _ _ (and_parts (passes_paths graph instance parts rows) (agree same_element names tags (place_elements graph spots rows) && meets_last graph instance
        (Rattle.graph_meaning.specs.Conditions.held_by tags (place_elements graph spots rows)) condition) passes).1).0 in
        subst (λ l. agrees same_values same_values_decides [] [] (map (λ spot. (spot.item, rows_of instance (element_at graph spot))) l) rows ≡ true) spots_are
        (rows_agree graph instance ok.shared fulls numbers_full kinds_full planned_full catalog fits (λ f k. spot_ok f.spot (full_in tags spots f k)) rows
        (subst (λ l. IsIn rows (combinations (map (λ spot. rows_of instance (element_at graph spot)) l))) (sym spots_are) h)
        (ap₂ (λ t l. agree same_element ok.shared t (place_elements graph l rows)) tags_are spots_are
        ∙ agree_among same_element ok.shared names tags (place_elements graph spots rows) ok.among all))

    places_once : (place : Place same_values same_values_decides []) → IsIn place (map (λ spot. (spot.item, rows_of instance (element_at graph spot))) spots)
        → IsWithoutRepeats place.1
    places_once place h =
        let m = in_mapped (λ spot. (spot.item, rows_of instance (element_at graph spot))) place spots h in
        subst (λ p. IsWithoutRepeats p.1) m.2 (rows_once catalog instance fits (element_at graph m.0) (spot_ok m.0 m.1))

    -- the SELECT of a block, with more conditions and conjuncts
    module _ (besides : List SqlCondition) (more : List Conjunct) where
      abbrev select : Select
      select = select_besides catalog graph prefix names parts condition outputs besides more

      laid_all : (laid : Laid) → IsIn laid parts
          → LaidOk catalog graph instance prefix names parts condition outputs besides sound valid fits ok.elements ok.few order named_order laid
      laid_all laid h =
          let here = ok.parts_laid laid h in
          record {
            items = here.items;
            many = here.many;
            spots_are = here.spots;
            part = here.part;
            says = here.says;
            tags_many = here.tags_many;
            edges = here.edges;
            sized = here.sized;
            names_in = here.names_in;
          }

      some_source : 1 ≤ length (sources_of catalog graph prefix spots)
      some_source = subst (λ n. 1 ≤ n) (sym (length-map (own_spots 0 spots) (source_of catalog graph prefix))) (first_item ok.shared tags spots ok.some sized ok.planned)

      -- the item of a place is there, with the table of the place's element
      pub block_item : (spot : Spot) → IsIn spot spots → (d : FromItem) → (spot.item < length select.from)
          × ((get_or select.from spot.item d).table ≡ (table_at catalog (element_at graph spot).table).name)
      block_item = item_found catalog graph instance prefix names parts condition outputs besides sound valid fits ok.elements ok.few order named_order

      module _ (extra : List RowValues → Bool) (outer : Tuple) (say : SayBesides catalog graph instance prefix spots outer besides more extra) where
        -- its rows are the rows of the block that pass one test more
        pub block_besides : select_rows catalog instance select outer ≡ block_rows_besides graph instance names parts condition outputs extra
        block_besides =
            select_is catalog graph instance prefix names parts condition outputs besides sound valid fits ok.elements ok.few order named_order
            laid_all ok.numbers ok.kinds ok.plain ok.plain_outputs some_source outer more extra say passing_agree places_once

        -- so are those that the tuples of which all conditions are True have at the places
        pub block_kept : map (λ tuple. map (row_at (map (λ bound. bound.row) tuple)) spots)
            (filter (λ tuple. list_all (holds catalog tuple) (all_members select.from) && list_all (λ conjunct. conjunct tuple)
            (map (conjunct_holds catalog instance) select.conjuncts))
            (tuples_under catalog instance select.from outer))
            ≡ filter (λ rows. passes_block graph instance names parts condition rows && extra rows) (combinations (map (λ spot. rows_of instance (element_at graph spot)) spots))
        block_kept =
            places_are catalog graph instance prefix names parts condition outputs besides sound valid fits ok.elements ok.few order named_order
            laid_all ok.numbers ok.kinds ok.plain ok.plain_outputs some_source outer more extra say passing_agree places_once

    plainly : select_for catalog graph prefix names parts condition outputs ≡ select_besides catalog graph prefix names parts condition outputs [] []
    plainly =
        let columns = map (column_for catalog graph prefix tags spots) outputs in
        let sources = sources_of catalog graph prefix spots in
        ap (λ conditions. record { columns = columns; from = from_of sources conditions; conjuncts = where_of sources conditions })
        (sym (append-nil (block_conditions catalog graph prefix names parts condition)))
        ∙ ap (λ conjuncts. record { columns = columns; from = from_of sources (block_conditions catalog graph prefix names parts condition ++ []); conjuncts = conjuncts })
        (sym (append-nil (where_of sources (block_conditions catalog graph prefix names parts condition ++ []))))

    -- the rows of the SELECT of a block are the rows of the block
    pub block_select : (outer : Tuple) → select_rows catalog instance (select_for catalog graph prefix names parts condition outputs) outer
        ≡ block_rows graph instance names parts condition outputs
    block_select outer =
        ap (λ select. select_rows catalog instance select outer) plainly
        ∙ block_besides [] [] (λ rows. true) outer (λ rows tuple shows under. refl)
        ∙ ap (map (block_row graph instance parts outputs))
        (filter-each (λ rows. passes_block graph instance names parts condition rows && true) (passes_block graph instance names parts condition)
        (combinations (map (λ spot. rows_of instance (element_at graph spot)) spots))
        (λ rows h. and_kept (passes_block graph instance names parts condition rows)))
