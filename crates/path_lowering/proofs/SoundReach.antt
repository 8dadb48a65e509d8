-- The FROM items of a block reach each of its places, and a column of a place is sound.
use Rattle.std.proofs.Common.{◌≡◌, ◌≢◌, ℕ, zero, suc, ◌+◌, ◌<◌, ◌≤◌, ◌^◌, Bool, true, false, ◌||◌, not, cond, List, [], ◌∷◌, ◌++◌, map, length, get_or, refl, sym, ap, ap₂, subst}
use Rattle.std.proofs.Common.{◌∙◌, inl, inr, nat_eq, Option, None, Some, is_some, bytes_eq, arith}
use Rattle.std.specs.Prelude.{find, decimal}
use Rattle.std.specs.List.{list_all}
use Rattle.std.proofs.Math.ListN.{length-map}
use Rattle.std.proofs.lemmas.Fmt.{decimal_injective}
use Rattle.std.proofs.lemmas.List.{get_or-map, length-append}
use Rattle.std.proofs.lemmas.List.Folds.{list_all-map}
use Rattle.multisets.specs.Bags.{IsIn, IsWithoutRepeats}
use Rattle.multisets.proofs.Members.{in_append}
use Rattle.expr_tree.proofs.ClassLemmas.{same_self}
use Rattle.graph_ast.specs.declared.catalog.Catalog.{Catalog}
use Rattle.graph_ast.specs.declared.catalog.Table.{Table}
use Rattle.graph_ast.specs.declared.catalog.ColumnType.TheVariants.{Boolean}
use Rattle.graph_ast.specs.declared.catalog.Graph.{Graph}
use Rattle.graph_ast.specs.declared.checked.Output.{Output}
use Rattle.graph_ast.specs.declared.blocks.Tags.{Tags}
use Rattle.graph_ast.specs.Catalogs.{IsValidGraph, IsValidCatalog}
use Rattle.graph_ast.specs.Lookups.{table_at, column_at, edge_element, no_element, elements_of}
use Rattle.graph_meaning.specs.Choices.{Condition}
use Rattle.graph_meaning.specs.Lists.{agree, all_same, tagged}
use Rattle.sql_algebra.specs.declared.tree.ColumnLeaf.{ColumnLeaf}
use Rattle.sql_algebra.specs.declared.tree.FromItem.{FromItem}
use Rattle.sql_algebra.specs.Catalogs.{table_named, column_named}
use Rattle.sql_algebra.specs.Soundness.{Reach, is_in, differ_from, has_class, has_column, item_has, leaf_is_sound}
use Rattle.path_lowering.specs.declared.spots.Kind.{Kind}
use Rattle.path_lowering.specs.declared.spots.Kind.TheVariants.{Vertex, Edge}
use Rattle.path_lowering.specs.declared.spots.Spot.{Spot}
use Rattle.path_lowering.specs.Spots.{element_of_kind, element_at, spots_along, same_kind}
use Rattle.path_lowering.specs.Emitted.{SqlCondition, alias_of, leaf_of}
use Rattle.path_lowering.specs.declared.placing.Source.{Source}
use Rattle.path_lowering.specs.Placed.{from_of}
use Rattle.path_lowering.specs.Shown.{count_of_kind}
use Rattle.path_lowering.specs.Blocks.{Laid, laid_tags, laid_spots, own_spots, source_of, sources_of, plan_of}
use Rattle.path_lowering.specs.Selects.{IsLaidOut, IsBlockLaid}
use Rattle.path_lowering.proofs.Facts.{in_at, in_map, element_valid}
use Rattle.path_lowering.proofs.Lists.{map-again}
use Rattle.path_lowering.proofs.BlockLemmas.{numbers_along}
use Rattle.path_lowering.proofs.PlacingLemmas.{and_join, each_of, of_each}
use Rattle.path_lowering.proofs.ItemLemmas.{Place, item_tables, IsInOrder}
use Rattle.path_lowering.proofs.SelectLemmas.{nat_eq_decides}
use Rattle.path_lowering.proofs.SharedLemmas.{Full, fulls_of, fulls_tags, fulls_spots, places_in_order, in_mapped}
use Rattle.path_lowering.proofs.SourceLemmas.{looked_up, from_tables, items_numbered, own_tables, own_few}
use Rattle.path_lowering.proofs.Theorems.{first_item}
use Rattle.path_lowering.proofs.TupleLemmas.{name_itself, names_differ, AreNumbered}

-- what stands at a place is found by its name, where no name stands twice
found_own : {X : Type 0} (name : X → List ℕ) (xs : List X) (i : ℕ) (d : X) → IsWithoutRepeats (map name xs) → i < length xs
    → find (λ x. bytes_eq (name x) (name (get_or xs i d))) xs ≡ Some (get_or xs i d)
found_own name [] i d apart h = absurd (omega arith)
found_own name (x ∷ xs) zero d apart h = ap (λ b. cond b (Some x) (find (λ u. bytes_eq (name u) (name x)) xs)) (name_itself (name x))
found_own name (x ∷ xs) (suc i) d apart h =
    ap (λ b. cond b (Some x) (find (λ u. bytes_eq (name u) (name (get_or xs i d))) xs))
    (names_differ (name x) (name (get_or xs i d)) (λ e. apart.0 (subst (λ k. IsIn k (map name xs)) (sym e) (in_map name (get_or xs i d) xs (in_at xs i d (omega arith))))))
    ∙ found_own name xs i d apart.1 (omega arith)

module _ (catalog : Catalog) (valid : IsValidCatalog catalog) where
  abbrev no_table : Table
  no_table = record { name = []; columns = []; keys = []; references = [] }

  pub table_found : (place : ℕ) → place < length catalog.tables → table_named catalog (table_at catalog place).name ≡ Some (table_at catalog place)
  table_found place h = found_own (λ table. table.name) catalog.tables place no_table valid.table_names h

  pub column_found : (place column : ℕ) → place < length catalog.tables → column < length (table_at catalog place).columns
      → column_named (table_at catalog place) (column_at (table_at catalog place) column).name ≡ Some (column_at (table_at catalog place) column)
  column_found place column h k =
      found_own (λ c. c.name) (table_at catalog place).columns column (record { name = []; kind = Boolean; not_null = false })
      (valid.tables (table_at catalog place) (in_at catalog.tables place no_table h)).column_names k

pub element_in : (graph : Graph) (kind : Kind) (number : ℕ) → number < count_of_kind graph kind → IsIn (element_of_kind graph kind number) (elements_of graph)
element_in graph Vertex number h = in_append _ graph.vertices (map (λ edge. edge.element) graph.edges) (inl (in_at graph.vertices number no_element h))
element_in graph Edge number h =
    in_append _ graph.vertices (map (λ edge. edge.element) graph.edges)
    (inr (in_map (λ edge. edge.element) (edge_element graph number) graph.edges
    (in_at graph.edges number (record { element = no_element; source = record { columns = []; vertex = 0 }; destination = record { columns = []; vertex = 0 } }) h)))

alias_apart : (prefix a b : ℕ) → a < 2 ^ 64 → b < 2 ^ 64 → a ≢ b → bytes_eq (alias_of prefix a) (alias_of prefix b) ≡ false
alias_apart prefix a b p q h = names_differ (alias_of prefix a) (alias_of prefix b) (λ e. let k : decimal a ≡ decimal b = cc in h (decimal_injective a b p q k))

-- the item of a number is found by its alias
item_found : (prefix : ℕ) (items : List FromItem) (outer : Reach) (number k : ℕ) (d : FromItem) → AreNumbered prefix number items → k < length items
    → number + length items ≤ 2 ^ 64
    → find (λ item. bytes_eq item.alias (alias_of prefix (number + k))) (items ++ outer) ≡ Some (get_or items k d)
item_found prefix [] outer number k d numbered below few = absurd (omega arith)
item_found prefix (item ∷ items) outer number zero d numbered below few =
    let n : number + 0 ≡ number = omega arith in
    ap (λ b. cond b (Some item) (find (λ i. bytes_eq i.alias (alias_of prefix (number + 0))) (items ++ outer)))
    (ap (λ m. bytes_eq item.alias (alias_of prefix m)) n ∙ ap (λ a. bytes_eq a (alias_of prefix number)) numbered.0 ∙ name_itself (alias_of prefix number))
item_found prefix (item ∷ items) outer number (suc k) d numbered below few =
    let n : number + suc k ≡ suc number + k = omega arith in
    ap (λ b. cond b (Some item) (find (λ i. bytes_eq i.alias (alias_of prefix (number + suc k))) (items ++ outer)))
    (ap (λ a. bytes_eq a (alias_of prefix (number + suc k))) numbered.0 ∙ alias_apart prefix number (number + suc k) (omega arith) (omega arith) (omega arith))
    ∙ ap (λ m. find (λ i. bytes_eq i.alias (alias_of prefix m)) (items ++ outer)) n
    ∙ item_found prefix items outer (suc number) k d numbered.1 (omega arith) (omega arith)

-- aliases by number differ
none_later : (prefix m number : ℕ) (items : List FromItem) → m < number → AreNumbered prefix number items → number + length items ≤ 2 ^ 64
    → is_in (alias_of prefix m) (map (λ item. item.alias) items) ≡ false
none_later prefix m number [] low numbered few = refl
none_later prefix m number (item ∷ items) low numbered few =
    ap₂ (λ a b. a || b) (ap (λ a. bytes_eq a (alias_of prefix m)) numbered.0 ∙ alias_apart prefix number m (omega arith) (omega arith) (omega arith))
    (none_later prefix m (suc number) items (omega arith) numbered.1 (omega arith))

pub aliases_differ : (prefix number : ℕ) (items : List FromItem) → AreNumbered prefix number items → number + length items ≤ 2 ^ 64
    → differ_from [] (map (λ item. item.alias) items) ≡ true
aliases_differ prefix number [] numbered few = refl
aliases_differ prefix number (item ∷ items) numbered few =
    and_join _ _ (ap not (ap (λ a. is_in a (map (λ i. i.alias) items)) numbered.0 ∙ none_later prefix number (suc number) items (omega arith) numbered.1 (omega arith)))
    (aliases_differ prefix (suc number) items numbered.1 (omega arith))

-- names without repeats differ
not_among : (name : List ℕ) (names : List (List ℕ)) → (IsIn name names → ⊥) → is_in name names ≡ false
not_among name [] h = refl
not_among name (n ∷ ns) h = ap₂ (λ a b. a || b) (names_differ n name (λ e. h (inl e))) (not_among name ns (λ k. h (inr k)))

pub names_apart : (names : List (List ℕ)) → IsWithoutRepeats names → differ_from [] names ≡ true
names_apart [] h = refl
names_apart (n ∷ ns) h = and_join _ _ (ap not (not_among n ns h.0)) (names_apart ns h.1)

-- a place is there, and the item of its number is in reach, with its element's table
pub record IsReached (catalog : Catalog) (graph : Graph) (prefix : ℕ) (reach : Reach) (spot : Spot) : Type 0 where
  pub there : spot.element < count_of_kind graph spot.kind
  pub low : spot.item < 2 ^ 32
  pub item : FromItem
  pub found : find (λ item. bytes_eq item.alias (alias_of prefix spot.item)) reach ≡ Some item
  pub table : item.table ≡ (table_at catalog (element_at graph spot).table).name

module _ (catalog : Catalog) (graph : Graph) (prefix : ℕ) (reach : Reach) (sound : IsValidCatalog catalog) (valid : IsValidGraph catalog graph) where
  pub column_sound : (spot : Spot) → IsReached catalog graph prefix reach spot → (place : ℕ) → place < length (table_at catalog (element_at graph spot).table).columns
      → leaf_is_sound catalog reach (leaf_of catalog graph prefix spot place) ≡ true
  column_sound spot ok place below =
      let leaf : ColumnLeaf = leaf_of catalog graph prefix spot place in
      let element = element_valid catalog graph valid spot.kind spot.element ok.there in
      ap (item_has catalog leaf) ok.found ∙ ap (λ name. has_column leaf (table_named catalog name)) ok.table
      ∙ ap (has_column leaf) (table_found catalog sound (element_at graph spot).table element.table_there)
      ∙ ap (has_class leaf.class) (column_found catalog sound (element_at graph spot).table place element.table_there below)
      ∙ same_self leaf.class

module _ (catalog : Catalog) (graph : Graph) (prefix : ℕ) (names : List (List ℕ)) (parts : List Laid) (condition : Option Condition) (outputs : List Output)
    (sound : IsValidCatalog catalog) (valid : IsValidGraph catalog graph) (ok : IsBlockLaid catalog graph prefix names parts condition outputs)
    (conditions : List SqlCondition) where
  abbrev spots : List Spot
  spots = laid_spots parts

  abbrev tags : List Tags
  tags = laid_tags parts

  abbrev fulls : List Full
  fulls = fulls_of tags spots

  abbrev sources : List Source
  sources = sources_of catalog graph prefix spots

  abbrev items : List FromItem
  items = from_of sources conditions

  abbrev name_for : Spot → List ℕ
  name_for spot = (table_at catalog (element_at graph spot).table).name

  tags_sized : (some : List Laid) → ((laid : Laid) → IsIn laid some → IsLaidOut catalog graph prefix names laid) → length (laid_tags some) ≡ length (laid_spots some)
  tags_sized [] all = refl
  tags_sized (laid ∷ more) all =
      let here = all laid (inl refl) in
      let own : length laid.part.tags ≡ length laid.spots =
      here.tags_many ∙ ap length (sym (numbers_along Vertex laid.part.elements here.items here.many)) ∙ length-map (spots_along Vertex laid.part.elements here.items)
      (λ spot. spot.element) ∙ ap length (sym here.spots) in
      length-append laid.part.tags (laid_tags more) ∙ ap₂ ◌+◌ own (tags_sized more (λ l h. all l (inr h))) ∙ sym (length-append laid.spots (laid_spots more))

  sized : length tags ≡ length spots
  sized = tags_sized parts ok.parts_laid

  tags_are : map (λ f. f.tags) fulls ≡ tags
  tags_are = fulls_tags tags spots sized

  spots_are : map (λ f. f.spot) fulls ≡ spots
  spots_are = fulls_spots tags spots sized

  among_names : {X : Type 0} (same : X → X → Bool) (some all : List (List ℕ)) (ts : List Tags) (xs : List X) → ((name : List ℕ) → IsIn name some → IsIn name all)
      → agree same all ts xs ≡ true → agree same some ts xs ≡ true
  among_names same some all ts xs among h =
      of_each (λ name. all_same same (tagged name ts xs)) some
      (λ name k. each_of (λ name. all_same same (tagged name ts xs)) all h name (among name k))

  numbers_full : agree nat_eq ok.shared (map (λ f. f.tags) fulls) (map (λ f. f.spot.element) fulls) ≡ true
  numbers_full =
      ap₂ (agree nat_eq ok.shared) tags_are (sym (map-again (λ spot. spot.element) (λ f. f.spot) fulls) ∙ ap (map (λ spot. spot.element)) spots_are)
      ∙ among_names nat_eq ok.shared names tags (map (λ spot. spot.element) spots) ok.among ok.numbers

  kinds_full : agree same_kind ok.shared (map (λ f. f.tags) fulls) (map (λ f. f.spot.kind) fulls) ≡ true
  kinds_full =
      ap₂ (agree same_kind ok.shared) tags_are (sym (map-again (λ spot. spot.kind) (λ f. f.spot) fulls) ∙ ap (map (λ spot. spot.kind)) spots_are)
      ∙ among_names same_kind ok.shared names tags (map (λ spot. spot.kind) spots) ok.among ok.kinds

  planned_full : map (λ f. f.spot.item) fulls ≡ plan_of ok.shared (map (λ f. f.tags) fulls)
  planned_full =
      sym (map-again (λ spot. spot.item) (λ f. f.spot) fulls) ∙ ap (map (λ spot. spot.item)) spots_are ∙ ok.planned ∙ ap (plan_of ok.shared) (sym tags_are)

  abbrev named_places : List (Place nat_eq nat_eq_decides 0)
  named_places = map (λ spot. (spot.item, name_for spot)) spots

  named_order : IsInOrder nat_eq nat_eq_decides 0 [] named_places
  named_order =
      subst (λ l. IsInOrder nat_eq nat_eq_decides 0 [] (map (λ spot. (spot.item, name_for spot)) l)) spots_are
      (places_in_order graph [] ok.shared fulls numbers_full kinds_full planned_full nat_eq nat_eq_decides 0 (λ element. (table_at catalog element.table).name))

  names_are : map (λ item. item.table) items ≡ item_tables nat_eq nat_eq_decides 0 0 named_places
  names_are =
      from_tables sources conditions ∙ map-again (λ source. source.table) (source_of catalog graph prefix) (own_spots 0 spots)
      ∙ own_tables catalog graph prefix nat_eq nat_eq_decides 0 name_for 0 spots

  named_in : (spot : Spot) (some : List Spot) → IsIn spot some → IsIn {X = ℕ × List ℕ} (spot.item, name_for spot) (map (λ s. (s.item, name_for s)) some)
  named_in spot [] h = absurd h
  named_in spot (s ∷ ss) (inl e) = inl (ap (λ x. (x.item, name_for x)) e)
  named_in spot (s ∷ ss) (inr h) = inr (named_in spot ss h)

  abbrev no_item : FromItem
  no_item = record { table = []; alias = []; on = None }

  many_items : length items ≡ length (own_spots 0 spots)
  many_items =
      sym (length-map items (λ item. item.table)) ∙ ap length (from_tables sources conditions) ∙ length-map sources (λ source. source.table)
      ∙ length-map (own_spots 0 spots) (source_of catalog graph prefix)

  few_items : 0 + length items ≤ 2 ^ 64
  few_items = let n = own_few catalog graph prefix 0 spots in let few = ok.few in omega (arith, many_items, n, few)

  numbered : AreNumbered prefix 0 items
  numbered = items_numbered catalog graph prefix spots conditions

  pub reached : (outer : Reach) (spot : Spot) → IsIn spot spots → IsReached catalog graph prefix (items ++ outer) spot
  reached outer spot h =
      let place = looked_up nat_eq nat_eq_decides 0 named_places [] named_order (spot.item, name_for spot) (named_in spot spots h) in
      let below : spot.item < length items = subst (λ n. spot.item < n) (length-map items (λ item. item.table)) (subst (λ l. spot.item < length l) (sym names_are) place.0) in
      let zeroth : spot.item ≡ 0 + spot.item = omega arith in
      record {
        there = ok.elements spot h;
        low = (let n = own_few catalog graph prefix 0 spots in let few = ok.few in omega (arith, below, many_items, n, few));
        item = get_or items spot.item no_item;
        found = ap (λ n. find (λ item. bytes_eq item.alias (alias_of prefix n)) (items ++ outer)) zeroth
            ∙ item_found prefix items outer 0 spot.item no_item numbered below few_items;
        table = sym (get_or-map (λ item. item.table) items spot.item no_item [] below) ∙ ap (λ l. get_or l spot.item []) names_are ∙ place.1;
      }

  pub aliases_apart : differ_from [] (map (λ item. item.alias) items) ≡ true
  aliases_apart = aliases_differ prefix 0 items numbered few_items

  pub own_in : (next : ℕ) (some : List Spot) (spot : Spot) → IsIn spot (own_spots next some) → IsIn spot some
  own_in next [] spot h = absurd h
  own_in next (s ∷ ss) spot h = go (nat_eq s.item next) h (own_in (suc next) ss spot) (own_in next ss spot)
    where
      go : (b : Bool) → IsIn spot (cond b (s ∷ own_spots (suc next) ss) (own_spots next ss)) → (IsIn spot (own_spots (suc next) ss) → IsIn spot ss)
          → (IsIn spot (own_spots next ss) → IsIn spot ss) → IsIn spot (s ∷ ss)
      go true (inl e) more skip = inl e
      go true (inr k) more skip = inr (more k)
      go false k more skip = inr (skip k)

  pub tables_known : list_all (λ item. is_some (table_named catalog item.table)) items ≡ true
  tables_known =
      sym (list_all-map (λ name. is_some (table_named catalog name)) (λ item. item.table) items)
      ∙ ap (list_all (λ name. is_some (table_named catalog name))) (from_tables sources conditions ∙ map-again (λ source. source.table) (source_of catalog graph prefix)
      (own_spots 0 spots))
      ∙ of_each (λ name. is_some (table_named catalog name)) (map name_for (own_spots 0 spots))
      (λ name h. let m = in_mapped name_for name (own_spots 0 spots) h in
      ap (λ n. is_some (table_named catalog n)) (sym m.2)
      ∙ ap is_some (table_found catalog sound (element_at graph m.0).table
      (element_valid catalog graph valid m.0.kind m.0.element (ok.elements m.0 (own_in 0 spots m.0 m.1))).table_there))

  -- there is an item
  pub some_source : 1 ≤ length sources
  some_source =
      subst (λ n. 1 ≤ n) (sym (length-map (own_spots 0 spots) (source_of catalog graph prefix))) (first_item ok.shared tags spots ok.some sized ok.planned)
