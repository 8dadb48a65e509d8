-- The tuples of a FROM are lists of rows, and what they show at the places of a block.
use Rattle.std.proofs.Common.{◌≡◌, ◌≢◌, ℕ, zero, suc, ◌+◌, ◌<◌, ◌≤◌, ◌^◌, Bool, true, false, cond, List, [], ◌∷◌, ◌++◌, map, length, get_or, refl, sym, ap, ap₂, subst, ◌∙◌, inl}
use Rattle.std.proofs.Common.{inr, Some, arith, bytes_eq, decimal}
use Rattle.std.specs.Prelude.{find}
use Rattle.std.proofs.lemmas.Fmt.{decimal_injective}
use Rattle.std.proofs.lemmas.Slice.Eq.{bytes_eq-Decides}
use Rattle.std.proofs.Math.ListN.{length-map}
use Rattle.std.proofs.lemmas.List.{get_or-map}
use Rattle.pgq_base.specs.Instances.{RowValues, TableRows, InstanceRows, value_at, rows_at}
use Rattle.pgq_base.specs.Tables.{place_of}
use Rattle.multisets.specs.Bags.{IsIn, IsWithoutRepeats}
use Rattle.multisets.proofs.Maps.{in_flat_map}
use Rattle.graph_ast.specs.declared.catalog.Catalog.{Catalog}
use Rattle.graph_ast.specs.declared.catalog.Table.{Table}
use Rattle.graph_ast.specs.declared.catalog.ColumnType.TheVariants.{Boolean}
use Rattle.graph_ast.specs.Lookups.{table_at, column_at}
use Rattle.graph_ast.specs.Catalogs.{IsValidCatalog}
use Rattle.graph_meaning.specs.Lists.{combinations}
use Rattle.sql_algebra.specs.declared.tree.FromItem.{FromItem}
use Rattle.sql_algebra.specs.declared.tree.ColumnLeaf.{ColumnLeaf}
use Rattle.sql_algebra.specs.Catalogs.{table_named, column_place, rows_of}
use Rattle.sql_algebra.specs.Tuples.{Tuple, tuples, tuples_under, leaf_value}
use Rattle.path_lowering.specs.Emitted.{alias_of}
use Rattle.path_lowering.proofs.Facts.{in_at}
use Rattle.path_lowering.proofs.Lists.{flat_map-each, map-again, map-flat_map}

-- each item with its row
abbrev pub bound_to : List FromItem → List RowValues → Tuple
bound_to [] rows = []
bound_to (item ∷ items) [] = []
bound_to (item ∷ items) (row ∷ rows) = record { item = item; row = row } ∷ bound_to items rows

pub bound_rows : (items : List FromItem) (rows : List RowValues) → length rows ≡ length items → map (λ bound. bound.row) (bound_to items rows) ≡ rows
bound_rows [] [] many = refl
bound_rows [] (row ∷ rows) many = absurd (omega arith)
bound_rows (item ∷ items) [] many = absurd (omega arith)
bound_rows (item ∷ items) (row ∷ rows) many = ap (λ l. row ∷ l) (bound_rows items rows (omega arith))

abbrev pub tables_of : Catalog → InstanceRows → List FromItem → List TableRows
tables_of catalog instance items = map (λ item. rows_of catalog instance item.table) items

pub tuples_are : (catalog : Catalog) (instance : InstanceRows) (items : List FromItem) → tuples catalog instance items
    ≡ map (bound_to items) (combinations (tables_of catalog instance items))
tuples_are catalog instance [] = refl
tuples_are catalog instance (item ∷ items) =
    flat_map-each _ _ (rows_of catalog instance item.table)
    (λ row h. ap (map (λ rest. record { item = item; row = row } ∷ rest)) (tuples_are catalog instance items)
    ∙ map-again (λ rest. record { item = item; row = row } ∷ rest) (bound_to items) (combinations (tables_of catalog instance items))
    ∙ sym (map-again (bound_to (item ∷ items)) (λ rest. row ∷ rest) (combinations (tables_of catalog instance items))))
    ∙ sym (map-flat_map (bound_to (item ∷ items)) (λ row. map (λ rest. row ∷ rest) (combinations (tables_of catalog instance items))) (rows_of catalog instance item.table))

pub tuples_under_are : (catalog : Catalog) (instance : InstanceRows) (items : List FromItem) (outer : Tuple)
    → tuples_under catalog instance items outer ≡ map (λ rows. bound_to items rows ++ outer) (combinations (tables_of catalog instance items))
tuples_under_are catalog instance items outer =
    ap (map (λ own. own ++ outer)) (tuples_are catalog instance items) ∙ map-again (λ own. own ++ outer) (bound_to items) (combinations (tables_of catalog instance items))

in_mapped : {A B : Type 0} (f : A → B) (y : B) (xs : List A) → IsIn y (map f xs) → (x : A) × IsIn x xs × (f x ≡ y)
in_mapped f y [] h = absurd h
in_mapped f y (x ∷ xs) (inl e) = (x, inl refl, e)
in_mapped f y (x ∷ xs) (inr h) = let m = in_mapped f y xs h in (m.0, inr m.1, m.2)

-- a combination has a member of each list
pub combination_many : {X : Type 0} (lists : List (List X)) (xs : List X) → IsIn xs (combinations lists) → length xs ≡ length lists
combination_many [] xs (inl e) = ap length (sym e)
combination_many [] xs (inr h) = absurd h
combination_many (l ∷ ls) xs h =
    let m = in_flat_map (λ x. map (λ rest. x ∷ rest) (combinations ls)) xs l h in
    let n = in_mapped (λ rest. m.0 ∷ rest) xs (combinations ls) m.2 in
    ap length (sym n.2) ∙ ap (λ k. suc k) (combination_many ls n.0 n.1)

pub combination_at : {X : Type 0} (lists : List (List X)) (xs : List X) → IsIn xs (combinations lists) → (k : ℕ) (d : X) → k < length lists
    → IsIn (get_or xs k d) (get_or lists k [])
combination_at [] xs h k d below = absurd (omega arith)
combination_at {X} (l ∷ ls) xs h k d below = go k (λ rest m j small. combination_at ls rest m j d small) below
  where
    first : (x : X) × IsIn x l × IsIn xs (map (λ rest. x ∷ rest) (combinations ls))
    first = in_flat_map (λ x. map (λ rest. x ∷ rest) (combinations ls)) xs l h

    second : (rest : List X) × IsIn rest (combinations ls) × (first.0 ∷ rest ≡ xs)
    second = in_mapped (λ rest. first.0 ∷ rest) xs (combinations ls) first.2

    go : (k : ℕ) → ((rest : List X) → IsIn rest (combinations ls) → (j : ℕ) → j < length ls → IsIn (get_or rest j d) (get_or ls j []))
        → k < length (l ∷ ls) → IsIn (get_or xs k d) (get_or (l ∷ ls) k [])
    go zero more below = subst (λ ys. IsIn (get_or ys zero d) l) second.2 first.1
    go (suc k) more below = subst (λ ys. IsIn (get_or ys (suc k) d) (get_or ls k [])) second.2 (more second.0 second.1 k (omega arith))

-- names
pub name_itself : (name : List ℕ) → bytes_eq name name ≡ true
name_itself name = (bytes_eq-Decides name name).1 refl

pub names_differ : (a b : List ℕ) → a ≢ b → bytes_eq a b ≡ false
names_differ a b h = go (bytes_eq a b) refl
  where
    go : (t : Bool) → bytes_eq a b ≡ t → t ≡ false
    go true e = absurd (h ((bytes_eq-Decides a b).0 e))
    go false e = refl

-- names that differ are found at their own places
pub place_of-own : (names : List (List ℕ)) (i : ℕ) → IsWithoutRepeats names → i < length names → place_of (get_or names i []) names ≡ i
place_of-own [] i apart h = absurd (omega arith)
place_of-own (n ∷ names) zero apart h = ap (λ b. cond b 0 (suc (place_of n names))) (name_itself n)
place_of-own (n ∷ names) (suc i) apart h =
    ap (λ b. cond b 0 (suc (place_of (get_or names i []) names)))
    (names_differ n (get_or names i []) (λ e. apart.0 (subst (λ k. IsIn k names) (sym e) (in_at names i [] (omega arith)))))
    ∙ ap (λ k. suc k) (place_of-own names i apart.1 (omega arith))

find-own : (tables : List Table) (i : ℕ) (d : Table) → IsWithoutRepeats (map (λ t. t.name) tables) → i < length tables
    → find (λ t. bytes_eq t.name (get_or tables i d).name) tables ≡ Some (get_or tables i d)
find-own [] i d apart h = absurd (omega arith)
find-own (t ∷ tables) zero d apart h = ap (λ b. cond b (Some t) (find (λ u. bytes_eq u.name t.name) tables)) (name_itself t.name)
find-own (t ∷ tables) (suc i) d apart h =
    ap (λ b. cond b (Some t) (find (λ u. bytes_eq u.name (get_or tables i d).name) tables))
    (names_differ t.name (get_or tables i d).name
    (λ e. apart.0 (subst (λ k. IsIn k (map (λ u. u.name) tables)) (sym e) (Rattle.path_lowering.proofs.Facts.in_map (λ u. u.name) (get_or tables i d) tables
    (in_at tables i d (omega arith))))))
    ∙ find-own tables i d apart.1 (omega arith)

module _ (catalog : Catalog) (valid : IsValidCatalog catalog) (instance : InstanceRows) where
  abbrev no_table : Table
  no_table = record { name = []; columns = []; keys = []; references = [] }

  table_found : (place : ℕ) → place < length catalog.tables → table_named catalog (table_at catalog place).name ≡ Some (table_at catalog place)
  table_found place h = find-own catalog.tables place no_table valid.table_names h

  -- the rows of a table by its name
  pub rows_found : (place : ℕ) → place < length catalog.tables → rows_of catalog instance (table_at catalog place).name ≡ rows_at instance place
  rows_found place h =
      ap (rows_at instance)
      (ap (λ name. place_of name (map (λ t. t.name) catalog.tables)) (sym (get_or-map (λ t. t.name) catalog.tables place no_table [] h))
      ∙ place_of-own (map (λ t. t.name) catalog.tables) place valid.table_names (rw length-map h))

  -- the place of a column by its name
  pub column_found : (place column : ℕ) → place < length catalog.tables → column < length (table_at catalog place).columns
      → column_place catalog (table_at catalog place).name (column_at (table_at catalog place) column).name ≡ column
  column_found place column h k =
      ap (λ t. place_of (column_at (table_at catalog place) column).name (Rattle.sql_algebra.specs.Catalogs.column_names t)) (table_found place h)
      ∙ ap (λ name. place_of name (map (λ c. c.name) (table_at catalog place).columns))
      (sym (get_or-map (λ c. c.name) (table_at catalog place).columns column (record { name = []; kind = Boolean; not_null = false }) [] k))
      ∙ place_of-own (map (λ c. c.name) (table_at catalog place).columns) column (valid.tables (table_at catalog place) (in_at catalog.tables place no_table h)).column_names
      (rw length-map k)

-- items with the aliases of their numbers
abbrev pub AreNumbered : ℕ → ℕ → List FromItem → Type 0
AreNumbered prefix number [] = Unit {0}
AreNumbered prefix number (item ∷ items) = (item.alias ≡ alias_of prefix number) × AreNumbered prefix (suc number) items

alias_differs : (prefix a b : ℕ) → a < 2 ^ 64 → b < 2 ^ 64 → a ≢ b → bytes_eq (alias_of prefix a) (alias_of prefix b) ≡ false
alias_differs prefix a b p q h = names_differ (alias_of prefix a) (alias_of prefix b) (λ e. let k : decimal a ≡ decimal b = cc in h (decimal_injective a b p q k))

-- a leaf of an item's alias is the value of the item's row
pub leaf_found : (catalog : Catalog) (prefix : ℕ) (outer : Tuple) (items : List FromItem) (rows : List RowValues) (number k : ℕ) (d : FromItem) (leaf : ColumnLeaf)
    → AreNumbered prefix number items → length rows ≡ length items → k < length items → number + length items ≤ 2 ^ 64 → leaf.alias ≡ alias_of prefix (number + k)
    → leaf_value catalog (bound_to items rows ++ outer) leaf ≡ value_at (get_or rows k []) (column_place catalog (get_or items k d).table leaf.column)
leaf_found catalog prefix outer [] rows number k d leaf numbered many below few is = absurd (omega arith)
leaf_found catalog prefix outer (item ∷ items) [] number k d leaf numbered many below few is = absurd (omega arith)
leaf_found catalog prefix outer (item ∷ items) (row ∷ rows) number zero d leaf numbered many below few is =
    let e : item.alias ≡ leaf.alias = numbered.0 ∙ ap (alias_of prefix) (omega arith) ∙ sym is in
    ap (λ b. cond b (value_at row (column_place catalog item.table leaf.column)) (leaf_value catalog (bound_to items rows ++ outer) leaf))
    ((bytes_eq-Decides item.alias leaf.alias).1 e)
leaf_found catalog prefix outer (item ∷ items) (row ∷ rows) number (suc k) d leaf numbered many below few is =
    ap (λ b. cond b (value_at row (column_place catalog item.table leaf.column)) (leaf_value catalog (bound_to items rows ++ outer) leaf))
    (ap₂ bytes_eq numbered.0 is ∙ alias_differs prefix number (number + suc k) (omega arith) (omega arith) (omega arith))
    ∙ leaf_found catalog prefix outer items rows (suc number) k d leaf numbered.1 (omega arith) (omega arith) (omega arith) (is ∙ ap (alias_of prefix) (omega arith))

-- aliases with one letter leave those with another one to the tuple around
pub passed_over : (catalog : Catalog) (prefix : ℕ) (outer : Tuple) (items : List FromItem) (rows : List RowValues) (at : ℕ) → AreNumbered prefix at items
    → (leaf : ColumnLeaf) (letter number : ℕ) → leaf.alias ≡ alias_of letter number → letter ≢ prefix → leaf_value catalog (bound_to items rows ++ outer) leaf
    ≡ leaf_value catalog outer leaf
passed_over catalog prefix outer [] rows at numbered leaf letter number is differ = refl
passed_over catalog prefix outer (item ∷ items) [] at numbered leaf letter number is differ = refl
passed_over catalog prefix outer (item ∷ items) (row ∷ rows) at numbered leaf letter number is differ =
    ap (λ b. cond b (value_at row (column_place catalog item.table leaf.column)) (leaf_value catalog (bound_to items rows ++ outer) leaf))
    (ap₂ bytes_eq numbered.0 is ∙ names_differ (alias_of prefix at) (alias_of letter number) (λ e. let k : prefix ≡ letter = cc in differ (sym k)))
    ∙ passed_over catalog prefix outer items rows (suc at) numbered.1 leaf letter number is differ
