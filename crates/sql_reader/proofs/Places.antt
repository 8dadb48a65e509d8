-- Items in reach, as the text and as the query have them.
use Rattle.std.proofs.Common.{◌≡◌, ℕ, Bool, true, false, not, ◌&&◌, ◌||◌, cond, List, [], ◌∷◌, ◌++◌, map, refl, sym, ap, ◌∙◌, Some, is_some, option_map, bytes_eq}
use Rattle.std.specs.List.{list_all, find}
use Rattle.std.specs.Cmp.Lexicographic.{nat_list_eq_equiv}
use Rattle.graph_ast.specs.declared.catalog.Catalog.{Catalog}
use Rattle.sql_algebra.specs.declared.tree.FromItem.{FromItem}
use Rattle.sql_algebra.specs.declared.text.ItemText.{ItemText}
use Rattle.sql_algebra.specs.declared.text.ColumnText.{ColumnText}
use Rattle.sql_algebra.specs.Catalogs.{table_named}
use Rattle.sql_algebra.specs.Soundness as s
use Rattle.sql_algebra.specs.Soundness.{is_in, differ_from}
use Rattle.first_faults.specs.Faults.{when}
use Rattle.pgq_base.specs.declared.code.Code.TheVariants as code
use Rattle.sql_reader.specs.Reaches.{Placed, Reach, placed, items_placed, item_of}
use Rattle.sql_reader.specs.Names.{repeated_aliases, repeated_columns, unknown_table}
use Rattle.sql_reader.specs.Phases.{chain_to}
use Rattle.sql_reader.specs.Queries.{items_made}
use Rattle.sql_reader.proofs.Clean.{no_fault, no_fault_append, no_fault_when, no_fault_unless}

-- an item of a query: its alias, and the table that it names
abbrev pub item_reached : Catalog → FromItem → Placed
item_reached catalog item = record { alias = item.alias; table = table_named catalog item.table }

abbrev pub reached : Catalog → s.Reach → Reach
reached catalog items = map (item_reached catalog) items

pub reached_append : (catalog : Catalog) (xs ys : s.Reach) → reached catalog (xs ++ ys) ≡ reached catalog xs ++ reached catalog ys
reached_append catalog [] ys = refl
reached_append catalog (x ∷ xs) ys = ap (λ l. item_reached catalog x ∷ l) (reached_append catalog xs ys)

pub find_reached : (catalog : Catalog) (alias : List ℕ) (items : s.Reach) → item_of (reached catalog items) alias
    ≡ option_map (item_reached catalog) (find (λ item. bytes_eq item.alias alias) items)
find_reached catalog alias [] = refl
find_reached catalog alias (x ∷ items) = by (bytes_eq x.alias alias) (find_reached catalog alias items)
  where
    by : (b : Bool) → item_of (reached catalog items) alias ≡ option_map (item_reached catalog) (find (λ item. bytes_eq item.alias alias) items)
        → cond b (Some (item_reached catalog x)) (item_of (reached catalog items) alias)
        ≡ option_map (item_reached catalog) (cond b (Some x) (find (λ item. bytes_eq item.alias alias) items))
    by true e = refl
    by false e = e

-- the items that are made stand for those of the text
pub made_reached : (catalog : Catalog) (outer before : Reach) (items : List ItemText) → reached catalog (items_made catalog outer before items) ≡ items_placed catalog items
made_reached catalog outer before [] = refl
made_reached catalog outer before (x ∷ items) = ap (λ l. placed catalog x ∷ l) (made_reached catalog outer (chain_to catalog before x x.on) items)

-- ---- all tables are known

abbrev pub are_known : Reach → Bool
are_known reach = list_all (λ (p : Placed). is_some p.table) reach

pub known_append : (xs ys : Reach) → are_known xs ≡ true → are_known ys ≡ true → are_known (xs ++ ys) ≡ true
known_append [] ys h g = g
known_append (x ∷ xs) ys h g = by (λ k. known_append xs ys k g) (is_some x.table) h
  where
    by : (are_known xs ≡ true → are_known (xs ++ ys) ≡ true) → (b : Bool) → (b && are_known xs) ≡ true → (b && are_known (xs ++ ys)) ≡ true
    by rest true k = rest k
    by rest false k = k

-- ---- names that differ

move : (e x y z d f : Bool) → d ≡ (not z && f) → (not (e || x) && (not y && d)) ≡ (not (e || z) && (not x && (not y && f)))
move true x y z d f h = refl
move false x y true d f h = ap (λ b. not x && (not y && b)) h ∙ by x y
  where
    by : (x y : Bool) → (not x && (not y && false)) ≡ false
    by true y = refl
    by false true = refl
    by false false = refl
move false x y false d f h = ap (λ b. not x && (not y && b)) h

-- a list of names with one more among them
pub differ_with : (name : List ℕ) (xs ys : List (List ℕ)) → ((n : List ℕ) → is_in n ys ≡ (bytes_eq name n || is_in n xs)) → (names : List (List ℕ))
    → differ_from ys names ≡ (not (is_in name names) && differ_from xs names)
differ_with name xs ys h [] = refl
differ_with name xs ys h (n ∷ names) =
    ap (λ b. not b && (not (is_in n names) && differ_from ys names)) (h n ∙ ap (λ b. b || is_in n xs) (nat_list_eq_equiv.symm name n))
    ∙ move (bytes_eq n name) (is_in n xs) (is_in n names) (is_in name names) (differ_from ys names) (differ_from xs names) (differ_with name xs ys h names)

or_middle : (a b c : Bool) → (a || (b || c)) ≡ (b || (a || c))
or_middle true true c = refl
or_middle true false c = refl
or_middle false b c = refl

pub is_in_with : (n name : List ℕ) (xs ys : List (List ℕ)) → is_in n (xs ++ name ∷ ys) ≡ (bytes_eq name n || is_in n (xs ++ ys))
is_in_with n name [] ys = refl
is_in_with n name (x ∷ xs) ys = ap (λ b. bytes_eq x n || b) (is_in_with n name xs ys) ∙ or_middle (bytes_eq x n) (bytes_eq name n) (is_in n (xs ++ ys))

abbrev pub aliases : Reach → List (List ℕ)
aliases reach = map (λ (p : Placed). p.alias) reach

pub found_alias : (alias : List ℕ) (reach : Reach) → is_some (item_of reach alias) ≡ is_in alias (aliases reach)
found_alias alias [] = refl
found_alias alias (p ∷ reach) = by (bytes_eq p.alias alias) (found_alias alias reach)
  where
    by : (b : Bool) → is_some (item_of reach alias) ≡ is_in alias (aliases reach) → is_some (cond b (Some p) (item_of reach alias)) ≡ (b || is_in alias (aliases reach))
    by true e = refl
    by false e = e

aliases_append : (xs ys : Reach) → aliases (xs ++ ys) ≡ aliases xs ++ aliases ys
aliases_append [] ys = refl
aliases_append (x ∷ xs) ys = ap (λ l. x.alias ∷ l) (aliases_append xs ys)

pushed : (p : Placed) (before outer : Reach) → aliases ((before ++ p ∷ []) ++ outer) ≡ aliases before ++ p.alias ∷ aliases outer
pushed p [] outer = refl
pushed p (x ∷ before) outer = ap (λ l. x.alias ∷ l) (pushed p before outer)

abbrev pub names_of : List ItemText → List (List ℕ)
names_of items = map (λ (i : ItemText). i.alias.name) items

pub aliases_differ : (catalog : Catalog) (outer before : Reach) (items : List ItemText)
    → no_fault (repeated_aliases catalog outer before items) ≡ differ_from (aliases (before ++ outer)) (names_of items)
aliases_differ catalog outer before [] = refl
aliases_differ catalog outer before (x ∷ items) =
    let name : List ℕ = x.alias.name in
    let p : Placed = placed catalog x in
    no_fault_append (when (is_some (item_of (before ++ outer) name)) code.DuplicateColumnName x.alias.span) (repeated_aliases catalog outer (before ++ p ∷ []) items)
    ∙ ap (λ b. b && no_fault (repeated_aliases catalog outer (before ++ p ∷ []) items))
    (no_fault_when (is_some (item_of (before ++ outer) name)) code.DuplicateColumnName x.alias.span ∙ ap not (found_alias name (before ++ outer)))
    ∙ ap (λ b. not (is_in name (aliases (before ++ outer))) && b) (aliases_differ catalog outer (before ++ p ∷ []) items
    ∙ differ_with name (aliases (before ++ outer)) (aliases ((before ++ p ∷ []) ++ outer))
    (λ n. ap (is_in n) (pushed p before outer) ∙ is_in_with n name (aliases before) (aliases outer) ∙ ap (λ l. bytes_eq name n || is_in n l) (sym (aliases_append before outer)))
    (names_of items))

append_nil : {X : Type 0} (xs : List X) → xs ++ [] ≡ xs
append_nil [] = refl
append_nil (x ∷ xs) = ap (λ l. x ∷ l) (append_nil xs)

pub columns_differ : (before : List (List ℕ)) (columns : List ColumnText) → no_fault (repeated_columns before columns)
    ≡ differ_from before (map (λ (c : ColumnText). c.name.name) columns)
columns_differ before [] = refl
columns_differ before (x ∷ columns) =
    let name : List ℕ = x.name.name in
    no_fault_append (when (is_in name before) code.DuplicateColumnName x.name.span) (repeated_columns (before ++ name ∷ []) columns)
    ∙ ap (λ b. b && no_fault (repeated_columns (before ++ name ∷ []) columns)) (no_fault_when (is_in name before) code.DuplicateColumnName x.name.span)
    ∙ ap (λ b. not (is_in name before) && b) (columns_differ (before ++ name ∷ []) columns
    ∙ differ_with name before (before ++ name ∷ []) (λ n. is_in_with n name before [] ∙ ap (λ l. bytes_eq name n || is_in n l) (append_nil before))
    (map (λ (c : ColumnText). c.name.name) columns))

-- each FROM names a table
pub tables_known : (catalog : Catalog) (items : List ItemText) → list_all (λ (i : ItemText). no_fault (unknown_table catalog i)) items ≡ are_known (items_placed catalog items)
tables_known catalog [] = refl
tables_known catalog (x ∷ items) =
    ap (λ b. b && list_all (λ (i : ItemText). no_fault (unknown_table catalog i)) items)
    (no_fault_unless (is_some (table_named catalog x.table.name)) code.UnknownTable x.table.span)
    ∙ ap (λ b. is_some (table_named catalog x.table.name) && b) (tables_known catalog items)
