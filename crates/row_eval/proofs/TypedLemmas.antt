-- The leaves of a tuple of rows that meet the types of a catalog have values of their classes.
use Rattle.std.proofs.Common.{◌≡◌, ℕ, suc, ◌<◌, cond, Bool, true, false, List, [], ◌∷◌, ◌++◌, map, length, get_or, refl, sym, ap, subst, ◌∙◌, Option, Some, None, arith, inl, inr}
use Rattle.std.specs.Prelude.{find, bytes_eq, flat_map}
use Rattle.std.specs.List.{AllByRecursion}
use Rattle.multisets.specs.Bags.{IsIn}
use Rattle.pgq_base.specs.declared.value.Class.{Class}
use Rattle.pgq_base.specs.declared.value.Class.TheVariants as class
use Rattle.pgq_base.specs.declared.value.Value.{Value}
use Rattle.pgq_base.specs.declared.value.Value.TheVariants as value
use Rattle.pgq_base.specs.Instances.{RowValues, TableRows, InstanceRows, value_at}
use Rattle.pgq_base.specs.Tables.{place_of}
use Rattle.pgq_base.specs.Values.{IsOf}
use Rattle.expr_tree.specs.Classes.{same_class}
use Rattle.graph_ast.specs.declared.catalog.Catalog.{Catalog}
use Rattle.graph_ast.specs.declared.catalog.Table.{Table}
use Rattle.graph_ast.specs.declared.catalog.Column.{Column}
use Rattle.graph_ast.specs.declared.catalog.ColumnType.{ColumnType}
use Rattle.graph_ast.specs.declared.catalog.ColumnType.TheVariants as type
use Rattle.graph_ast.specs.Types.{class_of_type}
use Rattle.graph_ast.specs.Fits.{IsWithin, IsRowOf}
use Rattle.sql_algebra.specs.declared.tree.FromItem.{FromItem}
use Rattle.sql_algebra.specs.declared.tree.ColumnLeaf.{ColumnLeaf}
use Rattle.sql_algebra.specs.Catalogs.{table_named, column_named, column_names, column_place, rows_of}
use Rattle.sql_algebra.specs.Soundness.{has_class, has_column, item_has, leaf_is_sound}
use Rattle.sql_algebra.specs.Tuples.{Bound, Tuple, tuples, tuples_under, leaf_value}
use Rattle.row_eval.specs.Typed.{MeetsTypes, IsTypedRow, IsTyped}

-- a value within a type is of the type's class, or Null
within_class : (kind : ColumnType) (v : Value) → IsWithin kind v → IsOf (class_of_type kind) v
within_class kind value.Null h = tt
within_class type.SmallInt (value.Number n) h = refl
within_class type.Integer (value.Number n) h = refl
within_class type.BigInt (value.Number n) h = refl
within_class (type.Decimal digits) (value.Number n) h = refl
within_class (type.Decimal digits) (value.Decimal d) h = refl
within_class (type.VarChar most) (value.Text t) h = refl
within_class type.Boolean (value.Truth b) h = refl
within_class type.Date (value.Date d) h = refl
within_class type.SmallInt (value.Truth b) h = absurd h
within_class type.SmallInt (value.Decimal b) h = absurd h
within_class type.SmallInt (value.Text b) h = absurd h
within_class type.SmallInt (value.Date b) h = absurd h
within_class type.Integer (value.Truth b) h = absurd h
within_class type.Integer (value.Decimal b) h = absurd h
within_class type.Integer (value.Text b) h = absurd h
within_class type.Integer (value.Date b) h = absurd h
within_class type.BigInt (value.Truth b) h = absurd h
within_class type.BigInt (value.Decimal b) h = absurd h
within_class type.BigInt (value.Text b) h = absurd h
within_class type.BigInt (value.Date b) h = absurd h
within_class (type.Decimal digits) (value.Truth b) h = absurd h
within_class (type.Decimal digits) (value.Text b) h = absurd h
within_class (type.Decimal digits) (value.Date b) h = absurd h
within_class (type.VarChar most) (value.Truth b) h = absurd h
within_class (type.VarChar most) (value.Number b) h = absurd h
within_class (type.VarChar most) (value.Decimal b) h = absurd h
within_class (type.VarChar most) (value.Date b) h = absurd h
within_class type.Boolean (value.Number b) h = absurd h
within_class type.Boolean (value.Decimal b) h = absurd h
within_class type.Boolean (value.Text b) h = absurd h
within_class type.Boolean (value.Date b) h = absurd h
within_class type.Date (value.Truth b) h = absurd h
within_class type.Date (value.Number b) h = absurd h
within_class type.Date (value.Decimal b) h = absurd h
within_class type.Date (value.Text b) h = absurd h

-- the value of the column that is found by name
column_value : (name : List ℕ) (columns : List Column) (row : RowValues) (column : Column) → IsRowOf columns row
    → find (λ (c : Column). bytes_eq c.name name) columns ≡ Some column → IsWithin column.kind (value_at row (place_of name (map (λ (c : Column). c.name) columns)))
column_value name [] row column h e = absurd cc
column_value name (c ∷ cs) [] column h e = absurd h
column_value name (c ∷ cs) (v ∷ vs) column h e = by (bytes_eq c.name name) e (column_value name cs vs column h.1)
  where
    by : (b : Bool) → cond b (Some c) (find (λ (c : Column). bytes_eq c.name name) cs) ≡ Some column
        → (find (λ (c : Column). bytes_eq c.name name) cs ≡ Some column → IsWithin column.kind (value_at vs (place_of name (map (λ (c : Column). c.name) cs))))
        → IsWithin column.kind (value_at (v ∷ vs) (cond b 0 (suc (place_of name (map (λ (c : Column). c.name) cs)))))
    by true k later = let same : c ≡ column = cc in subst (λ (x : Column). IsWithin x.kind v) same h.0.within
    by false k later = later k

-- the place of the table that is found by name
pub table_there : (name : List ℕ) (tables : List Table) (table none : Table) → find (λ (t : Table). bytes_eq t.name name) tables ≡ Some table
    → (place_of name (map (λ (t : Table). t.name) tables) < length tables) × (get_or tables (place_of name (map (λ (t : Table). t.name) tables)) none ≡ table)
table_there name [] table none e = absurd cc
table_there name (t ∷ ts) table none e = by (bytes_eq t.name name) e (table_there name ts table none)
  where
    by : (b : Bool) → cond b (Some t) (find (λ (t : Table). bytes_eq t.name name) ts) ≡ Some table
        → (find (λ (t : Table). bytes_eq t.name name) ts ≡ Some table
        → (place_of name (map (λ (t : Table). t.name) ts) < length ts) × (get_or ts (place_of name (map (λ (t : Table). t.name) ts)) none ≡ table))
        → (cond b 0 (suc (place_of name (map (λ (t : Table). t.name) ts))) < suc (length ts)) ×
        (get_or (t ∷ ts) (cond b 0 (suc (place_of name (map (λ (t : Table). t.name) ts)))) none ≡ table)
    by true k later = (omega arith, cc)
    by false k later = let h = later k in (omega (arith, h.0), h.1)

pub same_class_exact : (a b : Class) → same_class a b ≡ true → a ≡ b
same_class_exact class.Number class.Number h = refl
same_class_exact class.Number class.Text h = absurd cc
same_class_exact class.Number class.Truth h = absurd cc
same_class_exact class.Number class.Date h = absurd cc
same_class_exact class.Text class.Number h = absurd cc
same_class_exact class.Text class.Text h = refl
same_class_exact class.Text class.Truth h = absurd cc
same_class_exact class.Text class.Date h = absurd cc
same_class_exact class.Truth class.Number h = absurd cc
same_class_exact class.Truth class.Text h = absurd cc
same_class_exact class.Truth class.Truth h = refl
same_class_exact class.Truth class.Date h = absurd cc
same_class_exact class.Date class.Number h = absurd cc
same_class_exact class.Date class.Text h = absurd cc
same_class_exact class.Date class.Truth h = absurd cc
same_class_exact class.Date class.Date h = refl

classed : (leaf : ColumnLeaf) (v : Value) (o : Option Column) (column : Column) → o ≡ Some column → has_class leaf.class o ≡ true → IsWithin column.kind v → IsOf leaf.class v
classed leaf v o column e h within =
    let same : leaf.class ≡ class_of_type column.kind = same_class_exact leaf.class (class_of_type column.kind) (sym (ap (has_class leaf.class) e) ∙ h) in
    subst (λ c. IsOf c v) (sym same) (within_class column.kind v within)

of_table : (leaf : ColumnLeaf) (table : Table) (row : RowValues) → IsRowOf table.columns row → has_class leaf.class (column_named table leaf.column) ≡ true
    → IsOf leaf.class (value_at row (place_of leaf.column (map (λ (c : Column). c.name) table.columns)))
of_table leaf table row h k = by (column_named table leaf.column) refl
  where
    by : (o : Option Column) → column_named table leaf.column ≡ o → IsOf leaf.class (value_at row (place_of leaf.column (map (λ (c : Column). c.name) table.columns)))
    by None e = let never : false ≡ true = sym (ap (has_class leaf.class) e) ∙ k in absurd cc
    by (Some column) e = classed leaf _ (column_named table leaf.column) column e k (column_value leaf.column table.columns row column h e)

-- a row of an item's table is typed
pub typed_row : (catalog : Catalog) (instance : InstanceRows) → MeetsTypes catalog instance → (item : FromItem) (row : RowValues)
    → IsIn row (rows_of catalog instance item.table) → IsTypedRow catalog item row
typed_row catalog instance meets item row is_in leaf = by (table_named catalog item.table) refl
  where
    by : (o : Option Table) → table_named catalog item.table ≡ o → has_column leaf o ≡ true → IsOf leaf.class (value_at row (place_of leaf.column (column_names o)))
    by None e h = absurd cc
    by (Some table) e h =
        let there = table_there item.table catalog.tables table (record { name = []; columns = []; keys = []; references = [] }) e in
        of_table leaf table row (subst (λ (t : Table). IsRowOf t.columns row) there.1
        (meets.rows (place_of item.table (map (λ (t : Table). t.name) catalog.tables)) there.0 row is_in)) h

abbrev pub items_of : Tuple → List FromItem
items_of tuple = map (λ (b : Bound). b.item) tuple

-- a leaf that is sound among the items of a tuple has a value of its class
pub typed_leaf : (catalog : Catalog) (tuple : Tuple) (leaf : ColumnLeaf) → IsTyped catalog tuple → leaf_is_sound catalog (items_of tuple) leaf ≡ true
    → IsOf leaf.class (leaf_value catalog tuple leaf)
typed_leaf catalog [] leaf h k = absurd cc
typed_leaf catalog (b ∷ rest) leaf h k = by (bytes_eq b.item.alias leaf.alias) k (typed_leaf catalog rest leaf h.1)
  where
    by : (t : Bool) → item_has catalog leaf (cond t (Some b.item) (find (λ (i : FromItem). bytes_eq i.alias leaf.alias) (items_of rest))) ≡ true
        → (leaf_is_sound catalog (items_of rest) leaf ≡ true → IsOf leaf.class (leaf_value catalog rest leaf))
        → IsOf leaf.class (cond t (value_at b.row (column_place catalog b.item.table leaf.column)) (leaf_value catalog rest leaf))
    by true k later = h.0 leaf k
    by false k later = later k

-- ---- the tuples of an instance are typed

pub all_both : {X : Type 0} (P : X → Type 0) (xs ys : List X) → AllByRecursion P xs → AllByRecursion P ys → AllByRecursion P (xs ++ ys)
all_both P [] ys h k = k
all_both P (x ∷ xs) ys h k = (h.0, all_both P xs ys h.1 k)

each_with : (catalog : Catalog) (bound : Bound) → IsTypedRow catalog bound.item bound.row → (rests : List Tuple) → AllByRecursion (IsTyped catalog) rests
    → AllByRecursion (IsTyped catalog) (map (λ rest. bound ∷ rest) rests)
each_with catalog bound row [] h = tt
each_with catalog bound row (t ∷ ts) h = ((row, h.0), each_with catalog bound row ts h.1)

pub typed_tuples : (catalog : Catalog) (instance : InstanceRows) → MeetsTypes catalog instance → (items : List FromItem)
    → AllByRecursion (IsTyped catalog) (tuples catalog instance items)
typed_tuples catalog instance meets [] = (tt, tt)
typed_tuples catalog instance meets (item ∷ items) = each (rows_of catalog instance item.table) (λ row h. typed_row catalog instance meets item row h)
    (typed_tuples catalog instance meets items)
  where
    each : (rows : TableRows) → ((row : RowValues) → IsIn row rows → IsTypedRow catalog item row) → AllByRecursion (IsTyped catalog) (tuples catalog instance items)
        → AllByRecursion (IsTyped catalog) (flat_map (λ row. map (λ rest. record { item = item; row = row } ∷ rest) (tuples catalog instance items)) rows)
    each [] typed rests = tt
    each (row ∷ rows) typed rests =
        all_both (IsTyped catalog) (map (λ rest. record { item = item; row = row } ∷ rest) (tuples catalog instance items)) _
        (each_with catalog (record { item = item; row = row }) (typed row (inl refl)) (tuples catalog instance items) rests)
        (each rows (λ other h. typed other (inr h)) rests)

each_under : (catalog : Catalog) (outer : Tuple) → IsTyped catalog outer → (owns : List Tuple) → AllByRecursion (IsTyped catalog) owns
    → AllByRecursion (IsTyped catalog) (map (λ own. own ++ outer) owns)
each_under catalog outer h [] k = tt
each_under catalog outer h (own ∷ owns) k = (all_both (λ (b : Bound). IsTypedRow catalog b.item b.row) own outer k.0 h, each_under catalog outer h owns k.1)

pub typed_under : (catalog : Catalog) (instance : InstanceRows) → MeetsTypes catalog instance → (items : List FromItem) (outer : Tuple) → IsTyped catalog outer
    → AllByRecursion (IsTyped catalog) (tuples_under catalog instance items outer)
typed_under catalog instance meets items outer h = each_under catalog outer h (tuples catalog instance items) (typed_tuples catalog instance meets items)
