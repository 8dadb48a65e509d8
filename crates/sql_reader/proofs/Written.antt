-- A text that tells a query, but for the classes of its leaves, writes that query down where it is sound: the classes are the catalog's.
use Rattle.std.specs.Prelude.{find, bytes_eq, option_map}
use Rattle.std.proofs.Common.{◌≡◌, Bool, true, List, [], ◌∷◌, ◌++◌, Option, Some, None, map, refl, sym, ap, ◌∙◌, subst}
use Rattle.std.specs.List.{list_all}
use Rattle.pgq_base.specs.declared.value.Class.{Class}
use Rattle.pgq_base.specs.declared.value.Class.TheVariants.{Truth}
use Rattle.expr_tree.specs.declared.tree.Expr.{Expr, Expr-F, map-Expr}
use Rattle.expr_tree.specs.declared.tree.Expr.TheVariants as e
use Rattle.expr_tree.specs.Classes.{same_class, class_in}
use Rattle.expr_tree.specs.Mapping.{mapped, map_step}
use Rattle.expr_tree.proofs.Folds.{fused}
use Rattle.expr_tree.proofs.MapLemmas.{mapped-Lit, mapped-Null, mapped-Leaf, mapped-Compare, mapped-All, mapped-Any, mapped-Not, mapped-Is, mapped-InList, mapped-Between}
use Rattle.expr_tree.proofs.MapLemmas.{mapped-Coalesce}
use Rattle.graph_ast.specs.declared.catalog.Catalog.{Catalog}
use Rattle.graph_ast.specs.declared.catalog.Table.{Table}
use Rattle.graph_ast.specs.declared.catalog.Column.{Column}
use Rattle.condition_grammar.specs.declared.spanned.Spanned.{Spanned}
use Rattle.sql_algebra.specs.declared.tree.ColumnLeaf.{ColumnLeaf}
use Rattle.sql_algebra.specs.declared.tree.FromItem.{FromItem}
use Rattle.sql_algebra.specs.declared.tree.SelectColumn.{SelectColumn}
use Rattle.sql_algebra.specs.declared.tree.SqlQuery.{SqlQuery}
use Rattle.sql_algebra.specs.declared.tree.Select.{Select, Select-F, out-Select, roll-Select, roll-out-Select, fold-roll-Select}
use Rattle.sql_algebra.specs.declared.tree.Conjunct.{Conjunct, Conjunct-F, out-Conjunct, roll-Conjunct, roll-out-Conjunct, fold-roll-Conjunct}
use Rattle.sql_algebra.specs.declared.tree.Conjunct.TheVariants as c
use Rattle.sql_algebra.specs.declared.text.SqlText.{SqlText}
use Rattle.sql_algebra.specs.declared.text.SelectText.{SelectText, SelectText-F, ind-SelectText, map-SelectText, fold-roll-SelectText}
use Rattle.sql_algebra.specs.declared.text.ConjunctText.{ConjunctText, ConjunctText-F, map-ConjunctText, fold-roll-ConjunctText}
use Rattle.sql_algebra.specs.declared.text.ColumnText.{ColumnText}
use Rattle.sql_algebra.specs.declared.text.ItemText.{ItemText}
use Rattle.sql_algebra.specs.declared.text.ColumnRef.{ColumnRef}
use Rattle.sql_algebra.specs.Catalogs.{table_named, column_named}
use Rattle.sql_algebra.specs.Meant.{bare_leaf, bare_value, bare_column, bare_item, bare_conjunct_step, bare_select_step, bare_conjunct, bare_select, told_value, told_column}
use Rattle.sql_algebra.specs.Meant.{told_item, told_conjunct_step, told_select_step, told_conjunct, told_select}
use Rattle.sql_algebra.specs.Soundness as s
use Rattle.sql_algebra.specs.Soundness.{value_is_sound, condition_is_sound, on_is_sound, ons_are_sound, leaf_class, IsSound}
use Rattle.sql_algebra.proofs.Spaced.{both}
use Rattle.sql_algebra.proofs.OneMeaning.{column_class, item_class, table_class, with_class, value_again}
use Rattle.sql_algebra.proofs.OneQuery.{heads, tails, parts_of, conjunct_sound, sound_conjunct, sound_select, bare_of_conjunct, bare_of_select, all_sound}
use Rattle.sql_reader.specs.Reaches.{Placed, Reach, placed, reach_within}
use Rattle.sql_reader.specs.Types as t
use Rattle.sql_reader.specs.Types.{class_at, class_in_table}
use Rattle.sql_reader.specs.Phases.{chain_to}
use Rattle.sql_reader.specs.Queries as queries
use Rattle.sql_reader.specs.Queries.{leaf_made, value_made, column_made, item_made, items_made, conjunct_made, select_made, query_of}
use Rattle.sql_reader.proofs.Places.{item_reached, reached, reached_append, find_reached, made_reached}

-- ---- the class of a leaf

in_table : (leaf : ColumnRef) (o : Option Table) → class_in_table leaf o ≡ table_class leaf.column.name o
in_table leaf None = refl
in_table leaf (Some table) = by (column_named table leaf.column.name)
  where
    by : (o : Option Column) → t.class_of_column o ≡ column_class o
    by None = refl
    by (Some column) = refl

in_item : (catalog : Catalog) (leaf : ColumnRef) (o : Option FromItem) → class_at leaf (option_map (item_reached catalog) o) ≡ item_class catalog leaf.column.name o
in_item catalog leaf None = refl
in_item catalog leaf (Some item) = in_table leaf (table_named catalog item.table)

-- ---- expressions

module _ (catalog : Catalog) (reach : s.Reach) where
  abbrev seen : Reach
  seen = reached catalog reach

  abbrev again : ColumnLeaf → Expr ColumnLeaf
  again = with_class catalog reach

  abbrev told : ColumnRef → Expr ColumnLeaf
  told l = bare_leaf l.alias.name l.column.name

  abbrev leaf_with : ColumnRef → Class → Expr ColumnLeaf
  leaf_with l class = e.Leaf (record { alias = l.alias.name; column = l.column.name; class = class })

  class_again : (l : ColumnRef) → item_class catalog l.column.name (find (λ item. bytes_eq item.alias l.alias.name) reach) ≡ t.leaf_class seen l
  class_again l = sym (ap (class_at l) (find_reached catalog l.alias.name reach) ∙ in_item catalog l (find (λ item. bytes_eq item.alias l.alias.name) reach))

  each : (x : Expr-F ColumnRef (Expr ColumnLeaf))
      → mapped again (map_step told x) ≡ map_step (leaf_made seen) (map-Expr ColumnRef (Expr ColumnLeaf) (Expr ColumnLeaf) (mapped again) x)
  each (Expr-F.Lit v) = mapped-Lit again (e.Lit v) v refl
  each (Expr-F.Null k) = mapped-Null again (e.Null k) k refl
  each (Expr-F.Leaf l) = mapped-Leaf again (told l) _ refl ∙ ap (leaf_with l) (class_again l)
  each (Expr-F.Compare o a b) = mapped-Compare again (e.Compare o a b) o a b refl
  each (Expr-F.All es) = mapped-All again (e.All es) es refl
  each (Expr-F.Any es) = mapped-Any again (e.Any es) es refl
  each (Expr-F.Not a) = mapped-Not again (e.Not a) a refl
  each (Expr-F.Is a k n) = mapped-Is again (e.Is a k n) a k n refl
  each (Expr-F.InList a es n) = mapped-InList again (e.InList a es n) a es n refl
  each (Expr-F.Between a b d n) = mapped-Between again (e.Between a b d n) a b d n refl
  each (Expr-F.Coalesce es) = mapped-Coalesce again (e.Coalesce es) es refl

  value_back : (v : Spanned ColumnRef) (x : Expr ColumnLeaf) → value_is_sound catalog reach x ≡ true → told_value v ≡ bare_value x → value_made seen v ≡ x
  value_back v x h same = sym (fused (mapped again) (map_step told) (map_step (leaf_made seen)) each v.tree) ∙ ap (mapped again) same ∙ value_again catalog reach x h

  members_back : (vs : List (Spanned ColumnRef)) (xs : List (Expr ColumnLeaf)) → list_all (condition_is_sound catalog reach) xs ≡ true → map told_value vs ≡ map bare_value xs
      → map (value_made seen) vs ≡ xs
  members_back [] [] h same = refl
  members_back [] (x ∷ xs) h same = absurd cc
  members_back (v ∷ vs) [] h same = absurd cc
  members_back (v ∷ vs) (x ∷ xs) h same =
      let p = both (condition_is_sound catalog reach x) (list_all (condition_is_sound catalog reach) xs) h in
      ap (λ z. z ∷ map (value_made seen) vs) (value_back v x (both (value_is_sound catalog reach x) (same_class Truth (class_in leaf_class x)) p.0).0
      (heads (told_value v) (bare_value x) (map told_value vs) (map bare_value xs) same))
      ∙ ap (λ l. x ∷ l) (members_back vs xs p.1 (tails (told_value v) (bare_value x) (map told_value vs) (map bare_value xs) same))

  on_back : (o : Option (List (Spanned ColumnRef))) (u : Option (List (Expr ColumnLeaf))) → on_is_sound catalog reach u ≡ true
      → option_map (map told_value) o ≡ option_map (map bare_value) u
      → option_map (map (value_made seen)) o ≡ u
  on_back None None h same = refl
  on_back None (Some xs) h same = absurd cc
  on_back (Some vs) None h same = absurd cc
  on_back (Some vs) (Some xs) h same = let inner : map told_value vs ≡ map bare_value xs = cc in ap Some (members_back vs xs h inner)

  columns_back : (vs : List ColumnText) (xs : List SelectColumn) → list_all (λ (k : SelectColumn). value_is_sound catalog reach k.value) xs ≡ true
      → map told_column vs ≡ map bare_column xs → map (column_made seen) vs ≡ xs
  columns_back [] [] h same = refl
  columns_back [] (x ∷ xs) h same = absurd cc
  columns_back (v ∷ vs) [] h same = absurd cc
  columns_back (v ∷ vs) (x ∷ xs) h same =
      let p = both (value_is_sound catalog reach x.value) (list_all (λ (k : SelectColumn). value_is_sound catalog reach k.value) xs) h in
      let first : told_column v ≡ bare_column x = heads (told_column v) (bare_column x) (map told_column vs) (map bare_column xs) same in
      ap (λ w. let z : SelectColumn = record { value = w; name = v.name.name } in z ∷ map (column_made seen) vs)
      (value_back v.value x.value p.0 (ap (λ (k : SelectColumn). k.value) first))
      ∙ ap (λ n. let z : SelectColumn = record { value = x.value; name = n } in z ∷ map (column_made seen) vs) (ap (λ (k : SelectColumn). k.name) first)
      ∙ ap (λ l. x ∷ l) (columns_back vs xs p.1 (tails (told_column v) (bare_column x) (map told_column vs) (map bare_column xs) same))

-- ---- FROM

module _ (catalog : Catalog) where
  placed_back : (i : ItemText) (x : FromItem) → told_item i ≡ bare_item x → placed catalog i ≡ item_reached catalog x
  placed_back i x same =
      ap (λ a. let z : Placed = record { alias = a; table = table_named catalog i.table.name } in z) (ap (λ (k : FromItem). k.alias) same)
      ∙ ap (λ n. let z : Placed = record { alias = x.alias; table = table_named catalog n } in z) (ap (λ (k : FromItem). k.table) same)

  chain_back : (before : s.Reach) (i : ItemText) (x : FromItem) → placed catalog i ≡ item_reached catalog x
      → (o : Option (List (Spanned ColumnRef))) (u : Option (List (Expr ColumnLeaf)))
      → option_map (map told_value) o ≡ option_map (map bare_value) u → chain_to catalog (reached catalog before) i o ≡ reached catalog (s.chain_to before x u)
  chain_back before i x at None None same = ap (λ p. p ∷ []) at
  chain_back before i x at None (Some xs) same = absurd cc
  chain_back before i x at (Some vs) None same = absurd cc
  chain_back before i x at (Some vs) (Some xs) same = ap (λ p. reached catalog before ++ p ∷ []) at ∙ sym (reached_append catalog before (x ∷ []))

  item_back : (reach : Reach) (i : ItemText) (x : FromItem) → told_item i ≡ bare_item x → option_map (map (value_made reach)) i.on ≡ x.on → item_made reach i ≡ x
  item_back reach i x same on =
      ap (λ n. let z : FromItem = record { table = n; alias = i.alias.name; on = option_map (map (value_made reach)) i.on } in z) (ap (λ (k : FromItem). k.table) same)
      ∙ ap (λ a. let z : FromItem = record { table = x.table; alias = a; on = option_map (map (value_made reach)) i.on } in z) (ap (λ (k : FromItem). k.alias) same)
      ∙ ap (λ o. let z : FromItem = record { table = x.table; alias = x.alias; on = o } in z) on

  from_back : (outer before : s.Reach) (items : List ItemText) (xs : List FromItem) → ons_are_sound catalog outer before xs ≡ true → map told_item items ≡ map bare_item xs
      → items_made catalog (reached catalog outer) (reached catalog before) items ≡ xs
  from_back outer before [] [] h same = refl
  from_back outer before [] (x ∷ xs) h same = absurd cc
  from_back outer before (i ∷ items) [] h same = absurd cc
  from_back outer before (i ∷ items) (x ∷ xs) h same =
      let first : told_item i ≡ bare_item x = heads (told_item i) (bare_item x) (map told_item items) (map bare_item xs) same in
      let ons : option_map (map told_value) i.on ≡ option_map (map bare_value) x.on = ap (λ (k : FromItem). k.on) first in
      let next : s.Reach = s.chain_to before x x.on in
      let around : Reach = reached catalog outer in
      let chain : chain_to catalog (reached catalog before) i i.on ≡ reached catalog next = chain_back before i x (placed_back i x first) i.on x.on ons in
      let p = both (on_is_sound catalog (next ++ outer) x.on) (ons_are_sound catalog outer next xs) h in
      ap (λ r. item_made (r ++ around) i ∷ items_made catalog around r items) chain
      ∙ ap (λ r. item_made r i ∷ items_made catalog around (reached catalog next) items) (sym (reached_append catalog next outer))
      ∙ ap (λ z. z ∷ items_made catalog around (reached catalog next) items)
      (item_back (reached catalog (next ++ outer)) i x first (on_back catalog (next ++ outer) i.on x.on p.0 ons))
      ∙ ap (λ l. x ∷ l) (from_back outer next items xs p.1 (tails (told_item i) (bare_item x) (map told_item items) (map bare_item xs) same))

  -- ---- conjuncts and selects

  abbrev ConjunctBack : ConjunctText → Type 0
  ConjunctBack k = (reach : s.Reach) (x : Conjunct) → conjunct_sound catalog x reach ≡ true → told_conjunct k ≡ bare_conjunct x
      → conjunct_made catalog k (reached catalog reach) ≡ x

  abbrev SelectBack : SelectText → Type 0
  SelectBack k = (outer : s.Reach) (x : Select) → s.select_is_sound catalog x outer ≡ true → told_select k ≡ bare_select x → select_made catalog k (reached catalog outer) ≡ x

  abbrev OneConjunct : Type 0
  OneConjunct = (k : ConjunctText) × ConjunctBack k

  abbrev OneSelect : Type 0
  OneSelect = (k : SelectText) × SelectBack k

  abbrev conjunct_of : OneConjunct → ConjunctText
  conjunct_of k = k.0

  abbrev select_of : OneSelect → SelectText
  select_of k = k.0

  abbrev conjunct_makes : ConjunctText-F ConjunctText SelectText → Reach → Conjunct
  conjunct_makes x = queries.conjunct_step (map-ConjunctText ConjunctText SelectText (Reach → Conjunct) (Reach → Select) (conjunct_made catalog) (select_made catalog) x)

  abbrev select_makes : SelectText-F ConjunctText SelectText → Reach → Select
  select_makes x = queries.select_step catalog (map-SelectText ConjunctText SelectText (Reach → Conjunct) (Reach → Select) (conjunct_made catalog) (select_made catalog) x)

  abbrev conjunct_tells : ConjunctText-F ConjunctText SelectText → Conjunct
  conjunct_tells x = told_conjunct_step (map-ConjunctText ConjunctText SelectText Conjunct Select told_conjunct told_select x)

  abbrev select_tells : SelectText-F ConjunctText SelectText → Select
  select_tells x = told_select_step (map-SelectText ConjunctText SelectText Conjunct Select told_conjunct told_select x)

  abbrev ConjunctLayer : ConjunctText-F ConjunctText SelectText → Type 0
  ConjunctLayer x = (reach : s.Reach) (o : Conjunct-F Conjunct Select) → sound_conjunct catalog o reach ≡ true → conjunct_tells x ≡ bare_of_conjunct catalog o
      → conjunct_makes x (reached catalog reach) ≡ roll-Conjunct o

  abbrev SelectLayer : SelectText-F ConjunctText SelectText → Type 0
  SelectLayer x = (outer : s.Reach) (o : Select-F Conjunct Select) → sound_select catalog o outer ≡ true → select_tells x ≡ bare_of_select catalog o
      → select_makes x (reached catalog outer) ≡ roll-Select o

  shown_plain : (x : Expr ColumnLeaf) (y : Conjunct) → c.Plain x ≡ y → Conjunct-F.Plain x ≡ out-Conjunct y
  shown_plain x y h = sym (c.outs-Plain x) ∙ ap out-Conjunct h

  shown_exists : (x : Select) (y : Conjunct) → c.NotExists x ≡ y → Conjunct-F.NotExists x ≡ out-Conjunct y
  shown_exists x y h = sym (c.outs-NotExists x) ∙ ap out-Conjunct h

  conjunct_node : (y : ConjunctText-F OneConjunct OneSelect) → ConjunctLayer (map-ConjunctText OneConjunct OneSelect ConjunctText SelectText conjunct_of select_of y)
  conjunct_node (ConjunctText-F.Plain v) reach (Conjunct-F.Plain x) h same =
      let layers : Conjunct-F.Plain (told_value v) ≡ Conjunct-F.Plain (bare_value x) = shown_plain (told_value v) (c.Plain (bare_value x)) same ∙ c.outs-Plain (bare_value x) in
      let inner : told_value v ≡ bare_value x = cc in
      ap c.Plain (value_back catalog reach v x (both (value_is_sound catalog reach x) (same_class Truth (class_in leaf_class x)) h).0 inner) ∙ sym (c.rolls-Plain x)
  conjunct_node (ConjunctText-F.Plain v) reach (Conjunct-F.NotExists x) h same =
      let layers : Conjunct-F.Plain (told_value v) ≡ Conjunct-F.NotExists (bare_select x) = shown_plain (told_value v) (c.NotExists (bare_select x)) same
      ∙ c.outs-NotExists (bare_select x) in
      absurd cc
  conjunct_node (ConjunctText-F.NotExists k) reach (Conjunct-F.Plain x) h same =
      let layers : Conjunct-F.NotExists (told_select k.0) ≡ Conjunct-F.Plain (bare_value x) = shown_exists (told_select k.0) (c.Plain (bare_value x)) same
      ∙ c.outs-Plain (bare_value x) in
      absurd cc
  conjunct_node (ConjunctText-F.NotExists k) reach (Conjunct-F.NotExists x) h same =
      let layers : Conjunct-F.NotExists (told_select k.0) ≡ Conjunct-F.NotExists (bare_select x) = shown_exists (told_select k.0) (c.NotExists (bare_select x)) same
      ∙ c.outs-NotExists (bare_select x) in
      let inner : told_select k.0 ≡ bare_select x = cc in
      ap c.NotExists (k.1 reach x h inner) ∙ sym (c.rolls-NotExists x)

  conjuncts_back : (reach : s.Reach) (ks : List OneConjunct) (xs : List Conjunct) → all_sound catalog reach xs ≡ true
      → map told_conjunct (map conjunct_of ks) ≡ map bare_conjunct xs
      → map (λ (f : Reach → Conjunct). f (reached catalog reach)) (map (conjunct_made catalog) (map conjunct_of ks)) ≡ xs
  conjuncts_back reach [] [] h same = refl
  conjuncts_back reach [] (x ∷ xs) h same = absurd cc
  conjuncts_back reach (k ∷ ks) [] h same = absurd cc
  conjuncts_back reach (k ∷ ks) (x ∷ xs) h same =
      let p = both (conjunct_sound catalog x reach) (all_sound catalog reach xs) h in
      ap (λ z. z ∷ map (λ (f : Reach → Conjunct). f (reached catalog reach)) (map (conjunct_made catalog) (map conjunct_of ks)))
      (k.1 reach x p.0 (heads (told_conjunct k.0) (bare_conjunct x) (map told_conjunct (map conjunct_of ks)) (map bare_conjunct xs) same))
      ∙ ap (λ l. x ∷ l) (conjuncts_back reach ks xs p.1 (tails (told_conjunct k.0) (bare_conjunct x) (map told_conjunct (map conjunct_of ks)) (map bare_conjunct xs) same))

  abbrev with_parts : List SelectColumn → List FromItem → List Conjunct → Select
  with_parts columns from conjuncts = record { columns = columns; from = from; conjuncts = conjuncts }

  select_node : (y : SelectText-F OneConjunct OneSelect) → SelectLayer (map-SelectText OneConjunct OneSelect ConjunctText SelectText conjunct_of select_of y)
  select_node y outer o h same =
      let p = parts_of catalog o outer h in
      let around : Reach = reached catalog outer in
      let from : items_made catalog around [] y.from ≡ o.from = from_back outer [] y.from o.from p.ons (ap (λ (x : Select). x.from) same) in
      let at : reach_within catalog around y.from ≡ reached catalog (o.from ++ outer) =
      ap (λ l. l ++ around) (sym (made_reached catalog around [] y.from) ∙ ap (reached catalog) from) ∙ sym (reached_append catalog o.from outer) in
      let inside : Reach = reached catalog (o.from ++ outer) in
      let gathered : Reach → List Conjunct = λ r. map (λ (f : Reach → Conjunct). f r) (map (conjunct_made catalog) (map conjunct_of y.conjuncts)) in
      ap (λ r. with_parts (map (column_made r) y.columns) (items_made catalog around [] y.from) (gathered r)) at
      ∙ ap (λ l. with_parts l (items_made catalog around [] y.from) (gathered inside))
      (columns_back catalog (o.from ++ outer) y.columns o.columns p.columns (ap (λ (x : Select). x.columns) same))
      ∙ ap (λ l. with_parts o.columns l (gathered inside)) from
      ∙ ap (λ l. with_parts o.columns o.from l) (conjuncts_back (o.from ++ outer) y.conjuncts o.conjuncts p.conjuncts (ap (λ (x : Select). x.conjuncts) same))

  select_back : (k : SelectText) → SelectBack k
  select_back = ind-SelectText ConjunctBack SelectBack
      (λ x z is reach y h same.
      let o = out-Conjunct y in
      let back : roll-Conjunct o ≡ y = roll-out-Conjunct y in
      let layer = subst ConjunctLayer is (conjunct_node z) in
      let sound : sound_conjunct catalog o reach ≡ true = ap (λ (f : s.Reach
      → Bool). f reach) (sym (fold-roll-Conjunct (s.Reach → Bool) (s.Reach → Bool) (s.conjunct_step catalog) (s.select_step catalog) o))
      ∙ ap (λ w. conjunct_sound catalog w reach) back ∙ h in
      let told : conjunct_tells x ≡ bare_of_conjunct catalog o = sym (fold-roll-ConjunctText Conjunct Select told_conjunct_step told_select_step x) ∙ same
      ∙ ap bare_conjunct (sym back) ∙ fold-roll-Conjunct Conjunct Select bare_conjunct_step bare_select_step o in
      ap (λ (f : Reach → Conjunct). f (reached catalog reach)) (fold-roll-ConjunctText (Reach → Conjunct) (Reach
      → Select) queries.conjunct_step (queries.select_step catalog) x) ∙ layer reach o sound told ∙ back)
      (λ x z is outer y h same.
      let o = out-Select y in
      let back : roll-Select o ≡ y = roll-out-Select y in
      let layer = subst SelectLayer is (select_node z) in
      let sound : sound_select catalog o outer ≡ true = ap (λ (f : s.Reach
      → Bool). f outer) (sym (fold-roll-Select (s.Reach → Bool) (s.Reach → Bool) (s.conjunct_step catalog) (s.select_step catalog) o))
      ∙ ap (λ w. s.select_is_sound catalog w outer) back ∙ h in
      let told : select_tells x ≡ bare_of_select catalog o = sym (fold-roll-SelectText Conjunct Select told_conjunct_step told_select_step x) ∙ same ∙ ap bare_select (sym back)
      ∙ fold-roll-Select Conjunct Select bare_conjunct_step bare_select_step o in
      ap (λ (f : Reach → Select). f (reached catalog outer)) (fold-roll-SelectText (Reach → Conjunct) (Reach → Select) queries.conjunct_step (queries.select_step catalog) x)
      ∙ layer outer o sound told ∙ back)

  selects_back : (ts : List SelectText) (xs : List Select) → list_all (λ x. s.select_is_sound catalog x []) xs ≡ true → map told_select ts ≡ map bare_select xs
      → map (λ k. select_made catalog k []) ts ≡ xs
  selects_back [] [] h same = refl
  selects_back [] (x ∷ xs) h same = absurd cc
  selects_back (k ∷ ts) [] h same = absurd cc
  selects_back (k ∷ ts) (x ∷ xs) h same =
      let p = both (s.select_is_sound catalog x []) (list_all (λ z. s.select_is_sound catalog z []) xs) h in
      ap (λ z. z ∷ map (λ k. select_made catalog k []) ts) (select_back k [] x p.0 (heads (told_select k) (bare_select x) (map told_select ts) (map bare_select xs) same))
      ∙ ap (λ l. x ∷ l) (selects_back ts xs p.1 (tails (told_select k) (bare_select x) (map told_select ts) (map bare_select xs) same))

  -- A text that tells a sound query, but for the classes of its leaves, writes it down.
  pub written : (text : SqlText) (query : SqlQuery) → IsSound query catalog → map told_select text.selects ≡ map bare_select query.selects → query_of catalog text ≡ query
  written text query sound same =
      ap (λ (l : List Select). let z : SqlQuery = record { selects = l } in z)
      (selects_back text.selects query.selects (both (list_all (λ z. s.select_is_sound catalog z []) query.selects) (s.selects_agree query.selects) sound).0 same)
