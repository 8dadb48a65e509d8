-- A text has no fault exactly where the query that it writes down is sound, and the text has the grammar's shape.
use Rattle.std.proofs.Common.{◌≡◌, Bool, true, false, ◌&&◌, cond, List, [], ◌∷◌, ◌++◌, refl, sym, ap, ◌∙◌, subst, Option, None, Some, is_some, option_map, bytes_eq}
use Rattle.std.specs.List.{list_all, flat_map, find}
use Rattle.pgq_base.specs.declared.value.Class.{Class}
use Rattle.pgq_base.specs.declared.value.Class.TheVariants.{Truth}
use Rattle.pgq_base.specs.declared.code.Code.TheVariants as code
use Rattle.expr_tree.specs.Classes.{same_class, class_in, class_step, judged_step, well_classed}
use Rattle.expr_tree.specs.Leaves.{leaves_in, leaves_step}
use Rattle.expr_tree.specs.Mapping.{KeepsClass}
use Rattle.expr_tree.proofs.Folds.{each_from_all}
use Rattle.expr_tree.proofs.LawLemmas.{mapped_class, mapped_rules, mapped_leaves}
use Rattle.expr_tree.proofs.ClassLemmas.{same_self}
use Rattle.graph_ast.specs.declared.catalog.Catalog.{Catalog}
use Rattle.graph_ast.specs.declared.catalog.Table.{Table}
use Rattle.graph_ast.specs.declared.catalog.Column.{Column}
use Rattle.condition_grammar.specs.declared.spanned.Spanned.{Spanned}
use Rattle.condition_grammar.specs.Spans.{first_span}
use Rattle.sql_algebra.specs.declared.tree.ColumnLeaf.{ColumnLeaf}
use Rattle.sql_algebra.specs.declared.tree.FromItem.{FromItem}
use Rattle.sql_algebra.specs.declared.text.ColumnRef.{ColumnRef}
use Rattle.sql_algebra.specs.Catalogs.{table_named, column_named}
use Rattle.sql_algebra.specs.Soundness as s
use Rattle.sql_algebra.proofs.Folds.{on-Leaf}
use Rattle.sql_reader.specs.Reaches.{Reach}
use Rattle.sql_reader.specs.Names.{leaf_at, leaf_names, value_names, unknown_column}
use Rattle.sql_reader.specs.Types.{class_of_column, class_in_table, class_at, leaf_class, mismatch, typed, truth_asked, value_types, condition_types}
use Rattle.sql_reader.specs.Queries.{leaf_made, value_made}
use Rattle.sql_reader.specs.Shapes.{value_is_shaped}
use Rattle.sql_reader.proofs.Clean.{no_fault, no_fault_append, no_fault_unless, no_fault_flat, and_true, both, pair, Tells}
use Rattle.sql_reader.proofs.Typing.{told, typed_class}
use Rattle.sql_reader.proofs.Places.{item_reached, reached, find_reached, are_known}

-- ---- a leaf

abbrev leaf_with : ColumnRef → Class → ColumnLeaf
leaf_with leaf class = record { alias = leaf.alias.name; column = leaf.column.name; class = class }

at_column : (leaf : ColumnRef) (o : Option Column) → is_some o ≡ s.has_class (class_of_column o) o
at_column leaf None = refl
at_column leaf (Some column) = sym (same_self (class_of_column (Some column)))

at_table : (leaf : ColumnRef) (o : Option Table) → is_some o ≡ true → no_fault (unknown_column leaf o) ≡ s.has_column (leaf_with leaf (class_in_table leaf o)) o
at_table leaf None known = absurd cc
at_table leaf (Some table) known = no_fault_unless (is_some (column_named table leaf.column.name)) code.UnknownColumn leaf.column.span
    ∙ at_column leaf (column_named table leaf.column.name)

known_at : (catalog : Catalog) (f : FromItem → Bool) (items : s.Reach) (item : FromItem) → are_known (reached catalog items) ≡ true → find f items ≡ Some item
    → is_some (table_named catalog item.table) ≡ true
known_at catalog f [] item known is = absurd cc
known_at catalog f (x ∷ items) item known is =
    let parts = both (is_some (table_named catalog x.table)) (are_known (reached catalog items)) known in
    by parts.0 (λ h. known_at catalog f items item parts.1 h) (f x) is
  where
    by : is_some (table_named catalog x.table) ≡ true → (find f items ≡ Some item → is_some (table_named catalog item.table) ≡ true) → (b : Bool)
        → cond b (Some x) (find f items) ≡ Some item → is_some (table_named catalog item.table) ≡ true
    by here rest true h = let same : x ≡ item = cc in subst (λ (i : FromItem). is_some (table_named catalog i.table) ≡ true) same here
    by here rest false h = rest h

leaf_told : (catalog : Catalog) (items : s.Reach) → are_known (reached catalog items) ≡ true → (leaf : ColumnRef)
    → no_fault (leaf_names (reached catalog items) leaf) ≡ s.leaf_is_sound catalog items (leaf_with leaf (leaf_class (reached catalog items) leaf))
leaf_told catalog items known leaf =
    ap (λ o. no_fault (leaf_at leaf o)) (find_reached catalog leaf.alias.name items)
    ∙ by (find (λ item. bytes_eq item.alias leaf.alias.name) items) refl
    ∙ ap (λ o. s.item_has catalog (leaf_with leaf (class_at leaf o)) (find (λ item. bytes_eq item.alias leaf.alias.name) items)) (sym (find_reached catalog leaf.alias.name items))
  where
    by : (o : Option FromItem) → find (λ item. bytes_eq item.alias leaf.alias.name) items ≡ o
        → no_fault (leaf_at leaf (option_map (item_reached catalog) o)) ≡ s.item_has catalog (leaf_with leaf (class_at leaf (option_map (item_reached catalog) o))) o
    by None is = refl
    by (Some item) is = at_table leaf (table_named catalog item.table) (known_at catalog (λ i. bytes_eq i.alias leaf.alias.name) items item known is)

-- ---- an expression

module _ (reach : Reach) where
  abbrev with_class : ColumnRef → ColumnLeaf
  with_class leaf = leaf_with leaf (leaf_class reach leaf)

  leaf_has : (l : ColumnRef) → class_in s.leaf_class (leaf_made reach l) ≡ leaf_class reach l
  leaf_has l = on-Leaf (class_step s.leaf_class) (with_class l)

  leaf_keeps : (l : ColumnRef) → KeepsClass (leaf_class reach) s.leaf_class (leaf_made reach) l
  leaf_keeps l = record { well_classed = ap (λ j. j.kept) (on-Leaf (judged_step s.leaf_class) (with_class l)); class = leaf_has l }

  pub class_told : (v : Spanned ColumnRef) → class_in s.leaf_class (value_made reach v) ≡ class_in (leaf_class reach) v.tree
  class_told v = mapped_class (leaf_class reach) s.leaf_class (leaf_made reach) v.tree (each_from_all _ leaf_has (leaves_in v.tree))

  rules_told : (v : Spanned ColumnRef) → well_classed s.leaf_class (value_made reach v) ≡ well_classed (leaf_class reach) v.tree
  rules_told v = mapped_rules (leaf_class reach) s.leaf_class (leaf_made reach) v.tree (each_from_all _ leaf_keeps (leaves_in v.tree))

module _ (catalog : Catalog) (items : s.Reach) (known : are_known (reached catalog items) ≡ true) where
  abbrev reach : Reach
  reach = reached catalog items

  abbrev made : ColumnRef → ColumnLeaf
  made leaf = leaf_with leaf (leaf_class reach leaf)

  leaves_told : (leaves : List ColumnRef) → list_all (λ l. no_fault (leaf_names reach l)) leaves
      ≡ list_all (s.leaf_is_sound catalog items) (flat_map (λ l. leaves_in (leaf_made reach l)) leaves)
  leaves_told [] = refl
  leaves_told (l ∷ leaves) =
      ap (λ b. b && list_all (λ l. no_fault (leaf_names reach l)) leaves) (leaf_told catalog items known l)
      ∙ ap (λ b. s.leaf_is_sound catalog items (made l) && b) (leaves_told leaves)
      ∙ ap (λ (ls : List ColumnLeaf). list_all (s.leaf_is_sound catalog items) (ls ++ flat_map (λ l. leaves_in (leaf_made reach l)) leaves)) (sym (on-Leaf leaves_step (made l)))

  names_told : (v : Spanned ColumnRef) → no_fault (value_names reach v) ≡ list_all (s.leaf_is_sound catalog items) (leaves_in (value_made reach v))
  names_told v =
      no_fault_flat (leaf_names reach) (leaves_in v.tree) ∙ leaves_told (leaves_in v.tree)
      ∙ ap (list_all (s.leaf_is_sound catalog items)) (sym (mapped_leaves (leaf_made reach) v.tree))

  types_told : (v : Spanned ColumnRef) → (no_fault (value_types reach v) && value_is_shaped v) ≡ well_classed s.leaf_class (value_made reach v)
  types_told v =
      ap (λ b. b && value_is_shaped v) (no_fault_append ((typed (leaf_class reach) v.tree).faults v.spans) []
      ∙ and_true (no_fault ((typed (leaf_class reach) v.tree).faults v.spans)))
      ∙ told (leaf_class reach) v.tree v.spans ∙ sym (rules_told reach v)

  pub value_told : (v : Spanned ColumnRef) → Tells (no_fault (value_names reach v)) (no_fault (value_types reach v)) (value_is_shaped v)
      (s.value_is_sound catalog items (value_made reach v))
  value_told v =
      let names = no_fault (value_names reach v) in
      let types = no_fault (value_types reach v) in
      let shape = value_is_shaped v in
      let leaves = list_all (s.leaf_is_sound catalog items) (leaves_in (value_made reach v)) in
      let rules = well_classed s.leaf_class (value_made reach v) in
      record {
        there = λ p q r. pair leaves rules (sym (names_told v) ∙ p) (sym (types_told v) ∙ pair types shape q r);
        names_hold = λ h. names_told v ∙ (both leaves rules h).0;
        types_hold = λ h. (both types shape (types_told v ∙ (both leaves rules h).1)).0;
        shape_holds = λ h. (both types shape (types_told v ∙ (both leaves rules h).1)).1;
      }

  truth_told : (v : Spanned ColumnRef) → no_fault (condition_types reach v) ≡ (no_fault (value_types reach v) && same_class Truth (class_in s.leaf_class (value_made reach v)))
  truth_told v =
      let faults = (typed (leaf_class reach) v.tree).faults v.spans in
      let class : Class = (typed (leaf_class reach) v.tree).class in
      no_fault_append faults (mismatch truth_asked class (first_span v.spans))
      ∙ ap (λ b. b && no_fault (mismatch truth_asked class (first_span v.spans))) (sym (no_fault_append faults [] ∙ and_true (no_fault faults)))
      ∙ ap (λ b. no_fault (value_types reach v) && b) (no_fault_unless (same_class Truth class) code.NotTruth (first_span v.spans)
      ∙ ap (same_class Truth) (typed_class (leaf_class reach) v.tree ∙ sym (class_told reach v)))

  pub condition_told : (v : Spanned ColumnRef) → Tells (no_fault (value_names reach v)) (no_fault (condition_types reach v)) (value_is_shaped v)
      (s.condition_is_sound catalog items (value_made reach v))
  condition_told v =
      let value = value_told v in
      let sound = s.value_is_sound catalog items (value_made reach v) in
      let truth = same_class Truth (class_in s.leaf_class (value_made reach v)) in
      let types = no_fault (value_types reach v) in
      record {
        there = λ p q r. let two = both types truth (sym (truth_told v) ∙ q) in pair sound truth (value.there p two.0 r) two.1;
        names_hold = λ h. value.names_hold (both sound truth h).0;
        types_hold = λ h. truth_told v ∙ pair types truth (value.types_hold (both sound truth h).0) (both sound truth h).1;
        shape_holds = λ h. value.shape_holds (both sound truth h).0;
      }
