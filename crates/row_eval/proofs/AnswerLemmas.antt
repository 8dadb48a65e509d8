-- What is put out of what a planned select finds is the select's rows.
use Rattle.std.proofs.Common.{◌≡◌, ℕ, suc, zero, ◌+◌, ◌<◌, ◌≤◌, cond, Bool, true, false, List, [], ◌∷◌, ◌++◌, map, take, length, get_or, refl, sym, ap, subst, ◌∙◌, arith}
use Rattle.std.specs.Prelude.{filter, flat_map}
use Rattle.std.specs.List.{list_all, AllByRecursion}
use Rattle.std.proofs.lemmas.Bool.{and_parts}
use Rattle.std.proofs.lemmas.List.{map-append, take_more, length-append}
use Rattle.pgq_base.specs.declared.rows.Row.{Row}
use Rattle.pgq_base.specs.declared.value.Value.{Value}
use Rattle.pgq_base.specs.Instances.{InstanceRows}
use Rattle.expr_tree.specs.Classes.{well_classed}
use Rattle.expr_tree.specs.Leaves.{leaves_in}
use Rattle.expr_tree.specs.Mapping.{mapped}
use Rattle.expr_tree.specs.Meaning.{value_in}
use Rattle.graph_ast.specs.declared.catalog.Catalog.{Catalog}
use Rattle.sql_algebra.specs.declared.tree.Select.{Select}
use Rattle.sql_algebra.specs.declared.tree.FromItem.{FromItem}
use Rattle.sql_algebra.specs.declared.tree.SelectColumn.{SelectColumn}
use Rattle.sql_algebra.specs.Tuples.{leaf_value}
use Rattle.sql_algebra.specs.Meaning as m
use Rattle.sql_algebra.specs.Meaning.{select_rows, select_holds, conjunct_holds}
use Rattle.sql_algebra.specs.Soundness.{leaf_is_sound, leaf_class, value_is_sound, select_is_sound}
use Rattle.sql_algebra.proofs.Folds.{select_means}
use Rattle.row_eval.specs.declared.frame.Output.{Output}
use Rattle.row_eval.specs.declared.stage.Stage.{Stage}
use Rattle.row_eval.specs.Answered.{AreOutputsOf, Answers}
use Rattle.row_eval.specs.Slots.{Stack, slot_value}
use Rattle.row_eval.specs.Stages.{found, output_row, Collects}
use Rattle.row_eval.specs.Stored.{row_values}
use Rattle.row_eval.specs.Scopes.{Placed, reach_under, tuple_of, leaf_expr_of}
use Rattle.row_eval.specs.Typed.{MeetsTypes, IsTyped}
use Rattle.row_eval.specs.Plans.{items_in, kept_by, IsPlanOf}
use Rattle.row_eval.proofs.PlanLemmas.{typed_leaves, sound_parts, reach_items, all_map}
use Rattle.row_eval.proofs.ScopeLemmas.{resolved_value}
use Rattle.row_eval.proofs.TupleLemmas.{map_map}
use Rattle.row_eval.proofs.TypedLemmas.{typed_under}

all_filter : {X : Type 0} (P : X → Type 0) (p : X → Bool) (xs : List X) → AllByRecursion P xs → AllByRecursion P (filter p xs)
all_filter P p [] h = tt
all_filter {X} P p (x ∷ xs) h = by (p x) (all_filter P p xs h.1)
  where
    by : (b : Bool) → AllByRecursion P (filter p xs) → AllByRecursion P (cond b (x ∷ filter p xs) (filter p xs))
    by true k = (h.0, k)
    by false k = k

map_on : {X Y : Type 0} (f g : X → Y) (P : X → Type 0) → ((x : X) → P x → f x ≡ g x) → (xs : List X) → AllByRecursion P xs → map f xs ≡ map g xs
map_on f g P same [] h = refl
map_on f g P same (x ∷ xs) h = ap (λ y. y ∷ map f xs) (same x h.0) ∙ ap (λ l. g x ∷ l) (map_on f g P same xs h.1)

module _ (catalog : Catalog) (reach : List Placed) (t : Stack) (typed : IsTyped catalog (tuple_of reach t)) where
  column_values : (columns : List SelectColumn) → list_all (λ (column : SelectColumn). value_is_sound catalog (items_in reach) column.value) columns ≡ true
      → map (value_in (slot_value t)) (map (λ (column : SelectColumn). mapped (leaf_expr_of catalog reach) column.value) columns) ≡ m.output_row catalog columns (tuple_of reach t)
  column_values [] sound = refl
  column_values (column ∷ columns) sound =
      let two = and_parts (value_is_sound catalog (items_in reach) column.value)
      (list_all (λ (column : SelectColumn). value_is_sound catalog (items_in reach) column.value) columns) sound in
      ap (λ (v : Value). v ∷ map (value_in (slot_value t)) (map (λ (column : SelectColumn). mapped (leaf_expr_of catalog reach) column.value) columns))
      (resolved_value catalog t reach column.value (typed_leaves catalog reach t typed column.value two.0))
      ∙ ap (λ (l : List Value). value_in (leaf_value catalog (tuple_of reach t)) column.value ∷ l) (column_values columns two.1)

  output_means : (columns : List SelectColumn) (outputs : List Output) → AreOutputsOf catalog reach columns outputs
      → list_all (λ (column : SelectColumn). value_is_sound catalog (items_in reach) column.value) columns ≡ true → output_row outputs t
      ≡ m.output_row catalog columns (tuple_of reach t)
  output_means columns outputs are sound =
      sym (map_map (value_in (slot_value t)) (λ (o : Output). o.expr) outputs) ∙ ap (map (value_in (slot_value t))) are ∙ column_values columns sound

module _ (catalog : Catalog) (instance : InstanceRows) (meets : MeetsTypes catalog instance) (select : Select) (sound : select_is_sound catalog select [] ≡ true) where
  abbrev pub alone : List Placed
  alone = reach_under select.from []

  pub columns_sound : list_all (λ (column : SelectColumn). value_is_sound catalog (items_in alone) column.value) select.columns ≡ true
  columns_sound =
      ap (λ items. list_all (λ (column : SelectColumn). value_is_sound catalog items column.value) select.columns) (reach_items select.from [])
      ∙ (sound_parts catalog select [] sound).columns

  -- the outputs of what is found
  rows_found : (stages : List Stage) (outputs : List Output) → IsPlanOf catalog instance select [] stages → AreOutputsOf catalog alone select.columns outputs
      → map (output_row outputs) (found instance stages []) ≡ select_rows catalog instance select []
  rows_found stages outputs plan are =
      let is_plan : map (tuple_of alone) (found instance stages []) ≡ kept_by catalog instance select [] = plan [] refl tt in
      map_on (output_row outputs) (λ t. m.output_row catalog select.columns (tuple_of alone t)) (λ t. IsTyped catalog (tuple_of alone t))
      (λ t typed. output_means catalog alone t typed select.columns outputs are columns_sound) (found instance stages [])
      (all_map (IsTyped catalog) (tuple_of alone) (found instance stages [])
      (subst (AllByRecursion (IsTyped catalog)) (sym is_plan) (all_filter (IsTyped catalog) _ _ (typed_under catalog instance meets select.from [] tt))))
      ∙ sym (map_map (m.output_row catalog select.columns) (tuple_of alone) (found instance stages [])) ∙ ap (map (m.output_row catalog select.columns)) is_plan
      ∙ ap (λ f. f []) (sym (select_means catalog instance select))

  map_long : {X Y : Type 0} (f : X → Y) (xs : List X) → length (map f xs) ≡ length xs
  map_long f [] = refl
  map_long f (x ∷ xs) = ap suc (map_long f xs)

  pub answered : (stages : List Stage) (outputs : List Output) → IsPlanOf catalog instance select [] stages → AreOutputsOf catalog alone select.columns outputs
      → (limit : ℕ) (old new : List Row) (all : Bool)
      → Collects outputs limit old new (found instance stages []) all → Answers limit old new (select_rows catalog instance select []) all
  answered stages outputs plan are limit old new true h = (h.0 ∙ ap (λ l. row_values old ++ l) (rows_found stages outputs plan are), h.1)
  answered stages outputs plan are limit old new false h =
      let long : length (select_rows catalog instance select []) ≡ length (found instance stages []) = ap length (sym (rows_found stages outputs plan are))
      ∙ map_long (output_row outputs) (found instance stages []) in
      omega (arith, h, long)

-- ---- the columns one after another

pub outputs_more : (catalog : Catalog) (reach : List Placed) (columns : List SelectColumn) (i : ℕ) (column : SelectColumn) (outputs new : List Output) (output : Output)
    → i < length columns
    → column ≡ get_or columns i column → new ≡ outputs ++ output ∷ [] → output.expr ≡ mapped (leaf_expr_of catalog reach) column.value
    → AreOutputsOf catalog reach (take i columns) outputs → AreOutputsOf catalog reach (take (i + 1) columns) new
outputs_more catalog reach columns i column outputs new output h is grown made are =
    ap (map (λ (o : Output). o.expr)) grown ∙ map-append (λ (o : Output). o.expr) outputs (output ∷ [])
    ∙ ap (λ l. l ++ output.expr ∷ []) are
    ∙ ap (λ e. map (λ (c : SelectColumn). mapped (leaf_expr_of catalog reach) c.value) (take i columns) ++ e ∷ [])
    (made ∙ ap (λ (c : SelectColumn). mapped (leaf_expr_of catalog reach) c.value) is)
    ∙ sym (map-append (λ (c : SelectColumn). mapped (leaf_expr_of catalog reach) c.value) (take i columns) (get_or columns i column ∷ []))
    ∙ ap (map (λ (c : SelectColumn). mapped (leaf_expr_of catalog reach) c.value)) (sym (take_more columns i column h))

pub column_classed : (catalog : Catalog) (items : List FromItem) (columns : List SelectColumn) (i : ℕ) (column : SelectColumn) → i < length columns → column
    ≡ get_or columns i column
    → list_all (λ (column : SelectColumn). value_is_sound catalog items column.value) columns ≡ true → well_classed leaf_class column.value ≡ true
column_classed catalog items [] i column h is sound = absurd (omega arith)
column_classed catalog items (c ∷ cs) zero column h is sound =
    ap (λ (x : SelectColumn). well_classed leaf_class x.value) is
    ∙ (and_parts (list_all (leaf_is_sound catalog items) (leaves_in c.value)) (well_classed leaf_class c.value)
    (and_parts (value_is_sound catalog items c.value) (list_all (λ (column : SelectColumn). value_is_sound catalog items column.value) cs) sound).0).1
column_classed catalog items (c ∷ cs) (suc i) column h is sound =
    column_classed catalog items cs i column (omega arith) is
    (and_parts (value_is_sound catalog items c.value) (list_all (λ (column : SelectColumn). value_is_sound catalog items column.value) cs) sound).1

-- ---- the selects one after another

pub select_at : (catalog : Catalog) (selects : List Select) (i : ℕ) (select : Select) → i < length selects → select ≡ get_or selects i select
    → list_all (λ select. select_is_sound catalog select []) selects ≡ true → select_is_sound catalog select [] ≡ true
select_at catalog [] i select h is sound = absurd (omega arith)
select_at catalog (s ∷ ss) zero select h is sound = ap (λ (x : Select). select_is_sound catalog x []) is
    ∙ (and_parts (select_is_sound catalog s []) (list_all (λ select. select_is_sound catalog select []) ss) sound).0
select_at catalog (s ∷ ss) (suc i) select h is sound = select_at catalog ss i select (omega arith) is
    (and_parts (select_is_sound catalog s []) (list_all (λ select. select_is_sound catalog select []) ss) sound).1

-- there are no fewer rows of all selects than of the first ones
pub flat_front : {X Y : Type 0} (f : X → List Y) (xs : List X) (i : ℕ) (x : X) → i < length xs → x ≡ get_or xs i x
    → length (flat_map f (take i xs)) + length (f x) ≤ length (flat_map f xs)
flat_front f [] i x h is = absurd (omega arith)
flat_front f (y ∷ xs) zero x h is =
    let same : length (f x) ≡ length (f y) = ap (λ z. length (f z)) is in
    omega (arith, same, length-append (f y) (flat_map f xs))
flat_front f (y ∷ xs) (suc i) x h is =
    let later = flat_front f xs i x (omega arith) is in
    omega (arith, later, length-append (f y) (flat_map f xs), length-append (f y) (flat_map f (take i xs)))

pub values_long : (rows : List Row) → length (row_values rows) ≡ length rows
values_long [] = refl
values_long (r ∷ rows) = ap suc (values_long rows)
