-- The tuples of a FROM under an outer tuple are the choices of rows on top of a stack, named by the items in reach.
use Rattle.std.proofs.Common.{◌≡◌, ℕ, suc, List, [], ◌∷◌, ◌++◌, map, length, get_or, refl, sym, ap, subst, ◌∙◌, append_assoc}
use Rattle.std.specs.Prelude.{flat_map}
use Rattle.std.proofs.Math.ListN.{get_or-append}
use Rattle.std.proofs.Math.Seq.{get_or-append_seam}
use Rattle.std.proofs.lemmas.List.{map-append}
use Rattle.pgq_base.specs.Instances.{RowValues, TableRows, InstanceRows}
use Rattle.graph_ast.specs.declared.catalog.Catalog.{Catalog}
use Rattle.sql_algebra.specs.declared.tree.FromItem.{FromItem}
use Rattle.sql_algebra.specs.Catalogs.{rows_of}
use Rattle.sql_algebra.specs.Tuples.{Bound, Tuple, tuples, tuples_under}
use Rattle.row_eval.specs.Slots.{Stack}
use Rattle.row_eval.specs.Scopes.{Placed, own_places, reach_under, AreBelow, tuple_of}
use Rattle.row_eval.proofs.ChainLemmas.{condition_holds}
use Rattle.row_eval.proofs.PoppedLemmas.{stack_longer}
use Rattle.row_eval.proofs.Staged.{choices}

abbrev pub rows_choices : List TableRows → List Stack
rows_choices = choices condition_holds

-- the tables of items
abbrev pub tables_of : Catalog → InstanceRows → List FromItem → List TableRows
tables_of catalog instance items = map (λ (item : FromItem). rows_of catalog instance item.table) items

pub map_map : {X Y Z : Type 0} (f : Y → Z) (g : X → Y) (xs : List X) → map f (map g xs) ≡ map (λ x. f (g x)) xs
map_map f g [] = refl
map_map f g (x ∷ xs) = ap (λ l. f (g x) ∷ l) (map_map f g xs)

pub map_same : {X Y : Type 0} (f g : X → Y) → ((x : X) → f x ≡ g x) → (xs : List X) → map f xs ≡ map g xs
map_same f g same [] = refl
map_same f g same (x ∷ xs) = ap (λ y. y ∷ map f xs) (same x) ∙ ap (λ l. g x ∷ l) (map_same f g same xs)

abbrev pub bound_at : FromItem → RowValues → Bound
bound_at item row = record { item = item; row = row }

module _ (catalog : Catalog) (instance : InstanceRows) where
  -- the tuples of the items themselves
  pub own_tuples : (items : List FromItem) (s : Stack) → map (λ rest. tuple_of (own_places (length s) items) (s ++ rest)) (rows_choices (tables_of catalog instance items))
      ≡ tuples catalog instance items
  own_tuples [] s = refl
  own_tuples (item ∷ items) s = each (rows_of catalog instance item.table) (λ row. own_tuples items (s ++ row ∷ []))
    where
      one : (row : RowValues) (rest : Stack) → tuple_of (own_places (length s) (item ∷ items)) (s ++ row ∷ rest)
          ≡ bound_at item row ∷ tuple_of (own_places (length (s ++ row ∷ [])) items) ((s ++ row ∷ []) ++ rest)
      one row rest =
          ap (λ (r : RowValues). bound_at item r ∷ tuple_of (own_places (suc (length s)) items) (s ++ row ∷ rest)) (get_or-append_seam s row rest [])
          ∙ ap (λ (n : ℕ). bound_at item row ∷ tuple_of (own_places n items) (s ++ row ∷ rest)) (sym (stack_longer s row))
          ∙ ap (λ (t : Stack). bound_at item row ∷ tuple_of (own_places (length (s ++ row ∷ [])) items) t) (sym (append_assoc s (row ∷ []) rest))

      each : (rows : TableRows) → ((row : RowValues)
          → map (λ rest. tuple_of (own_places (length (s ++ row ∷ [])) items) ((s ++ row ∷ []) ++ rest)) (rows_choices (tables_of catalog instance items))
          ≡ tuples catalog instance items)
          → map (λ rest. tuple_of (own_places (length s) (item ∷ items)) (s ++ rest))
          (flat_map (λ row. map (λ rest. row ∷ rest) (rows_choices (tables_of catalog instance items))) rows)
          ≡ flat_map (λ row. map (λ rest. bound_at item row ∷ rest) (tuples catalog instance items)) rows
      each [] later = refl
      each (row ∷ rows) later =
          map-append (λ rest. tuple_of (own_places (length s) (item ∷ items)) (s ++ rest)) (map (λ rest. row ∷ rest) (rows_choices (tables_of catalog instance items)))
          (flat_map (λ row. map (λ rest. row ∷ rest) (rows_choices (tables_of catalog instance items))) rows)
          ∙ ap (λ l. l ++ map (λ rest. tuple_of (own_places (length s) (item ∷ items)) (s ++ rest))
          (flat_map (λ row. map (λ rest. row ∷ rest) (rows_choices (tables_of catalog instance items))) rows))
          (map_map (λ rest. tuple_of (own_places (length s) (item ∷ items)) (s ++ rest)) (λ rest. row ∷ rest) (rows_choices (tables_of catalog instance items))
          ∙ map_same (λ rest. tuple_of (own_places (length s) (item ∷ items)) (s ++ row ∷ rest))
          (λ rest. bound_at item row ∷ tuple_of (own_places (length (s ++ row ∷ [])) items) ((s ++ row ∷ []) ++ rest)) (one row)
          (rows_choices (tables_of catalog instance items))
          ∙ sym (map_map (λ (rest : Tuple). bound_at item row ∷ rest) (λ rest. tuple_of (own_places (length (s ++ row ∷ [])) items) ((s ++ row ∷ []) ++ rest))
          (rows_choices (tables_of catalog instance items)))
          ∙ ap (map (λ (rest : Tuple). bound_at item row ∷ rest)) (later row))
          ∙ ap (λ l. map (λ (rest : Tuple). bound_at item row ∷ rest) (tuples catalog instance items) ++ l) (each rows later)

-- rows on top change nothing for the items whose rows lie below
pub below_same : (reach : List Placed) (s rest : Stack) → AreBelow (length s) reach → tuple_of reach (s ++ rest) ≡ tuple_of reach s
below_same [] s rest h = refl
below_same (r ∷ reach) s rest h =
    ap (λ (row : RowValues). bound_at r.item row ∷ tuple_of reach (s ++ rest)) (get_or-append s rest [] r.place h.0)
    ∙ ap (λ (t : Tuple). bound_at r.item (get_or s r.place []) ∷ t) (below_same reach s rest h.1)

-- the tuples under the outer one
pub all_tuples : (catalog : Catalog) (instance : InstanceRows) (items : List FromItem) (outer : List Placed) (s : Stack) → length s ≡ length outer → AreBelow (length outer) outer
    → map (λ rest. tuple_of (reach_under items outer) (s ++ rest)) (rows_choices (tables_of catalog instance items)) ≡ tuples_under catalog instance items (tuple_of outer s)
all_tuples catalog instance items outer s long below =
    map_same (λ rest. tuple_of (reach_under items outer) (s ++ rest)) (λ rest. tuple_of (own_places (length s) items) (s ++ rest) ++ tuple_of outer s)
    (λ rest. map-append (λ (r : Placed). bound_at r.item (get_or (s ++ rest) r.place [])) (own_places (length outer) items) outer
    ∙ ap (λ n. tuple_of (own_places n items) (s ++ rest) ++ tuple_of outer (s ++ rest)) (sym long)
    ∙ ap (λ t. tuple_of (own_places (length s) items) (s ++ rest) ++ t) (below_same outer s rest (subst (λ n. AreBelow n outer) (sym long) below)))
    (rows_choices (tables_of catalog instance items))
    ∙ sym (map_map (λ own. own ++ tuple_of outer s) (λ rest. tuple_of (own_places (length s) items) (s ++ rest)) (rows_choices (tables_of catalog instance items)))
    ∙ ap (map (λ own. own ++ tuple_of outer s)) (own_tuples catalog instance items s)
