-- When a condition over properties, and that over the columns for which they stand, are True.
use Rattle.std.proofs.Common.{◌≡◌, ℕ, ◌<◌, Bool, true, false, ◌&&◌, cond, List, [], ◌∷◌, map, length, refl, sym, ap, ap₂, subst, ◌∙◌, inl, inr, Option, None, Some, option_map}
use Rattle.std.proofs.Common.{bytes_eq}
use Rattle.std.specs.Prelude.{slice_get}
use Rattle.std.specs.List.{list_all, list_any}
use Rattle.std.proofs.lemmas.Option.{slice_get-map}
use Rattle.pgq_base.specs.declared.value.Value.{Value}
use Rattle.pgq_base.specs.declared.value.Value.TheVariants as value
use Rattle.pgq_base.specs.Instances.{RowValues, InstanceRows, value_at}
use Rattle.multisets.specs.Bags.{IsIn}
use Rattle.expr_tree.specs.Leaves.{leaves_in, EachLeaf}
use Rattle.expr_tree.specs.Meaning.{truth_of_value, value_in, truth_in}
use Rattle.expr_tree.proofs.Folds.{each_implies}
use Rattle.expr_tree.proofs.FormLemmas.{values}
use Rattle.expr_tree.proofs.LawLemmas.{mapped_value}
use Rattle.graph_ast.specs.declared.catalog.Catalog.{Catalog}
use Rattle.graph_ast.specs.declared.catalog.Graph.{Graph}
use Rattle.graph_ast.specs.declared.catalog.Element.{Element}
use Rattle.graph_ast.specs.declared.catalog.Property.{Property}
use Rattle.graph_ast.specs.declared.checked.PropertyLeaf.{PropertyLeaf}
use Rattle.graph_ast.specs.declared.blocks.Tags.{Tags}
use Rattle.graph_ast.specs.Lookups.{table_at, column_named, column_of}
use Rattle.graph_ast.specs.Catalogs.{IsValidGraph}
use Rattle.graph_ast.specs.Fits.{Fits}
use Rattle.graph_meaning.specs.Lists.{first_of, tagged}
use Rattle.graph_meaning.specs.View.{GraphElement, element_of, row_of, property_value}
use Rattle.graph_meaning.specs.Choices.{Condition, PlacedPiece, Scoped}
use Rattle.graph_meaning.specs.Conditions.{Holding, held_value, leaf_value, is_met, place_in, held_in, held_by}
use Rattle.graph_meaning.specs.Readings.{meets_condition}
use Rattle.sql_algebra.specs.declared.tree.ColumnLeaf.{ColumnLeaf}
use Rattle.path_lowering.specs.declared.spots.Kind.{Kind}
use Rattle.path_lowering.specs.declared.spots.Kind.TheVariants.{Vertex, Edge}
use Rattle.path_lowering.specs.declared.spots.Spot.{Spot}
use Rattle.path_lowering.specs.Spots.{element_of_kind, element_at, of_row, row_at, standing, elements_at}
use Rattle.path_lowering.specs.Emitted.{leaf_of, lowered_property, lowered_leaf, lowered, spot_in, spot_by, scoped_condition}
use Rattle.path_lowering.specs.Shown.{Shows}
use Rattle.path_lowering.specs.Blocks.{IsPlain}
use Rattle.path_lowering.proofs.Truths.{true_in, all_true_in, true_twice}
use Rattle.path_lowering.proofs.Facts.{row_found}
use Rattle.path_lowering.proofs.EdgeLemmas.{spot_valid}
use Rattle.path_lowering.proofs.PieceLemmas.{got_in}

pub named_column : (name : List ℕ) (properties : List Property) (column : ℕ) → column_named name properties ≡ Some column
    → (property : Property) × IsIn property properties × (property.column ≡ column)
named_column name [] column h = cc
named_column name (property ∷ properties) column h = go (bytes_eq property.name name) refl (named_column name properties column)
  where
    go : (b : Bool) → bytes_eq property.name name ≡ b → (column_named name properties ≡ Some column → (p : Property) × IsIn p properties × (p.column ≡ column))
        → (p : Property) × IsIn p (property ∷ properties) × (p.column ≡ column)
    go true e more = let k : Some property.column ≡ Some column = sym (ap (λ b. cond b (Some property.column) (column_named name properties)) e) ∙ h in (property, inl refl, cc)
    go false e more = let m = more (sym (ap (λ b. cond b (Some property.column) (column_named name properties)) e) ∙ h) in (m.0, inr m.1, m.2)

pub tagged_map : {X Y : Type 0} (f : X → Y) (name : List ℕ) (tags : List Tags) (xs : List X) → tagged name tags (map f xs) ≡ map f (tagged name tags xs)
tagged_map f name [] xs = refl
tagged_map f name (t ∷ ts) [] = refl
tagged_map f name (t ∷ ts) (x ∷ xs) = go (list_any (bytes_eq name) t.names) (tagged_map f name ts xs)
  where
    go : (b : Bool) → tagged name ts (map f xs) ≡ map f (tagged name ts xs)
        → cond b (f x ∷ tagged name ts (map f xs)) (tagged name ts (map f xs)) ≡ map f (cond b (x ∷ tagged name ts xs) (tagged name ts xs))
    go true e = ap (λ l. f x ∷ l) e
    go false e = e

pub tagged_in : {X : Type 0} (name : List ℕ) (tags : List Tags) (xs : List X) (y : X) → IsIn y (tagged name tags xs) → IsIn y xs
tagged_in name [] xs y h = absurd h
tagged_in name (t ∷ ts) [] y h = absurd h
tagged_in name (t ∷ ts) (x ∷ xs) y h = go (list_any (bytes_eq name) t.names) h (tagged_in name ts xs y)
  where
    go : (b : Bool) → IsIn y (cond b (x ∷ tagged name ts xs) (tagged name ts xs)) → (IsIn y (tagged name ts xs) → IsIn y xs) → IsIn y (x ∷ xs)
    go true (inl e) more = inl e
    go true (inr k) more = inr (more k)
    go false k more = inr (more k)

first_map : {X Y : Type 0} (f : X → Y) (xs : List X) → first_of (map f xs) ≡ option_map f (first_of xs)
first_map f [] = refl
first_map f (x ∷ xs) = refl

pub first_in : {X : Type 0} (xs : List X) (x : X) → first_of xs ≡ Some x → IsIn x xs
first_in [] x h = cc
first_in (y ∷ ys) x h = inl (cc)

pub element_stands : (graph : Graph) (kind : Kind) (number : ℕ) (row : RowValues) → element_of graph (of_row graph kind number row) ≡ element_of_kind graph kind number
element_stands graph Vertex number row = refl
element_stands graph Edge number row = refl

module _ (catalog : Catalog) (graph : Graph) (instance : InstanceRows) (prefix : ℕ) (env : ColumnLeaf → Value) (rows : List RowValues) (spots : List Spot)
    (valid : IsValidGraph catalog graph) (fits : Fits catalog instance) (shows : Shows catalog graph instance prefix env rows spots) where
  row_stands : (spot : Spot) → IsIn spot spots → row_of graph instance (standing graph rows spot) ≡ row_at rows spot
  row_stands spot h = by_kind spot.kind spot.element (row_at rows spot)
      (row_found catalog instance fits (element_at graph spot) (spot_valid catalog graph instance prefix env rows spots valid fits shows spot h) (row_at rows spot)
      (shows.members spot h))
    where
      by_kind : (kind : Kind) (number : ℕ) (row : RowValues)
          → Rattle.graph_meaning.specs.View.row_with (element_of_kind graph kind number).key
          (Rattle.pgq_base.specs.Instances.values_at (element_of_kind graph kind number).key row)
          (Rattle.graph_meaning.specs.View.rows_of instance (element_of_kind graph kind number)) ≡ row
          → row_of graph instance (of_row graph kind number row) ≡ row
      by_kind Vertex number row e = e
      by_kind Edge number row e = e

  property_means : (spot : Spot) → IsIn spot spots → (leaf : PropertyLeaf)
      → value_in env (lowered_property catalog graph prefix spot leaf) ≡ property_value graph instance (standing graph rows spot) leaf.property
  property_means spot h leaf =
      go (column_of (element_at graph spot) leaf.property) refl
      ∙ sym (ap (λ (element : Element). elim (column_of element leaf.property) [
        | None ↦ value.Null
        | Some column ↦ value_at (row_of graph instance (standing graph rows spot)) column
      ])
      (element_stands graph spot.kind spot.element (row_at rows spot)))
    where
      go : (o : Option ℕ) → column_of (element_at graph spot) leaf.property ≡ o
          → value_in env (elim o [
            | None ↦ Rattle.expr_tree.specs.declared.tree.Expr.TheVariants.Null leaf.class
            | Some column ↦ Rattle.expr_tree.specs.declared.tree.Expr.TheVariants.Leaf (leaf_of catalog graph prefix spot column)
          ])
          ≡ elim o [ None ↦ value.Null | Some column ↦ value_at (row_of graph instance (standing graph rows spot)) column ]
      go None e = (values env).null leaf.class
      go (Some column) e =
          let found = named_column leaf.property (element_at graph spot).properties column e in
          let ok = spot_valid catalog graph instance prefix env rows spots valid fits shows spot h in
          (values env).leaf (leaf_of catalog graph prefix spot column)
          ∙ shows.columns spot h column (subst (λ n. n < length (table_at catalog (element_at graph spot).table).columns) found.2 (ok.property_columns found.0 found.1))
          ∙ ap (λ row. value_at row column) (sym (row_stands spot h))

  -- a map of variables to places goes with one of variables to elements
  pub record Follows (holding : List ℕ → Option Spot) (held : Holding) : Type 0 where
    pub within : (name : List ℕ) (spot : Spot) → holding name ≡ Some spot → IsIn spot spots
    pub elements : (name : List ℕ) → held name ≡ option_map (standing graph rows) (holding name)

  module _ (holding : List ℕ → Option Spot) (held : Holding) (follows : Follows holding held) where
    held_means : (leaf : PropertyLeaf) → value_in env (lowered_leaf catalog graph prefix holding leaf) ≡ held_value graph instance (held leaf.variable) leaf.property
    held_means leaf = go (holding leaf.variable) refl ∙ sym (ap (λ o. held_value graph instance o leaf.property) (follows.elements leaf.variable))
      where
        go : (o : Option Spot) → holding leaf.variable ≡ o
            → value_in env (elim o [ None ↦ Rattle.expr_tree.specs.declared.tree.Expr.TheVariants.Null leaf.class | Some spot ↦ lowered_property catalog graph prefix spot leaf ])
            ≡ held_value graph instance (option_map (standing graph rows) o) leaf.property
        go None e = (values env).null leaf.class
        go (Some spot) e = property_means spot (follows.within leaf.variable spot e) leaf

    leaf_means : (leaf : PropertyLeaf) → IsPlain leaf → value_in env (lowered_leaf catalog graph prefix holding leaf) ≡ leaf_value graph instance held leaf
    leaf_means leaf plain =
        held_means leaf
        ∙ sym (ap (λ t. elim t [
          | None ↦ held_value graph instance (held leaf.variable) leaf.property
          | Some test ↦ value.Truth (Rattle.graph_meaning.specs.Conditions.passes_test held test)
        ]) plain)

    pub value_means : (condition : Condition) → EachLeaf IsPlain condition → value_in env (lowered catalog graph prefix holding condition)
        ≡ value_in (leaf_value graph instance held) condition
    value_means condition plain =
        mapped_value (lowered_leaf catalog graph prefix holding) env (leaf_value graph instance held) condition
        (each_implies IsPlain (λ l. value_in env (lowered_leaf catalog graph prefix holding l) ≡ leaf_value graph instance held l) leaf_means (leaves_in condition) plain)

    -- the condition over columns is True where the pattern's is
    pub condition_means : (condition : Condition) → EachLeaf IsPlain condition → true_in env (lowered catalog graph prefix holding condition) ≡ is_met graph instance held condition
    condition_means condition plain =
        true_twice (truth_in env (lowered catalog graph prefix holding condition))
        ∙ ap (λ v. Rattle.graph_meaning.specs.Conditions.is_true (truth_of_value v)) (value_means condition plain)

  pub follows_scope : (scope : List PlacedPiece) → Follows (spot_in scope spots) (held_in scope (elements_at graph rows spots))
  follows_scope scope = record { within = λ name spot e. inside (place_in scope name) spot e; elements = λ name. same (place_in scope name) }
    where
      inside : (o : Option ℕ) (spot : Spot) → elim o [ None ↦ None | Some place ↦ slice_get spots place ] ≡ Some spot → IsIn spot spots
      inside None spot e = cc
      inside (Some place) spot e = got_in spots place spot e

      same : (o : Option ℕ) → elim o [ None ↦ None | Some place ↦ slice_get (elements_at graph rows spots) place ]
          ≡ option_map (standing graph rows) (elim o [ None ↦ None | Some place ↦ slice_get spots place ])
      same None = refl
      same (Some place) = slice_get-map (standing graph rows) spots place

  pub follows_tags : (tags : List Tags) → Follows (spot_by tags spots) (held_by tags (elements_at graph rows spots))
  follows_tags tags = record {
    within = λ name spot e. tagged_in name tags spots spot (first_in (tagged name tags spots) spot e);
    elements = λ name. ap first_of (tagged_map (standing graph rows) name tags spots) ∙ first_map (standing graph rows) (tagged name tags spots);
  }

  -- the conditions of a choice
  pub scoped_mean : (conditions : List Scoped) → ((scoped : Scoped) → IsIn scoped conditions → EachLeaf IsPlain scoped.condition)
      → list_all (meets_condition graph instance (elements_at graph rows spots)) conditions ≡ all_true_in env (map (scoped_condition catalog graph prefix spots) conditions)
  scoped_mean [] plain = refl
  scoped_mean (scoped ∷ more) plain =
      ap₂ (λ a b. a && b)
      (sym (condition_means (spot_in scoped.scope spots) (held_in scoped.scope (elements_at graph rows spots)) (follows_scope scoped.scope) scoped.condition
      (plain scoped (inl refl))))
      (scoped_mean more (λ s k. plain s (inr k)))
