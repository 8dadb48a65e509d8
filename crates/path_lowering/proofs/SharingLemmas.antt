-- When the key equalities between places of one singleton are True.
use Rattle.std.proofs.Common.{◌≡◌, ℕ, Bool, true, false, ◌&&◌, cond, List, [], ◌∷◌, map, length, refl, sym, ap, ap₂, ◌∙◌, inl, inr, nat_eq}
use Rattle.std.specs.List.{list_all, list_any}
use Rattle.std.proofs.lemmas.Bool.{eqb-true, eq-eqb, and_parts}
use Rattle.pgq_base.specs.declared.value.Value.{Value}
use Rattle.pgq_base.specs.Instances.{RowValues, InstanceRows, values_at, same_values}
use Rattle.pgq_base.proofs.ValueOrder.{same_values_decides}
use Rattle.multisets.specs.Bags.{IsIn}
use Rattle.expr_tree.specs.declared.tree.Comparison.TheVariants.{Equal}
use Rattle.graph_ast.specs.declared.catalog.Catalog.{Catalog}
use Rattle.graph_ast.specs.declared.catalog.Graph.{Graph}
use Rattle.graph_ast.specs.declared.blocks.Tags.{Tags}
use Rattle.graph_ast.specs.Catalogs.{IsValidGraph}
use Rattle.graph_ast.specs.Fits.{Fits}
use Rattle.graph_meaning.specs.Lists.{all_same, tagged, agree}
use Rattle.graph_meaning.specs.View.{same_element}
use Rattle.sql_algebra.specs.declared.tree.ColumnLeaf.{ColumnLeaf}
use Rattle.path_lowering.specs.declared.spots.Kind.{Kind}
use Rattle.path_lowering.specs.declared.spots.Kind.TheVariants.{Vertex, Edge}
use Rattle.path_lowering.specs.declared.spots.Spot.{Spot}
use Rattle.path_lowering.specs.Spots.{element_of_kind, element_at, of_row, row_at, standing, elements_at, same_kind}
use Rattle.path_lowering.specs.Emitted.{compared_columns, same_key, all_same_key, sharing_conditions}
use Rattle.path_lowering.specs.Shown.{Shows}
use Rattle.path_lowering.proofs.Truths.{true_in, all_true_in, list_all-flat_map}
use Rattle.path_lowering.proofs.ColumnLemmas.{all_equal}
use Rattle.path_lowering.proofs.EdgeLemmas.{spot_valid, key_known}
use Rattle.path_lowering.proofs.ConditionLemmas.{tagged_map, tagged_in}

pub kind_same : (a b : Kind) → same_kind a b ≡ true → a ≡ b
kind_same Vertex Vertex h = refl
kind_same Vertex Edge h = cc
kind_same Edge Vertex h = cc
kind_same Edge Edge h = refl

-- the same element of one table by its key
pub same_of_kind : (graph : Graph) (kind : Kind) (n : ℕ) (x y : RowValues)
    → same_element (of_row graph kind n x) (of_row graph kind n y) ≡ same_values (values_at (element_of_kind graph kind n).key x) (values_at (element_of_kind graph kind n).key y)
same_of_kind graph Vertex n x y = ap (λ b. b && same_values (values_at (element_of_kind graph Vertex n).key x) (values_at (element_of_kind graph Vertex n).key y)) (eq-eqb n n refl)
same_of_kind graph Edge n x y = ap (λ b. b && same_values (values_at (element_of_kind graph Edge n).key x) (values_at (element_of_kind graph Edge n).key y)) (eq-eqb n n refl)

module _ (catalog : Catalog) (graph : Graph) (instance : InstanceRows) (prefix : ℕ) (env : ColumnLeaf → Value) (rows : List RowValues) (spots : List Spot)
    (valid : IsValidGraph catalog graph) (fits : Fits catalog instance) (shows : Shows catalog graph instance prefix env rows spots) where
  same_means : (x y : Spot) → IsIn x spots → IsIn y spots → x.kind ≡ y.kind → x.element ≡ y.element
      → all_true_in env (same_key catalog graph prefix x y) ≡ same_element (standing graph rows x) (standing graph rows y)
  same_means x y p q kinds numbers = go (nat_eq x.item y.item) refl ∙ sym is
    where
      elements : element_at graph x ≡ element_at graph y
      elements = ap₂ (element_of_kind graph) kinds numbers

      is : same_element (standing graph rows x) (standing graph rows y) ≡ same_values (values_at (element_at graph x).key (row_at rows x))
          (values_at (element_at graph x).key (row_at rows y))
      is = ap (same_element (standing graph rows x)) (ap₂ (λ k n. of_row graph k n (row_at rows y)) (sym kinds) (sym numbers))
          ∙ same_of_kind graph x.kind x.element (row_at rows x) (row_at rows y)

      go : (b : Bool) → nat_eq x.item y.item ≡ b
          → all_true_in env (cond b [] (compared_columns catalog graph prefix Equal x (element_at graph x).key y (element_at graph y).key))
          ≡ same_values (values_at (element_at graph x).key (row_at rows x)) (values_at (element_at graph x).key (row_at rows y))
      go true e =
          let rows_same : row_at rows x ≡ row_at rows y = ap (λ n. Rattle.std.specs.Prelude.slice_index_or rows n []) (eqb-true _ _ e) in
          sym ((same_values_decides _ _).1 (ap (values_at (element_at graph x).key) rows_same))
      go false e =
          all_equal catalog graph prefix env x y (row_at rows x) (row_at rows y) (shows.columns x p) (shows.columns y q)
          (element_at graph x).key (element_at graph y).key (ap (λ z. length z.key) elements)
          (spot_valid catalog graph instance prefix env rows spots valid fits shows x p).key.places
          (spot_valid catalog graph instance prefix env rows spots valid fits shows y q).key.places
          (key_known catalog graph instance prefix env rows spots valid fits shows y q)
          ∙ ap (λ z. same_values (values_at (element_at graph x).key (row_at rows x)) (values_at z.key (row_at rows y))) (sym elements)

  others_mean : (x : Spot) → IsIn x spots → (xs : List Spot) → ((y : Spot) → IsIn y xs → IsIn y spots)
      → list_all (nat_eq x.element) (map (λ s. s.element) xs) ≡ true → list_all (same_kind x.kind) (map (λ s. s.kind) xs) ≡ true
      → list_all (λ y. all_true_in env (same_key catalog graph prefix x y)) xs ≡ list_all (same_element (standing graph rows x)) (elements_at graph rows xs)
  others_mean x p [] all numbers kinds = refl
  others_mean x p (y ∷ ys) all numbers kinds =
      let n = and_parts _ _ numbers in
      let k = and_parts _ _ kinds in
      ap₂ (λ a b. a && b) (same_means x y p (all y (inl refl)) (kind_same _ _ k.0) (eqb-true _ _ n.0)) (others_mean x p ys (λ z h. all z (inr h)) n.1 k.1)

  group_means : (xs : List Spot) → ((y : Spot) → IsIn y xs → IsIn y spots)
      → all_same nat_eq (map (λ s. s.element) xs) ≡ true → all_same same_kind (map (λ s. s.kind) xs) ≡ true
      → all_true_in env (all_same_key catalog graph prefix xs) ≡ all_same same_element (elements_at graph rows xs)
  group_means [] all numbers kinds = refl
  group_means (x ∷ xs) all numbers kinds =
      list_all-flat_map (true_in env) (same_key catalog graph prefix x) xs ∙ others_mean x (all x (inl refl)) xs (λ y h. all y (inr h)) numbers kinds

  -- the key equalities of shared places say that the places of each singleton hold one element
  pub sharing_means : (names : List (List ℕ)) (tags : List Tags) → agree nat_eq names tags (map (λ s. s.element) spots) ≡ true
      → agree same_kind names tags (map (λ s. s.kind) spots) ≡ true
      → all_true_in env (sharing_conditions catalog graph prefix names tags spots) ≡ agree same_element names tags (elements_at graph rows spots)
  sharing_means names tags numbers kinds = list_all-flat_map (true_in env) (λ name. all_same_key catalog graph prefix (tagged name tags spots)) names
      ∙ each_name names numbers kinds
    where
      each_name : (some : List (List ℕ)) → agree nat_eq some tags (map (λ s. s.element) spots) ≡ true → agree same_kind some tags (map (λ s. s.kind) spots) ≡ true
          → list_all (λ name. all_true_in env (all_same_key catalog graph prefix (tagged name tags spots))) some ≡ agree same_element some tags (elements_at graph rows spots)
      each_name [] numbers kinds = refl
      each_name (name ∷ more) numbers kinds =
          let n = and_parts _ _ numbers in
          let k = and_parts _ _ kinds in
          ap₂ (λ a b. a && b)
          (group_means (tagged name tags spots) (λ y h. tagged_in name tags spots y h)
          (sym (ap (all_same nat_eq) (tagged_map (λ s. s.element) name tags spots)) ∙ n.0)
          (sym (ap (all_same same_kind) (tagged_map (λ s. s.kind) name tags spots)) ∙ k.0)
          ∙ ap (all_same same_element) (sym (tagged_map (standing graph rows) name tags spots)))
          (each_name more n.1 k.1)
