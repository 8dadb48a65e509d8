-- The SELECT of a block that is laid out is sound.
use Rattle.std.proofs.Common.{◌≡◌, ℕ, ◌<◌, ◌≤◌, Bool, true, false, cond, List, [], ◌∷◌, ◌++◌, map, length, refl, sym, ap, subst, ◌∙◌, inl, inr, Option, None, Some, bytes_eq}
use Rattle.std.specs.List.{list_all}
use Rattle.std.proofs.lemmas.List.Folds.{list_all-append}
use Rattle.std.proofs.lemmas.Slice.Eq.{bytes_eq-Decides}
use Rattle.multisets.specs.Bags.{IsIn, IsWithoutRepeats}
use Rattle.expr_tree.specs.declared.tree.Expr.TheVariants.{Null, Leaf}
use Rattle.expr_tree.specs.Classes.{class_in}
use Rattle.expr_tree.specs.Leaves.{leaves_in, EachLeaf}
use Rattle.expr_tree.proofs.Folds.{each_implies}
use Rattle.graph_ast.specs.declared.catalog.Catalog.{Catalog}
use Rattle.graph_ast.specs.declared.catalog.Graph.{Graph}
use Rattle.graph_ast.specs.declared.catalog.Property.{Property}
use Rattle.graph_ast.specs.declared.checked.Output.{Output}
use Rattle.graph_ast.specs.declared.checked.PropertyLeaf.{PropertyLeaf}
use Rattle.graph_ast.specs.Catalogs.{IsValidCatalog, IsValidGraph}
use Rattle.graph_ast.specs.Lookups.{table_at, column_at, column_named, column_of}
use Rattle.graph_ast.specs.Types.{class_of_type}
use Rattle.graph_ast.specs.declared.blocks.Alternative.{Alternative}
use Rattle.graph_meaning.specs.Choices.{Condition, Scoped, expansion_of}
use Rattle.sql_algebra.specs.declared.tree.FromItem.{FromItem}
use Rattle.sql_algebra.specs.declared.tree.Select.{Select}
use Rattle.sql_algebra.specs.declared.tree.SelectColumn.{SelectColumn}
use Rattle.sql_algebra.specs.declared.tree.Conjunct.{Conjunct}
use Rattle.sql_algebra.specs.Soundness.{Reach, leaf_class, value_is_sound, condition_is_sound, differ_from, select_is_sound, classes_of}
use Rattle.sql_algebra.proofs.Folds.{conjunct_is_sound, select_sound}
use Rattle.path_lowering.specs.declared.placing.Source.{Source}
use Rattle.path_lowering.specs.declared.spots.Spot.{Spot}
use Rattle.path_lowering.specs.Spots.{element_at}
use Rattle.path_lowering.specs.Emitted.{SqlCondition, leaf_of, lowered_property, lowered_leaf, lowered, spot_by}
use Rattle.path_lowering.specs.Placed.{from_of, where_of}
use Rattle.path_lowering.specs.Blocks.{Laid, laid_tags, laid_spots, sources_of, alternatives_of, column_for, block_conditions}
use Rattle.path_lowering.specs.Selects.{select_for, select_besides, IsBlockLaid}
use Rattle.path_lowering.specs.Lowered.{Combining}
use Rattle.path_lowering.specs.Sound.{class_is, HasItsClass, IsSoundExpression, IsSoundCondition, IsBuilding}
use Rattle.path_lowering.proofs.Facts.{element_valid}
use Rattle.path_lowering.proofs.Lists.{append-nil, map-again, map-append, map-each}
use Rattle.path_lowering.proofs.PlacingLemmas.{and_join, of_each}
use Rattle.path_lowering.proofs.SharedLemmas.{in_mapped}
use Rattle.path_lowering.proofs.SoundForms.{leaf_value_sound, leaf_class_is, null_value_sound, null_class_is, pair_sound, all_sound, any_sound, StandsFor, mapped_value_sound}
use Rattle.path_lowering.proofs.SoundForms.{mapped_class_is, mapped_sound}
use Rattle.path_lowering.proofs.SoundPlacing.{ons_sound, where_sound}
use Rattle.path_lowering.proofs.SoundReach.{IsReached, column_sound, element_in, names_apart, reached, aliases_apart, tables_known}
use Rattle.path_lowering.proofs.SoundConditions.{Accepts, append_fine}
use Rattle.path_lowering.proofs.SoundBlock.{BecomesFine, block_fine, tags_within}

-- the property of a name
named_property : (name : List ℕ) (properties : List Property) (column : ℕ) → column_named name properties ≡ Some column
    → (property : Property) × IsIn property properties × (property.name ≡ name) × (property.column ≡ column)
named_property name [] column h = cc
named_property name (property ∷ properties) column h = go (bytes_eq property.name name) refl h (named_property name properties column)
  where
    go : (b : Bool) → bytes_eq property.name name ≡ b → cond b (Some property.column) (column_named name properties) ≡ Some column
        → (column_named name properties ≡ Some column → (p : Property) × IsIn p properties × (p.name ≡ name) × (p.column ≡ column))
        → (p : Property) × IsIn p (property ∷ properties) × (p.name ≡ name) × (p.column ≡ column)
    go true e k more = (property, inl refl, (bytes_eq-Decides property.name name).0 e, cc)
    go false e k more = let m = more k in (m.0, inr m.1, m.2, m.3)

module _ (catalog : Catalog) (graph : Graph) (prefix : ℕ) (reach : Reach) (sound : IsValidCatalog catalog) (valid : IsValidGraph catalog graph) (spots : List Spot)
    (reached_all : (spot : Spot) → IsIn spot spots → IsReached catalog graph prefix reach spot) where
  pub accepts : Accepts catalog graph prefix valid (condition_is_sound catalog reach) spots
  accepts = record {
    there = λ spot h. (reached_all spot h).there;
    pair = λ op a b x y p q low high same. pair_sound catalog reach op (leaf_of catalog graph prefix a x) (leaf_of catalog graph prefix b y)
        (column_sound catalog graph prefix reach sound valid a (reached_all a p) x low) (column_sound catalog graph prefix reach sound valid b (reached_all b q) y high) same;
    all = λ es two h. all_sound catalog reach es h;
    any = λ es two h. any_sound catalog reach es h;
  }

  -- what a property becomes at a place
  property_stands : (spot : Spot) → IsIn spot spots → (leaf : PropertyLeaf) → HasItsClass catalog graph leaf
      → (value_is_sound catalog reach (lowered_property catalog graph prefix spot leaf) ≡ true)
      × (class_in leaf_class (lowered_property catalog graph prefix spot leaf) ≡ leaf.class)
  property_stands spot h leaf known = go (column_of (element_at graph spot) leaf.property) refl
    where
      go : (o : Option ℕ) → column_of (element_at graph spot) leaf.property ≡ o
          → (value_is_sound catalog reach (elim o [ None ↦ Null leaf.class | Some column ↦ Leaf (leaf_of catalog graph prefix spot column) ]) ≡ true)
          × (class_in leaf_class (elim o [ None ↦ Null leaf.class | Some column ↦ Leaf (leaf_of catalog graph prefix spot column) ]) ≡ leaf.class)
      go None e = (null_value_sound catalog reach leaf.class, null_class_is catalog reach leaf.class)
      go (Some column) e =
          let m = named_property leaf.property (element_at graph spot).properties column e in
          let ok = reached_all spot h in
          let below = subst (λ n. n < length (table_at catalog (element_at graph spot).table).columns) m.3
          ((element_valid catalog graph valid spot.kind spot.element ok.there).property_columns m.0 m.1) in (
            leaf_value_sound catalog reach (leaf_of catalog graph prefix spot column) (column_sound catalog graph prefix reach sound valid spot ok column below),
            leaf_class_is catalog reach (leaf_of catalog graph prefix spot column)
                ∙ ap (λ n. class_of_type (column_at (table_at catalog (element_at graph spot).table) n).kind) (sym m.3)
                ∙ known (element_at graph spot) m.0 (element_in graph spot.kind spot.element ok.there) m.1 m.2,
          )

  module _ (holding : List ℕ → Option Spot) (within : (name : List ℕ) (spot : Spot) → holding name ≡ Some spot → IsIn spot spots) where
    leaf_stands : (leaf : PropertyLeaf) → HasItsClass catalog graph leaf → StandsFor catalog reach class_is (lowered_leaf catalog graph prefix holding) leaf
    leaf_stands leaf known = let p = go (holding leaf.variable) refl in record { sound = p.0; class = p.1 }
      where
        go : (o : Option Spot) → holding leaf.variable ≡ o
            → (value_is_sound catalog reach (elim o [ None ↦ Null leaf.class | Some spot ↦ lowered_property catalog graph prefix spot leaf ]) ≡ true)
            × (class_in leaf_class (elim o [ None ↦ Null leaf.class | Some spot ↦ lowered_property catalog graph prefix spot leaf ]) ≡ leaf.class)
        go None e = (null_value_sound catalog reach leaf.class, null_class_is catalog reach leaf.class)
        go (Some spot) e = property_stands spot (within leaf.variable spot e) leaf known

    each_stands : (e : Condition) → EachLeaf (HasItsClass catalog graph) e → EachLeaf (StandsFor catalog reach class_is (lowered_leaf catalog graph prefix holding)) e
    each_stands e each = each_implies (HasItsClass catalog graph) (StandsFor catalog reach class_is (lowered_leaf catalog graph prefix holding)) leaf_stands (leaves_in e) each

    pub lowered_value_sound : (e : Condition) → IsSoundExpression catalog graph e → value_is_sound catalog reach (lowered catalog graph prefix holding e) ≡ true
    lowered_value_sound e ok = mapped_value_sound catalog reach class_is (lowered_leaf catalog graph prefix holding) e (each_stands e ok.leaves) ok.well_classed

    pub lowered_class : (e : Condition) → IsSoundExpression catalog graph e → class_in leaf_class (lowered catalog graph prefix holding e) ≡ class_in class_is e
    lowered_class e ok = mapped_class_is catalog reach class_is (lowered_leaf catalog graph prefix holding) e (each_stands e ok.leaves)

    lowered_sound : (e : Condition) → IsSoundCondition catalog graph e → condition_is_sound catalog reach (lowered catalog graph prefix holding e) ≡ true
    lowered_sound e ok = mapped_sound catalog reach class_is (lowered_leaf catalog graph prefix holding) e (each_stands e ok.sound.leaves) ok.sound.well_classed ok.truth

  pub becomes_sound : (e : Condition) → IsSoundCondition catalog graph e → BecomesFine catalog graph prefix valid (condition_is_sound catalog reach) spots accepts e
  becomes_sound e ok holding within = lowered_sound holding within e ok

-- the SELECT of a block is that with nothing besides
pub plainly : (catalog : Catalog) (graph : Graph) (prefix : ℕ) (names : List (List ℕ)) (parts : List Laid) (condition : Option Condition) (outputs : List Output)
    → select_for catalog graph prefix names parts condition outputs ≡ select_besides catalog graph prefix names parts condition outputs [] []
plainly catalog graph prefix names parts condition outputs =
    let columns = map (column_for catalog graph prefix (laid_tags parts) (laid_spots parts)) outputs in
    let sources = sources_of catalog graph prefix (laid_spots parts) in
    ap (λ conditions. record { columns = columns; from = from_of sources conditions; conjuncts = where_of sources conditions })
    (sym (append-nil (block_conditions catalog graph prefix names parts condition)))
    ∙ ap (λ conjuncts. record { columns = columns; from = from_of sources (block_conditions catalog graph prefix names parts condition ++ []); conjuncts = conjuncts })
    (sym (append-nil (where_of sources (block_conditions catalog graph prefix names parts condition ++ []))))

-- a path block of the select: its conditions are what its alternatives become, and those of the query in them are sound
pub record IsSoundlyMade (catalog : Catalog) (graph : Graph) (prefix : ℕ) (combined : Combining) (laid : Laid) : Type 0 where
  pub some : 1 ≤ length laid.part.alternatives
  pub conditions : laid.conditions ≡ combined (alternatives_of catalog graph prefix laid.path laid.part laid.spots)
  pub scoped : (choice : Alternative) → IsIn choice laid.part.alternatives → (scoped : Scoped) → IsIn scoped (expansion_of laid.path choice).conditions
      → IsSoundCondition catalog graph scoped.condition

module _ (catalog : Catalog) (graph : Graph) (prefix : ℕ) (names : List (List ℕ)) (parts : List Laid) (condition : Option Condition) (outputs : List Output)
    (sound : IsValidCatalog catalog) (valid : IsValidGraph catalog graph) (ok : IsBlockLaid catalog graph prefix names parts condition outputs) (combined : Combining)
    (builds : IsBuilding combined)
    (made : (laid : Laid) → IsIn laid parts → IsSoundlyMade catalog graph prefix combined laid) (last : (c : Condition) → condition ≡ Some c → IsSoundCondition catalog graph c)
    (columns : (output : Output) → IsIn output outputs → IsSoundExpression catalog graph output.value) where
  abbrev sources : List Source
  sources = sources_of catalog graph prefix (laid_spots parts)

  abbrev column_of_output : Output → SelectColumn
  column_of_output = column_for catalog graph prefix (laid_tags parts) (laid_spots parts)

  within : (name : List ℕ) (spot : Spot) → spot_by (laid_tags parts) (laid_spots parts) name ≡ Some spot → IsIn spot (laid_spots parts)
  within = tags_within (laid_tags parts) (laid_spots parts)

  -- with more conditions and conjuncts, under the reach of selects around it
  module _ (besides : List SqlCondition) (more : List Conjunct) (outer : Reach) where
    abbrev conditions : List SqlCondition
    conditions = block_conditions catalog graph prefix names parts condition ++ besides

    abbrev pub items : List FromItem
    items = from_of sources conditions

    abbrev pub reach : Reach
    reach = items ++ outer

    abbrev select : Select
    select = select_besides catalog graph prefix names parts condition outputs besides more

    pub reached_all : (spot : Spot) → IsIn spot (laid_spots parts) → IsReached catalog graph prefix reach spot
    reached_all = reached catalog graph prefix names parts condition outputs sound valid ok conditions outer

    becomes : (e : Condition) → IsSoundCondition catalog graph e
        → BecomesFine catalog graph prefix valid (condition_is_sound catalog reach) (laid_spots parts)
        (accepts catalog graph prefix reach sound valid (laid_spots parts) reached_all) e
    becomes = becomes_sound catalog graph prefix reach sound valid (laid_spots parts) reached_all

    conditions_sound : list_all (condition_is_sound catalog reach) besides ≡ true → list_all (condition_is_sound catalog reach) conditions ≡ true
    conditions_sound h =
        append_fine (condition_is_sound catalog reach) (block_conditions catalog graph prefix names parts condition) besides
        (block_fine catalog graph prefix valid (condition_is_sound catalog reach) (laid_spots parts) (accepts catalog graph prefix reach sound valid (laid_spots parts) reached_all)
        names parts condition outputs combined builds ok refl
        (λ laid h. let m = made laid h in record { some = m.some; conditions = m.conditions; scoped = λ choice k scoped l. becomes scoped.condition (m.scoped choice k scoped l) })
        (λ c e. becomes c (last c e))) h

    column_sound_at : (column : SelectColumn) → IsIn column (map column_of_output outputs) → value_is_sound catalog reach column.value ≡ true
    column_sound_at column h =
        let m = in_mapped column_of_output column outputs h in
        ap (λ c. value_is_sound catalog reach c.value) (sym m.2)
        ∙ lowered_value_sound catalog graph prefix reach sound valid (laid_spots parts) reached_all (spot_by (laid_tags parts) (laid_spots parts)) within m.0.value
        (columns m.0 m.1)

    pub besides_is : differ_from (map (λ item. item.alias) outer) (map (λ item. item.alias) items) ≡ true → list_all (condition_is_sound catalog reach) besides ≡ true
        → list_all (λ conjunct. conjunct reach) (map (conjunct_is_sound catalog) more) ≡ true → IsWithoutRepeats (map (λ output. output.name) outputs)
        → select_is_sound catalog select outer ≡ true
    besides_is aliases h more_sound apart =
        ap (λ f. f outer) (select_sound catalog select)
        ∙ and_join _ _ (and_join _ _ (and_join _ _ (and_join _ _ (and_join _ _
        (tables_known catalog graph prefix names parts condition outputs sound valid ok conditions)
        aliases)
        (ap (differ_from []) (map-again (λ column. column.name) column_of_output outputs) ∙ names_apart (map (λ output. output.name) outputs) apart))
        (of_each (λ column. value_is_sound catalog reach column.value) (map column_of_output outputs) column_sound_at))
        (ons_sound catalog outer sources conditions (conditions_sound h)))
        (ap (list_all (λ conjunct. conjunct reach)) (map-append (conjunct_is_sound catalog) (where_of sources conditions) more)
        ∙ list_all-append (λ conjunct. conjunct reach) (map (conjunct_is_sound catalog) (where_of sources conditions)) (map (conjunct_is_sound catalog) more)
        ∙ and_join _ _ (where_sound catalog reach sources conditions (conditions_sound h)) more_sound)

  -- the classes of the columns are those of the query's
  pub classes_are : classes_of (select_for catalog graph prefix names parts condition outputs).columns ≡ map (λ output. class_in class_is output.value) outputs
  classes_are =
      map-again (λ column. class_in leaf_class column.value) column_of_output outputs
      ∙ map-each _ (λ output. class_in class_is output.value) outputs
      (λ output h. lowered_class catalog graph prefix (reach [] [] []) sound valid (laid_spots parts) (reached_all [] [] []) (spot_by (laid_tags parts) (laid_spots parts))
      within output.value (columns output h))

  pub select_is : IsWithoutRepeats (map (λ output. output.name) outputs) → select_is_sound catalog (select_for catalog graph prefix names parts condition outputs) [] ≡ true
  select_is apart =
      ap (λ select. select_is_sound catalog select []) (plainly catalog graph prefix names parts condition outputs)
      ∙ besides_is [] [] []
      (aliases_apart catalog graph prefix names parts condition outputs sound valid ok (block_conditions catalog graph prefix names parts condition ++ [])) refl refl apart
