-- The SELECT of a block that is laid out has a text.
use Rattle.std.proofs.Common.{◌≡◌, ℕ, suc, ◌<◌, ◌≤◌, Bool, true, false, ◌&&◌, List, [], ◌∷◌, ◌++◌, map, length, refl, sym, ap, subst, ◌∙◌, inl, inr, Option, None, Some, arith}
use Rattle.std.specs.List.{list_all}
use Rattle.std.proofs.lemmas.List.Folds.{list_all-append}
use Rattle.std.proofs.Math.ListN.{length-map}
use Rattle.pgq_base.specs.declared.value.Value.TheVariants as value
use Rattle.multisets.specs.Bags.{IsIn}
use Rattle.expr_tree.specs.declared.tree.Expr.TheVariants.{Lit, Null, Leaf}
use Rattle.expr_tree.specs.Leaves.{leaves_in}
use Rattle.expr_tree.proofs.Folds.{each_from_all}
use Rattle.graph_ast.specs.declared.catalog.Catalog.{Catalog}
use Rattle.graph_ast.specs.declared.catalog.ColumnType.TheVariants.{Boolean}
use Rattle.graph_ast.specs.declared.catalog.Graph.{Graph}
use Rattle.graph_ast.specs.declared.catalog.Table.{Table}
use Rattle.graph_ast.specs.declared.checked.Output.{Output}
use Rattle.graph_ast.specs.declared.checked.PropertyLeaf.{PropertyLeaf}
use Rattle.graph_ast.specs.declared.blocks.Alternative.{Alternative}
use Rattle.graph_ast.specs.Catalogs.{IsValidCatalog, IsValidGraph}
use Rattle.graph_ast.specs.Lookups.{table_at, column_at, column_of}
use Rattle.graph_meaning.specs.Choices.{Condition, Scoped, expansion_of}
use Rattle.sql_algebra.specs.declared.tree.Select.{Select}
use Rattle.sql_algebra.specs.declared.tree.SelectColumn.{SelectColumn}
use Rattle.sql_algebra.specs.declared.tree.Conjunct.{Conjunct}
use Rattle.sql_algebra.specs.declared.tree.Conjunct.TheVariants.{Plain}
use Rattle.sql_algebra.specs.Printable.{is_name, has_one, all_true, value_is_printable, item_is_printable, begins_chain, column_is_printable, conjunct_step, select_step}
use Rattle.sql_algebra.specs.Printable.{select_is_printable}
use Rattle.sql_algebra.specs.Soundness.{Reach}
use Rattle.sql_algebra.proofs.Folds.{of_conjunct, at_select, at_plain}
use Rattle.path_lowering.specs.declared.placing.Source.{Source}
use Rattle.path_lowering.specs.declared.spots.Spot.{Spot}
use Rattle.path_lowering.specs.Spots.{element_at}
use Rattle.path_lowering.specs.Emitted.{SqlCondition, leaf_of, lowered_property, lowered_leaf, lowered, spot_by}
use Rattle.path_lowering.specs.Placed.{standing_by, or_true, joined_items, from_of, where_of}
use Rattle.path_lowering.specs.Blocks.{Laid, laid_tags, laid_spots, own_spots, source_of, sources_of, alternatives_of, column_for, block_conditions}
use Rattle.path_lowering.specs.Selects.{select_for, select_besides, IsBlockLaid}
use Rattle.path_lowering.specs.Lowered.{Combining}
use Rattle.path_lowering.specs.Sound.{IsBuilding}
use Rattle.path_lowering.specs.SoundTexts.{IsSpelled, HasNames}
use Rattle.path_lowering.proofs.ConditionLemmas.{named_column}
use Rattle.path_lowering.proofs.Facts.{in_at, element_valid}
use Rattle.path_lowering.proofs.Lists.{map-append}
use Rattle.path_lowering.proofs.PlacingLemmas.{and_join, each_of, of_each, in_kept}
use Rattle.path_lowering.proofs.SharedLemmas.{in_mapped}
use Rattle.path_lowering.proofs.SoundReach.{IsReached, reached, own_in, some_source}
use Rattle.path_lowering.proofs.SoundConditions.{Accepts, append_fine}
use Rattle.path_lowering.proofs.SoundSelect.{plainly}
use Rattle.path_lowering.proofs.SoundBlock.{BecomesFine, block_fine, tags_within}
use Rattle.path_lowering.proofs.PrintableForms.{one_there, alias_is_name, leaf_printable, null_printable, truth_printable, pair_printable, all_printable, any_printable}
use Rattle.path_lowering.proofs.PrintableForms.{mapped_printable}

-- the name of a table that is there, and of its columns
pub table_named_well : (catalog : Catalog) → HasNames catalog → (place : ℕ) → place < length catalog.tables → is_name (table_at catalog place).name ≡ true
table_named_well catalog named place h = named.tables (table_at catalog place) (in_at catalog.tables place (record { name = []; columns = []; keys = []; references = [] }) h)

module _ (catalog : Catalog) (graph : Graph) (prefix : ℕ) (letter : prefix < 128) (reach : Reach) (valid : IsValidGraph catalog graph) (named : HasNames catalog)
    (spots : List Spot)
    (reached_all : (spot : Spot) → IsIn spot spots → IsReached catalog graph prefix reach spot) where
  pub column_printable : (spot : Spot) → IsIn spot spots → (place : ℕ) → place < length (table_at catalog (element_at graph spot).table).columns
      → value_is_printable (Leaf (leaf_of catalog graph prefix spot place)) ≡ true
  column_printable spot h place below =
      let ok = reached_all spot h in
      let there = (element_valid catalog graph valid spot.kind spot.element ok.there).table_there in
      let table : Table = table_at catalog (element_at graph spot).table in
      leaf_printable (leaf_of catalog graph prefix spot place) (alias_is_name prefix spot.item letter ok.low)
      (named.columns table (in_at catalog.tables (element_at graph spot).table (record { name = []; columns = []; keys = []; references = [] }) there)
      (column_at table place) (in_at table.columns place (record { name = []; kind = Boolean; not_null = false }) below))

  pub accepts : Accepts catalog graph prefix valid value_is_printable spots
  accepts = record {
    there = λ spot h. (reached_all spot h).there;
    pair = λ op a b x y p q low high same. pair_printable op (Leaf (leaf_of catalog graph prefix a x)) (Leaf (leaf_of catalog graph prefix b y)) (column_printable a p x low)
        (column_printable b q y high);
    all = all_printable;
    any = any_printable;
  }

  property_printable : (spot : Spot) → IsIn spot spots → (leaf : PropertyLeaf) → value_is_printable (lowered_property catalog graph prefix spot leaf) ≡ true
  property_printable spot h leaf = go (column_of (element_at graph spot) leaf.property) refl
    where
      go : (o : Option ℕ) → column_of (element_at graph spot) leaf.property ≡ o
          → value_is_printable (elim o [ None ↦ Null leaf.class | Some column ↦ Leaf (leaf_of catalog graph prefix spot column) ]) ≡ true
      go None e = null_printable leaf.class
      go (Some column) e =
          let m = named_column leaf.property (element_at graph spot).properties column e in
          column_printable spot h column
          (subst (λ n. n < length (table_at catalog (element_at graph spot).table).columns) m.2
          ((element_valid catalog graph valid spot.kind spot.element (reached_all spot h).there).property_columns m.0 m.1))

  module _ (holding : List ℕ → Option Spot) (within : (name : List ℕ) (spot : Spot) → holding name ≡ Some spot → IsIn spot spots) where
    held_printable : (leaf : PropertyLeaf) → value_is_printable (lowered_leaf catalog graph prefix holding leaf) ≡ true
    held_printable leaf = go (holding leaf.variable) refl
      where
        go : (o : Option Spot) → holding leaf.variable ≡ o
            → value_is_printable (elim o [ None ↦ Null leaf.class | Some spot ↦ lowered_property catalog graph prefix spot leaf ]) ≡ true
        go None e = null_printable leaf.class
        go (Some spot) e = property_printable spot (within leaf.variable spot e) leaf

    pub lowered_printable : (e : Condition) → IsSpelled e → value_is_printable (lowered catalog graph prefix holding e) ≡ true
    lowered_printable e spelled =
        mapped_printable (lowered_leaf catalog graph prefix holding) e
        (each_from_all (λ l. value_is_printable (lowered_leaf catalog graph prefix holding l) ≡ true) held_printable (leaves_in e)) spelled

  pub becomes_printable : (e : Condition) → IsSpelled e → BecomesFine catalog graph prefix valid value_is_printable spots accepts e
  becomes_printable e spelled holding within = lowered_printable holding within e spelled

-- conditions that have a text have one in ON and in WHERE
members_fine : (es : List SqlCondition) → list_all value_is_printable es ≡ true → (has_one (or_true es) && list_all value_is_printable (or_true es)) ≡ true
members_fine [] h = and_join _ _ (one_there {A = SqlCondition} (Lit (value.Truth true) ∷ []) (omega arith)) (and_join _ _ (truth_printable true) refl)
members_fine (e ∷ es) h = and_join _ _ (one_there (e ∷ es) (omega arith)) h

standing_fine : (aliases : List (List ℕ)) (number : ℕ) (conditions : List SqlCondition) → list_all value_is_printable conditions ≡ true
    → list_all value_is_printable (standing_by aliases number conditions) ≡ true
standing_fine aliases number conditions h =
    of_each value_is_printable (standing_by aliases number conditions) (λ c k. each_of value_is_printable conditions h c (in_kept _ conditions c k).0)

abbrev IsNamedSource : Source → Type 0
IsNamedSource source = (is_name source.table ≡ true) × (is_name source.alias ≡ true)

joined_printable : (aliases : List (List ℕ)) (conditions : List SqlCondition) (number : ℕ) (sources : List Source) → list_all value_is_printable conditions ≡ true
    → ((source : Source) → IsIn source sources → IsNamedSource source) → list_all item_is_printable (joined_items aliases conditions number sources) ≡ true
joined_printable aliases conditions number [] h named = refl
joined_printable aliases conditions number (s ∷ ss) h named =
    and_join _ _ (and_join _ _ (named s (inl refl)).0
    (and_join _ _ (named s (inl refl)).1 (members_fine (standing_by aliases number conditions) (standing_fine aliases number conditions h))))
    (joined_printable aliases conditions (suc number) ss h (λ t k. named t (inr k)))

from_printable : (sources : List Source) (conditions : List SqlCondition) → list_all value_is_printable conditions ≡ true
    → ((source : Source) → IsIn source sources → IsNamedSource source) → list_all item_is_printable (from_of sources conditions) ≡ true
from_printable [] conditions h named = refl
from_printable (s ∷ ss) conditions h named =
    and_join _ _ (and_join _ _ (named s (inl refl)).0 (and_join _ _ (named s (inl refl)).1 refl))
    (joined_printable (map (λ source. source.alias) (s ∷ ss)) conditions 1 ss h (λ t k. named t (inr k)))

from_begins : (sources : List Source) (conditions : List SqlCondition) → 1 ≤ length sources → begins_chain (from_of sources conditions) ≡ true
from_begins [] conditions some = absurd (omega (arith, some))
from_begins (s ∷ ss) conditions some = refl

abbrev pub conjunct_printable : Conjunct → Bool
conjunct_printable = of_conjunct Bool Bool conjunct_step select_step

pub plain_printable : (c : SqlCondition) → conjunct_printable (Plain c) ≡ value_is_printable c
plain_printable c = at_plain Bool Bool conjunct_step select_step c

pub select_printed : (x : Select) → select_is_printable x ≡ select_step (record { columns = x.columns; from = x.from; conjuncts = map conjunct_printable x.conjuncts })
select_printed x = at_select Bool Bool conjunct_step select_step x

pub plain_all : (cs : List SqlCondition) → list_all value_is_printable cs ≡ true → all_true (map conjunct_printable (map Plain cs)) ≡ true
plain_all [] h = refl
plain_all (c ∷ cs) h =
    let p = Rattle.std.proofs.lemmas.Bool.and_parts (value_is_printable c) (list_all value_is_printable cs) h in and_join _ _ (plain_printable c ∙ p.0) (plain_all cs p.1)

-- a path block of the select: its conditions are what its alternatives become, and those of the query in them are spelled
pub record IsSpelledLaid (catalog : Catalog) (graph : Graph) (prefix : ℕ) (combined : Combining) (laid : Laid) : Type 0 where
  pub some : 1 ≤ length laid.part.alternatives
  pub conditions : laid.conditions ≡ combined (alternatives_of catalog graph prefix laid.path laid.part laid.spots)
  pub scoped : (choice : Alternative) → IsIn choice laid.part.alternatives → (scoped : Scoped) → IsIn scoped (expansion_of laid.path choice).conditions → IsSpelled scoped.condition

module _ (catalog : Catalog) (graph : Graph) (prefix : ℕ) (letter : prefix < 128) (names : List (List ℕ)) (parts : List Laid) (condition : Option Condition) (outputs : List Output)
    (sound : IsValidCatalog catalog) (valid : IsValidGraph catalog graph) (ok : IsBlockLaid catalog graph prefix names parts condition outputs) (combined : Combining)
    (builds : IsBuilding combined)
    (named : HasNames catalog) (made : (laid : Laid) → IsIn laid parts → IsSpelledLaid catalog graph prefix combined laid) (last : (c : Condition) → condition ≡ Some c
    → IsSpelled c)
    (columns : (output : Output) → IsIn output outputs → IsSpelled output.value) (some : 1 ≤ length outputs) (output_names : (output : Output) → IsIn output outputs
    → is_name output.name ≡ true) where
  abbrev sources : List Source
  sources = sources_of catalog graph prefix (laid_spots parts)

  abbrev column_of_output : Output → SelectColumn
  column_of_output = column_for catalog graph prefix (laid_tags parts) (laid_spots parts)

  -- with more conditions and conjuncts
  module _ (besides : List SqlCondition) (more : List Conjunct) where
    abbrev conditions : List SqlCondition
    conditions = block_conditions catalog graph prefix names parts condition ++ besides

    abbrev reach : Reach
    reach = from_of sources conditions ++ []

    abbrev select : Select
    select = select_besides catalog graph prefix names parts condition outputs besides more

    reached_all : (spot : Spot) → IsIn spot (laid_spots parts) → IsReached catalog graph prefix reach spot
    reached_all = reached catalog graph prefix names parts condition outputs sound valid ok conditions []

    source_named : (source : Source) → IsIn source sources → IsNamedSource source
    source_named source h =
        let m = in_mapped (source_of catalog graph prefix) source (own_spots 0 (laid_spots parts)) h in
        let spot = reached_all m.0 (own_in catalog graph prefix names parts condition outputs sound valid ok conditions 0 (laid_spots parts) m.0 m.1) in
        subst IsNamedSource m.2 (
          table_named_well catalog named (element_at graph m.0).table (element_valid catalog graph valid m.0.kind m.0.element spot.there).table_there,
          alias_is_name prefix m.0.item letter spot.low,
        )

    becomes : (e : Condition) → IsSpelled e
        → BecomesFine catalog graph prefix valid value_is_printable (laid_spots parts) (accepts catalog graph prefix letter reach valid named (laid_spots parts) reached_all) e
    becomes = becomes_printable catalog graph prefix letter reach valid named (laid_spots parts) reached_all

    conditions_printable : list_all value_is_printable besides ≡ true → list_all value_is_printable conditions ≡ true
    conditions_printable h =
        append_fine value_is_printable (block_conditions catalog graph prefix names parts condition) besides
        (block_fine catalog graph prefix valid value_is_printable (laid_spots parts) (accepts catalog graph prefix letter reach valid named (laid_spots parts) reached_all)
        names parts condition outputs combined builds ok refl
        (λ laid h. let m = made laid h in record { some = m.some; conditions = m.conditions; scoped = λ choice k scoped l. becomes scoped.condition (m.scoped choice k scoped l) })
        (λ c e. becomes c (last c e))) h

    column_has_text : (column : SelectColumn) → IsIn column (map column_of_output outputs) → column_is_printable column ≡ true
    column_has_text column h =
        let m = in_mapped column_of_output column outputs h in
        ap column_is_printable (sym m.2)
        ∙ and_join _ _
        (lowered_printable catalog graph prefix letter reach valid named (laid_spots parts) reached_all (spot_by (laid_tags parts) (laid_spots parts))
        (tags_within (laid_tags parts) (laid_spots parts))
        m.0.value (columns m.0 m.1))
        (output_names m.0 m.1)

    pub besides_has_text : list_all value_is_printable besides ≡ true → all_true (map conjunct_printable more) ≡ true → select_is_printable select ≡ true
    besides_has_text h more_fine =
        select_printed select
        ∙ and_join _ _ (one_there (map column_of_output outputs) (subst (λ n. 1 ≤ n) (sym (length-map outputs column_of_output)) some))
        (and_join _ _ (of_each column_is_printable (map column_of_output outputs) column_has_text)
        (and_join _ _ (from_begins sources conditions (some_source catalog graph prefix names parts condition outputs sound valid ok conditions))
        (and_join _ _ (from_printable sources conditions (conditions_printable h) source_named)
        (ap all_true (map-append conjunct_printable (where_of sources conditions) more)
        ∙ list_all-append (λ b. b) (map conjunct_printable (where_of sources conditions)) (map conjunct_printable more)
        ∙ and_join _ _ (plain_all (standing_by (map (λ source. source.alias) sources) 0 conditions)
        (standing_fine (map (λ source. source.alias) sources) 0 conditions (conditions_printable h)))
        more_fine))))

  pub select_has_text : select_is_printable (select_for catalog graph prefix names parts condition outputs) ≡ true
  select_has_text = ap select_is_printable (plainly catalog graph prefix names parts condition outputs) ∙ besides_has_text [] [] refl refl
