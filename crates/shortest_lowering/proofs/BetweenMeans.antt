-- When NOT EXISTS of a candidate between two places of the SELECT around it is True.
use Rattle.std.proofs.Common.{◌≡◌, ◌≢◌, ℕ, Bool, true, false, not, ◌&&◌, ◌||◌, cond, List, [], ◌∷◌, ◌++◌, map, filter, length, refl, sym, ap, ap₂, subst, ◌∙◌, inl, inr, Option}
use Rattle.std.proofs.Common.{None, Some, arith, bytes_eq, slice_get, get_or, ◌<◌}
use Rattle.std.specs.List.{list_all, list_any}
use Rattle.std.proofs.lemmas.List.Folds.{list_all-append, list_all-map}
use Rattle.std.proofs.lemmas.Option.{slice_get_read}
use Rattle.std.proofs.lemmas.Slice.Eq.{bytes_eq-Decides}
use Rattle.pgq_base.specs.declared.value.Value.{Value}
use Rattle.pgq_base.specs.Instances.{InstanceRows, value_at}
use Rattle.multisets.specs.Bags.{IsIn}
use Rattle.expr_tree.specs.declared.tree.Comparison.TheVariants.{Equal}
use Rattle.expr_tree.specs.declared.tree.Expr.TheVariants.{Leaf, Compare}
use Rattle.expr_tree.specs.Leaves.{leaves_in, EachLeaf}
use Rattle.expr_tree.specs.Meaning.{truth_of_value}
use Rattle.expr_tree.proofs.Folds.{each_implies}
use Rattle.expr_tree.proofs.LawLemmas.{same_values}
use Rattle.graph_ast.specs.declared.catalog.Catalog.{Catalog}
use Rattle.graph_meaning.specs.Lists.{numbers_below}
use Rattle.graph_meaning.proofs.Members.{in_map, in_below, from_map, from_flat, from_filter}
use Rattle.sql_algebra.specs.declared.tree.Candidate.{Candidate}
use Rattle.sql_algebra.specs.declared.tree.ColumnLeaf.{ColumnLeaf}
use Rattle.sql_algebra.specs.declared.tree.Conjunct.{Conjunct}
use Rattle.sql_algebra.specs.declared.tree.Conjunct.TheVariants.{Plain, NotExists}
use Rattle.sql_algebra.specs.declared.tree.FromItem.{FromItem}
use Rattle.sql_algebra.specs.Catalogs.{column_place, rows_of}
use Rattle.sql_algebra.specs.Tuples.{Bound, Tuple, tuples, leaf_value, is_true, holds, all_members}
use Rattle.sql_algebra.specs.Meaning.{has_none, conjunct_holds, output_row}
use Rattle.sql_algebra.proofs.Folds.{select_means, plain_means, not_exists_means}
use Rattle.path_lowering.specs.Emitted.{SqlCondition, alias_of}
use Rattle.path_lowering.proofs.BlockLemmas.{any-each, all-each}
use Rattle.path_lowering.proofs.Truths.{and_together, list_any-map, true_Compare}
use Rattle.path_lowering.proofs.ShortestLemmas.{none_of}
use Rattle.shortest_lowering.specs.NoShorter.{IsAmong, IsOn, IsFormed, is_shorter, shorter_candidates, outer_leaf, key_equalities, end_equalities, select_between, none_between}
use Rattle.shortest_lowering.specs.NoShorter.{are_all_true, true_tuples, is_equal, has_key, has_ends, has_row_between}

-- one test of those that pass another
any_kept : {A : Type 0} (p q : A → Bool) (xs : List A) → list_any (λ x. p x && q x) xs ≡ list_any q (filter p xs)
any_kept p q [] = refl
any_kept {A} p q (x ∷ xs) = go (p x) (any_kept p q xs)
  where
    go : (b : Bool) → list_any (λ y. p y && q y) xs ≡ list_any q (filter p xs)
        → ((b && q x) || list_any (λ y. p y && q y) xs) ≡ list_any q (cond b (x ∷ filter p xs) (filter p xs))
    go true h = ap (λ t. q x || t) h
    go false h = h

abbrev aliases_of : List FromItem → List (List ℕ)
aliases_of items = map (λ item. item.alias) items

abbrev aliases_in : Tuple → List (List ℕ)
aliases_in tuple = map (λ bound. bound.item.alias) tuple

letters_differ : (letter other m n : ℕ) → letter ≢ other → alias_of letter m ≢ alias_of other n
letters_differ letter other m n h e = let k : letter ≡ other = cc in h k

told_apart : (a b : List ℕ) → a ≢ b → bytes_eq a b ≡ false
told_apart a b h = go (bytes_eq a b) refl
  where
    go : (t : Bool) → bytes_eq a b ≡ t → t ≡ false
    go true e = absurd (h ((bytes_eq-Decides a b).0 e))
    go false e = refl

module _ (catalog : Catalog) (instance : InstanceRows) where
  -- a tuple has the aliases of its items
  tuple_aliases : (items : List FromItem) (own : Tuple) → IsIn own (tuples catalog instance items) → aliases_in own ≡ aliases_of items
  tuple_aliases [] own (inl e) = ap aliases_in (sym e)
  tuple_aliases [] own (inr h) = absurd h
  tuple_aliases (item ∷ items) own h =
      let row = from_flat (λ row. map (λ rest. record { item = item; row = row } ∷ rest) (tuples catalog instance items)) own (rows_of catalog instance item.table) h in
      let rest = from_map (λ (rest : Tuple). record { item = item; row = row.0 } ∷ rest) own (tuples catalog instance items) row.2 in
      ap aliases_in (sym rest.2) ∙ ap (λ l. item.alias ∷ l) (tuple_aliases items rest.0 rest.1)

  -- a leaf on one of its aliases has its value there, whatever stands around
  own_value : (own outer : Tuple) (leaf : ColumnLeaf) → IsIn leaf.alias (aliases_in own) → leaf_value catalog (own ++ outer) leaf ≡ leaf_value catalog own leaf
  own_value [] outer leaf h = absurd h
  own_value (bound ∷ own) outer leaf h = go (bytes_eq bound.item.alias leaf.alias) refl h (own_value own outer leaf)
    where
      here : Value
      here = value_at bound.row (column_place catalog bound.item.table leaf.column)

      go : (t : Bool) → bytes_eq bound.item.alias leaf.alias ≡ t → IsIn leaf.alias (aliases_in (bound ∷ own))
          → (IsIn leaf.alias (aliases_in own) → leaf_value catalog (own ++ outer) leaf ≡ leaf_value catalog own leaf)
          → cond t here (leaf_value catalog (own ++ outer) leaf) ≡ cond t here (leaf_value catalog own leaf)
      go true e k more = refl
      go false e (inl same) more = let t = (bytes_eq-Decides bound.item.alias leaf.alias).1 same in absurd cc
      go false e (inr k) more = more k

  -- a leaf on none of them has its value outside
  outer_value : (own outer : Tuple) (leaf : ColumnLeaf) → ((name : List ℕ) → IsIn name (aliases_in own) → name ≢ leaf.alias)
      → leaf_value catalog (own ++ outer) leaf ≡ leaf_value catalog outer leaf
  outer_value [] outer leaf apart = refl
  outer_value (bound ∷ own) outer leaf apart =
      ap (λ t. cond t (value_at bound.row (column_place catalog bound.item.table leaf.column)) (leaf_value catalog (own ++ outer) leaf))
      (told_apart bound.item.alias leaf.alias (apart bound.item.alias (inl refl)))
      ∙ outer_value own outer leaf (λ name h. apart name (inr h))

  all_plain : (tuple : Tuple) (conditions : List SqlCondition)
      → list_all (λ conjunct. conjunct_holds catalog instance conjunct tuple) (map Plain conditions) ≡ list_all (holds catalog tuple) conditions
  all_plain tuple [] = refl
  all_plain tuple (c ∷ cs) = ap₂ (λ a b. a && b) (ap (λ f. f tuple) (plain_means catalog instance c)) (all_plain tuple cs)

  module _ (outer : Tuple) (first last : ℕ) (candidate : Candidate) (formed : IsFormed candidate) where
    abbrev items : List FromItem
    items = candidate.select.from

    module _ (own : Tuple) (there : IsIn own (tuples catalog instance items)) where
      abbrev both : Tuple
      both = own ++ outer

      among : (leaf : ColumnLeaf) → IsAmong items leaf → IsIn leaf.alias (aliases_in own)
      among leaf h = subst (IsIn leaf.alias) (sym (tuple_aliases items own there)) h

      -- the candidate's own conditions do not see what stands around
      same_holds : (e : SqlCondition) → EachLeaf (IsAmong items) e → holds catalog both e ≡ holds catalog own e
      same_holds e h =
          ap (λ v. is_true (truth_of_value v))
          (same_values (leaf_value catalog both) (leaf_value catalog own) e
          (each_implies (IsAmong items) (λ leaf. leaf_value catalog both leaf ≡ leaf_value catalog own leaf) (λ leaf k. own_value own outer leaf (among leaf k)) (leaves_in e) h))

      on_alias : (place : ℕ) (leaf : ColumnLeaf) → IsOn items place leaf → IsAmong items leaf
      on_alias place leaf on =
          subst (λ l. IsIn leaf.alias l) (sym formed.aliases)
          (subst (λ a. IsIn a (map (alias_of 83) (numbers_below (length items)))) (sym on.1)
          (in_map (alias_of 83) place (numbers_below (length items)) (in_below (length items) place on.0)))

      outside : (number : ℕ) (leaf : ColumnLeaf) → leaf_value catalog both (outer_leaf number leaf) ≡ leaf_value catalog outer (outer_leaf number leaf)
      outside number leaf =
          outer_value own outer (outer_leaf number leaf)
          (λ name h e.
          let own_name = from_map (alias_of 83) name (numbers_below (length items)) (subst (IsIn name) (tuple_aliases items own there ∙ formed.aliases) h) in
          letters_differ 83 65 own_name.0 number (λ k. absurd (omega (arith, k))) (own_name.2 ∙ e))

      -- the equalities of a key
      key_means : (number place : ℕ) (key : List ColumnLeaf) → ((leaf : ColumnLeaf) → IsIn leaf key → IsOn items place leaf)
          → list_all (holds catalog both) (key_equalities number key) ≡ has_key catalog instance outer number key own
      key_means number place [] on = refl
      key_means number place (leaf ∷ key) on =
          ap₂ (λ a b. a && b)
          (true_Compare (leaf_value catalog both) Equal leaf (outer_leaf number leaf)
          ∙ ap₂ (is_equal catalog instance) (own_value own outer leaf (among leaf (on_alias place leaf (on leaf (inl refl))))) (outside number leaf))
          (key_means number place key (λ l h. on l (inr h)))

      ends_mean : list_all (holds catalog both) (end_equalities candidate first last) ≡ has_ends catalog instance outer first last candidate own
      ends_mean =
          list_all-append (holds catalog both) (key_equalities first candidate.first_key) (key_equalities last candidate.last_key)
          ∙ ap₂ (λ a b. a && b) (key_means first 0 candidate.first_key formed.first_key) (key_means last _ candidate.last_key formed.last_key)

      -- its conjuncts, and the equalities of both ends
      abbrev conjuncts_hold : Tuple → Bool
      conjuncts_hold tuple = list_all (λ conjunct. conjunct_holds catalog instance conjunct tuple) candidate.select.conjuncts

      conditions_at : (tuple : Tuple) → conjuncts_hold tuple ≡ list_all (holds catalog tuple) formed.plain.conditions
      conditions_at tuple =
          ap (list_all (λ conjunct. conjunct_holds catalog instance conjunct tuple)) formed.plain.are ∙ all_plain tuple formed.plain.conditions

      same_conjuncts : conjuncts_hold both ≡ conjuncts_hold own
      same_conjuncts =
          conditions_at both ∙ all-each (holds catalog both) (holds catalog own) formed.plain.conditions (λ e h. same_holds e (formed.conditions e h))
          ∙ sym (conditions_at own)

      all_hold : (list_all (holds catalog both) (all_members items)
          && list_all (λ conjunct. conjunct both) (map (conjunct_holds catalog instance) (select_between first last candidate).conjuncts))
          ≡ (are_all_true catalog instance candidate.select own && has_ends catalog instance outer first last candidate own)
      all_hold =
          ap₂ (λ a b. a && b)
          (all-each (holds catalog both) (holds catalog own) (all_members items) (λ e h. same_holds e (formed.members e h)))
          (list_all-map (λ conjunct. conjunct both) (conjunct_holds catalog instance) (select_between first last candidate).conjuncts
          ∙ list_all-append (λ conjunct. conjunct_holds catalog instance conjunct both) candidate.select.conjuncts (map Plain (end_equalities candidate first last))
          ∙ ap₂ (λ a b. a && b) same_conjuncts (all_plain both (end_equalities candidate first last) ∙ ends_mean))
          ∙ sym (and_together (list_all (holds catalog own) (all_members items)) (conjuncts_hold own) (has_ends catalog instance outer first last candidate own))

    -- NOT EXISTS of the candidate is True exactly where it has no row between the ends
    candidate_means : conjunct_holds catalog instance (NotExists (select_between first last candidate)) outer ≡ not (has_row_between catalog instance outer first last candidate)
    candidate_means =
        ap (λ f. f outer) (not_exists_means catalog instance (select_between first last candidate))
        ∙ ap (λ f. has_none (f outer)) (select_means catalog instance (select_between first last candidate))
        ∙ none_of (output_row catalog candidate.select.columns) _ (map (λ own. own ++ outer) (tuples catalog instance items))
        ∙ ap not (list_any-map _ (λ own. own ++ outer) (tuples catalog instance items)
        ∙ any-each _ _ (tuples catalog instance items) all_hold
        ∙ any_kept (are_all_true catalog instance candidate.select) (has_ends catalog instance outer first last candidate) (tuples catalog instance items))

-- the shorter ones than the candidate that stands at a place
pub shorter_at : (candidates : List Candidate) (place : ℕ) (own : Candidate) → own ≡ get_or candidates place own → place < length candidates
    → filter (is_shorter own) candidates ≡ shorter_candidates candidates place
shorter_at candidates place own is within =
    sym (ap (λ o. elim o [ None ↦ [] | Some it ↦ filter (is_shorter it) candidates ]) (slice_get_read candidates (length candidates) place own refl within is))

-- a shorter candidate is one of the candidates
pub shorter_in : (candidates : List Candidate) (place : ℕ) (candidate : Candidate) → IsIn candidate (shorter_candidates candidates place) → IsIn candidate candidates
shorter_in candidates place candidate h = go (slice_get candidates place) h
  where
    go : (o : Option Candidate) → IsIn candidate (elim o [ None ↦ [] | Some own ↦ filter (is_shorter own) candidates ]) → IsIn candidate candidates
    go None k = absurd k
    go (Some own) k = (from_filter (is_shorter own) candidate candidates k).0

-- all of them
pub none_means : (candidates : List Candidate) (place first last : ℕ) → ((candidate : Candidate) → IsIn candidate candidates → IsFormed candidate)
    → (catalog : Catalog) (instance : InstanceRows) (outer : Tuple)
    → list_all (λ conjunct. conjunct_holds catalog instance conjunct outer) (none_between first last (shorter_candidates candidates place))
    ≡ list_all (λ other. not (has_row_between catalog instance outer first last other)) (shorter_candidates candidates place)
none_means candidates place first last formed catalog instance outer =
    list_all-map (λ conjunct. conjunct_holds catalog instance conjunct outer) (λ candidate. NotExists (select_between first last candidate)) (shorter_candidates candidates place)
    ∙ all-each _ _ (shorter_candidates candidates place)
    (λ candidate h. candidate_means catalog instance outer first last candidate (formed candidate (shorter_in candidates place candidate h)))
