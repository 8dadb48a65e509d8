-- Each leaf of a SELECT that is sound by itself is on one of its own aliases.
use Rattle.std.proofs.Common.{◌≡◌, Bool, true, false, true≢false, cond, List, [], ◌∷◌, ◌++◌, map, refl, sym, ap, subst, ◌∙◌, inl, inr, Option, None, Some, bytes_eq}
use Rattle.std.specs.Prelude.{find}
use Rattle.std.specs.List.{AllByRecursion, list_all}
use Rattle.std.proofs.lemmas.Bool.{and_parts}
use Rattle.std.proofs.lemmas.Slice.Eq.{bytes_eq-Decides}
use Rattle.multisets.specs.Bags.{IsIn}
use Rattle.multisets.proofs.Members.{in_parts}
use Rattle.expr_tree.specs.Leaves.{leaves_in, EachLeaf}
use Rattle.expr_tree.proofs.Folds.{each_implies}
use Rattle.graph_ast.specs.declared.catalog.Catalog.{Catalog}
use Rattle.graph_meaning.proofs.Members.{each_of, in_map, from_map}
use Rattle.sql_algebra.specs.declared.tree.ColumnLeaf.{ColumnLeaf}
use Rattle.sql_algebra.specs.declared.tree.Conjunct.{Conjunct}
use Rattle.sql_algebra.specs.declared.tree.Conjunct.TheVariants.{Plain}
use Rattle.sql_algebra.specs.declared.tree.FromItem.{FromItem}
use Rattle.sql_algebra.specs.declared.tree.Select.{Select}
use Rattle.sql_algebra.specs.declared.tree.SelectColumn.{SelectColumn}
use Rattle.sql_algebra.specs.Soundness.{Reach, item_has, leaf_is_sound, value_is_sound, condition_is_sound, chain_to, on_is_sound, ons_are_sound, select_is_sound}
use Rattle.sql_algebra.specs.Tuples.{members_of, all_members}
use Rattle.sql_algebra.proofs.Folds.{conjunct_is_sound, select_sound, plain_sound}
use Rattle.path_lowering.specs.Emitted.{SqlCondition}
use Rattle.path_lowering.proofs.Lists.{append-nil}
use Rattle.shortest_lowering.specs.NoShorter.{ArePlain, IsAmong}

module _ (catalog : Catalog) where
  found_alias : (reach : Reach) (leaf : ColumnLeaf) → leaf_is_sound catalog reach leaf ≡ true → IsAmong reach leaf
  found_alias [] leaf h = absurd (true≢false (sym h))
  found_alias (item ∷ reach) leaf h = go (bytes_eq item.alias leaf.alias) refl h (found_alias reach leaf)
    where
      go : (t : Bool) → bytes_eq item.alias leaf.alias ≡ t → item_has catalog leaf (cond t (Some item) (find (λ each. bytes_eq each.alias leaf.alias) reach)) ≡ true
          → (leaf_is_sound catalog reach leaf ≡ true → IsAmong reach leaf) → IsAmong (item ∷ reach) leaf
      go true e k more = inl ((bytes_eq-Decides item.alias leaf.alias).0 e)
      go false e k more = inr (more k)

  all_among : (reach : Reach) (ls : List ColumnLeaf) → list_all (leaf_is_sound catalog reach) ls ≡ true → AllByRecursion (IsAmong reach) ls
  all_among reach [] h = tt
  all_among reach (l ∷ ls) h =
      let two = and_parts (leaf_is_sound catalog reach l) (list_all (leaf_is_sound catalog reach) ls) h in
      (found_alias reach l two.0, all_among reach ls two.1)

  value_among : (reach : Reach) (e : SqlCondition) → value_is_sound catalog reach e ≡ true → EachLeaf (IsAmong reach) e
  value_among reach e h = all_among reach (leaves_in e) (and_parts (list_all (leaf_is_sound catalog reach) (leaves_in e)) _ h).0

  condition_among : (reach : Reach) (e : SqlCondition) → condition_is_sound catalog reach e ≡ true → EachLeaf (IsAmong reach) e
  condition_among reach e h = value_among reach e (and_parts (value_is_sound catalog reach e) _ h).0

  among_more : (some all : List FromItem) → ((item : FromItem) → IsIn item some → IsIn item all) → (e : SqlCondition) → EachLeaf (IsAmong some) e → EachLeaf (IsAmong all) e
  among_more some all within e h =
      each_implies (IsAmong some) (IsAmong all)
      (λ leaf k.
      let of = from_map (λ (item : FromItem). item.alias) leaf.alias some k in
      subst (λ (name : List _). IsIn name (map (λ (item : FromItem). item.alias) all)) of.2 (in_map (λ (item : FromItem). item.alias) of.0 all (within of.0 of.1)))
      (leaves_in e) h

  module _ (all : List FromItem) where
    in_chain : (before : List FromItem) (item : FromItem) (on : Option (List SqlCondition)) → ((x : FromItem) → IsIn x before → IsIn x all) → IsIn item all
        → (x : FromItem) → IsIn x (chain_to before item on) → IsIn x all
    in_chain before item None within own x (inl e) = subst (λ (y : FromItem). IsIn y all) e own
    in_chain before item None within own x (inr h) = absurd h
    in_chain before item (Some members) within own x h =
        elim (in_parts x before (item ∷ []) h)
        [ inl k ↦ within x k | inr k ↦ elim k [ inl e ↦ subst (λ (y : FromItem). IsIn y all) e own | inr k ↦ absurd k ] ]

    member_among : (reach : Reach) (on : Option (List SqlCondition)) → on_is_sound catalog reach on ≡ true
        → (e : SqlCondition) → IsIn e (members_of on) → EachLeaf (IsAmong reach) e
    member_among reach None h e k = absurd k
    member_among reach (Some members) h e k = condition_among reach e (each_of (condition_is_sound catalog reach) members h e k)

    members_among : (before items : List FromItem) → ((x : FromItem) → IsIn x before → IsIn x all) → ((x : FromItem) → IsIn x items → IsIn x all)
        → ons_are_sound catalog [] before items ≡ true → (e : SqlCondition) → IsIn e (all_members items) → EachLeaf (IsAmong all) e
    members_among before [] within there h e k = absurd k
    members_among before (item ∷ items) within there h e k =
        let chain = chain_to before item item.on in
        let chained = in_chain before item item.on within (there item (inl refl)) in
        let two = and_parts (on_is_sound catalog (chain ++ []) item.on) (ons_are_sound catalog [] chain items) h in
        elim (in_parts e (members_of item.on) (all_members items) k) [
          | inl m ↦ among_more chain all chained e (subst (λ (r : Reach). EachLeaf (IsAmong r) e) (append-nil chain) (member_among (chain ++ []) item.on two.0 e m))
          | inr m ↦ members_among chain items chained (λ x l. there x (inr l)) two.1 e m
        ]

  -- its columns, the members of its ONs, and its conjuncts
  pub record HasOwnLeaves (select : Select) (plain : ArePlain select.conjuncts) : Type 0 where
    pub columns : (e : SqlCondition) → IsIn e (map (λ column. column.value) select.columns) → EachLeaf (IsAmong select.from) e
    pub members : (e : SqlCondition) → IsIn e (all_members select.from) → EachLeaf (IsAmong select.from) e
    pub conditions : (e : SqlCondition) → IsIn e plain.conditions → EachLeaf (IsAmong select.from) e

  pub own_leaves : (select : Select) (plain : ArePlain select.conjuncts) → select_is_sound catalog select [] ≡ true → HasOwnLeaves select plain
  own_leaves select plain sound =
      let reach : Reach = select.from ++ [] in
      let here : (e : SqlCondition) → EachLeaf (IsAmong reach) e → EachLeaf (IsAmong select.from) e =
      λ e h. subst (λ (r : Reach). EachLeaf (IsAmong r) e) (append-nil select.from) h in
      let whole = sym (ap (λ f. f []) (select_sound catalog select)) ∙ sound in
      let p = and_parts _ (list_all (λ conjunct. conjunct reach) (map (conjunct_is_sound catalog) select.conjuncts)) whole in
      let q = and_parts _ (ons_are_sound catalog [] [] select.from) p.0 in
      let r = and_parts _ (list_all (λ (column : SelectColumn). value_is_sound catalog reach column.value) select.columns) q.0 in
      record {
        columns = λ e h.
            let of = from_map (λ (column : SelectColumn). column.value) e select.columns h in
            subst (EachLeaf (IsAmong select.from)) of.2
            (here of.0.value (value_among reach of.0.value (each_of (λ (column : SelectColumn). value_is_sound catalog reach column.value) select.columns r.1 of.0 of.1)));
        members = members_among select.from [] select.from (λ x h. absurd h) (λ x h. h) q.1;
        conditions = λ e h.
            let there : IsIn (Plain e) select.conjuncts = subst (λ (l : List Conjunct). IsIn (Plain e) l) (sym plain.are) (in_map Plain e plain.conditions h) in
            here e (condition_among reach e
            (sym (ap (λ f. f reach) (plain_sound catalog e))
            ∙ each_of (λ conjunct. conjunct reach) (map (conjunct_is_sound catalog) select.conjuncts) p.1 (conjunct_is_sound catalog (Plain e))
            (in_map (conjunct_is_sound catalog) (Plain e) select.conjuncts there)));
      }
