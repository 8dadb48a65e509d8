-- Conditions that stand in ON and WHERE ask what they ask together.
use Rattle.std.proofs.Common.{◌≡◌, ℕ, zero, suc, ◌+◌, ◌<◌, ◌≤◌, Bool, true, false, ◌&&◌, cond, List, [], ◌∷◌, ◌++◌, map, filter, length, refl, sym, ap, ap₂, subst, ◌∙◌, ◌⊎◌, inl}
use Rattle.std.proofs.Common.{inr, nat_eq, nat_lt, true≢false, arith}
use Rattle.std.specs.List.{list_all}
use Rattle.std.proofs.Math.ListN.{length-map}
use Rattle.std.proofs.lemmas.Bool.{eqb-true, eq-eqb, and_parts}
use Rattle.pgq_base.specs.declared.value.Value.TheVariants as value
use Rattle.pgq_base.specs.Instances.{InstanceRows}
use Rattle.pgq_base.specs.Tables.{place_of}
use Rattle.multisets.specs.Bags.{IsIn}
use Rattle.multisets.proofs.Members.{in_append, in_parts}
use Rattle.expr_tree.specs.declared.tree.Expr.TheVariants.{Lit}
use Rattle.expr_tree.specs.Leaves.{leaves_in}
use Rattle.expr_tree.specs.Meaning.{truth_of_value}
use Rattle.expr_tree.proofs.FormLemmas.{values}
use Rattle.graph_ast.specs.declared.catalog.Catalog.{Catalog}
use Rattle.graph_meaning.specs.Choices.{greatest}
use Rattle.sql_algebra.specs.declared.tree.ColumnLeaf.{ColumnLeaf}
use Rattle.sql_algebra.specs.declared.tree.Conjunct.TheVariants.{Plain}
use Rattle.sql_algebra.specs.Tuples.{Tuple, leaf_value, is_true, holds, all_members}
use Rattle.sql_algebra.specs.Meaning.{conjunct_holds}
use Rattle.sql_algebra.proofs.Folds.{plain_means}
use Rattle.path_lowering.specs.Emitted.{SqlCondition}
use Rattle.path_lowering.specs.declared.placing.Source.{Source}
use Rattle.path_lowering.specs.Placed.{item_of, latest_of, standing_by, or_true, joined_items, from_of, where_of}

-- two tests agree where each is true with the other
pub both_ways : (a b : Bool) → (a ≡ true → b ≡ true) → (b ≡ true → a ≡ true) → a ≡ b
both_ways true b f g = sym (f refl)
both_ways false true f g = g refl
both_ways false false f g = refl

pub and_join : (a b : Bool) → a ≡ true → b ≡ true → (a && b) ≡ true
and_join a b p q = ap₂ (λ x y. x && y) p q

pub each_of : {X : Type 0} (p : X → Bool) (xs : List X) → list_all p xs ≡ true → (x : X) → IsIn x xs → p x ≡ true
each_of p [] h x k = absurd k
each_of p (y ∷ ys) h x (inl e) = ap p (sym e) ∙ (and_parts _ _ h).0
each_of p (y ∷ ys) h x (inr k) = each_of p ys (and_parts _ _ h).1 x k

pub of_each : {X : Type 0} (p : X → Bool) (xs : List X) → ((x : X) → IsIn x xs → p x ≡ true) → list_all p xs ≡ true
of_each p [] h = refl
of_each p (x ∷ xs) h = and_join _ _ (h x (inl refl)) (of_each p xs (λ y k. h y (inr k)))

pub kept_in : {X : Type 0} (p : X → Bool) (xs : List X) (x : X) → IsIn x xs → p x ≡ true → IsIn x (filter p xs)
kept_in p [] x h kept = absurd h
kept_in p (y ∷ ys) x h kept = go (p y) refl h (λ k. kept_in p ys x k kept)
  where
    go : (b : Bool) → p y ≡ b → IsIn x (y ∷ ys) → (IsIn x ys → IsIn x (filter p ys)) → IsIn x (cond b (y ∷ filter p ys) (filter p ys))
    go true e (inl s) more = inl s
    go true e (inr k) more = inr (more k)
    go false e (inl s) more = absurd (true≢false (sym kept ∙ ap p (sym s) ∙ e))
    go false e (inr k) more = more k

pub in_kept : {X : Type 0} (p : X → Bool) (xs : List X) (x : X) → IsIn x (filter p xs) → IsIn x xs × (p x ≡ true)
in_kept p [] x h = absurd h
in_kept p (y ∷ ys) x h = go (p y) refl h (in_kept p ys x)
  where
    go : (b : Bool) → p y ≡ b → IsIn x (cond b (y ∷ filter p ys) (filter p ys)) → (IsIn x (filter p ys) → IsIn x ys × (p x ≡ true)) → IsIn x (y ∷ ys) × (p x ≡ true)
    go true e (inl s) more = (inl s, ap p (sym s) ∙ e)
    go true e (inr k) more = (inr (more k).0, (more k).1)
    go false e k more = (inr (more k).0, (more k).1)

module _ (aliases : List (List ℕ)) (some : 1 ≤ length aliases) where
  item_within : (leaf : ColumnLeaf) → item_of aliases leaf < length aliases
  item_within leaf = go (nat_lt (place_of leaf.alias aliases) (length aliases)) refl
    where
      go : (b : Bool) → nat_lt (place_of leaf.alias aliases) (length aliases) ≡ b → cond b (place_of leaf.alias aliases) 0 < length aliases
      go true e = grind arith
      go false e = omega arith

  greatest_within : (leaves : List ColumnLeaf) → greatest (map (item_of aliases) leaves) < length aliases
  greatest_within [] = omega arith
  greatest_within (leaf ∷ leaves) = let a = item_within leaf in let b = greatest_within leaves in omega (arith, a, b)

  pub latest_within : (condition : SqlCondition) → latest_of aliases condition < length aliases
  latest_within condition = greatest_within (leaves_in condition)

module _ (aliases : List (List ℕ)) (conditions : List SqlCondition) where
  or_true_in : (es : List SqlCondition) (c : SqlCondition) → IsIn c es → IsIn c (or_true es)
  or_true_in [] c h = absurd h
  or_true_in (e ∷ es) c h = h

  put_there : (number : ℕ) (sources : List Source) (c : SqlCondition) (k : ℕ) → IsIn c (standing_by aliases k conditions) → number ≤ k → k < number + length sources
      → IsIn c (all_members (joined_items aliases conditions number sources))
  put_there number [] c k h low high = absurd (omega arith)
  put_there number (source ∷ sources) c k h low high = go (nat_eq number k) refl (λ more. put_there (suc number) sources c k h more (omega arith))
    where
      go : (b : Bool) → nat_eq number k ≡ b → (suc number ≤ k → IsIn c (all_members (joined_items aliases conditions (suc number) sources)))
          → IsIn c (or_true (standing_by aliases number conditions) ++ all_members (joined_items aliases conditions (suc number) sources))
      go true e more =
          in_append c (or_true (standing_by aliases number conditions)) _
          (inl (or_true_in (standing_by aliases number conditions) c (subst (λ n. IsIn c (standing_by aliases n conditions)) (sym (eqb-true number k e)) h)))
      go false e more = in_append c (or_true (standing_by aliases number conditions)) _ (inr (more (grind arith)))

  or_true_from : (es : List SqlCondition) (c : SqlCondition) → IsIn c (or_true es) → (c ≡ Lit (value.Truth true)) ⊎ IsIn c es
  or_true_from [] c (inl e) = inl (sym e)
  or_true_from [] c (inr h) = absurd h
  or_true_from (e ∷ es) c h = inr h

  taken_from : (number : ℕ) (sources : List Source) (c : SqlCondition) → IsIn c (all_members (joined_items aliases conditions number sources))
      → (c ≡ Lit (value.Truth true)) ⊎ IsIn c conditions
  taken_from number [] c h = absurd h
  taken_from number (source ∷ sources) c h =
      elim (in_parts c (or_true (standing_by aliases number conditions)) (all_members (joined_items aliases conditions (suc number) sources)) h) [
        | inl k ↦ elim (or_true_from (standing_by aliases number conditions) c k) [ inl e ↦ inl e | inr m ↦ inr (in_kept _ conditions c m).0 ]
        | inr k ↦ taken_from (suc number) sources c k
      ]

literal_holds : (catalog : Catalog) (tuple : Tuple) → holds catalog tuple (Lit (value.Truth true)) ≡ true
literal_holds catalog tuple = ap (λ v. is_true (truth_of_value v)) ((values (leaf_value catalog tuple)).literal (value.Truth true))

plain_conjuncts : (catalog : Catalog) (instance : InstanceRows) (tuple : Tuple) (conditions : List SqlCondition)
    → list_all (λ conjunct. conjunct_holds catalog instance conjunct tuple) (map Plain conditions) ≡ list_all (holds catalog tuple) conditions
plain_conjuncts catalog instance tuple [] = refl
plain_conjuncts catalog instance tuple (c ∷ cs) =
    ap₂ (λ a b. a && b) (ap (λ f. f tuple) (plain_means catalog instance c)) (plain_conjuncts catalog instance tuple cs)

module _ (catalog : Catalog) (tuple : Tuple) (source : Source) (sources : List Source) (conditions : List SqlCondition) where
  abbrev aliases : List (List ℕ)
  aliases = map (λ s. s.alias) (source ∷ sources)

  abbrev members : List SqlCondition
  members = all_members (joined_items aliases conditions 1 sources)

  abbrev first : List SqlCondition
  first = standing_by aliases 0 conditions

  abbrev passes : SqlCondition → Bool
  passes = holds catalog tuple

  some_alias : 1 ≤ length aliases
  some_alias = rw length-map (omega arith)

  each_there : (c : SqlCondition) → IsIn c conditions → list_all passes members ≡ true → list_all passes first ≡ true → (k : ℕ) → latest_of aliases c ≡ k → k < length aliases
      → passes c ≡ true
  each_there c h p q zero e below = each_of passes first q c (kept_in _ conditions c h (eq-eqb _ _ e))
  each_there c h p q (suc k) e below =
      each_of passes members p c (put_there aliases conditions 1 sources c (suc k) (kept_in _ conditions c h (eq-eqb _ _ e)) (omega arith)
      (omega (arith, length-map (source ∷ sources) (λ s. s.alias))))

  forth : (list_all passes members && list_all passes first) ≡ true → list_all passes conditions ≡ true
  forth h =
      let p = and_parts (list_all passes members) (list_all passes first) h in
      of_each passes conditions (λ c k. each_there c k p.0 p.1 (latest_of aliases c) refl (latest_within aliases some_alias c))

  back : list_all passes conditions ≡ true → (list_all passes members && list_all passes first) ≡ true
  back h = and_join _ _
      (of_each passes members (λ c k. elim (taken_from aliases conditions 1 sources c k) [
        | inl e ↦ ap passes e ∙ literal_holds catalog tuple
        | inr m ↦ each_of passes conditions h c m
      ]))
      (of_each passes first (λ c k. each_of passes conditions h c (in_kept _ conditions c k).0))

-- all members of all ON and all conjuncts of WHERE are True of a tuple exactly where all conditions of the list are
pub placing_means : (catalog : Catalog) (instance : InstanceRows) (tuple : Tuple) (sources : List Source) (conditions : List SqlCondition) → 1 ≤ length sources
    → (list_all (holds catalog tuple) (all_members (from_of sources conditions))
    && list_all (λ conjunct. conjunct_holds catalog instance conjunct tuple) (where_of sources conditions))
    ≡ list_all (holds catalog tuple) conditions
placing_means catalog instance tuple [] conditions some = absurd (omega arith)
placing_means catalog instance tuple (source ∷ sources) conditions some =
    ap (λ b. list_all (holds catalog tuple) (all_members (from_of (source ∷ sources) conditions)) && b)
    (plain_conjuncts catalog instance tuple (standing_by (map (λ s. s.alias) (source ∷ sources)) 0 conditions))
    ∙ both_ways _ _ (forth catalog tuple source sources conditions) (back catalog tuple source sources conditions)
