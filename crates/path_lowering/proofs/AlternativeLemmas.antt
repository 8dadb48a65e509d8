-- Conditions of several alternatives.
use Rattle.std.proofs.Common.{◌≡◌, ◌↔◌, ◌⊎◌, Bool, true, false, ◌&&◌, ◌||◌, cond, List, [], ◌∷◌, ◌++◌, map, refl, sym, ap, ap₂, ◌∙◌, inl, inr}
use Rattle.std.specs.List.{list_any}
use Rattle.std.proofs.lemmas.Bool.{and_parts}
use Rattle.std.proofs.lemmas.List.Folds.{list_all-append}
use Rattle.pgq_base.specs.declared.value.Value.{Value}
use Rattle.multisets.specs.Bags.{IsIn}
use Rattle.sql_algebra.specs.declared.tree.ColumnLeaf.{ColumnLeaf}
use Rattle.path_lowering.specs.Emitted.{SqlCondition, any_of, all_of}
use Rattle.path_lowering.specs.Blocks.{SaysAny, AreSplit, is_empty, shared_outside}
use Rattle.path_lowering.proofs.Truths.{true_in, all_true_in, true_any_of, true_all_of, list_any-map, or_false, and_kept}
use Rattle.path_lowering.proofs.PlacingLemmas.{both_ways, and_join, each_of, of_each}

-- one alternative's conditions say it
pub one_says : (alternative : List SqlCondition) → SaysAny (alternative ∷ []) alternative
one_says alternative = λ env. sym (or_false (all_true_in env alternative))

any-each : {X : Type 0} (p q : X → Bool) (xs : List X) → ((x : X) → p x ≡ q x) → list_any p xs ≡ list_any q xs
any-each p q [] h = refl
any-each p q (x ∷ xs) h = ap₂ (λ a b. a || b) (h x) (any-each p q xs h)

drawn_out : (c r s : Bool) → ((c && r) || (c && s)) ≡ (c && (r || s))
drawn_out true r s = refl
drawn_out false r s = refl

none : (c : Bool) → false ≡ (c && false)
none true = refl
none false = refl

module _ (env : ColumnLeaf → Value) (common : List SqlCondition) where
  one_split : (alternative rest : List SqlCondition) → ((c : SqlCondition) → IsIn c alternative ↔ (IsIn c common ⊎ IsIn c rest)) → all_true_in env alternative
      ≡ (all_true_in env common && all_true_in env rest)
  one_split alternative rest split =
      both_ways _ _
      (λ h. and_join _ _ (of_each (true_in env) common (λ c k. each_of (true_in env) alternative h c ((split c).1 (inl k))))
      (of_each (true_in env) rest (λ c k. each_of (true_in env) alternative h c ((split c).1 (inr k)))))
      (λ h. let p = and_parts _ _ h in of_each (true_in env) alternative
      (λ c k. elim ((split c).0 k) [ inl m ↦ each_of (true_in env) common p.0 c m | inr m ↦ each_of (true_in env) rest p.1 c m ]))

  all_split : (alternatives rests : List (List SqlCondition)) → AreSplit common alternatives rests → list_any (all_true_in env) alternatives
      ≡ (all_true_in env common && list_any (all_true_in env) rests)
  all_split [] [] h = none (all_true_in env common)
  all_split [] (r ∷ rs) h = absurd h
  all_split (a ∷ more) [] h = absurd h
  all_split (a ∷ more) (r ∷ rs) h = ap₂ (λ x y. x || y) (one_split a r h.0) (all_split more rs h.1) ∙ drawn_out (all_true_in env common) (all_true_in env r)
      (list_any (all_true_in env) rs)

or_right : (b : Bool) → (b || true) ≡ true
or_right true = refl
or_right false = refl

-- an alternative without a rest is met by what all share
empty_met : (env : ColumnLeaf → Value) (rests : List (List SqlCondition)) → list_any is_empty rests ≡ true → list_any (all_true_in env) rests ≡ true
empty_met env [] h = cc
empty_met env ([] ∷ rs) h = refl
empty_met env ((c ∷ cs) ∷ rs) h = ap (λ b. all_true_in env (c ∷ cs) || b) (empty_met env rs h) ∙ or_right (all_true_in env (c ∷ cs))

-- what all alternatives share, and one OR of the rest
pub several_say : (common : List SqlCondition) (alternatives rests : List (List SqlCondition)) → AreSplit common alternatives rests
    → SaysAny alternatives (shared_outside common rests)
several_say common alternatives rests split = λ env. go env (list_any is_empty rests) refl ∙ sym (all_split env common alternatives rests split)
  where
    go : (env : ColumnLeaf → Value) (b : Bool) → list_any is_empty rests ≡ b → all_true_in env (cond b common (common ++ any_of (map all_of rests) ∷ []))
        ≡ (all_true_in env common && list_any (all_true_in env) rests)
    go env true e = sym (ap (λ b. all_true_in env common && b) (empty_met env rests e) ∙ and_kept (all_true_in env common))
    go env false e =
        list_all-append (true_in env) common (any_of (map all_of rests) ∷ [])
        ∙ ap (λ b. all_true_in env common && b) (and_kept _ ∙ true_any_of env (map all_of rests) ∙ list_any-map (true_in env) all_of rests
        ∙ any-each _ (all_true_in env) rests (true_all_of env))
