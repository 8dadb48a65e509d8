-- Rows that no way gives fail a later test, so that ways change nothing of what a chain finds.
use Rattle.std.proofs.Common.{◌≡◌, ℕ, suc, ◌<◌, cond, Bool, true, false, List, [], ◌∷◌, ◌++◌, map, take, length, get_or, refl, sym, ap, subst, ◌∙◌, arith, append_assoc}
use Rattle.std.specs.Prelude.{filter, flat_map}
use Rattle.std.proofs.Math.Seq.{get_or-append_seam}
use Rattle.std.proofs.lemmas.List.{length-append}
use Rattle.std.proofs.lemmas.List.Folds.{list_all-append}
use Rattle.pgq_base.specs.Instances.{RowValues, TableRows, InstanceRows, rows_at}
use Rattle.row_eval.specs.declared.access.Key.{Key}
use Rattle.row_eval.specs.declared.frame.Condition.{Condition}
use Rattle.row_eval.specs.declared.legs.Leg.{Leg}
use Rattle.row_eval.specs.Access.{ways_agree}
use Rattle.row_eval.specs.Joins.{passed_on, chain_found}
use Rattle.row_eval.specs.Slots.{Stack}
use Rattle.row_eval.specs.Sorted.{leg_ways, AreNarrow}
use Rattle.row_eval.specs.Stages.{all_kept}
use Rattle.row_eval.specs.Ways.{ways_at}
use Rattle.row_eval.proofs.ChainLemmas.{condition_holds, chain_plain, levels_of, chain_means}
use Rattle.row_eval.proofs.ChainReach.{both_true}
use Rattle.row_eval.proofs.PoppedLemmas.{stack_longer}
use Rattle.row_eval.proofs.Staged.{Level, Decided, kept, all_tests, choices}

-- what is found with the rows of a filter is what is found with all rows, where the others find nothing
passed_within : (f g : Stack → List Stack) (tests : List Condition) (s : Stack) (way : RowValues → Bool)
    → ((row : RowValues) → way row ≡ true → all_kept tests (s ++ row ∷ []) ≡ true → f (s ++ row ∷ []) ≡ g (s ++ row ∷ []))
    → ((row : RowValues) → way row ≡ false → all_kept tests (s ++ row ∷ []) ≡ true → g (s ++ row ∷ []) ≡ [])
    → (rows : TableRows) → passed_on f tests s (filter way rows) ≡ passed_on g tests s rows
passed_within f g tests s way same none [] = refl
passed_within f g tests s way same none (row ∷ rows) =
    by (way row) (all_kept tests (s ++ row ∷ [])) refl refl (passed_within f g tests s way same none rows)
  where
    by : (b c : Bool) → way row ≡ b → all_kept tests (s ++ row ∷ []) ≡ c → passed_on f tests s (filter way rows) ≡ passed_on g tests s rows
        → passed_on f tests s (cond b (row ∷ filter way rows) (filter way rows)) ≡ cond c (g (s ++ row ∷ [])) [] ++ passed_on g tests s rows
    by true true e k h =
        ap (λ b. cond b (f (s ++ row ∷ [])) [] ++ passed_on f tests s (filter way rows)) k
        ∙ ap (λ x. x ++ passed_on f tests s (filter way rows)) (same row e k) ∙ ap (λ x. g (s ++ row ∷ []) ++ x) h
    by true false e k h = ap (λ b. cond b (f (s ++ row ∷ [])) [] ++ passed_on f tests s (filter way rows)) k ∙ h
    by false true e k h = h ∙ ap (λ x. x ++ passed_on g tests s rows) (sym (none row e k))
    by false false e k h = h

nothing_kept : (p : Stack → Bool) (s : Stack) → ((u : Stack) → p (s ++ u) ≡ false) → (us : List Stack) → filter p (map (λ u. s ++ u) us) ≡ []
nothing_kept p s none [] = refl
nothing_kept p s none (u ∷ us) =
    ap (λ b. cond b ((s ++ u) ∷ filter p (map (λ u. s ++ u) us)) (filter p (map (λ u. s ++ u) us))) (none u) ∙ nothing_kept p s none us

front_taken : (s more : Stack) → take (length s) (s ++ more) ≡ s
front_taken [] more = refl
front_taken (row ∷ s) more = ap (λ l. row ∷ l) (front_taken s more)

-- the row behind a stack
way_there : (s : Stack) (row : RowValues) (more : Stack) (ways : List Key) → ways_at (length s) (s ++ row ∷ more) ways ≡ ways_agree s row ways
way_there s row more ways =
    ap (λ front. ways_agree front (get_or (s ++ row ∷ more) (length s) []) ways) (front_taken s (row ∷ more))
    ∙ ap (λ r. ways_agree s r ways) (get_or-append_seam s row more [])

module _ (instance : InstanceRows) (end : Stack → List Stack) where
  -- the tests of all legs are True only where each row is one that one of its ways gives
  abbrev pub NarrowsChain : List Leg → Stack → Type 0
  NarrowsChain legs s = (u : Stack) → kept condition_holds (all_tests condition_holds (levels_of instance legs)) (s ++ u) ≡ true → AreNarrow (s ++ u) (length s) (leg_ways legs)

  module _ (leg : Leg) (legs : List Leg) (s : Stack) (row : RowValues) (here : all_kept leg.tests (s ++ row ∷ []) ≡ true)
      (decided : (more : Stack) → all_kept leg.tests ((s ++ row ∷ []) ++ more) ≡ all_kept leg.tests (s ++ row ∷ [])) (narrow : NarrowsChain (leg ∷ legs) s) where
    longer : (u : Stack) → kept condition_holds (all_tests condition_holds (levels_of instance legs)) ((s ++ row ∷ []) ++ u) ≡ true
        → AreNarrow (s ++ row ∷ u) (length s) (leg_ways (leg ∷ legs))
    longer u h =
        let whole : (s ++ row ∷ []) ++ u ≡ s ++ row ∷ u = append_assoc s (row ∷ []) u in
        narrow (row ∷ u)
        (list_all-append (condition_holds (s ++ row ∷ u)) leg.tests (all_tests condition_holds (levels_of instance legs))
        ∙ both_true (all_kept leg.tests (s ++ row ∷ u)) (kept condition_holds (all_tests condition_holds (levels_of instance legs)) (s ++ row ∷ u))
        (ap (all_kept leg.tests) (sym whole) ∙ decided u ∙ here)
        (ap (kept condition_holds (all_tests condition_holds (levels_of instance legs))) (sym whole) ∙ h))

    narrow_later : NarrowsChain legs (s ++ row ∷ [])
    narrow_later u h =
        subst (λ n. AreNarrow ((s ++ row ∷ []) ++ u) n (leg_ways legs)) (sym (stack_longer s row))
        (subst (λ t. AreNarrow t (suc (length s)) (leg_ways legs)) (sym (append_assoc s (row ∷ []) u)) (longer u h).1)

    none_later : ways_agree s row leg.ways ≡ false → (depth : ℕ) → length (s ++ row ∷ []) ≡ depth → Decided condition_holds depth (levels_of instance legs)
        → chain_plain instance legs end (s ++ row ∷ []) ≡ []
    none_later other depth long later =
        chain_means instance legs end depth (s ++ row ∷ []) long later
        ∙ ap (flat_map end)
        (nothing_kept (kept condition_holds (all_tests condition_holds (levels_of instance legs))) (s ++ row ∷ [])
        (λ u. fails u (kept condition_holds (all_tests condition_holds (levels_of instance legs)) ((s ++ row ∷ []) ++ u)) refl)
        (choices condition_holds (map (λ (l : Level condition_holds). l.rows) (levels_of instance legs))))
      where
        inside : (u : Stack) → length s < length (s ++ row ∷ u)
        inside u = (let long = length-append s (row ∷ u) in omega (arith, long))

        fails : (u : Stack) (b : Bool) → kept condition_holds (all_tests condition_holds (levels_of instance legs)) ((s ++ row ∷ []) ++ u) ≡ b
            → kept condition_holds (all_tests condition_holds (levels_of instance legs)) ((s ++ row ∷ []) ++ u) ≡ false
        fails u false e = e
        fails u true e =
            let never : false ≡ true = sym other ∙ sym (way_there s row u leg.ways) ∙ (longer u e).0 (inside u) in absurd cc

  -- ways change nothing
  pub narrowed_chain : (legs : List Leg) (depth : ℕ) (s : Stack) → length s ≡ depth → Decided condition_holds depth (levels_of instance legs) → NarrowsChain legs s
      → chain_found instance legs end s ≡ chain_plain instance legs end s
  narrowed_chain [] depth s long decided narrow = refl
  narrowed_chain (leg ∷ legs) depth s long decided narrow =
      passed_within (chain_found instance legs end) (chain_plain instance legs end) leg.tests s (λ row. ways_agree s row leg.ways)
      (λ row yes here. narrowed_chain legs (suc depth) (s ++ row ∷ []) (stack_longer s row ∙ ap suc long) decided.1
      (narrow_later leg legs s row here (λ more. decided.0 (s ++ row ∷ []) more (stack_longer s row ∙ ap suc long)) narrow))
      (λ row other here. none_later leg legs s row here (λ more. decided.0 (s ++ row ∷ []) more (stack_longer s row ∙ ap suc long)) narrow other
      (suc depth) (stack_longer s row ∙ ap suc long) decided.1)
      (rows_at instance leg.table)
