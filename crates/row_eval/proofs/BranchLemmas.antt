-- Branches of a search: the stacks that they stand on, and what one stage makes of what is found.
use Rattle.std.proofs.Common.{◌≡◌, ℕ, suc, zero, ◌+◌, ◌<◌, ◌≤◌, cond, Bool, List, [], ◌∷◌, ◌++◌, map, take, length, get_or, refl, sym, ap, subst, ◌∙◌, arith, append_assoc}
use Rattle.std.specs.Prelude.{flat_map, sum}
use Rattle.std.proofs.lemmas.List.{length-append}
use Rattle.std.proofs.Math.Seq.{take-length}
use Rattle.std.proofs.lemmas.List.Sums.{sum_by-cons}
use Rattle.pgq_base.specs.Instances.{InstanceRows}
use Rattle.expr_tree.proofs.Folds.{parts}
use Rattle.sql_algebra.specs.Meaning.{has_none}
use Rattle.row_eval.specs.declared.access.Access.{Access}
use Rattle.row_eval.specs.declared.branch.Branch.{Branch}
use Rattle.row_eval.specs.declared.frame.Condition.{Condition}
use Rattle.row_eval.specs.declared.index.Index.{Index}
use Rattle.row_eval.specs.declared.stage.Stage.{Stage}
use Rattle.row_eval.specs.declared.stage.Stage.TheVariants as v
use Rattle.row_eval.specs.Slots.{Stack}
use Rattle.row_eval.specs.Access.{rows_given}
use Rattle.row_eval.specs.Served.{AllServed, IsServed}
use Rattle.row_eval.specs.Stages.{all_kept, found, found_on, visits, visits_on, accesses, accesses_of}
use Rattle.row_eval.specs.Branches.{rows_left, standing, found_from, visits_from, found_later, visits_later}
use Rattle.row_eval.proofs.StageLemmas.{found-Keep, found-Join, found-Absent, visits-Keep, visits-Join, visits-Absent, one_more, stage_accesses-Join, stage_accesses-Absent}

-- ---- where the branches stand

pub standing_last : (height : ℕ) (branches : List Branch) (branch : Branch) (s : Stack) (n : ℕ) → n ≡ height + length branches
    → standing height (branches ++ branch ∷ []) s ≡ (branch, take n s) ∷ standing height branches s
standing_last height [] branch s n is = let same : height ≡ n = omega (arith, is) in ap (λ k. (branch, take k s) ∷ []) same
standing_last height (b ∷ branches) branch s n is =
    ap (λ l. l ++ (b, take height s) ∷ []) (standing_last (suc height) branches branch s n (omega (arith, is)))

-- they stand on the same rows of two stacks that begin alike
standing_same : (height : ℕ) (branches : List Branch) (s t : Stack) → ((k : ℕ) → k < height + length branches → take k s ≡ take k t)
    → standing height branches s ≡ standing height branches t
standing_same height [] s t alike = refl
standing_same height (b ∷ branches) s t alike =
    ap (λ l. l ++ (b, take height s) ∷ []) (standing_same (suc height) branches s t (λ k h. alike k (omega (arith, h))))
    ∙ ap (λ x. standing (suc height) branches t ++ (b, x) ∷ []) (alike height (omega arith))

pub take_twice : {X : Type 0} (k n : ℕ) (xs : List X) → k ≤ n → take k (take n xs) ≡ take k xs
take_twice zero n xs h = refl
take_twice (suc k) zero xs h = absurd (omega (arith, h))
take_twice (suc k) (suc n) [] h = refl
take_twice (suc k) (suc n) (x ∷ xs) h = ap (λ l. x ∷ l) (take_twice k n xs (omega (arith, h)))

module _ (height : ℕ) (branches : List Branch) (s : Stack) where
  -- a stack that is cut off above them
  pub standing_cut : (n : ℕ) → height + length branches ≤ suc n → standing height branches (take n s) ≡ standing height branches s
  standing_cut n high = standing_same height branches (take n s) s (λ k h. take_twice k n s (omega (arith, h, high)))

module _ (T : InstanceRows) (stages : List Stage) (height : ℕ) (s : Stack) where
  pub later_found : (branches : List Branch) (branch : Branch) (n : ℕ) → n ≡ height + length branches
      → found_later T stages height (branches ++ branch ∷ []) s ≡ found_from T stages branch (take n s) ++ found_later T stages height branches s
  later_found branches branch n is = ap (flat_map (λ (p : Branch × Stack). found_from T stages p.0 p.1)) (standing_last height branches branch s n is)

  pub later_visits : (branches : List Branch) (branch : Branch) (n : ℕ) → n ≡ height + length branches
      → visits_later T stages height (branches ++ branch ∷ []) s ≡ visits_from T stages branch (take n s) + visits_later T stages height branches s
  later_visits branches branch n is =
      ap (λ l. sum (map (λ (p : Branch × Stack). visits_from T stages p.0 p.1) l)) (standing_last height branches branch s n is)
      ∙ sum_by-cons (λ n. n) (visits_from T stages branch (take n s)) (map (λ (p : Branch × Stack). visits_from T stages p.0 p.1) (standing height branches s))

  module _ (branches : List Branch) where
    pub found_cut : (n : ℕ) → height + length branches ≤ suc n → found_later T stages height branches (take n s) ≡ found_later T stages height branches s
    found_cut n high = ap (flat_map (λ (p : Branch × Stack). found_from T stages p.0 p.1)) (standing_cut height branches s n high)

    pub visits_cut : (n : ℕ) → height + length branches ≤ suc n → visits_later T stages height branches (take n s) ≡ visits_later T stages height branches s
    visits_cut n high = ap (λ l. sum (map (λ (p : Branch × Stack). visits_from T stages p.0 p.1) l)) (standing_cut height branches s n high)

    -- the branch again with the rows that are left, and a further one on top of it
    module _ (branch further : Branch) (n : ℕ) (is : n ≡ height + length branches) (long : length s ≡ suc n) where
      longer : suc n ≡ height + length (branches ++ branch ∷ [])
      longer = omega (arith, is, length-append branches (branch ∷ []))

      full : take (suc n) s ≡ s
      full = ap (λ k. take k s) (sym long) ∙ take-length s

      pub found_two : found_later T stages height ((branches ++ branch ∷ []) ++ further ∷ []) s
          ≡ (found_from T stages further s ++ found_from T stages branch (take n s)) ++ found_later T stages height branches s
      found_two =
          later_found (branches ++ branch ∷ []) further (suc n) longer
          ∙ ap (λ x. found_from T stages further x ++ found_later T stages height (branches ++ branch ∷ []) s) full
          ∙ ap (λ l. found_from T stages further s ++ l) (later_found branches branch n is)
          ∙ sym (append_assoc (found_from T stages further s) (found_from T stages branch (take n s)) (found_later T stages height branches s))

      pub visits_two : visits_later T stages height ((branches ++ branch ∷ []) ++ further ∷ []) s
          ≡ visits_from T stages further s + (visits_from T stages branch (take n s) + visits_later T stages height branches s)
      visits_two =
          later_visits (branches ++ branch ∷ []) further (suc n) longer
          ∙ ap (λ x. visits_from T stages further x + visits_later T stages height (branches ++ branch ∷ []) s) full
          ∙ ap (λ k. visits_from T stages further s + k) (later_visits branches branch n is)

-- ---- stages one before another

module _ (T : InstanceRows) (stages : List Stage) (left i : ℕ) (x : Stage) (s : Stack) (one : left ≡ i + 1) (within : i < length stages) (at : x ≡ get_or stages i x) where
  ahead : (y : Stage) → x ≡ y → take left stages ≡ take i stages ++ y ∷ []
  ahead y is = ap (λ n. take n stages) one ∙ one_more stages i x y within at is

  -- conditions
  module _ (cs : List Condition) (is : x ≡ v.Keep cs) (b : Bool) (told : b ≡ all_kept cs s) where
    pub found_kept : found T (take left stages) s ≡ cond b (found T (take i stages) s) []
    found_kept = found-Keep T s (take left stages) cs (take i stages) (ahead (v.Keep cs) is) ∙ ap (λ c. cond c (found T (take i stages) s) []) (sym told)

    pub visits_kept : visits T (take left stages) s ≡ cond b (visits T (take i stages) s) 0
    visits_kept = visits-Keep T s (take left stages) cs (take i stages) (ahead (v.Keep cs) is) ∙ ap (λ c. cond c (visits T (take i stages) s) 0) (sym told)

  -- a join and its branch
  module _ (access : Access) (is : x ≡ v.Join access) (branch : Branch) (behind : branch.behind ≡ i) (rows : rows_left T branch s ≡ rows_given T access s) where
    pub found_joined : found T (take left stages) s ≡ found_from T stages branch s
    found_joined =
        found-Join T s (take left stages) access (take i stages) (ahead (v.Join access) is)
        ∙ ap (found_on (found T (take i stages)) s) (sym rows) ∙ ap (λ n. found_on (found T (take n stages)) s (rows_left T branch s)) (sym behind)

    pub visits_joined : visits T (take left stages) s ≡ visits_from T stages branch s
    visits_joined =
        visits-Join T s (take left stages) access (take i stages) (ahead (v.Join access) is)
        ∙ ap (visits_on (visits T (take i stages)) s) (sym rows) ∙ ap (λ n. visits_on (visits T (take n stages)) s (rows_left T branch s)) (sym behind)

  -- stages that are to find nothing
  module _ (inner : List Stage) (is : x ≡ v.Absent inner) where
    pub found_absent : (b : Bool) → b ≡ has_none (found T inner s) → found T (take left stages) s ≡ cond b (found T (take i stages) s) []
    found_absent b told = found-Absent T s (take left stages) inner (take i stages) (ahead (v.Absent inner) is) ∙ ap (λ c. cond c (found T (take i stages) s) []) (sym told)

    pub visits_absent : visits T (take left stages) s ≡ visits T inner s + visits T (take i stages) s
    visits_absent = visits-Absent T s (take left stages) inner (take i stages) (ahead (v.Absent inner) is)

-- ---- the accesses

module _ (T : InstanceRows) (indexes : List Index) where
  served_at : (stages : List Stage) (i : ℕ) (x : Stage) → i < length stages → x ≡ get_or stages i x → AllServed T indexes (accesses stages)
      → AllServed T indexes (accesses_of x)
  served_at [] i x h at all = absurd (omega arith)
  served_at (y ∷ stages) zero x h at all =
      subst (λ (z : Stage). AllServed T indexes (accesses_of z)) (sym at) (parts (IsServed T indexes) (accesses_of y) (accesses stages) all).0
  served_at (y ∷ stages) (suc i) x h at all =
      served_at stages i x (omega (arith, h)) at (parts (IsServed T indexes) (accesses_of y) (accesses stages) all).1

  module _ (stages : List Stage) (i : ℕ) (x : Stage) (h : i < length stages) (at : x ≡ get_or stages i x) (all : AllServed T indexes (accesses stages)) where
    pub served_join : (access : Access) → x ≡ v.Join access → IsServed T indexes access
    served_join access is = (subst (AllServed T indexes) (stage_accesses-Join x access is) (served_at stages i x h at all)).0

    pub served_inner : (inner : List Stage) → x ≡ v.Absent inner → AllServed T indexes (accesses inner)
    served_inner inner is = subst (AllServed T indexes) (stage_accesses-Absent x inner is) (served_at stages i x h at all)
