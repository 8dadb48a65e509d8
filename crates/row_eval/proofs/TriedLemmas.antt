-- A branch that is tried: what is put out and read on the way, and what is left.
use Rattle.std.proofs.Common.{◌≡◌, ℕ, suc, ◌+◌, ◌<◌, ◌≤◌, ◌&&◌, not, Bool, true, false, List, [], ◌∷◌, ◌++◌, take, length, refl, sym, ap, subst, ◌∙◌, arith, Option, Some, None}
use Rattle.std.specs.Prelude.{is_some}
use Rattle.std.proofs.lemmas.List.{length-append}
use Rattle.std.specs.Borrow.{Bor}
use Rattle.pgq_base.specs.declared.rows.Row.{Row}
use Rattle.pgq_base.specs.Instances.{RowValues, InstanceRows}
use Rattle.row_eval.specs.declared.branch.Branch.{Branch}
use Rattle.row_eval.specs.declared.frame.Output.{Output}
use Rattle.row_eval.specs.declared.stage.Stage.{Stage}
use Rattle.row_eval.specs.Slots.{Stack}
use Rattle.row_eval.specs.Stages.{found}
use Rattle.row_eval.specs.Branches.{resumed, reached, found_from, visits_from, found_later, visits_later, turns_later, found_reached, visits_reached, found_tried, visits_tried}
use Rattle.row_eval.specs.Branches.{IsRight, IsTopped, Advances}
use Rattle.row_eval.proofs.RunLemmas.{further, beside}
use Rattle.row_eval.proofs.BranchLemmas.{take_twice, later_found, later_visits, found_cut, visits_cut, found_two, visits_two}

pub reached_one : (o : Option Branch) → reached o ≤ 1
reached_one None = omega arith
reached_one (Some b) = omega arith

-- where the next row is to be tried, no branch was reached
pub none_reached : (all : Bool) (o : Option Branch) → (all && not (is_some o)) ≡ true → o ≡ None
none_reached true None h = refl
none_reached false None h = refl
none_reached true (Some b) h = absurd cc
none_reached false (Some b) h = absurd cc

pub resumed_right : (T : InstanceRows) (stages : List Stage) (branch : Branch) (next : ℕ) → IsRight T stages branch → IsRight T stages (resumed branch next)
resumed_right T stages branch next h = (record { table = h.0.table; rows = h.0.rows; places = h.0.places }, h.1)

-- below what a branch adds a stack stays the same
pub under_topped : (o : Option Branch) (old new : List (Bor Row)) → IsTopped o old new → (n : ℕ) → n ≤ length old → take n new ≡ take n old
under_topped None old new h n low = ap (take n) h
under_topped (Some b) old new h n low = sym (take_twice n (length old) new low) ∙ ap (take n) h.0

module _ (T : InstanceRows) (stages : List Stage) (branch : Branch) (n : ℕ) (s : Stack) where
  abbrev later : List Stack
  later = found_from T stages (resumed branch (n + 1)) s

  pub tried_within : (o : Option Branch) (longer : Stack)
      → visits_tried T stages branch (n + 1) o s longer ≤ visits_reached T stages o longer + visits_from T stages (resumed branch (n + 1)) s
  tried_within None longer = omega arith
  tried_within (Some f) longer = omega arith

  module _ (outputs : List Output) (limit : ℕ) (row : RowValues)
      (taken : found_from T stages (resumed branch n) s ≡ found T (take branch.behind stages) (s ++ row ∷ []) ++ found_from T stages (resumed branch (n + 1)) s) where
    abbrev one : List Stack
    one = found T (take branch.behind stages) (s ++ row ∷ [])

    behind_row : (a b c : List Row) (whole left : List Stack) (all : Bool) → Advances outputs limit a b whole (found_from T stages (resumed branch n) s) true
        → Advances outputs limit b c one left all → Advances outputs limit a c whole (left ++ later) all
    behind_row a b c whole left all first second =
        further outputs limit a b c whole (one ++ later) (left ++ later) all (subst (λ l. Advances outputs limit a b whole l true) taken first)
        (beside outputs limit b c one left later all second)

    -- where the next row is not to be tried
    pub row_left : (a b c : List Row) (whole : List Stack) (o : Option Branch) (longer : Stack) (all : Bool) → (all && not (is_some o)) ≡ false
        → Advances outputs limit a b whole (found_from T stages (resumed branch n) s) true → Advances outputs limit b c one (found_reached T stages o longer) all
        → Advances outputs limit a c whole (found_tried T stages branch (n + 1) o s longer) all
    row_left a b c whole None longer true h first second = absurd cc
    row_left a b c whole None longer false h first second = behind_row a b c whole [] false first second
    row_left a b c whole (Some f) longer all h first second = behind_row a b c whole (found_from T stages f longer) all first second

    -- where it is
    pub row_done : (a b c : List Row) (whole : List Stack) (o : Option Branch) (longer : Stack) (all : Bool) → (all && not (is_some o)) ≡ true
        → Advances outputs limit a b whole (found_from T stages (resumed branch n) s) true → Advances outputs limit b c one (found_reached T stages o longer) all
        → Advances outputs limit a c whole later true
    row_done a b c whole None longer true h first second = behind_row a b c whole [] true first second
    row_done a b c whole None longer false h first second = absurd cc
    row_done a b c whole (Some f) longer true h first second = absurd cc
    row_done a b c whole (Some f) longer false h first second = absurd cc

-- ---- a branch and those before it

module _ (T : InstanceRows) (stages : List Stage) (base : ℕ) (branches : List Branch) (branch : Branch) (s : Stack) (n : ℕ) (is : n ≡ base + length branches) where
  module _ (outputs : List Output) (limit : ℕ) (a b c : List Row) (whole : List Stack)
      (first : Advances outputs limit a b whole (found_later T stages base (branches ++ branch ∷ []) s) true) where
    behind_branch : (left : List Stack) (all : Bool) → Advances outputs limit b c (found_from T stages branch (take n s)) left all
        → Advances outputs limit a c whole (left ++ found_later T stages base branches s) all
    behind_branch left all second =
        further outputs limit a b c whole (found_from T stages branch (take n s) ++ found_later T stages base branches s) (left ++ found_later T stages base branches s) all
        (subst (λ l. Advances outputs limit a b whole l true) (later_found T stages base s branches branch n is) first)
        (beside outputs limit b c (found_from T stages branch (take n s)) left (found_later T stages base branches s) all second)

    pub branch_over : (left : List Stack) → Advances outputs limit b c (found_from T stages branch (take n s)) left false → Advances outputs limit a c whole [] false
    branch_over left second = behind_branch left false second

    pub branch_done : Advances outputs limit b c (found_from T stages branch (take n s)) [] true
        → Advances outputs limit a c whole (found_later T stages base branches (take n s)) true
    branch_done second =
        subst (λ l. Advances outputs limit a c whole l true) (sym (found_cut T stages base s branches n (omega (arith, is)))) (behind_branch [] true second)

    pub branch_left : (next : ℕ) (f : Branch) (longer : Stack) → length longer ≡ suc n → take n longer ≡ take n s
        → Advances outputs limit b c (found_from T stages branch (take n s)) (found_tried T stages branch next (Some f) (take n s) longer) true
        → Advances outputs limit a c whole (found_later T stages base ((branches ++ resumed branch next ∷ []) ++ f ∷ []) longer) true
    branch_left next f longer long same second =
        subst (λ l. Advances outputs limit a c whole l true)
        (sym (found_two T stages base longer branches (resumed branch next) f n is long
        ∙ ap (λ x. (found_from T stages f longer ++ found_from T stages (resumed branch next) x) ++ found_later T stages base branches longer) same
        ∙ ap (λ l. (found_from T stages f longer ++ found_from T stages (resumed branch next) (take n s)) ++ l)
        (sym (found_cut T stages base longer branches n (omega (arith, is))) ∙ ap (found_later T stages base branches) same ∙ found_cut T stages base s branches n
        (omega (arith, is)))))
        (behind_branch (found_tried T stages branch next (Some f) (take n s) longer) true second)

  pub branch_visits : visits_later T stages base (branches ++ branch ∷ []) s ≡ visits_from T stages branch (take n s) + visits_later T stages base branches s
  branch_visits = later_visits T stages base s branches branch n is

  pub left_visits : (next : ℕ) (f : Branch) (longer : Stack) → length longer ≡ suc n → take n longer ≡ take n s
      → visits_later T stages base ((branches ++ resumed branch next ∷ []) ++ f ∷ []) longer
      ≡ visits_tried T stages branch next (Some f) (take n s) longer + visits_later T stages base branches s
  left_visits next f longer long same =
      let two = visits_two T stages base longer branches (resumed branch next) f n is long in
      let here : visits_from T stages (resumed branch next) (take n longer) ≡ visits_from T stages (resumed branch next) (take n s) =
      ap (visits_from T stages (resumed branch next)) same in
      let low : visits_later T stages base branches longer ≡ visits_later T stages base branches s =
      sym (visits_cut T stages base longer branches n (omega (arith, is))) ∙ ap (visits_later T stages base branches) same ∙ visits_cut T stages base s branches n
      (omega (arith, is)) in
      omega (arith, two, here, low)

  pub left_turns : (next : ℕ) (f : Branch) (longer : Stack) → length longer ≡ suc n → take n longer ≡ take n s
      → 1 + visits_tried T stages branch next (Some f) (take n s) longer ≤ visits_from T stages branch (take n s)
      → turns_later T stages base ((branches ++ resumed branch next ∷ []) ++ f ∷ []) longer < turns_later T stages base (branches ++ branch ∷ []) s
  left_turns next f longer long same fewer =
      let now = left_visits next f longer long same in
      let before = branch_visits in
      let one = length-append (branches ++ resumed branch next ∷ []) (f ∷ []) in
      let two = length-append branches (resumed branch next ∷ []) in
      let three = length-append branches (branch ∷ []) in
      omega (arith, fewer, now, before, one, two, three)

  pub done_turns : turns_later T stages base branches (take n s) < turns_later T stages base (branches ++ branch ∷ []) s
  done_turns =
      let now = visits_cut T stages base s branches n (omega (arith, is)) in
      let before = branch_visits in
      let three = length-append branches (branch ∷ []) in
      omega (arith, now, before, three)
