-- One turn of a search: the last branch is taken off, the stack is cut off above its own, and its rows are tried.
use Rattle.std.proofs.Common.{◌≡◌, ℕ, suc, ◌+◌, ◌<◌, ◌≤◌, Bool, true, false, List, [], ◌∷◌, ◌++◌, take, length, refl, sym, ap, subst, ◌∙◌, arith, Option, Some, None}
use Rattle.std.specs.Borrow.{Bor}
use Rattle.std.proofs.lemmas.List.{append-nil, length-append, length-take-le, take-map}
use Rattle.std.proofs.Math.Seq.{take-length}
use Rattle.pgq_base.specs.declared.rows.Row.{Row}
use Rattle.pgq_base.specs.Instances.{InstanceRows}
use Rattle.expr_tree.proofs.Folds.{parts}
use Rattle.row_eval.specs.declared.branch.Branch.{Branch}
use Rattle.row_eval.specs.declared.frame.Output.{Output}
use Rattle.row_eval.specs.declared.stage.Stage.{Stage}
use Rattle.row_eval.specs.Slots.{Stack, lent_rows}
use Rattle.row_eval.specs.Branches.{resumed, reached, found_from, visits_from, found_later, visits_later, turns_later, found_tried, visits_tried, IsRight, AreRight}
use Rattle.row_eval.specs.Branches.{IsRightReached, IsTopped, Advances}
use Rattle.row_eval.proofs.BranchLemmas.{take_twice, later_visits, visits_cut}
use Rattle.row_eval.proofs.TypedLemmas.{all_both}
use Rattle.row_eval.proofs.TriedLemmas.{resumed_right, under_topped, branch_over, branch_done, branch_left, branch_visits, left_visits, left_turns, done_turns}

pub empty : {X : Type 0} (xs : List X) → length xs ≡ 0 → xs ≡ []
empty [] h = refl
empty (x ∷ xs) h = absurd (omega (arith, h))

pub rows_long : (rows : List (Bor Row)) → length (lent_rows rows) ≡ length rows
rows_long [] = refl
rows_long (r ∷ rows) = ap suc (rows_long rows)

-- the first branch stands on the whole stack
module _ (T : InstanceRows) (stages : List Stage) (first : Branch) (rows : List (Bor Row)) where
  whole_stack : take (length rows) (lent_rows rows) ≡ lent_rows rows
  whole_stack = ap (λ n. take n (lent_rows rows)) (sym (rows_long rows)) ∙ take-length (lent_rows rows)

  pub first_found : found_later T stages (length rows) (first ∷ []) (lent_rows rows) ≡ found_from T stages first (lent_rows rows)
  first_found = append-nil (found_from T stages first (take (length rows) (lent_rows rows))) ∙ ap (found_from T stages first) whole_stack

  pub first_visits : visits_later T stages (length rows) (first ∷ []) (lent_rows rows) ≡ visits_from T stages first (lent_rows rows)
  first_visits =
      (let one = later_visits T stages (length rows) (lent_rows rows) [] first (length rows) (omega arith) in
      let two = ap (visits_from T stages first) whole_stack in omega (arith, one, two))

module _ (T : InstanceRows) (stages : List Stage) (base : ℕ) (all bs : List Branch) (branch : Branch) (popped : all ≡ bs ++ branch ∷ [])
    (old cut : List (Bor Row)) (n : ℕ) (is : n ≡ base + length bs) (cut_is : cut ≡ take n old) where
  under : lent_rows cut ≡ take n (lent_rows old)
  under = ap lent_rows cut_is ∙ sym (take-map (λ (b : Bor Row). b.now.values) n old)

  pub cut_long : n ≤ length old → length cut ≡ n
  cut_long high = ap length cut_is ∙ length-take-le n old high

  all_visits : visits_later T stages base all (lent_rows old) ≡ visits_from T stages branch (lent_rows cut) + visits_later T stages base bs (lent_rows old)
  all_visits =
      ap (λ bs. visits_later T stages base bs (lent_rows old)) popped ∙ branch_visits T stages base bs branch (lent_rows old) n is
      ∙ ap (λ s. visits_from T stages branch s + visits_later T stages base bs (lent_rows old)) (sym under)

  -- whatever the rows lead to
  pub turn_read : (new at start whole : ℕ) → at + visits_later T stages base all (lent_rows old) ≤ start + whole → new ≤ at + visits_from T stages branch (lent_rows cut)
      → new ≤ start + whole
  turn_read new at start whole before now = (let parts = all_visits in omega (arith, parts, before, now))

  pub turn_parts : AreRight T stages all → AreRight T stages bs × IsRight T stages branch
  turn_parts right = let two = parts (IsRight T stages) bs (branch ∷ []) (subst (AreRight T stages) popped right) in (two.0, two.1.0)

  module _ (further : Option Branch) (longer : List (Bor Row)) (topped : IsTopped further cut longer) where
    pub turn_kept : (k : ℕ) → k ≤ n → n ≤ length old → take k longer ≡ take k old
    turn_kept k low high =
        under_topped further cut longer topped k (omega (arith, low, cut_long high)) ∙ ap (take k) cut_is ∙ take_twice k n old low

    module _ (next : ℕ) (none : further ≡ None) where
      same : longer ≡ cut
      same = subst (λ o. IsTopped o cut longer) none topped

      here : lent_rows longer ≡ take n (lent_rows old)
      here = ap lent_rows same ∙ under

      pub done_found : (outputs : List Output) (limit : ℕ) (a b c : List Row) (whole : List Stack) (all_out : Bool) → all_out ≡ true
          → Advances outputs limit a b whole (found_later T stages base all (lent_rows old)) true
          → Advances outputs limit b c (found_from T stages branch (lent_rows cut)) (found_tried T stages branch next further (lent_rows cut) (lent_rows longer)) all_out
          → Advances outputs limit a c whole (found_later T stages base bs (lent_rows longer)) true
      done_found outputs limit a b c whole all_out told first second =
          let one = subst (λ l. Advances outputs limit a b whole (found_later T stages base l (lent_rows old)) true) popped first in
          let two = subst (λ x. Advances outputs limit b c (found_from T stages branch x) [] true) under
          (subst (λ o. Advances outputs limit b c (found_from T stages branch (lent_rows cut)) (found_tried T stages branch next o (lent_rows cut) (lent_rows longer)) true) none
          (subst (λ y. Advances outputs limit b c (found_from T stages branch (lent_rows cut)) (found_tried T stages branch next further (lent_rows cut) (lent_rows longer)) y)
          told second)) in
          subst (λ x. Advances outputs limit a c whole (found_later T stages base bs x) true) (sym here)
          (branch_done T stages base bs branch (lent_rows old) n is outputs limit a b c whole one two)

      bs_visits : visits_later T stages base bs (lent_rows longer) ≡ visits_later T stages base bs (lent_rows old)
      bs_visits = ap (visits_later T stages base bs) here ∙ visits_cut T stages base (lent_rows old) bs n (omega (arith, is))

      pub done_read : (new at start whole : ℕ) → at + visits_later T stages base all (lent_rows old) ≤ start + whole
          → new + visits_tried T stages branch next further (lent_rows cut) (lent_rows longer) ≤ at + visits_from T stages branch (lent_rows cut)
          → new + visits_later T stages base bs (lent_rows longer) ≤ start + whole
      done_read new at start whole before now = (let parts = all_visits in let less = bs_visits in omega (arith, parts, before, now, less))

      pub done_smaller : turns_later T stages base bs (lent_rows longer) < turns_later T stages base all (lent_rows old)
      done_smaller =
          subst (λ l. turns_later T stages base bs (lent_rows longer) < turns_later T stages base l (lent_rows old)) (sym popped)
          (subst (λ x. turns_later T stages base bs x < turns_later T stages base (bs ++ branch ∷ []) (lent_rows old)) (sym here)
          (done_turns T stages base bs branch (lent_rows old) n is))

      pub done_high : n ≤ length old → base + length bs ≤ 1 + length longer
      done_high high = (let long = ap length same in let cuts = cut_long high in omega (arith, is, long, cuts))

    module _ (next : ℕ) (f : Branch) (some : further ≡ Some f) (high : n ≤ length old) (new_all : List Branch) (pushed : new_all ≡ (bs ++ resumed branch next ∷ []) ++ f ∷ []) where
      parts_topped : (take (length cut) longer ≡ cut) × (length longer ≡ suc (length cut))
      parts_topped = subst (λ o. IsTopped o cut longer) some topped

      long : length (lent_rows longer) ≡ suc n
      long = rows_long longer ∙ parts_topped.1 ∙ ap suc (cut_long high)

      below : take n (lent_rows longer) ≡ take n (lent_rows old)
      below =
          take-map (λ (b : Bor Row). b.now.values) n longer
          ∙ ap lent_rows (ap (λ k. take k longer) (sym (cut_long high)) ∙ parts_topped.0) ∙ under

      pub more_found : (outputs : List Output) (limit : ℕ) (a b c : List Row) (whole : List Stack) (all_out : Bool) → all_out ≡ true
          → Advances outputs limit a b whole (found_later T stages base all (lent_rows old)) true
          → Advances outputs limit b c (found_from T stages branch (lent_rows cut)) (found_tried T stages branch next further (lent_rows cut) (lent_rows longer)) all_out
          → Advances outputs limit a c whole (found_later T stages base new_all (lent_rows longer)) true
      more_found outputs limit a b c whole all_out told first second =
          let one = subst (λ l. Advances outputs limit a b whole (found_later T stages base l (lent_rows old)) true) popped first in
          let two = subst (λ x. Advances outputs limit b c (found_from T stages branch x) (found_tried T stages branch next (Some f) x (lent_rows longer)) true) under
          (subst (λ o. Advances outputs limit b c (found_from T stages branch (lent_rows cut)) (found_tried T stages branch next o (lent_rows cut) (lent_rows longer)) true) some
          (subst (λ y. Advances outputs limit b c (found_from T stages branch (lent_rows cut)) (found_tried T stages branch next further (lent_rows cut) (lent_rows longer)) y)
          told second)) in
          subst (λ l. Advances outputs limit a c whole (found_later T stages base l (lent_rows longer)) true) (sym pushed)
          (branch_left T stages base bs branch (lent_rows old) n is outputs limit a b c whole one next f (lent_rows longer) long below two)

      tried : visits_tried T stages branch next further (lent_rows cut) (lent_rows longer) ≡ visits_tried T stages branch next (Some f) (take n (lent_rows old)) (lent_rows longer)
      tried = ap (λ o. visits_tried T stages branch next o (lent_rows cut) (lent_rows longer)) some ∙ ap (λ x. visits_tried T stages branch next (Some f) x (lent_rows longer))
          under

      pub more_read : (new at start whole : ℕ) → at + visits_later T stages base all (lent_rows old) ≤ start + whole
          → new + visits_tried T stages branch next further (lent_rows cut) (lent_rows longer) ≤ at + visits_from T stages branch (lent_rows cut)
          → new + visits_later T stages base new_all (lent_rows longer) ≤ start + whole
      more_read new at start whole before now =
          (let one = all_visits in
          let two = ap (λ l. visits_later T stages base l (lent_rows longer)) pushed ∙ left_visits T stages base bs branch (lent_rows old) n is next f (lent_rows longer) long
          below in
          let three = tried in omega (arith, one, two, three, before, now))

      pub more_smaller : reached further + visits_tried T stages branch next further (lent_rows cut) (lent_rows longer) ≤ visits_from T stages branch (lent_rows cut)
          → turns_later T stages base new_all (lent_rows longer) < turns_later T stages base all (lent_rows old)
      more_smaller fewer =
          let one = ap reached some in
          let two = tried in
          let three = ap (visits_from T stages branch) under in
          subst (λ l. turns_later T stages base l (lent_rows longer) < turns_later T stages base all (lent_rows old)) (sym pushed)
          (subst (λ l. turns_later T stages base ((bs ++ resumed branch next ∷ []) ++ f ∷ []) (lent_rows longer) < turns_later T stages base l (lent_rows old)) (sym popped)
          (left_turns T stages base bs branch (lent_rows old) n is next f (lent_rows longer) long below (omega (arith, fewer, one, two, three))))

      pub more_high : base + length new_all ≤ 1 + length longer
      more_high = (let one = ap length pushed in let two = length-append (bs ++ resumed branch next ∷ []) (f ∷ []) in let three = length-append bs (resumed branch next ∷ []) in
          let four = parts_topped.1 in let five = cut_long high in omega (arith, one, two, three, four, five, is))

      pub more_right : AreRight T stages all → IsRightReached T stages further → AreRight T stages new_all
      more_right right last =
          let two = turn_parts right in
          subst (AreRight T stages) (sym pushed)
          (all_both (IsRight T stages) (bs ++ resumed branch next ∷ []) (f ∷ [])
          (all_both (IsRight T stages) bs (resumed branch next ∷ []) two.0 (resumed_right T stages branch next two.1, tt)) (subst (IsRightReached T stages) some last, tt))

  -- too many
  pub turn_over : (outputs : List Output) (limit : ℕ) (a b c : List Row) (whole left : List Stack) (all_out : Bool) → all_out ≡ false
      → Advances outputs limit a b whole (found_later T stages base all (lent_rows old)) true
      → Advances outputs limit b c (found_from T stages branch (lent_rows cut)) left all_out → Advances outputs limit a c whole [] false
  turn_over outputs limit a b c whole left all_out told first second =
      branch_over T stages base bs branch (lent_rows old) n is outputs limit a b c whole
      (subst (λ l. Advances outputs limit a b whole (found_later T stages base l (lent_rows old)) true) popped first)
      left (subst (λ x. Advances outputs limit b c (found_from T stages branch x) left false) under
      (subst (λ y. Advances outputs limit b c (found_from T stages branch (lent_rows cut)) left y) told second))
