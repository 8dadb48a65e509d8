-- A list that is used up from its end.
use Rattle.std.proofs.Common.{◌+◌, arith}
use Rattle.std.proofs.Common.{◌≡◌, ℕ, suc, zero, cond, List, [], ◌∷◌, ◌++◌, take, drop, length, refl, sym, ap, ◌∙◌, append_assoc}
use Rattle.row_eval.proofs.Totals.{sum_total, total_append}
use Rattle.pgq_base.specs.Instances.{RowValues, TableRows, InstanceRows, rows_at}
use Rattle.row_eval.specs.declared.legs.Leg.{Leg}
use Rattle.row_eval.specs.declared.frame.Condition.{Condition}
use Rattle.row_eval.specs.Slots.{Stack}
use Rattle.row_eval.specs.Stages.{all_kept}
use Rattle.row_eval.specs.Joins.{passed_on, rows_of_legs}

module _ {X : Type 0} where
  parts : (n : ℕ) (xs : List X) → take n xs ++ drop n xs ≡ xs
  parts zero xs = refl
  parts (suc n) [] = refl
  parts (suc n) (x ∷ xs) = ap (λ l. x ∷ l) (parts n xs)

  take_front : (xs ys : List X) → take (length xs) (xs ++ ys) ≡ xs
  take_front [] ys = refl
  take_front (x ∷ xs) ys = ap (λ l. x ∷ l) (take_front xs ys)

  drop_front : (xs ys : List X) → drop (length xs) (xs ++ ys) ≡ ys
  drop_front [] ys = refl
  drop_front (x ∷ xs) ys = drop_front xs ys

  whole : (all now new : List X) (last : X) → now ≡ take (length now) all → now ≡ new ++ last ∷ [] → all ≡ new ++ last ∷ drop (length now) all
  whole all now new last front is =
      sym (parts (length now) all) ∙ ap (λ l. l ++ drop (length now) all) (sym front ∙ is) ∙ append_assoc new (last ∷ []) (drop (length now) all)

  pub front_left : (all now new : List X) (last : X) → now ≡ take (length now) all → now ≡ new ++ last ∷ [] → new ≡ take (length new) all
  front_left all now new last front is = sym (ap (take (length new)) (whole all now new last front is) ∙ take_front new (last ∷ drop (length now) all))

  pub back_longer : (all now new : List X) (last : X) → now ≡ take (length now) all → now ≡ new ++ last ∷ [] → drop (length new) all ≡ last ∷ drop (length now) all
  back_longer all now new last front is = ap (drop (length new)) (whole all now new last front is) ∙ drop_front new (last ∷ drop (length now) all)

  pub one_shorter : (now new : List X) (last : X) → now ≡ new ++ last ∷ [] → length now ≡ suc (length new)
  one_shorter now new last is = ap length is ∙ longer new
    where
      longer : (xs : List X) → length (xs ++ last ∷ []) ≡ suc (length xs)
      longer [] = refl
      longer (x ∷ xs) = ap suc (longer xs)

pub stack_longer : (s : Stack) (row : RowValues) → length (s ++ row ∷ []) ≡ suc (length s)
stack_longer [] row = refl
stack_longer (x ∷ s) row = ap suc (stack_longer s row)

pub passed_same : (f g : Stack → List Stack) (tests : List Condition) (s : Stack) → ((row : RowValues) → f (s ++ row ∷ []) ≡ g (s ++ row ∷ [])) → (rows : TableRows)
    → passed_on f tests s rows ≡ passed_on g tests s rows
passed_same f g tests s same [] = refl
passed_same f g tests s same (row ∷ rows) =
    ap (λ x. cond (all_kept tests (s ++ row ∷ [])) x [] ++ passed_on f tests s rows) (same row)
    ∙ ap (λ x. cond (all_kept tests (s ++ row ∷ [])) (g (s ++ row ∷ [])) [] ++ x) (passed_same f g tests s same rows)

-- the rows of a chain without its last leg
pub rows_popped : (instance : InstanceRows) (now new : List Leg) (leg : Leg) → now ≡ new ++ leg ∷ [] → rows_of_legs instance now
    ≡ rows_of_legs instance new + length (rows_at instance leg.table)
rows_popped instance now new leg is =
    let f = λ (leg : Leg). length (rows_at instance leg.table) in
    let whole = sum_total f (new ++ leg ∷ []) in
    let split = total_append f new (leg ∷ []) in
    let front = sum_total f new in
    let same = ap (rows_of_legs instance) is in
    omega (arith, whole, split, front, same)
