-- Rows list by list, and what they pay.
use Rattle.std.proofs.Common.{◌≡◌, ℕ, zero, suc, ◌+◌, ◌-◌, ◌<◌, ◌≤◌, min, Bool, true, false, cond, nat_eq, nat_lt, List, [], ◌∷◌, ◌++◌, map, flat_map, length, take, get_or}
use Rattle.std.proofs.Common.{option_map, Option, None, Some, refl, sym, subst, ap, ap₂, ◌∙◌, arith, true≢false}
use Rattle.std.specs.List.{range_with_len, sum_by}
use Rattle.std.proofs.lemmas.Bool.{le-ltb, ltb-true, ltb-false}
use Rattle.std.proofs.lemmas.List.{take_all, get_or-map, length-map}
use Rattle.std.proofs.lemmas.List.Sums.{sum_by-cons, sum_by_push}
use Rattle.graph_meaning.specs.Lists.{numbers_below}
use Rattle.normal_form.specs.declared.rows.Costed.{Costed}
use Rattle.normal_form.specs.declared.joined.Joined.{Joined}
use Rattle.normal_form.specs.Search.{IsWhole}
use Rattle.normal_form.specs.Rows.{BlockCost, seen, extended, joined, payment}
use Rattle.normal_form.specs.Spending.{spent}
use Rattle.normal_form.specs.Join.{AreAllJoined}
use Rattle.normal_form.proofs.RowLemmas.{next_rows, take_end, first_row}

range_end : (a n : ℕ) → range_with_len a (suc n) ≡ range_with_len a n ++ (a + n) ∷ []
range_end a zero = let e : a ≡ a + 0 = omega arith in ap (λ k. k ∷ []) e
range_end a (suc n) = let e : a + 1 + n ≡ a + suc n = omega arith in ap (λ l. a ∷ l) (range_end (a + 1) n ∙ ap (λ k. range_with_len (a + 1) n ++ k ∷ []) e)

sum_more : (f : ℕ → ℕ) (a m n : ℕ) → m ≤ n → sum_by f (range_with_len a m) ≤ sum_by f (range_with_len a n)
sum_more f a zero n h = omega arith
sum_more f a (suc m) zero h = absurd (omega (arith, h))
sum_more f a (suc m) (suc n) h =
    omega (arith, sum_more f (a + 1) m n (omega (arith, h)), sum_by-cons f a (range_with_len (a + 1) m), sum_by-cons f a (range_with_len (a + 1) n))

sum_end : (f : ℕ → ℕ) (n : ℕ) → sum_by f (numbers_below (suc n)) ≡ sum_by f (numbers_below n) + f n
sum_end f n = let e : 0 + n ≡ n = omega arith in ap (sum_by f) (range_end 0 n) ∙ sum_by_push f (numbers_below n) (0 + n) ∙ ap (λ k. sum_by f (numbers_below n) + f k) e

pub some_there : (n : ℕ) → nat_eq n 0 ≡ false → 0 < n
some_there zero h = absurd (true≢false h)
some_there (suc n) h = omega arith

-- a cost that leaves so much
spent_is : (limit cost rest : ℕ) → rest + cost ≡ limit → spent limit cost ≡ Some rest
spent_is limit cost rest h =
    let left : limit - cost ≡ rest = omega (arith, h) in
    ap (λ b. cond b None (Some (limit - cost))) (le-ltb limit cost (omega (arith, h))) ∙ ap Some left

module _ (names : List (List ℕ)) (lists : List (List BlockCost)) where
  -- how many rows there are of the first lists, from two on
  abbrev pub rows_of : ℕ → ℕ
  rows_of more = length (joined names (take (more + 2) lists))

  -- what the rows of the first so many lists have paid
  abbrev pub paid : ℕ → ℕ
  paid place = sum_by rows_of (numbers_below (min (place - 1) (length lists - 2)))

-- the rows of the first so many lists, and what they leave of the limit
pub record IsPaid (names : List (List ℕ)) (lists : List (List BlockCost)) (limit place : ℕ) (made : List (List BlockCost)) (rest : ℕ) : Type 0 where
  pub rows : made ≡ joined names (take place lists)
  pub left : rest + paid names lists place ≡ limit
  pub begun : 1 ≤ place

module _ (names : List (List ℕ)) (lists : List (List BlockCost)) (limit : ℕ) where
  pub at_start : (made : List (List BlockCost)) → made ≡ joined names (take 1 lists) → IsPaid names lists limit 1 made limit
  at_start made is =
      let none : min (1 - 1) (length lists - 2) ≡ 0 = omega arith in
      let all : limit + 0 ≡ limit = omega arith in
      record { rows = is; left = ap (λ n. limit + sum_by (rows_of names lists) (numbers_below n)) none ∙ all; begun = omega arith }

  module _ (place : ℕ) (made : List (List BlockCost)) (rest : ℕ) (known : IsPaid names lists limit place made rest) (d : List BlockCost) (inside : place < length lists) where
    abbrev grown : List (List BlockCost)
    grown = flat_map (extended names (get_or lists place d)) made

    grown_is : grown ≡ joined names (take (place + 1) lists)
    grown_is =
        ap (flat_map (extended names (get_or lists place d))) known.rows ∙ next_rows names (take place lists) (get_or lists place d)
        ∙ ap (joined names) (sym (take_end lists place d inside))

    -- the rows of two lists or more that are not all pay as they come
    paid_next : place + 1 < length lists → paid names lists (place + 1) ≡ paid names lists place + length grown
    paid_next h =
        let before : min (place - 1) (length lists - 2) ≡ place - 1 = omega (arith, known.begun, h) in
        let after : min (place + 1 - 1) (length lists - 2) ≡ suc (place - 1) = omega (arith, known.begun, h) in
        let these : place - 1 + 2 ≡ place + 1 = omega (arith, known.begun) in
        ap (λ n. sum_by (rows_of names lists) (numbers_below n)) after
        ∙ sum_end (rows_of names lists) (place - 1)
        ∙ ap₂ (λ a b. a + b) (ap (λ n. sum_by (rows_of names lists) (numbers_below n)) (sym before))
        (ap (λ n. length (joined names (take n lists))) these ∙ ap length (sym grown_is))

    paid_last : length lists ≤ place + 1 → paid names lists (place + 1) ≡ paid names lists place
    paid_last h =
        let same : min (place + 1 - 1) (length lists - 2) ≡ min (place - 1) (length lists - 2) = omega (arith, known.begun, h, inside) in
        ap (λ n. sum_by (rows_of names lists) (numbers_below n)) same

    paid_within : (n : ℕ) → paid names lists n ≤ payment names lists
    paid_within n = sum_more (rows_of names lists) 0 (min (n - 1) (length lists - 2)) (length lists - 2) (omega arith)

    pub pays : (more : List (List BlockCost)) → more ≡ grown → place + 1 < length lists → length more ≤ rest
        → IsPaid names lists limit (place + 1) more (rest - length more)
    pays more is h few = record {
      rows = is ∙ grown_is;
      left = omega (arith, paid_next h, ap length is, known.left, few);
      begun = omega arith;
    }

    pub pays_nothing : (more : List (List BlockCost)) → more ≡ grown → length lists ≤ place + 1 → IsPaid names lists limit (place + 1) more rest
    pays_nothing more is h = record { rows = is ∙ grown_is; left = ap (λ n. rest + n) (paid_last h) ∙ known.left; begun = omega arith }

    pub too_many : rest < length grown → limit < payment names lists + length (joined names lists)
    too_many h = go (nat_lt (place + 1) (length lists)) refl
      where
        go : (b : Bool) → nat_lt (place + 1) (length lists) ≡ b → limit < payment names lists + length (joined names lists)
        go true e = omega (arith, paid_next (ltb-true (place + 1) (length lists) e), paid_within (place + 1), known.left, h)
        go false e =
            let all : take (place + 1) lists ≡ lists = take_all (place + 1) lists (ltb-false (place + 1) (length lists) e) in
            omega (arith, ap length (grown_is ∙ ap (joined names) all), paid_within place, known.left, h)

  -- all lists are joined
  module _ (place rest : ℕ) (rows these : List (List Costed)) (known : IsPaid names lists limit place (map (map seen) rows) rest) (past : length lists ≤ place)
      (alike : these ≡ rows) where
    all_rows : map (map seen) rows ≡ joined names lists
    all_rows = known.rows ∙ ap (joined names) (take_all place lists past)

    as_many : length these ≡ length (joined names lists)
    as_many = ap length alike ∙ sym (length-map rows (map seen)) ∙ ap length all_rows

    all_paid : rest + payment names lists ≡ limit
    all_paid =
        let whole : min (place - 1) (length lists - 2) ≡ length lists - 2 = omega (arith, known.begun, past) in
        ap (λ n. rest + sum_by (rows_of names lists) (numbers_below n)) (sym whole) ∙ known.left

    pub over : rest < length these → limit < payment names lists + length (joined names lists)
    over h = omega (arith, h, as_many, all_paid)

    pub within : (all : Joined) → all.rows ≡ rows → all.left ≡ rest → length these ≤ rest → AreAllJoined names lists limit all
    within all same left h = record {
      rows = ap (map (map seen)) same ∙ all_rows;
      left = spent_is limit (payment names lists) rest all_paid ∙ ap Some (sym left);
      few = omega (arith, h, as_many, all_paid);
    }

-- what extending some rows by a list answers
module _ (names : List (List ℕ)) (given : List (List Costed)) (place most : ℕ) (rows these : List (List Costed)) (list this : List Costed) (inside : place < length given)
    (at : list ≡ get_or given place list) (same : this ≡ list) (alike : these ≡ rows) (answer : Option (List (List Costed)))
    (whole : IsWhole most (option_map (map (map seen)) answer) (flat_map (extended names (map seen this)) (map (map seen) these))) where
  abbrev lists : List (List BlockCost)
  lists = map (map seen) given

  inside_lists : place < length lists
  inside_lists = subst (λ n. place < n) (sym (length-map given (map seen))) inside

  abbrev wanted : List (List BlockCost)
  wanted = flat_map (extended names (get_or lists place (map seen list))) (map (map seen) rows)

  wanted_is : flat_map (extended names (map seen this)) (map (map seen) these) ≡ wanted
  wanted_is =
      ap₂ (λ l rs. flat_map (extended names l) (map (map seen) rs)) (ap (map seen) (same ∙ at) ∙ sym (get_or-map (map seen) given place list (map seen list) inside)) alike

  wanted_whole : (o : Option (List (List Costed))) → answer ≡ o → IsWhole most (option_map (map (map seen)) o) wanted
  wanted_whole o e = subst (λ xs. IsWhole most (option_map (map (map seen)) o) xs) wanted_is
      (subst (λ a. IsWhole most (option_map (map (map seen)) a) (flat_map (extended names (map seen this)) (map (map seen) these))) e whole)

  -- the first list
  pub first_given : (more : List (List Costed)) → answer ≡ Some more → place ≡ 0 → rows ≡ [] ∷ [] → map (map seen) more ≡ joined names (take 1 lists)
  first_given more e none empty =
      (wanted_whole (Some more) e).0
      ∙ ap₂ (λ i rs. flat_map (extended names (get_or lists i (map seen list))) (map (map seen) rs)) none empty
      ∙ ap (flat_map (extended names (get_or lists 0 (map seen list)))) (sym (first_row names))
      ∙ next_rows names [] (get_or lists 0 (map seen list))
      ∙ ap (joined names) (sym (take_end lists 0 (map seen list) (subst (λ i. i < length lists) none inside_lists)))

  module _ (limit : ℕ) (known : IsPaid names lists limit place (map (map seen) rows) most) where
    pub none_given : answer ≡ None → limit < payment names lists + length (joined names lists)
    none_given e = too_many names lists limit place (map (map seen) rows) most known (map seen list) inside_lists (wanted_whole None e)

    module _ (more : List (List Costed)) (is : answer ≡ Some more) where
      pub some_pays : (rest : ℕ) → place + 1 < length given → rest ≡ most - length more → (length more ≤ most) × IsPaid names lists limit (place + 1) (map (map seen) more) rest
      some_pays rest h left =
          let all = wanted_whole (Some more) is in
          let long : length (map (map seen) more) ≡ length more = length-map more (map seen) in
          let few : length more ≤ most = omega (arith, long, ap length all.0, all.1) in (
            few,
            subst (λ n. IsPaid names lists limit (place + 1) (map (map seen) more) n) (ap (λ n. most - n) long ∙ sym left)
                (pays names lists limit place (map (map seen) rows) most known (map seen list) inside_lists (map (map seen) more) all.0
                (subst (λ n. place + 1 < n) (sym (length-map given (map seen))) h) (omega (arith, ap length all.0, all.1))),
          )

      pub some_free : (rest : ℕ) → length given ≤ place + 1 → rest ≡ most → IsPaid names lists limit (place + 1) (map (map seen) more) rest
      some_free rest h left =
          let all = wanted_whole (Some more) is in
          subst (λ n. IsPaid names lists limit (place + 1) (map (map seen) more) n) (sym left)
          (pays_nothing names lists limit place (map (map seen) rows) most known (map seen list) inside_lists (map (map seen) more) all.0
          (subst (λ n. n ≤ place + 1) (sym (length-map given (map seen))) h))
