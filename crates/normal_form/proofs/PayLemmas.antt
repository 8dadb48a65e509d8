-- What is left of an amount after costs, one after another.
use Rattle.std.proofs.Common.{◌≡◌, ℕ, ◌+◌, ◌-◌, ◌*◌, ◌<◌, ◌≤◌, ◌^◌, min, Bool, true, false, cond, nat_lt, List, [], ◌∷◌, drop, length, get_or, None, Some, refl, ap, ap₂, sym}
use Rattle.std.proofs.Common.{◌∙◌, arith, ◌++◌, map, append_assoc}
use Rattle.std.specs.Option.{unwrap_or}
use Rattle.std.proofs.lemmas.Bool.Decides.{nat_tests}
use Rattle.std.specs.List.{sum_by, enumerate_from}
use Rattle.std.proofs.lemmas.List.{drop_more}
use Rattle.std.proofs.lemmas.List.Sums.{sum_by-cons}
use Rattle.graph_ast.specs.declared.catalog.Graph.{Graph}
use Rattle.graph_ast.specs.declared.checked.CheckedPath.{CheckedPath}
use Rattle.graph_meaning.specs.Choices.{choices}
use Rattle.graph_meaning.specs.Blocks.{complete}
use Rattle.graph_meaning.specs.Weights.{choice_size, prefix_weight, place_weight}
use Rattle.normal_form.specs.Found.{prefixes}
use Rattle.normal_form.specs.Spending.{spent, at_most, counted, greatest_number}
use Rattle.normal_form.specs.Paying.{choice_weight}
use Rattle.normal_form.proofs.SizeLemmas.{sum_right}

inside : (m n : ℕ) → Some m ≡ Some n → m ≡ n
inside m n e = ap (λ o. unwrap_or o 0) e

-- what is left after one cost and then another is what is left after both
pub spent_again : (left first second rest : ℕ) → spent left first ≡ Some rest → spent rest second ≡ spent left (first + second)
spent_again left first second rest e = go (nat_lt left first) refl e
  where
    same : (a b : Bool) (m n : ℕ) → a ≡ b → (b ≡ false → m ≡ n) → cond a None (Some m) ≡ cond b None (Some n)
    same a true m n p h = ap (λ x. cond x None (Some m)) p
    same a false m n p h = ap (λ x. cond x None (Some m)) p ∙ ap Some (h refl)

    after : first ≤ left → left - first ≡ rest → spent rest second ≡ spent left (first + second)
    after le is =
        same (nat_lt rest second) (nat_lt left (first + second)) (rest - second) (left - (first + second)) (grind (arith, nat_tests)) (λ h. omega arith)

    go : (b : Bool) → nat_lt left first ≡ b → cond b None (Some (left - first)) ≡ Some rest → spent rest second ≡ spent left (first + second)
    go true h f = cc
    go false h f = after (grind (arith, nat_tests)) (inside _ _ f)

-- what is left and what was spent are together the amount
pub paid : (left cost rest : ℕ) → spent left cost ≡ Some rest → rest + cost ≡ left
paid left cost rest e = go (nat_lt left cost) refl e
  where
    go : (b : Bool) → nat_lt left cost ≡ b → cond b None (Some (left - cost)) ≡ Some rest → rest + cost ≡ left
    go true h f = cc
    go false h f = let le : cost ≤ left = grind (arith, nat_tests) in let is = inside _ _ f in omega (arith, is, le)

pub unpaid : (left cost : ℕ) → spent left cost ≡ None → left < cost
unpaid left cost e = go (nat_lt left cost) refl e
  where
    go : (b : Bool) → nat_lt left cost ≡ b → cond b None (Some (left - cost)) ≡ None → left < cost
    go true h f = grind (arith, nat_tests)
    go false h f = cc

pub payable : (left cost rest : ℕ) → rest + cost ≡ left → spent left cost ≡ Some rest
payable left cost rest e =
    let fits : nat_lt left cost ≡ false = grind (arith, nat_tests) in let is : left - cost ≡ rest = omega arith in
    ap (λ b. cond b None (Some (left - cost))) fits ∙ ap Some is

pub not_payable : (left cost : ℕ) → left < cost → spent left cost ≡ None
not_payable left cost h = let over : nat_lt left cost ≡ true = grind (arith, nat_tests) in ap (λ b. cond b None (Some (left - cost))) over

-- a cost that is counted as far as 64 bits go is above an amount below that exactly where the whole cost is
spent_at : (m left cost : ℕ) → left < m → spent left (min cost m) ≡ spent left cost
spent_at m left cost h = go (nat_lt m cost) refl
  where
    go : (b : Bool) → nat_lt m cost ≡ b → spent left (min cost m) ≡ spent left cost
    go true e =
        let over : m < cost = grind (arith, nat_tests) in
        let stopped : left < min cost m = omega arith in
        let whole : left < cost = omega arith in
        not_payable left (min cost m) stopped ∙ sym (not_payable left cost whole)
    go false e = let le : cost ≤ m = grind (arith, nat_tests) in let is : min cost m ≡ cost = omega arith in ap (spent left) is

pub spent_counted : (left cost : ℕ) → left ≤ 1000000 → spent left (counted cost) ≡ spent left cost
unfolding greatest_number
spent_counted left cost h = spent_at (2 ^ 64 - 1) left cost (omega arith)

-- what was spent of a limit
pub spent_of_limit : (limit left cost : ℕ) → left + cost ≡ limit → at_most limit cost ≡ Some (limit - left)
spent_of_limit limit left cost e =
    let fits : nat_lt limit cost ≡ false = grind (arith, nat_tests) in let is : cost ≡ limit - left = omega arith in
    ap (λ b. cond b None (Some cost)) fits ∙ ap Some is

pub above_limit : (limit cost : ℕ) → limit < cost → at_most limit cost ≡ None
above_limit limit cost h = let over : nat_lt limit cost ≡ true = grind (arith, nat_tests) in ap (λ b. cond b None (Some cost)) over

-- ---- a loop that pays for one item after another

module _ {X : Type 0} (cost : X → ℕ) (xs : List X) where
  next_cost : (i : ℕ) (x : X) → i < length xs → x ≡ get_or xs i x → sum_by cost (drop i xs) ≡ cost x + sum_by cost (drop (i + 1) xs)
  next_cost i x inside is =
      ap (sum_by cost) (drop_more xs i x inside) ∙ sum_by-cons cost (get_or xs i x) (drop (i + 1) xs) ∙ ap (λ y. cost y + sum_by cost (drop (i + 1) xs)) (sym is)

  pub pay_on : (i : ℕ) (x : X) (left more amount : ℕ) → i < length xs → x ≡ get_or xs i x → more + cost x ≡ left
      → left + sum_by cost xs ≡ amount + sum_by cost (drop i xs) → more + sum_by cost xs ≡ amount + sum_by cost (drop (i + 1) xs)
  pay_on i x left more amount inside is paid going = let step = next_cost i x inside is in omega (arith, step, paid, going)

  pub pay_over : (i : ℕ) (x : X) (left amount : ℕ) → i < length xs → x ≡ get_or xs i x → left < cost x
      → left + sum_by cost xs ≡ amount + sum_by cost (drop i xs) → amount < sum_by cost xs
  pay_over i x left amount inside is over going = let step = next_cost i x inside is in omega (arith, step, over, going)

drop_all : {X : Type 0} (xs : List X) → drop (length xs) xs ≡ []
drop_all [] = refl
drop_all (x ∷ xs) = drop_all xs

pub pay_end : {X : Type 0} (cost : X → ℕ) (xs : List X) (i left amount : ℕ) → i ≡ length xs → left + sum_by cost xs ≡ amount + sum_by cost (drop i xs)
    → left + sum_by cost xs ≡ amount
pay_end cost xs i left amount end going =
    let none : sum_by cost (drop i xs) ≡ 0 = ap (λ k. sum_by cost (drop k xs)) end ∙ ap (sum_by cost) (drop_all xs) in omega (arith, none, going)

pub sum_of_both : {X : Type 0} (f g : X → ℕ) (xs : List X) → sum_by (λ x. f x + g x) xs ≡ sum_by f xs + sum_by g xs
sum_of_both f g [] = refl
sum_of_both f g (x ∷ xs) =
    sum_by-cons (λ y. f y + g y) x xs ∙ ap (λ n. f x + g x + n) (sum_of_both f g xs)
    ∙ four (f x) (g x) (sum_by f xs) (sum_by g xs) ∙ sym (ap₂ (λ a b. a + b) (sum_by-cons f x xs) (sum_by-cons g x xs))
  where
    four : (a b c d : ℕ) → a + b + (c + d) ≡ a + c + (b + d)
    four a b c d = omega arith

-- ---- the assignments of a choice and of a path pattern

pub choice_paid : (left count places cost rest : ℕ) → left ≤ 1000000 → cost ≡ counted (count + counted places) → spent left cost ≡ Some rest → rest + (count + places) ≡ left
choice_paid left count places cost rest few is e =
    paid left (count + places) rest (sym (spent_counted left (count + places) few) ∙ ap (spent left) (sym (sum_right count places) ∙ sym is) ∙ e)

pub path_weight_is : (graph : Graph) (path : CheckedPath) → sum_by (choice_weight graph path) (choices path) ≡ prefix_weight graph path + place_weight graph path
path_weight_is graph path = sum_of_both (prefixes graph path) (λ choice. length (complete graph path choice) * choice_size path choice) (choices path)

-- a list that is made of numbered members grows by one
pub numbered_on : {A B : Type 0} (f : ℕ × A → B) (xs : List A) (i : ℕ) (x : A) (done more whole : List B) (y : B) → i < length xs → x ≡ get_or xs i x → y ≡ f (i, x)
    → more ≡ done ++ y ∷ [] → done ++ map f (enumerate_from i (drop i xs)) ≡ whole → more ++ map f (enumerate_from (i + 1) (drop (i + 1) xs)) ≡ whole
numbered_on f xs i x done more whole y inside is made m before =
    let rest = map f (enumerate_from (i + 1) (drop (i + 1) xs)) in
    ap (λ l. l ++ rest) (m ∙ ap (λ z. done ++ z ∷ []) made)
    ∙ append_assoc done (f (i, x) ∷ []) rest
    ∙ ap (λ z. done ++ f (i, z) ∷ rest) is
    ∙ sym (ap (λ l. done ++ map f (enumerate_from i l)) (drop_more xs i x inside))
    ∙ before
