-- Path blocks by their ends: what the look-ups of all smaller numbers of places give together.
use Rattle.std.proofs.Common.{◌≡◌, ℕ, ◌+◌, ◌<◌, Bool, true, false, cond, ◌&&◌, nat_eq, nat_lt, List, [], ◌∷◌, ◌++◌, filter, take, length, get_or, refl, ap, ap₂, sym, ◌∙◌}
use Rattle.std.proofs.Common.{zero-add, arith}
use Rattle.std.proofs.lemmas.Bool.Decides.{nat_tests}
use Rattle.std.specs.List.{sum_by}
use Rattle.std.proofs.lemmas.List.{take_more}
use Rattle.std.proofs.lemmas.List.Sums.{sum_by-cons, sum_by-append}
use Rattle.std.proofs.lemmas.List.Elements.{filter-append}
use Rattle.graph_ast.specs.declared.checked.CheckedPath.{CheckedPath}
use Rattle.graph_ast.specs.declared.blocks.PathBlock.{PathBlock}
use Rattle.graph_meaning.specs.Weights.{block_size}
use Rattle.normal_form.specs.Spending.{counted}
use Rattle.normal_form.specs.Candidates.{Ends, ends_of, same_ends, size_by_ends}
use Rattle.normal_form.proofs.SizeLemmas.{sum_counted}

module _ {X : Type 0} (size : X → ℕ) where
  sum_if : (test : X → Bool) (x : X) (xs : List X) → sum_by size (filter test (x ∷ xs)) ≡ cond (test x) (size x) 0 + sum_by size (filter test xs)
  sum_if test x xs = elim (test x) as (λ b. sum_by size (cond b (x ∷ filter test xs) (filter test xs)) ≡ cond b (size x) 0 + sum_by size (filter test xs))
      [ true ↦ sum_by-cons size x (filter test xs) | false ↦ sym (zero-add (sum_by size (filter test xs))) ]

  -- a sum over what passes a test, by two tests of which what passes the first passes one
  pub sum_split : (whole first second : X → Bool) → ((x : X) → cond (whole x) (size x) 0 ≡ cond (first x) (size x) 0 + cond (second x) (size x) 0) → (xs : List X)
      → sum_by size (filter whole xs) ≡ sum_by size (filter first xs) + sum_by size (filter second xs)
  sum_split whole first second each [] = refl
  sum_split whole first second each (x ∷ xs) =
      sum_if whole x xs ∙ ap₂ (λ a b. a + b) (each x) (sum_split whole first second each xs)
      ∙ four (cond (first x) (size x) 0) (cond (second x) (size x) 0) (sum_by size (filter first xs)) (sum_by size (filter second xs))
      ∙ sym (ap₂ (λ a b. a + b) (sum_if first x xs) (sum_if second x xs))
    where
      four : (a b c d : ℕ) → a + b + (c + d) ≡ a + c + (b + d)
      four a b c d = omega arith

  pub sum_none : (test : X → Bool) → ((x : X) → test x ≡ false) → (xs : List X) → sum_by size (filter test xs) ≡ 0
  sum_none test each [] = refl
  sum_none test each (x ∷ xs) = sum_if test x xs ∙ ap₂ (λ b n. cond b (size x) 0 + n) (each x) (sum_none test each xs)

  pub sum_push : (test : X → Bool) (xs : List X) (i : ℕ) (x : X) → i < length xs → x ≡ get_or xs i x
      → sum_by size (filter test (take (i + 1) xs)) ≡ sum_by size (filter test (take i xs)) + cond (test x) (size x) 0
  sum_push test xs i x inside is =
      ap (λ l. sum_by size (filter test l)) (take_more xs i x inside ∙ ap (λ y. take i xs ++ y ∷ []) (sym is))
      ∙ ap (sum_by size) (filter-append test (take i xs) (x ∷ []))
      ∙ sum_by-append size (filter test (take i xs)) (filter test (x ∷ []))
      ∙ ap (λ n. sum_by size (filter test (take i xs)) + n) (sum_if test x [] ∙ last (cond (test x) (size x) 0))
    where
      last : (n : ℕ) → n + 0 ≡ n
      last n = omega arith

-- whether a path block has these ends and fewer places
abbrev pub is_shorter : ℕ → ℕ → ℕ → PathBlock → Bool
is_shorter first last places other = nat_lt (ends_of other).2 places && (nat_eq (ends_of other).0 first && nat_eq (ends_of other).1 last)

places_split : (n places size : ℕ) (same : Bool)
    → cond (nat_lt n (places + 1) && same) size 0 ≡ cond (nat_lt n places && same) size 0 + cond (same && nat_eq n places) size 0
places_split n places size same = grind (arith, nat_tests)

pub one_more : (path : CheckedPath) (blocks : List PathBlock) (first last places : ℕ)
    → sum_by (block_size path) (filter (is_shorter first last (places + 1)) blocks)
    ≡ sum_by (block_size path) (filter (is_shorter first last places) blocks) + size_by_ends path blocks (first, last, places)
one_more path blocks first last places =
    sum_split (block_size path) (is_shorter first last (places + 1)) (is_shorter first last places) (λ block. same_ends (ends_of block) (first, last, places))
    (λ block. places_split (ends_of block).2 places (block_size path block) (nat_eq (ends_of block).0 first && nat_eq (ends_of block).1 last)) blocks

nothing_below : (n : ℕ) (same : Bool) → (nat_lt n 0 && same) ≡ false
nothing_below n same = grind (arith, nat_tests)

pub none_shorter : (path : CheckedPath) (blocks : List PathBlock) (first last : ℕ) → sum_by (block_size path) (filter (is_shorter first last 0) blocks) ≡ 0
none_shorter path blocks first last =
    sum_none (block_size path) (is_shorter first last 0)
    (λ block. nothing_below (ends_of block).2 (nat_eq (ends_of block).0 first && nat_eq (ends_of block).1 last)) blocks

-- one place more, where each number is counted as far as 64 bits go
pub shorter_on : (path : CheckedPath) (blocks : List PathBlock) (first last places total found : ℕ)
    → total ≡ counted (sum_by (block_size path) (filter (is_shorter first last places) blocks)) → found ≡ counted (size_by_ends path blocks (first, last, places))
    → counted (total + found) ≡ counted (sum_by (block_size path) (filter (is_shorter first last (places + 1)) blocks))
shorter_on path blocks first last places total found t f =
    ap₂ (λ x y. counted (x + y)) t f
    ∙ sum_counted (sum_by (block_size path) (filter (is_shorter first last places) blocks)) (size_by_ends path blocks (first, last, places))
    ∙ sym (ap counted (one_more path blocks first last places))

-- ends that are the same are equal
equal : (a b : ℕ) → nat_eq a b ≡ true → a ≡ b
equal a b e = grind (arith, nat_tests)

both : (x y : Bool) → (x && y) ≡ true → (x ≡ true) × (y ≡ true)
both true true e = (refl, refl)
both true false e = cc
both false y e = cc

pub ends_equal : (x y : Ends) → same_ends x y ≡ true → x ≡ y
ends_equal x y e =
    let outer = both (nat_eq x.0 y.0 && nat_eq x.1 y.1) (nat_eq x.2 y.2) e in
    let inner = both (nat_eq x.0 y.0) (nat_eq x.1 y.1) outer.0 in
    ap (λ a. (a, x.1, x.2)) (equal x.0 y.0 inner.0) ∙ ap (λ b. (y.0, b, x.2)) (equal x.1 y.1 inner.1) ∙ ap (λ c. (y.0, y.1, c)) (equal x.2 y.2 outer.1)

-- a block more is added to the entry of its ends
pub block_on : (path : CheckedPath) (blocks : List PathBlock) (i : ℕ) (block : PathBlock) (ends : Ends) (here there : ℕ) → i < length blocks → block ≡ get_or blocks i block
    → here ≡ counted (size_by_ends path (take i blocks) (ends_of block)) → there ≡ counted (size_by_ends path (take i blocks) ends)
    → cond (same_ends (ends_of block) ends) (counted (here + counted (block_size path block))) there ≡ counted (size_by_ends path (take (i + 1) blocks) ends)
block_on path blocks i block ends here there inside is h t = go (same_ends (ends_of block) ends) refl
  where
    test : PathBlock → Bool
    test other = same_ends (ends_of other) ends

    go : (b : Bool) → same_ends (ends_of block) ends ≡ b
        → cond b (counted (here + counted (block_size path block))) there ≡ counted (size_by_ends path (take (i + 1) blocks) ends)
    go true e =
        ap (λ n. counted (n + counted (block_size path block))) (h ∙ ap (λ k. counted (size_by_ends path (take i blocks) k)) (ends_equal (ends_of block) ends e))
        ∙ sum_counted (size_by_ends path (take i blocks) ends) (block_size path block)
        ∙ sym (ap counted (sum_push (block_size path) test blocks i block inside is ∙ ap (λ b. size_by_ends path (take i blocks) ends + cond b (block_size path block) 0) e))
    go false e =
        t ∙ sym (ap counted (sum_push (block_size path) test blocks i block inside is ∙ ap (λ b. size_by_ends path (take i blocks) ends + cond b (block_size path block) 0) e
        ∙ none (size_by_ends path (take i blocks) ends)))
      where
        none : (n : ℕ) → n + 0 ≡ n
        none n = omega arith
