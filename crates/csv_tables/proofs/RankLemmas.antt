-- Rows stand in the order of their numbers, where those differ.
use Rattle.std.proofs.Common.{◌≡◌, ℕ, zero, suc, ◌+◌, ◌*◌, ◌<◌, ◌≤◌, ◌^◌, nat_lt, Bool, true, false, List, [], ◌∷◌, get_or, refl, sym, ap, arith, Less, Equal}
use Rattle.std.specs.Prelude.{All}
use Rattle.std.specs.Ordering.{nat_cmp}
use Rattle.std.specs.Cmp.{nat_cmp_is}
use Rattle.std.specs.Cmp.Lexicographic.{slice_cmp}
use Rattle.std.proofs.Math.Nat.{mul-le-mul_right, pow-suc, suc-mul}
use Rattle.std.proofs.lemmas.Bool.Decides.{nat_tests}
use Rattle.pgq_base.specs.declared.value.Value.TheVariants as value
use Rattle.pgq_base.specs.Instances.{RowValues}
use Rattle.csv_tables.specs.Ranks.{IsRanked, behind_first, bytes_rank, first_byte, first_text, text_rank}
use Rattle.csv_tables.specs.Writing.{row_order}

abbrev AreBytes : List ℕ → Type 0
AreBytes bytes = All (λ byte. byte < 256) bytes

-- what is behind some of the first bytes
abbrev behind : ℕ → List ℕ → List ℕ
behind zero bytes = bytes
behind (suc k) bytes = behind k (behind_first bytes)

byte_of : (k : ℕ) (bytes : List ℕ) → first_byte (behind k bytes) ≡ get_or bytes k 0
byte_of zero [] = refl
byte_of zero (b ∷ bs) = refl
byte_of (suc k) [] = byte_of k []
byte_of (suc k) (b ∷ bs) = byte_of k bs

none : (n : ℕ) → bytes_rank n [] ≡ 0
none zero = refl
none (suc n) = let more = none n in omega (arith, more)

room : (b p r : ℕ) → b < 256 → r < p → b * p + r < 256 * p
room b p r h k =
    let most : suc b * p ≤ 256 * p = mul-le-mul_right p h in
    let split : suc b * p ≡ b * p + p = suc-mul b p in
    omega (arith, most, split, k)

below : (n : ℕ) (bytes : List ℕ) → AreBytes bytes → bytes_rank n bytes < 256 ^ n
below zero bytes small = omega arith
below (suc n) [] small = rw pow-suc (let more = below n [] small in omega (arith, more))
below (suc n) (b ∷ bs) small =
    let first : b < 256 = small 0 0 (omega arith) in
    let more = below n bs (λ k d h. small (suc k) d (omega arith)) in
    let whole = room b (256 ^ n) (bytes_rank n bs) first more in
    let grown : 256 ^ suc n ≡ 256 ^ n * 256 = pow-suc 256 n in
    omega (arith, whole, grown)

-- texts stand in the order of their numbers
lower_text : (n : ℕ) (xs ys : List ℕ) → AreBytes xs → AreBytes ys → bytes_rank n xs < bytes_rank n ys → slice_cmp nat_cmp xs ys ≡ Less
lower_text zero xs ys sx sy h = absurd (omega (arith, h))
lower_text (suc n) xs [] sx sy h = let nothing = none n in absurd (omega (arith, h, nothing))
lower_text (suc n) [] (y ∷ ys) sx sy h = refl
lower_text (suc n) (x ∷ xs) (y ∷ ys) sx sy h =
    by (nat_lt x y) (nat_lt y x) refl refl (below n ys tail) (lower_text n xs ys (λ k d p. sx (suc k) d (omega arith)) tail)
  where
    tail : AreBytes ys
    tail = λ k d p. sy (suc k) d (omega arith)

    by : (b c : Bool) → nat_lt x y ≡ b → nat_lt y x ≡ c → bytes_rank n ys < 256 ^ n → (bytes_rank n xs < bytes_rank n ys → slice_cmp nat_cmp xs ys ≡ Less)
        → slice_cmp nat_cmp (x ∷ xs) (y ∷ ys) ≡ Less
    by true c e f small more =
        let less : x < y = grind (arith, nat_tests) in
        let is : nat_cmp x y ≡ Less = sym (nat_cmp_is x y Less less) in
        rw is refl
    by false true e f small more =
        let less : y < x = grind (arith, nat_tests) in
        let most : suc y * 256 ^ n ≤ x * 256 ^ n = mul-le-mul_right (256 ^ n) less in
        let split : suc y * 256 ^ n ≡ y * 256 ^ n + 256 ^ n = suc-mul y (256 ^ n) in
        absurd (omega (arith, h, most, split, small))
    by false false e f small more =
        let same : x ≡ y = grind (arith, nat_tests) in
        let is : nat_cmp x y ≡ Equal = sym (nat_cmp_is x y Equal same) in
        let times : x * 256 ^ n ≡ y * 256 ^ n = ap (λ k. k * 256 ^ n) same in
        let later : bytes_rank n xs < bytes_rank n ys = omega (arith, h, times) in
        rw is (more later)

-- rows stand in the order of their numbers
pub lower_row : (a b : RowValues) → AreBytes (first_text a) → AreBytes (first_text b) → text_rank (first_text a) < text_rank (first_text b) → row_order a b ≡ Less
lower_row a [] sa sb h = absurd (omega (arith, h))
lower_row a (value.Null ∷ others) sa sb h = absurd (omega (arith, h))
lower_row a (value.Truth y ∷ others) sa sb h = absurd (omega (arith, h))
lower_row a (value.Number y ∷ others) sa sb h = absurd (omega (arith, h))
lower_row a (value.Decimal y ∷ others) sa sb h = absurd (omega (arith, h))
lower_row a (value.Date y ∷ others) sa sb h = absurd (omega (arith, h))
lower_row [] (value.Text y ∷ others) sa sb h = refl
lower_row (value.Null ∷ rest) (value.Text y ∷ others) sa sb h = refl
lower_row (value.Truth x ∷ rest) (value.Text y ∷ others) sa sb h = refl
lower_row (value.Number x ∷ rest) (value.Text y ∷ others) sa sb h = refl
lower_row (value.Decimal x ∷ rest) (value.Text y ∷ others) sa sb h = refl
lower_row (value.Date x ∷ rest) (value.Text y ∷ others) sa sb h = refl
lower_row (value.Text x ∷ rest) (value.Text y ∷ others) sa sb h = rw (lower_text 8 x y sa sb h) refl

pub lower : (a b : RowValues) (m n : ℕ) → IsRanked m a → IsRanked n b → m < n → row_order a b ≡ Less
lower a b m n ra rb h =
    let first = ra.is in
    let second = rb.is in
    lower_row a b ra.bytes rb.bytes (omega (arith, h, first, second))

-- eight bytes, four by four
pub by_place : (bytes : List ℕ)
    → (get_or bytes 0 0 * 16777216 + get_or bytes 1 0 * 65536 + get_or bytes 2 0 * 256 + get_or bytes 3 0) * 4294967296
    + (get_or bytes 4 0 * 16777216 + get_or bytes 5 0 * 65536 + get_or bytes 6 0 * 256 + get_or bytes 7 0)
    ≡ text_rank bytes
by_place bytes =
    let b0 = byte_of 0 bytes in
    let b1 = byte_of 1 bytes in
    let b2 = byte_of 2 bytes in
    let b3 = byte_of 3 bytes in
    let b4 = byte_of 4 bytes in
    let b5 = byte_of 5 bytes in
    let b6 = byte_of 6 bytes in
    let b7 = byte_of 7 bytes in
    omega (arith, b0, b1, b2, b3, b4, b5, b6, b7)
