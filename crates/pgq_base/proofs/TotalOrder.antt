-- The order of values is total: it goes by the kind of a value, and among values of one kind by a truth value, a number, a day or bytes.
use Rattle.std.proofs.Common.{◌≡◌, ℕ, zero, suc, ◌+◌, ◌-◌, ◌*◌, ◌^◌, ◌<◌, ◌≤◌, ℤ, pos, negsuc, neg_ℤ, ◌*ℤ◌, Bool, true, false, ◌&&◌, nat_le, List, [], refl, sym, ap, ap₂, ◌∙◌}
use Rattle.std.proofs.Common.{subst, arith, Ordering, Less, Equal, Greater}
use Rattle.std.specs.Prelude.{◌<ℤ◌}
use Rattle.std.proofs.lemmas.Bool.Decides.{nat_tests}
use Rattle.std.proofs.lemmas.Int.{ints}
use Rattle.std.proofs.Math.Nat.{mul_assoc, mul-lt-mul_of_pos_right, one-le-pow, zero-mul}
use Rattle.std.proofs.lemmas.Nat.{pow-add}
use Rattle.std.specs.Ordering.{ordering_then, then_cmp, on, nat_cmp, int_cmp, bool_cmp, MatchOrdering}
use Rattle.std.specs.Cmp.{IsTotalOrder, bool_cmp_total, int_cmp_is, int_ranks}
use Rattle.std.specs.Cmp.Lexicographic.{slice_cmp}
use Rattle.std.proofs.lemmas.Cmp.{nat_cmp_total, int_cmp_total, nat_list_cmp_total, on_total, then_total}
use Rattle.pgq_base.specs.Numerals.{is_decimal, size_order}
use Rattle.pgq_base.specs.Values.{value_order}
use Rattle.pgq_base.specs.declared.decimal.Decimal.{Decimal as DecimalNumber}
use Rattle.pgq_base.specs.declared.value.Value.{Value}
use Rattle.pgq_base.specs.declared.value.Value.TheVariants.{Null, Truth, Number, Decimal, Text, Date}
use Rattle.pgq_base.proofs.DigitLemmas.{both}

-- ---- numbers that are multiplied alike compare alike

neg_mul : (a k : ℕ) → neg_ℤ (pos a) *ℤ pos k ≡ neg_ℤ (pos (a * k))
neg_mul zero k = rw zero-mul refl
neg_mul (suc a) k = refl

mul_mul : (a : ℤ) (j k : ℕ) → (a *ℤ pos j) *ℤ pos k ≡ a *ℤ pos (j * k)
mul_mul (pos m) j k = ap pos (mul_assoc m j k)
mul_mul (negsuc m) j k = neg_mul (suc m * j) k ∙ ap (λ n. neg_ℤ (pos n)) (mul_assoc (suc m) j k)

product_above : (m k : ℕ) → zero < k → zero < suc m * k
product_above m k h = grind arith

scaled_less : (x y : ℤ) (k : ℕ) → zero < k → x <ℤ y → (x *ℤ pos k) <ℤ (y *ℤ pos k)
scaled_less (pos m) (pos n) k some h =
    let less : m < n = omega (arith, ints) in
    let more : m * k < n * k = mul-lt-mul_of_pos_right less some in
    omega (arith, ints)
scaled_less (pos m) (negsuc n) k some h = absurd (omega (arith, ints))
scaled_less (negsuc m) (pos n) k some h = let above : zero < suc m * k = product_above m k some in omega (arith, ints)
scaled_less (negsuc m) (negsuc n) k some h =
    let less : suc n < suc m = omega (arith, ints) in
    let more : suc n * k < suc m * k = mul-lt-mul_of_pos_right less some in
    omega (arith, ints)

ranked_alike : (o : Ordering) {P Q R P' Q' R' : Type 0} → (P → P') → (Q → Q') → (R → R') → MatchOrdering o P Q R → MatchOrdering o P' Q' R'
ranked_alike Less f g h m = f m
ranked_alike Equal f g h m = g m
ranked_alike Greater f g h m = h m

scaled_cmp : (x y : ℤ) (k : ℕ) → zero < k → int_cmp (x *ℤ pos k) (y *ℤ pos k) ≡ int_cmp x y
scaled_cmp x y k some =
    sym (int_cmp_is (x *ℤ pos k) (y *ℤ pos k) (int_cmp x y)
    (ranked_alike (int_cmp x y) (scaled_less x y k some) (λ e. ap (λ z. z *ℤ pos k) e) (scaled_less y x k some) (int_ranks x y)))

-- ---- sizes by their numbers of 36 digits behind the point

-- what is scaled by the other's scale is what is scaled to 36 digits, divided by the same power of ten
at_scale : (a : ℤ) (s t : ℕ) → s ≤ 18 → t ≤ 18 → (a *ℤ pos (10 ^ t)) *ℤ pos (10 ^ (36 - s - t)) ≡ a *ℤ pos (10 ^ (36 - s))
at_scale a s t hs ht =
    let all : t + (36 - s - t) ≡ 36 - s = omega arith in
    mul_mul a (10 ^ t) (10 ^ (36 - s - t)) ∙ ap (λ n. a *ℤ pos n) (sym (pow-add 10 t (36 - s - t)) ∙ ap (λ e. 10 ^ e) all)

size_order_is : (a b : ℤ) (s t : ℕ) → s ≤ 18 → t ≤ 18 → size_order a s b t ≡ int_cmp (a *ℤ pos (10 ^ (36 - s))) (b *ℤ pos (10 ^ (36 - t)))
size_order_is a b s t hs ht =
    let turned : 36 - s - t ≡ 36 - t - s = omega arith in
    sym (scaled_cmp (a *ℤ pos (10 ^ t)) (b *ℤ pos (10 ^ s)) (10 ^ (36 - s - t)) (one-le-pow (36 - s - t) 10 (omega arith)))
    ∙ ap₂ int_cmp (at_scale a s t hs ht) (ap (λ e. (b *ℤ pos (10 ^ s)) *ℤ pos (10 ^ e)) turned ∙ at_scale b t s ht hs)

at_most : (a b : ℕ) → nat_le a b ≡ true → a ≤ b
at_most a b h = grind (arith, nat_tests)

scale_within : (d : DecimalNumber) → d.scale ≤ 18
scale_within d = at_most d.scale 18 (both (nat_le d.scale 18) _ (both (nat_le 1 d.scale) _ d.normal).1).0

-- ---- the parts of a value that are compared

abbrev rank : Value → ℕ
rank Null = 0
rank (Truth b) = 1
rank (Number n) = 2
rank (Decimal d) = 2
rank (Date d) = 3
rank (Text t) = 4

abbrev truth_in : Value → Bool
truth_in Null = false
truth_in (Truth b) = b
truth_in (Number n) = false
truth_in (Decimal d) = false
truth_in (Date d) = false
truth_in (Text t) = false

abbrev size_in : Value → ℤ
size_in Null = pos 0
size_in (Truth b) = pos 0
size_in (Number n) = n *ℤ pos (10 ^ 36)
size_in (Decimal d) = d.unscaled *ℤ pos (10 ^ (36 - d.scale))
size_in (Date d) = pos 0
size_in (Text t) = pos 0

abbrev day_in : Value → ℤ
day_in Null = pos 0
day_in (Truth b) = pos 0
day_in (Number n) = pos 0
day_in (Decimal d) = pos 0
day_in (Date d) = d.day
day_in (Text t) = pos 0

abbrev text_in : Value → List ℕ
text_in Null = []
text_in (Truth b) = []
text_in (Number n) = []
text_in (Decimal d) = []
text_in (Date d) = []
text_in (Text t) = t

abbrev by_parts : Value → Value → Ordering
by_parts = then_cmp (on rank nat_cmp) (then_cmp (on truth_in bool_cmp) (then_cmp (on size_in int_cmp) (then_cmp (on day_in int_cmp) (on text_in (slice_cmp nat_cmp)))))

by_parts_total : IsTotalOrder by_parts
by_parts_total =
    then_total (on_total rank nat_cmp_total) (then_total (on_total truth_in bool_cmp_total) (then_total (on_total size_in int_cmp_total)
    (then_total (on_total day_in int_cmp_total) (on_total text_in nat_list_cmp_total))))

alone : (o : Ordering) → o ≡ ordering_then o Equal
alone Less = refl
alone Equal = refl
alone Greater = refl

goes_by_parts : (a b : Value) → value_order a b ≡ by_parts a b
goes_by_parts Null Null = refl
goes_by_parts Null (Truth b) = refl
goes_by_parts Null (Number b) = refl
goes_by_parts Null (Decimal b) = refl
goes_by_parts Null (Text b) = refl
goes_by_parts Null (Date b) = refl
goes_by_parts (Truth a) Null = refl
goes_by_parts (Truth a) (Truth b) = alone (bool_cmp a b)
goes_by_parts (Truth a) (Number b) = refl
goes_by_parts (Truth a) (Decimal b) = refl
goes_by_parts (Truth a) (Text b) = refl
goes_by_parts (Truth a) (Date b) = refl
goes_by_parts (Number a) Null = refl
goes_by_parts (Number a) (Truth b) = refl
goes_by_parts (Number a) (Number b) = sym (scaled_cmp a b (10 ^ 36) (one-le-pow 36 10 (omega arith))) ∙ alone (int_cmp (a *ℤ pos (10 ^ 36)) (b *ℤ pos (10 ^ 36)))
goes_by_parts (Number a) (Decimal b) = size_order_is a b.unscaled 0 b.scale (omega arith) (scale_within b) ∙ alone _
goes_by_parts (Number a) (Text b) = refl
goes_by_parts (Number a) (Date b) = refl
goes_by_parts (Decimal a) Null = refl
goes_by_parts (Decimal a) (Truth b) = refl
goes_by_parts (Decimal a) (Number b) = size_order_is a.unscaled b a.scale 0 (scale_within a) (omega arith) ∙ alone _
goes_by_parts (Decimal a) (Decimal b) = size_order_is a.unscaled b.unscaled a.scale b.scale (scale_within a) (scale_within b) ∙ alone _
goes_by_parts (Decimal a) (Text b) = refl
goes_by_parts (Decimal a) (Date b) = refl
goes_by_parts (Text a) Null = refl
goes_by_parts (Text a) (Truth b) = refl
goes_by_parts (Text a) (Number b) = refl
goes_by_parts (Text a) (Decimal b) = refl
goes_by_parts (Text a) (Text b) = refl
goes_by_parts (Text a) (Date b) = refl
goes_by_parts (Date a) Null = refl
goes_by_parts (Date a) (Truth b) = refl
goes_by_parts (Date a) (Number b) = refl
goes_by_parts (Date a) (Decimal b) = refl
goes_by_parts (Date a) (Text b) = refl
goes_by_parts (Date a) (Date b) = alone (int_cmp a.day b.day)

pub value_order_total : IsTotalOrder value_order
value_order_total = subst IsTotalOrder (λ i a b. sym (goes_by_parts a b) i) by_parts_total
