-- Numbers that are counted up to a limit: how far a part was counted makes no difference to the whole.
use Rattle.std.proofs.Common.{◌≡◌, ℕ, ◌+◌, ◌*◌, ◌-◌, ◌^◌, ◌<◌, min, max, nat_lt, List, ◌∷◌, map, drop, length, get_or, Option, None, Some, ap, sym, ◌∙◌, arith}
use Rattle.std.proofs.Math.Nat.{min_comm, min-eq_left, min-le_right, mul_comm, mul-one, one-mul, mul_assoc, add-zero, zero-add, max-zero, zero-max}
use Rattle.std.proofs.lemmas.Bool.Decides.{nat_tests}
use Rattle.std.proofs.lemmas.List.{drop_more}
use Rattle.std.proofs.lemmas.List.Sums.{sum_by-cons}
use Rattle.graph_ast.specs.declared.query.Quantifier.{Quantifier}
use Rattle.graph_ast.specs.declared.query.Factor.{Factor}
use Rattle.graph_ast.specs.declared.query.Sequence.{Sequence}
use Rattle.graph_meaning.specs.Choices.{greatest}
use Rattle.pattern_check.specs.declared.measures.Measure.{Measure}
use Rattle.pattern_check.specs.SizeRules.{greatest_number, counted, counted_measure, chained, either, product, counts_allowed, greatest_count, repeated_measure, sequence_measure}
use Rattle.pattern_check.specs.SizeRules.{union_measure, measuring}
use Rattle.graph_ast.specs.Patterns.{given_by, sequence_given}
use Rattle.pattern_check.proofs.Capped.{capped_product}

again : (m a : ℕ) → min (min a m) m ≡ min a m
again m a = min-eq_left (min-le_right a m)

product_counted : (m a b : ℕ) → min (a * b) m ≡ min (min a m * min b m) m
product_counted m a b =
    min_comm (a * b) m ∙ capped_product m a b
    ∙ ap (λ z. min m (z * min m b)) (min_comm m a) ∙ ap (λ z. min m (min a m * z)) (min_comm m b) ∙ min_comm m (min a m * min b m)

product_left_at : (m a b : ℕ) → min (min a m * b) m ≡ min (a * b) m
product_left_at m a b =
    product_counted m (min a m) b ∙ ap (λ z. min (z * min b m) m) (again m a) ∙ sym (product_counted m a b)

sum_left_at : (m a b : ℕ) → min (min a m + b) m ≡ min (a + b) m
sum_left_at m a b = omega arith

greater_left_at : (m a b : ℕ) → min (max (min a m) b) m ≡ min (max a b) m
greater_left_at m a b = omega arith

pub product_left : (a b : ℕ) → counted (counted a * b) ≡ counted (a * b)
product_left a b = product_left_at greatest_number a b

pub product_right : (a b : ℕ) → counted (a * counted b) ≡ counted (a * b)
product_right a b = ap counted (mul_comm a (counted b)) ∙ product_left b a ∙ ap counted (mul_comm b a)

-- a number below the limit is counted as it is
pub within : (a : ℕ) → a < 2 ^ 64 → counted a ≡ a
unfolding greatest_number
within a h = omega arith

abbrev measure : ℕ → ℕ → Measure
measure choices edges = record { choices = choices; edges = edges }

same_measure : {a b c d : ℕ} → a ≡ c → b ≡ d → measure a b ≡ measure c d
same_measure {a} {b} {c} {d} p q = ap (λ x. measure x b) p ∙ ap (λ y. measure c y) q

pub repeated_counted : (quantifier : Option Quantifier) (inside : Measure) →
    counted_measure (repeated_measure quantifier (counted_measure inside)) ≡ counted_measure (repeated_measure quantifier inside)
repeated_counted None inside = same_measure (again greatest_number inside.choices) (again greatest_number inside.edges)
repeated_counted (Some quantifier) inside =
    same_measure (product_left inside.choices (counts_allowed quantifier.kind)) (product_left inside.edges (greatest_count quantifier.kind))

product_on : (t x r : ℕ) → counted (counted (t * counted x) * r) ≡ counted (t * (x * r))
product_on t x r =
    product_left (t * counted x) r
    ∙ ap counted (mul_assoc t (counted x) r)
    ∙ sym (product_right t (counted x * r))
    ∙ ap (λ y. counted (t * y)) (product_left x r)
    ∙ product_right t (x * r)

sum_on_at : (m t x r : ℕ) → min (min (t + min x m) m + r) m ≡ min (t + (x + r)) m
sum_on_at m t x r = omega arith

greater_on_at : (m t x r : ℕ) → min (max (min (max t (min x m)) m) r) m ≡ min (max t (max x r)) m
greater_on_at m t x r = omega arith

pub chained_on : (total own rest : Measure) →
    counted_measure (chained (counted_measure (chained total (counted_measure own))) rest) ≡ counted_measure (chained total (chained own rest))
chained_on total own rest = same_measure (product_on total.choices own.choices rest.choices) (sum_on_at greatest_number total.edges own.edges rest.edges)

pub either_on : (total own rest : Measure) →
    counted_measure (either (counted_measure (either total (counted_measure own))) rest) ≡ counted_measure (either total (either own rest))
either_on total own rest = same_measure (sum_on_at greatest_number total.choices own.choices rest.choices) (greater_on_at greatest_number total.edges own.edges rest.edges)

pub none_chained : (m : Measure) → counted_measure (chained (measure 1 0) m) ≡ counted_measure m
none_chained m = same_measure (ap counted (one-mul m.choices)) (ap counted (zero-add m.edges))

pub chained_none : (m : Measure) → counted_measure (chained m (measure 1 0)) ≡ counted_measure m
chained_none m = same_measure (ap counted (mul-one m.choices)) (ap counted (add-zero m.edges))

pub none_either : (m : Measure) → counted_measure (either (measure 0 0) m) ≡ counted_measure m
none_either m = same_measure (ap counted (zero-add m.choices)) (ap counted (zero-max m.edges))

pub either_none : (m : Measure) → counted_measure (either m (measure 0 0)) ≡ counted_measure m
either_none m = same_measure (ap counted (add-zero m.choices)) (ap counted (max-zero m.edges))

-- what was counted is counted as it is
pub is_counted : (m whole : Measure) → m ≡ counted_measure whole → m ≡ counted_measure m
is_counted m whole e = e ∙ sym (ap counted_measure e ∙ same_measure (again greatest_number whole.choices) (again greatest_number whole.edges))

pub one_is_counted : measure 1 0 ≡ counted_measure (measure 1 0)
one_is_counted = sym (same_measure (within 1 (omega arith)) (within 0 (omega arith)))

pub none_is_counted : measure 0 0 ≡ counted_measure (measure 0 0)
none_is_counted = sym (same_measure (within 0 (omega arith)) (within 0 (omega arith)))

first_factor : (own : Measure) (rest : List Measure) → sequence_measure (own ∷ rest) ≡ chained own (sequence_measure rest)
first_factor own rest = ap (λ n. measure (product (map (λ (m : Measure). m.choices) (own ∷ rest))) n) (sum_by-cons (λ (m : Measure). m.edges) own rest)

first_operand : (own : Measure) (rest : List Measure) → union_measure (own ∷ rest) ≡ either own (union_measure rest)
first_operand own rest = ap (λ n. measure n (greatest (map (λ (m : Measure). m.edges) (own ∷ rest)))) (sum_by-cons (λ (m : Measure). m.choices) own rest)

-- how the loops over factors and operands go on by one item
pub factors_on : (total : Measure) (xs : List Factor) (i : ℕ) (x : Factor) → i < length xs → x ≡ get_or xs i x →
    counted_measure (chained (counted_measure (chained total (counted_measure (given_by measuring x)))) (sequence_measure (map (given_by measuring) (drop (i + 1) xs)))) ≡
    counted_measure (chained total (sequence_measure (map (given_by measuring) (drop i xs))))
factors_on total xs i x inside is =
    chained_on total (given_by measuring x) (sequence_measure (map (given_by measuring) (drop (i + 1) xs)))
    ∙ sym (ap (λ m. counted_measure (chained total m)) (first_factor (given_by measuring x) (map (given_by measuring) (drop (i + 1) xs))))
    ∙ ap (λ y. counted_measure (chained total (sequence_measure (given_by measuring y ∷ map (given_by measuring) (drop (i + 1) xs))))) is
    ∙ sym (ap (λ l. counted_measure (chained total (sequence_measure (map (given_by measuring) l)))) (drop_more xs i x inside))

pub operands_on : (total : Measure) (xs : List Sequence) (i : ℕ) (x : Sequence) → i < length xs → x ≡ get_or xs i x →
    counted_measure (either (counted_measure (either total (counted_measure (sequence_measure (sequence_given measuring x)))))
    (union_measure (map sequence_measure (map (sequence_given measuring) (drop (i + 1) xs))))) ≡
    counted_measure (either total (union_measure (map sequence_measure (map (sequence_given measuring) (drop i xs)))))
operands_on total xs i x inside is =
    either_on total (sequence_measure (sequence_given measuring x)) (union_measure (map sequence_measure (map (sequence_given measuring) (drop (i + 1) xs))))
    ∙ sym (ap (λ m. counted_measure (either total m)) (first_operand (sequence_measure (sequence_given measuring x))
    (map sequence_measure (map (sequence_given measuring) (drop (i + 1) xs)))))
    ∙ ap (λ y. counted_measure (either total (union_measure (sequence_measure (sequence_given measuring y)
    ∷ map sequence_measure (map (sequence_given measuring) (drop (i + 1) xs)))))) is
    ∙ sym (ap (λ l. counted_measure (either total (union_measure (map sequence_measure (map (sequence_given measuring) l))))) (drop_more xs i x inside))

many_at : (m limit n : ℕ) → limit < m → nat_lt limit (min n m) ≡ nat_lt limit n
many_at m limit n h = grind (arith, nat_tests)

-- a limit is passed by what was counted where it is passed
pub passed : (limit n : ℕ) → limit < 2 ^ 63 → nat_lt limit (counted n) ≡ nat_lt limit n
unfolding greatest_number
passed limit n h = many_at (2 ^ 64 - 1) limit n (omega arith)
