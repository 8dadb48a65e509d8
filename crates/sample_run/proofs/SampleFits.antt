-- The tables of the generated run fit its schema.
use Rattle.std.proofs.Common.{◌≡◌, ℕ, zero, suc, ◌+◌, ◌-◌, ◌*◌, ◌%◌, ◌<◌, ◌≤◌, inl, inr, Bool, true, false, not, pos, negsuc, List, [], ◌∷◌, ◌++◌, map, flat_map, length, Result}
use Rattle.std.proofs.Common.{Ok, Err, IfOk, refl, sym, ap, ◌∙◌, subst, arith}
use Rattle.std.specs.Prelude.{codes, decimal}
use Rattle.std.specs.Str.{chars, IsAscii}
use Rattle.std.proofs.Math.Nat.{mod-lt}
use Rattle.std.proofs.lemmas.Int.{ints}
use Rattle.std.proofs.lemmas.List.{map-append}
use Rattle.std.proofs.lemmas.Fmt.{IsAscii-decimal, length-decimal-le}
use Rattle.std.proofs.lemmas.Str.{chars-IsAscii}
use Rattle.multisets.specs.Bags.{IsIn, IsWithoutRepeats}
use Rattle.multisets.proofs.Maps.{flat_map_without}
use Rattle.multisets.proofs.Kept.{filter_without}
use Rattle.graph_meaning.proofs.Members.{in_map, from_map, map_once, from_flat, in_range, from_range, range_once}
use Rattle.pgq_base.specs.declared.value.Value.{Value}
use Rattle.pgq_base.specs.declared.value.Value.TheVariants.{Number}
use Rattle.pgq_base.specs.declared.rows.Instance.{Instance}
use Rattle.pgq_base.specs.Instances.{RowValues, TableRows, values_at, rows_at}
use Rattle.graph_ast.specs.declared.catalog.Key.{Key}
use Rattle.graph_ast.specs.declared.catalog.Reference.{Reference}
use Rattle.graph_ast.specs.declared.catalog.ColumnType.TheVariants.{Integer}
use Rattle.graph_ast.specs.Fits.{IsBetween, IsValueOf, IsRowOf, IsUnique, IsMet, AreRowsOf, Fits, has_null}
use Rattle.graph_ast.specs.Lookups.{table_at}
use Rattle.sample_run.specs.SampleCatalog.{column, first_key, person_table, knows_table, sample_catalog}
use Rattle.sample_run.specs.SampleRun.{numbers_to, person_name, person_row, knows_row, rows_for, person_rows, knows_rows, sample_rows, shown_tables}

-- ---- values

small : (k : ℕ) → k ≤ 100000 → IsBetween (negsuc 2147483647) (pos 2147483647) (pos k)
small k h = (omega (arith, ints), omega (arith, ints))

-- a number that is not too large is a value of each whole number's column
number : (name : List ℕ) (not_null : Bool) (k : ℕ) → k ≤ 100000 → IsValueOf (column name Integer not_null) (Number (pos k))
number name not_null k h = record { within = small k h; not_null = λ _. refl }

behind_p : (bs : List ℕ) → IsAscii bs → IsAscii (80 ∷ bs)
behind_p bs h zero = omega arith
behind_p bs h (suc i) = h i

short_name : (i : ℕ) → i ≤ 2000 → length (chars (person_name i)) ≤ 20
short_name i h =
    let ascii : IsAscii (person_name i) = behind_p (decimal i) (IsAscii-decimal i (omega arith)) in
    let few : length (decimal i) ≤ 4 = length-decimal-le 4 i (omega arith) (omega arith) (omega arith) in
    subst (λ cs. length cs ≤ 20) (sym (chars-IsAscii (person_name i) ascii)) (omega arith)

-- ---- numbers and keys

some_number : (n i : ℕ) → 1 ≤ i → i ≤ n → IsIn i (numbers_to n)
some_number n i low high =
    let same : 1 + (i - 1) ≡ i = omega arith in
    subst (λ k. IsIn k (numbers_to n)) same (in_range 1 n (i - 1) (omega arith))

number_within : (n i : ℕ) → IsIn i (numbers_to n) → (1 ≤ i) × (i ≤ n)
number_within n i h = let r = from_range 1 n i h in (r.0, omega (arith, r.1))

-- the values of a key of one column
abbrev key : ℕ → List Value
key k = Number (pos k) ∷ []

one_key : (p q : ℕ) → key p ≡ key q → p ≡ q
one_key p q h = cc

abbrev first : RowValues → List Value
first = values_at (0 ∷ [])

unique : (rows : TableRows) → IsWithoutRepeats (map first rows) → (k : Key) → IsIn k (first_key ∷ []) → IsUnique k.columns rows
unique rows once k (inl same) = subst (λ (k : Key). IsUnique k.columns rows) same (filter_without (λ values. not (has_null values)) (map first rows) once)
unique rows once k (inr none) = absurd none

-- ---- persons

person_typed : (i : ℕ) → i ≤ 2000 → IsRowOf person_table.columns (person_row i)
person_typed i h =
    let age : 7 * i % 90 < 90 = mod-lt (7 * i) (omega arith) in
    (number (codes "ID") true i (omega arith), (record { within = short_name i h; not_null = λ _. refl }, (number (codes "AGE") false (7 * i % 90) (omega arith), tt)))

persons_typed : (n : ℕ) → n ≤ 2000 → (row : RowValues) → IsIn row (person_rows n) → IsRowOf person_table.columns row
persons_typed n most row h =
    let (i, there, same) = from_map person_row row (numbers_to n) h in
    let within = number_within n i there in
    subst (IsRowOf person_table.columns) same (person_typed i (omega (arith, within.1)))

map_map : {A B C : Type 0} (g : B → C) (f : A → B) (xs : List A) → map g (map f xs) ≡ map (λ x. g (f x)) xs
map_map g f [] = refl
map_map g f (x ∷ xs) = ap (λ l. g (f x) ∷ l) (map_map g f xs)

person_keys : (n : ℕ) → map first (person_rows n) ≡ map key (numbers_to n)
person_keys n = map_map first person_row (numbers_to n)

persons_once : (n : ℕ) → IsWithoutRepeats (map first (person_rows n))
persons_once n = subst IsWithoutRepeats (sym (person_keys n)) (map_once key (numbers_to n) (λ x y _ _ e. one_key x y e) (range_once 1 n))

-- ---- edges

-- the number of an edge, the one with number j of those that begin at the person i
abbrev edge : ℕ → ℕ → ℕ
edge i j = 3 * (i - 1) + j + 1

edge_typed : (n i j : ℕ) → 1 ≤ n → n ≤ 2000 → i ≤ n → j ≤ 2 → IsRowOf knows_table.columns (knows_row n i j)
edge_typed n i j some most high few =
    let other : ((j + 2) * i + j) % n < n = mod-lt ((j + 2) * i + j) (omega arith) in
    let year : (i + j) % 25 < 25 = mod-lt (i + j) (omega arith) in (
      number (codes "ID") true (edge i j) (omega arith),
      (
        number (codes "A") false i (omega arith),
        (number (codes "B") false (((j + 2) * i + j) % n + 1) (omega arith), (number (codes "SINCE") false (2000 + (i + j) % 25) (omega arith), tt)),
      ),
    )

-- a row is one of the three that begin at its person
record IsEdge (n : ℕ) (row : RowValues) : Type 0 where
  i : ℕ
  j : ℕ
  low : 1 ≤ i
  high : i ≤ n
  few : j ≤ 2
  is : knows_row n i j ≡ row

is_edge : (n : ℕ) (row : RowValues) → IsIn row (knows_rows n) → IsEdge n row
is_edge n row h = (let (i, there, here) = from_flat (rows_for n) row (numbers_to n) h in by i (number_within n i there) here)
  where
    by : (i : ℕ) → (1 ≤ i) × (i ≤ n) → IsIn row (rows_for n i) → IsEdge n row
    by i within (inl same) = record { i = i; j = 0; low = within.0; high = within.1; few = omega arith; is = same }
    by i within (inr (inl same)) = record { i = i; j = 1; low = within.0; high = within.1; few = omega arith; is = same }
    by i within (inr (inr (inl same))) = record { i = i; j = 2; low = within.0; high = within.1; few = omega arith; is = same }
    by i within (inr (inr (inr none))) = absurd none

-- the keys of the three edges of a person
abbrev keys_for : ℕ → List (List Value)
keys_for i = key (edge i 0) ∷ key (edge i 1) ∷ key (edge i 2) ∷ []

map_flat : {A B C : Type 0} (g : B → C) (f : A → List B) (xs : List A) → map g (flat_map f xs) ≡ flat_map (λ x. map g (f x)) xs
map_flat g f [] = refl
map_flat g f (x ∷ xs) = map-append g (f x) (flat_map f xs) ∙ ap (λ l. map g (f x) ++ l) (map_flat g f xs)

edge_keys : (n : ℕ) → map first (knows_rows n) ≡ flat_map keys_for (numbers_to n)
edge_keys n = map_flat first (rows_for n) (numbers_to n)

different : (p q : ℕ) → p < q → key q ≡ key p → ⊥
different p q h e = let same = one_key q p e in omega arith

keys_once : (i : ℕ) → IsWithoutRepeats (keys_for i)
keys_once i = (
  later (different (edge i 0) (edge i 1) (omega arith)) (different (edge i 0) (edge i 2) (omega arith)),
  (last (different (edge i 1) (edge i 2) (omega arith)), ((λ none. none), tt)),
)
  where
    last : {x y : List Value} → (y ≡ x → ⊥) → IsIn x (y ∷ []) → ⊥
    last apart (inl e) = apart e
    last apart (inr none) = none

    later : {x y z : List Value} → (y ≡ x → ⊥) → (z ≡ x → ⊥) → IsIn x (y ∷ z ∷ []) → ⊥
    later apart too (inl e) = apart e
    later apart too (inr h) = last too h

record IsKeyFor (i : ℕ) (values : List Value) : Type 0 where
  j : ℕ
  few : j ≤ 2
  is : key (edge i j) ≡ values

key_for : (i : ℕ) (values : List Value) → IsIn values (keys_for i) → IsKeyFor i values
key_for i values (inl same) = record { j = 0; few = omega arith; is = same }
key_for i values (inr (inl same)) = record { j = 1; few = omega arith; is = same }
key_for i values (inr (inr (inl same))) = record { j = 2; few = omega arith; is = same }
key_for i values (inr (inr (inr none))) = absurd none

one_person : (n i k : ℕ) (values : List Value) → IsIn i (numbers_to n) → IsIn k (numbers_to n) → IsIn values (keys_for i) → IsIn values (keys_for k) → i ≡ k
one_person n i k values here there mine theirs =
    let a = key_for i values mine in
    let b = key_for k values theirs in
    let same : edge i a.j ≡ edge k b.j = one_key (edge i a.j) (edge k b.j) (a.is ∙ sym b.is) in
    let p = number_within n i here in
    let q = number_within n k there in
    omega (arith, same, p.0, q.0, a.few, b.few)

edges_once : (n : ℕ) → IsWithoutRepeats (map first (knows_rows n))
edges_once n =
    subst IsWithoutRepeats (sym (edge_keys n)) (flat_map_without keys_for (numbers_to n) (range_once 1 n) (λ i _. keys_once i)
    (λ i k values here there mine theirs. one_person n i k values here there mine theirs))

-- ---- references

person_there : (n i : ℕ) → 1 ≤ i → i ≤ n → IsIn (key i) (map first (person_rows n))
person_there n i low high = in_map first (person_row i) (person_rows n) (in_map person_row i (numbers_to n) (some_number n i low high))

met : (n i j : ℕ) → 1 ≤ n → 1 ≤ i → i ≤ n → (r : Reference) → IsIn r knows_table.references → IsMet (sample_rows n) r (knows_row n i j)
met n i j some low high r (inl same) = subst (λ r. IsMet (sample_rows n) r (knows_row n i j)) same (inr (person_there n i low high))
met n i j some low high r (inr (inl same)) =
    let other : ((j + 2) * i + j) % n < n = mod-lt ((j + 2) * i + j) (omega arith) in
    subst (λ r. IsMet (sample_rows n) r (knows_row n i j)) same (inr (person_there n (((j + 2) * i + j) % n + 1) (omega arith) (omega arith)))
met n i j some low high r (inr (inr none)) = absurd none

-- ---- the tables

module _ (n : ℕ) (some : 1 ≤ n) (most : n ≤ 2000) where
  persons_fit : AreRowsOf (sample_rows n) person_table (person_rows n)
  persons_fit = record {
    typed = persons_typed n most;
    keys = unique (person_rows n) (persons_once n);
    references = λ r none. absurd none;
  }

  edges_fit : AreRowsOf (sample_rows n) knows_table (knows_rows n)
  edges_fit = record {
    typed = λ row h. (let e = is_edge n row h in subst (IsRowOf knows_table.columns) e.is (edge_typed n e.i e.j some most e.high e.few));
    keys = unique (knows_rows n) (edges_once n);
    references = λ r there row h. (let e = is_edge n row h in subst (IsMet (sample_rows n) r) e.is (met n e.i e.j some e.low e.high r there));
  }

  each_table : (place : ℕ) → place < 2 → AreRowsOf (sample_rows n) (table_at sample_catalog place) (rows_at (sample_rows n) place)
  each_table zero h = persons_fit
  each_table (suc zero) h = edges_fit
  each_table (suc (suc place)) h = absurd (omega arith)

  pub fits : Fits sample_catalog (sample_rows n)
  fits = record { tables = refl; rows = each_table }

pub fits_made : {E : Type 0} (n : ℕ) → 1 ≤ n → n ≤ 2000 → (result : Result Instance E) → IfOk result (λ instance. shown_tables instance ≡ sample_rows n)
    → IfOk result (λ instance. Fits sample_catalog (shown_tables instance))
fits_made n some most (Ok instance) is = subst (Fits sample_catalog) (sym is) (fits n some most)
fits_made n some most (Err e) is = tt
