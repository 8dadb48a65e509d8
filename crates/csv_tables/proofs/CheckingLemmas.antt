-- Loops over the rows of a table.
use Rattle.std.proofs.Common.{◌≡◌, ℕ, ◌+◌, ◌<◌, ◌≤◌, Bool, true, false, cond, List, [], ◌∷◌, ◌++◌, map, take, drop, length, get_or, Option, Some, None, refl, sym, ap, ◌∙◌, arith}
use Rattle.std.proofs.Common.{add-one}
use Rattle.std.specs.Prelude.{◌||◌, ◌&&◌, not, if◌then◌else◌}
use Rattle.std.specs.List.{list_any}
use Rattle.std.proofs.lemmas.List.{get_or-map, length-map, length-take, take_more, drop_all}
use Rattle.std.proofs.lemmas.List.Folds.{list_any-append}
use Rattle.pgq_base.specs.declared.rows.Row.{Row}
use Rattle.pgq_base.specs.declared.value.Value.{Value}
use Rattle.pgq_base.specs.Instances.{RowValues, TableRows, same_values, values_at}
use Rattle.graph_ast.specs.Fits.{has_null}
use Rattle.std.specs.HashSet.{HashSet}
use Rattle.csv_tables.specs.declared.keys.KeyOf.{KeyOf}
use Rattle.csv_tables.specs.KeyHashes.{holds}
use Rattle.pgq_base.specs.declared.code.Code.TheVariants.{RepeatedKey, BrokenReference}
use Rattle.std.proofs.Common.{nat_lt, length-append, append_assoc}
use Rattle.std.proofs.lemmas.List.{map-append}
use Rattle.std.specs.Prelude.{find, option_map}
use Rattle.csv_tables.specs.declared.faults.TableFault.{TableFault}
use Rattle.csv_tables.specs.Constraints.{Constraint, dangles, fault_of, has_values, repeats, row_or, rows_fault}
use Rattle.csv_tables.specs.Steps.{earlier_of, first_break}
use Rattle.csv_tables.proofs.RecordLemmas.{some_same}
use Rattle.csv_tables.specs.Outcomes.{values_of}
use Rattle.csv_tables.proofs.CollectLemmas.{drop_at}

-- the rows before place i, and one more
abbrev pub before : List Row → ℕ → TableRows
before rows i = take i (map values_of rows)

pub before_more : (rows : List Row) (i : ℕ) (row : Row) → i < length rows → row ≡ get_or rows i row → before rows (i + 1) ≡ before rows i ++ row.values ∷ []
before_more rows i row h e =
    let all = map values_of rows in
    let size = length-map rows values_of in
    let there : get_or all i row.values ≡ row.values = get_or-map values_of rows i row row.values h ∙ ap values_of (sym e) in
    take_more all i row.values (omega arith) ∙ ap (λ x. take i all ++ x ∷ []) there

pub after_more : (rows : List Row) (i : ℕ) (row : Row) → i < length rows → row ≡ get_or rows i row → drop i (map values_of rows) ≡ row.values ∷ drop (i + 1) (map values_of rows)
after_more rows i row h e =
    let all = map values_of rows in
    let size = length-map rows values_of in
    let there : row.values ≡ get_or all i row.values = sym (get_or-map values_of rows i row row.values h ∙ ap values_of (sym e)) in
    rw add-one (drop_at all i row.values (omega arith) there)

length_before : (rows : List Row) (i : ℕ) → i ≤ length rows → length (before rows i) ≡ i
length_before rows i h = let size = length-map rows values_of in let taken = length-take i (map values_of rows) in omega arith

-- a row breaks a constraint
pub breaks_here : (breaks : TableRows → RowValues → Bool) (rows : List Row) (i : ℕ) (row : Row) → i < length rows → row ≡ get_or rows i row
    → breaks (before rows i) row.values ≡ true
    → first_break breaks (before rows i) (drop i (map values_of rows)) ≡ Some (i + 1)
breaks_here breaks rows i row h e b =
    let size = length_before rows i (omega arith) in
    ap (first_break breaks (before rows i)) (after_more rows i row h e) ∙ (rw b (ap (λ n. Some (n + 1)) size))

-- or it does not
pub breaks_later : (breaks : TableRows → RowValues → Bool) (rows : List Row) (i : ℕ) (row : Row) → i < length rows → row ≡ get_or rows i row
    → breaks (before rows i) row.values ≡ false
    → first_break breaks (before rows i) (drop i (map values_of rows)) ≡ first_break breaks (before rows (i + 1)) (drop (i + 1) (map values_of rows))
breaks_later breaks rows i row h e b =
    ap (first_break breaks (before rows i)) (after_more rows i row h e)
    ∙ (rw b (ap (λ earlier. first_break breaks earlier (drop (i + 1) (map values_of rows))) (sym (before_more rows i row h e))))

pub breaks_nowhere : (breaks : TableRows → RowValues → Bool) (rows : List Row) (i : ℕ) → length rows ≤ i → first_break breaks (before rows i) (drop i (map values_of rows)) ≡ None
breaks_nowhere breaks rows i h =
    let size = length-map rows values_of in
    ap (first_break breaks (before rows i)) (drop_all i (map values_of rows) (omega arith))

or_last : (a b : Bool) → (a || (b || false)) ≡ (b || a)
or_last true true = refl
or_last true false = refl
or_last false true = refl
or_last false false = refl

-- the rows have one more
pub values_more : (columns : List ℕ) (rows : List Row) (i : ℕ) (row : Row) (values : List Value) → i < length rows → row ≡ get_or rows i row
    → (same_values values (values_at columns row.values) || has_values columns (before rows i) values) ≡ has_values columns (before rows (i + 1)) values
values_more columns rows i row values h e =
    let has : RowValues → Bool = λ r. same_values values (values_at columns r) in
    sym (ap (list_any has) (before_more rows i row h e) ∙ (list_any-append has (before rows i) (row.values ∷ []) ∙ or_last (list_any has (before rows i)) (has row.values)))

-- a row repeats the values of an earlier one where the set of the keys so far holds them
pub repeats_so : {S : Type 0} (columns : List ℕ) (seen : HashSet KeyOf S) (rows : List Row) (i : ℕ) (row : RowValues)
    → ((values : List Value) → holds seen values ≡ has_values columns (before rows i) values)
    → (not (has_null (values_at columns row)) && holds seen (values_at columns row)) ≡ repeats columns (before rows i) row
repeats_so columns seen rows i row held = ap (λ b. not (has_null (values_at columns row)) && b) (held (values_at columns row))

pub dangles_so : {S : Type 0} (columns places : List ℕ) (targets : HashSet KeyOf S) (target earlier : TableRows) (row : RowValues)
    → ((values : List Value) → holds targets values ≡ has_values places target values)
    → (not (has_null (values_at columns row)) && not (holds targets (values_at columns row))) ≡ dangles columns places target earlier row
dangles_so columns places targets target earlier row held = ap (λ b. not (has_null (values_at columns row)) && not b) (held (values_at columns row))

-- a row that breaks a constraint is behind the earlier ones
break_behind : (breaks : TableRows → RowValues → Bool) (earlier rows : TableRows) (n : ℕ) → first_break breaks earlier rows ≡ Some n → length earlier < n
break_behind breaks earlier [] n e = cc
break_behind breaks earlier (row ∷ rows) n e = by (breaks earlier row) (break_behind breaks (earlier ++ row ∷ []) rows n) e
  where
    by : (b : Bool) → (first_break breaks (earlier ++ row ∷ []) rows ≡ Some n → length (earlier ++ row ∷ []) < n)
        → cond b (Some (length earlier + 1)) (first_break breaks (earlier ++ row ∷ []) rows) ≡ Some n
        → length earlier < n
    by true more e = let same : length earlier + 1 ≡ n = some_same e in omega arith
    by false more e = let longer = length-append earlier (row ∷ []) in let later = more e in omega arith

fault_behind : (constraints : List Constraint) (earlier rows : TableRows) (fault : TableFault) → rows_fault constraints earlier rows ≡ Some fault → length earlier < fault.row
fault_behind constraints earlier [] fault e = cc
fault_behind constraints earlier (row ∷ rows) fault e = by (find (λ c. c.breaks earlier row) constraints) (fault_behind constraints (earlier ++ row ∷ []) rows fault) e
  where
    by : (o : Option Constraint) → (rows_fault constraints (earlier ++ row ∷ []) rows ≡ Some fault → length (earlier ++ row ∷ []) < fault.row)
        → row_or (length earlier + 1) o (rows_fault constraints (earlier ++ row ∷ []) rows) ≡ Some fault → length earlier < fault.row
    by (Some broken) more e = let same : length earlier + 1 ≡ fault.row = ap (λ (f : TableFault). f.row) (some_same e) in omega arith
    by None more e = let longer = length-append earlier (row ∷ []) in let later = more e in omega arith

-- the first that passes, with one more behind
abbrev or_this : Constraint → Bool → Option Constraint → Option Constraint
or_this c b (Some found) = Some found
or_this c b None = if b then Some c else None

find_more : (p : Constraint → Bool) (constraints : List Constraint) (c : Constraint) → find p (constraints ++ c ∷ []) ≡ or_this c (p c) (find p constraints)
find_more p [] c = refl
find_more p (x ∷ xs) c = by (p x) (find_more p xs c)
  where
    by : (b : Bool) → find p (xs ++ c ∷ []) ≡ or_this c (p c) (find p xs) → cond b (Some x) (find p (xs ++ c ∷ [])) ≡ or_this c (p c) (cond b (Some x) (find p xs))
    by true more = refl
    by false more = more

not_sooner : (fault : TableFault) (c : Constraint) (o : Option ℕ) → ((n : ℕ) → o ≡ Some n → fault.row ≤ n)
    → earlier_of (Some fault) (option_map (λ n. fault_of n c) o) ≡ Some fault
not_sooner fault c None h = refl
not_sooner fault c (Some n) h = let late = h n refl in let less : nat_lt n fault.row ≡ false = grind arith in rw less refl

sooner : (o : Option TableFault) (fault : TableFault) → ((f : TableFault) → o ≡ Some f → fault.row < f.row) → earlier_of o (Some fault) ≡ Some fault
sooner None fault h = refl
sooner (Some f) fault h = let soon = h f refl in let less : nat_lt fault.row f.row ≡ true = grind arith in rw less refl

-- one more constraint
pub one_more_constraint : (constraints : List Constraint) (c : Constraint) (earlier rows : TableRows)
    → rows_fault (constraints ++ c ∷ []) earlier rows ≡ earlier_of (rows_fault constraints earlier rows) (option_map (λ n. fault_of n c) (first_break c.breaks earlier rows))
one_more_constraint constraints c earlier [] = refl
one_more_constraint constraints c earlier (row ∷ rows) =
    ap (λ o. row_or (length earlier + 1) o (rows_fault (constraints ++ c ∷ []) (earlier ++ row ∷ []) rows)) (find_more (λ d. d.breaks earlier row) constraints c)
    ∙ by (find (λ d. d.breaks earlier row) constraints) (c.breaks earlier row) (break_behind c.breaks earlier (row ∷ rows))
    (one_more_constraint constraints c (earlier ++ row ∷ []) rows)
  where
    later : Option TableFault
    later = rows_fault constraints (earlier ++ row ∷ []) rows

    by : (o : Option Constraint) (b : Bool)
        → ((n : ℕ) → cond b (Some (length earlier + 1)) (first_break c.breaks (earlier ++ row ∷ []) rows) ≡ Some n → length earlier < n)
        → rows_fault (constraints ++ c ∷ []) (earlier ++ row ∷ []) rows ≡ earlier_of later (option_map (λ n. fault_of n c) (first_break c.breaks (earlier ++ row ∷ []) rows))
        → row_or (length earlier + 1) (or_this c b o) (rows_fault (constraints ++ c ∷ []) (earlier ++ row ∷ []) rows)
        ≡ earlier_of (row_or (length earlier + 1) o later) (option_map (λ n. fault_of n c) (cond b (Some (length earlier + 1)) (first_break c.breaks (earlier ++ row ∷ []) rows)))
    by (Some broken) b behind more =
        sym (not_sooner (fault_of (length earlier + 1) broken) c (cond b (Some (length earlier + 1)) (first_break c.breaks (earlier ++ row ∷ []) rows))
        (λ n e. let h = behind n e in omega arith))
    by None true behind more =
        sym (sooner later (fault_of (length earlier + 1) c)
        (λ f e. let h = fault_behind constraints (earlier ++ row ∷ []) rows f e in let longer = length-append earlier (row ∷ []) in omega arith))
    by None false behind more = more

pub no_fault : (earlier rows : TableRows) → rows_fault [] earlier rows ≡ None
no_fault earlier [] = refl
no_fault earlier (row ∷ rows) = no_fault (earlier ++ row ∷ []) rows

-- the constraints of one more key or reference
pub constraint_more : {X : Type 0} (constraint : X → Constraint) (others : List Constraint) (xs : List X) (i : ℕ) (x : X) (rows : TableRows) → i < length xs → x ≡ get_or xs i x
    → earlier_of (rows_fault (others ++ map constraint (take i xs)) [] rows) (option_map (λ n. fault_of n (constraint x)) (first_break (constraint x).breaks [] rows))
    ≡ rows_fault (others ++ map constraint (take (i + 1) xs)) [] rows
constraint_more constraint others xs i x rows h e =
    let taken : take (i + 1) xs ≡ take i xs ++ x ∷ [] = take_more xs i x h ∙ ap (λ y. take i xs ++ y ∷ []) (sym e) in
    let mapped = ap (map constraint) taken ∙ map-append constraint (take i xs) (x ∷ []) in
    let whole = ap (λ l. others ++ l) mapped ∙ sym (append_assoc others (map constraint (take i xs)) (constraint x ∷ [])) in
    sym (ap (λ l. rows_fault l [] rows) whole ∙ one_more_constraint (others ++ map constraint (take i xs)) (constraint x) [] rows)

-- the fault of a key or a reference alone
abbrev pub repeat_fault : List ℕ → TableRows → Option TableFault
repeat_fault columns rows = option_map (λ n. fault_of n (record { code = RepeatedKey; columns = columns; breaks = repeats columns })) (first_break (repeats columns) [] rows)

abbrev pub dangle_fault : List ℕ → List ℕ → TableRows → TableRows → Option TableFault
dangle_fault columns targets target rows =
    option_map (λ n. fault_of n (record { code = BrokenReference; columns = columns; breaks = dangles columns targets target }))
    (first_break (dangles columns targets target) [] rows)
