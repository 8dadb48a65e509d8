-- No row breaks a constraint exactly where the keys and the references hold.
use Rattle.std.proofs.Common.{◌≡◌, ℕ, zero, suc, ◌+◌, ◌<◌, ◌⊎◌, inl, inr, Bool, true, false, cond, List, [], ◌∷◌, ◌++◌, map, filter, length, get_or, Option, Some, None, refl}
use Rattle.std.proofs.Common.{sym, ap, subst, ◌∙◌, arith, true≢false}
use Rattle.std.specs.Prelude.{find, not, ◌&&◌, ◌||◌}
use Rattle.std.proofs.lemmas.List.{map-append}
use Rattle.multisets.specs.Bags.{IsIn}
use Rattle.multisets.proofs.Members.{in_append, in_parts}
use Rattle.pgq_base.proofs.ValueOrder.{same_values_decides}
use Rattle.pgq_base.specs.declared.value.Value.{Value}
use Rattle.pgq_base.specs.declared.refusal.Refusal.{Refusal}
use Rattle.pgq_base.specs.Instances.{RowValues, TableRows, InstanceRows, rows_at, same_values, values_at}
use Rattle.graph_ast.specs.declared.catalog.Table.{Table}
use Rattle.graph_ast.specs.declared.catalog.Key.{Key}
use Rattle.graph_ast.specs.declared.catalog.Reference.{Reference}
use Rattle.graph_ast.specs.Fits.{has_null, IsMet, IsUnique}
use Rattle.csv_tables.specs.declared.faults.TableFault.{TableFault}
use Rattle.csv_tables.specs.Constraints.{Constraint, constraints_of, dangles, has_values, key_constraint, reference_constraint, repeats, row_or, rows_fault, table_or}
use Rattle.csv_tables.specs.Constraints.{tables_refusal}
use Rattle.csv_tables.specs.Steps.{first_break}

in_map : {A B : Type 0} (f : A → B) (x : A) (xs : List A) → IsIn x xs → IsIn (f x) (map f xs)
in_map f x [] h = absurd h
in_map f x (y ∷ ys) (inl e) = inl (ap f e)
in_map f x (y ∷ ys) (inr h) = inr (in_map f x ys h)

from_map : {A B : Type 0} (f : A → B) (z : B) (xs : List A) → IsIn z (map f xs) → (x : A) × IsIn x xs × (f x ≡ z)
from_map f z [] h = absurd h
from_map f z (x ∷ xs) (inl e) = (x, inl refl, e)
from_map f z (x ∷ xs) (inr h) = let more = from_map f z xs h in (more.0, inr more.1, more.2)

untrue : {A : Type 0} (b : Bool) (x : A) (o : Option A) → cond b (Some x) o ≡ None → b ≡ false
untrue true x o e = cc
untrue false x o e = refl

skipped : {A : Type 0} (b : Bool) (x : A) (o : Option A) → cond b (Some x) o ≡ None → o ≡ None
skipped true x o e = cc
skipped false x o e = e

-- ---- the constraints of a table

not_found : (p : Constraint → Bool) (constraints : List Constraint) (c : Constraint) → find p constraints ≡ None → IsIn c constraints → p c ≡ false
not_found p [] c e h = absurd h
not_found p (d ∷ ds) c e (inl same) = subst (λ x. p x ≡ false) same (untrue _ _ _ e)
not_found p (d ∷ ds) c e (inr h) = not_found p ds c (skipped _ _ _ e) h

none_found : (p : Constraint → Bool) (constraints : List Constraint) → ((c : Constraint) → IsIn c constraints → p c ≡ false) → find p constraints ≡ None
none_found p [] h = refl
none_found p (d ∷ ds) h = rw (h d (inl refl)) (none_found p ds (λ c k. h c (inr k)))

-- no row breaks one of the constraints
abbrev AllKept : List Constraint → TableRows → TableRows → Type 0
AllKept constraints earlier rows = (c : Constraint) → IsIn c constraints → first_break c.breaks earlier rows ≡ None

kept_from : (constraints : List Constraint) (earlier rows : TableRows) → rows_fault constraints earlier rows ≡ None → AllKept constraints earlier rows
kept_from constraints earlier [] e c h = refl
kept_from constraints earlier (row ∷ rows) e c h = by (find (λ d. d.breaks earlier row) constraints) refl (kept_from constraints (earlier ++ row ∷ []) rows) e
  where
    by : (o : Option Constraint) → find (λ d. d.breaks earlier row) constraints ≡ o
        → (rows_fault constraints (earlier ++ row ∷ []) rows ≡ None → AllKept constraints (earlier ++ row ∷ []) rows)
        → row_or (length earlier + 1) o (rows_fault constraints (earlier ++ row ∷ []) rows) ≡ None
        → first_break c.breaks earlier (row ∷ rows) ≡ None
    by (Some broken) found more e = cc
    by None found more e =
        let quiet : c.breaks earlier row ≡ false = not_found (λ d. d.breaks earlier row) constraints c found h in
        rw quiet (more e c h)

kept_to : (constraints : List Constraint) (earlier rows : TableRows) → AllKept constraints earlier rows → rows_fault constraints earlier rows ≡ None
kept_to constraints earlier [] kept = refl
kept_to constraints earlier (row ∷ rows) kept =
    let none = none_found (λ c. c.breaks earlier row) constraints (λ c h. untrue _ _ _ (kept c h)) in
    rw none (kept_to constraints (earlier ++ row ∷ []) rows (λ c h. skipped _ _ _ (kept c h)))

-- ---- rows with certain values

-- whether some rows have the values is whether the values are among theirs
values_in_rows : (columns : List ℕ) (rows : TableRows) (values : List Value) → has_values columns rows values ≡ true → IsIn values (map (values_at columns) rows)
values_in_rows columns [] values h = cc
values_in_rows columns (row ∷ rows) values h = by (same_values values (values_at columns row)) refl h (values_in_rows columns rows values)
  where
    by : (b : Bool) → same_values values (values_at columns row) ≡ b → (b || has_values columns rows values) ≡ true
        → (has_values columns rows values ≡ true → IsIn values (map (values_at columns) rows)) → IsIn values (map (values_at columns) (row ∷ rows))
    by true e k more = inl (sym ((same_values_decides values (values_at columns row)).0 e))
    by false e k more = inr (more k)

or_true : (a b : Bool) → b ≡ true → (a || b) ≡ true
or_true true b h = refl
or_true false b h = h

rows_have_values : (columns : List ℕ) (rows : TableRows) (values : List Value) → IsIn values (map (values_at columns) rows) → has_values columns rows values ≡ true
rows_have_values columns [] values h = absurd h
rows_have_values columns (row ∷ rows) values (inl e) =
    let same : same_values values (values_at columns row) ≡ true = (same_values_decides values (values_at columns row)).1 (sym e) in
    rw same refl
rows_have_values columns (row ∷ rows) values (inr h) = or_true (same_values values (values_at columns row)) (has_values columns rows values)
    (rows_have_values columns rows values h)

-- ---- keys

-- the values of the rows that have no Null in the columns
abbrev whole : List ℕ → TableRows → List (List Value)
whole columns rows = filter (λ values. not (has_null values)) (map (values_at columns) rows)

-- the rows agree neither with one another nor with an earlier row
record Apart (columns : List ℕ) (earlier rows : TableRows) : Type 0 where
  alone : IsUnique columns rows
  fresh : (values : List Value) → IsIn values (whole columns rows) → IsIn values (map (values_at columns) earlier) → ⊥

in_longer : (columns : List ℕ) (earlier : TableRows) (row : RowValues) (values : List Value)
    → IsIn values (map (values_at columns) earlier) ⊎ IsIn values (values_at columns row ∷ [])
    → IsIn values (map (values_at columns) (earlier ++ row ∷ []))
in_longer columns earlier row values h = subst (IsIn values) (sym (map-append (values_at columns) earlier (row ∷ [])))
    (in_append values (map (values_at columns) earlier) (values_at columns row ∷ []) h)

of_longer : (columns : List ℕ) (earlier : TableRows) (row : RowValues) (values : List Value) → IsIn values (map (values_at columns) (earlier ++ row ∷ []))
    → IsIn values (map (values_at columns) earlier) ⊎ IsIn values (values_at columns row ∷ [])
of_longer columns earlier row values h = in_parts values (map (values_at columns) earlier) (values_at columns row ∷ [])
    (subst (IsIn values) (map-append (values_at columns) earlier (row ∷ [])) h)

apart_from : (columns : List ℕ) (earlier rows : TableRows) → first_break (repeats columns) earlier rows ≡ None → Apart columns earlier rows
apart_from columns earlier [] e = record { alone = tt; fresh = λ values h k. h }
apart_from columns earlier (row ∷ rows) e =
    by (has_null (values_at columns row)) refl (untrue _ _ _ e) (apart_from columns (earlier ++ row ∷ []) rows (skipped _ _ _ e))
  where
    by : (n : Bool) → has_null (values_at columns row) ≡ n → (not (has_null (values_at columns row)) && has_values columns earlier (values_at columns row)) ≡ false
        → Apart columns (earlier ++ row ∷ []) rows → Apart columns earlier (row ∷ rows)
    by true null quiet more = record {
      alone = rw null more.alone;
      fresh = λ values h k. more.fresh values (rw null at h) (in_longer columns earlier row values (inl k));
    }
    by false null quiet more =
        let new : has_values columns earlier (values_at columns row) ≡ false = rw null at quiet in record {
          alone = rw null (λ h. more.fresh (values_at columns row) h (in_longer columns earlier row (values_at columns row) (inr (inl refl))), more.alone);
          fresh = λ values h k. elim (rw null at h) [
            | inl same ↦ true≢false (sym (rows_have_values columns earlier (values_at columns row) (subst (λ v. IsIn v (map (values_at columns) earlier)) (sym same) k)) ∙ new)
            | inr later ↦ more.fresh values later (in_longer columns earlier row values (inl k))
          ];
        }

apart_to : (columns : List ℕ) (earlier rows : TableRows) → Apart columns earlier rows → first_break (repeats columns) earlier rows ≡ None
apart_to columns earlier [] a = refl
apart_to columns earlier (row ∷ rows) a = by (has_null (values_at columns row)) refl (apart_to columns (earlier ++ row ∷ []) rows)
  where
    quiet : (b : Bool) → has_values columns earlier (values_at columns row) ≡ b → has_null (values_at columns row) ≡ false → b ≡ false
    quiet true e null = absurd (a.fresh (values_at columns row) (rw null (inl refl)) (values_in_rows columns earlier (values_at columns row) e))
    quiet false e null = refl

    by : (n : Bool) → has_null (values_at columns row) ≡ n → (Apart columns (earlier ++ row ∷ []) rows → first_break (repeats columns) (earlier ++ row ∷ []) rows ≡ None)
        → first_break (repeats columns) earlier (row ∷ rows) ≡ None
    by true null more = rw null (more (record {
      alone = rw null at a.alone;
      fresh = λ values h k. elim (of_longer columns earlier row values k) [ inl old ↦ a.fresh values (rw null h) old | inr same ↦ not_whole values h same ];
    }))
      where
        not_whole : (values : List Value) → IsIn values (whole columns rows) → IsIn values (values_at columns row ∷ []) → ⊥
        not_whole values h (inl same) = true≢false (sym null ∙ (ap has_null same ∙ whole_is values (map (values_at columns) rows) h))
          where
            whole_is : (v : List Value) (vs : List (List Value)) → IsIn v (filter (λ w. not (has_null w)) vs) → has_null v ≡ false
            whole_is v [] k = absurd k
            whole_is v (w ∷ ws) k = go (has_null w) refl k (whole_is v ws)
              where
                go : (b : Bool) → has_null w ≡ b → IsIn v (cond (not b) (w ∷ filter (λ u. not (has_null u)) ws) (filter (λ u. not (has_null u)) ws))
                    → (IsIn v (filter (λ u. not (has_null u)) ws) → has_null v ≡ false) → has_null v ≡ false
                go true t k rest = rest k
                go false t (inl e) rest = ap has_null (sym e) ∙ t
                go false t (inr k) rest = rest k
        not_whole values h (inr none) = none
    by false null more =
        let pair : (IsIn (values_at columns row) (whole columns rows) → ⊥) × IsUnique columns rows = rw null at a.alone in
        let new : has_values columns earlier (values_at columns row) ≡ false = quiet _ refl null in
        rw (null, new) (more (record {
          alone = pair.1;
          fresh = λ values h k. elim (of_longer columns earlier row values k) [
            | inl old ↦ a.fresh values (rw null (inr h)) old
            | inr same ↦ elim same [ inl e ↦ pair.0 (subst (λ v. IsIn v (whole columns rows)) (sym e) h) | inr none ↦ none ]
          ];
        }))

-- ---- references

met_from : (instance : InstanceRows) (r : Reference) (earlier rows : TableRows) → first_break (dangles r.columns r.targets (rows_at instance r.table)) earlier rows ≡ None
    → (row : RowValues) → IsIn row rows → IsMet instance r row
met_from instance r earlier [] e row h = absurd h
met_from instance r earlier (first ∷ rows) e row (inr h) = met_from instance r (earlier ++ first ∷ []) rows (skipped _ _ _ e) row h
met_from instance r earlier (first ∷ rows) e row (inl same) = subst (IsMet instance r) same (by (has_null (values_at r.columns first)) refl (untrue _ _ _ e))
  where
    not_false : (b : Bool) → not b ≡ false → b ≡ true
    not_false true e = refl
    not_false false e = absurd (true≢false e)

    by : (n : Bool) → has_null (values_at r.columns first) ≡ n → (not n && not (has_values r.targets (rows_at instance r.table) (values_at r.columns first))) ≡ false
        → IsMet instance r first
    by true null quiet = inl null
    by false null quiet = inr (values_in_rows r.targets (rows_at instance r.table) (values_at r.columns first) (not_false _ quiet))

met_to : (instance : InstanceRows) (r : Reference) (earlier rows : TableRows) → ((row : RowValues) → IsIn row rows → IsMet instance r row)
    → first_break (dangles r.columns r.targets (rows_at instance r.table)) earlier rows ≡ None
met_to instance r earlier [] met = refl
met_to instance r earlier (row ∷ rows) met = rw (quiet (met row (inl refl))) (met_to instance r (earlier ++ row ∷ []) rows (λ other h. met other (inr h)))
  where
    and_not : (n b : Bool) → b ≡ true → (not n && not b) ≡ false
    and_not true b h = refl
    and_not false b h = ap not h

    quiet : IsMet instance r row → dangles r.columns r.targets (rows_at instance r.table) earlier row ≡ false
    quiet (inl null) = rw null refl
    quiet (inr h) = and_not (has_null (values_at r.columns row)) _ (rows_have_values r.targets (rows_at instance r.table) (values_at r.columns row) h)

-- ---- a table

-- the keys and the references of a table hold
pub record HoldIn (instance : InstanceRows) (table : Table) (rows : TableRows) : Type 0 where
  pub keys : (key : Key) → IsIn key table.keys → IsUnique key.columns rows
  pub references : (reference : Reference) → IsIn reference table.references → (row : RowValues) → IsIn row rows → IsMet instance reference row

pub holds_from : (instance : InstanceRows) (table : Table) (rows : TableRows) → rows_fault (constraints_of instance table) [] rows ≡ None → HoldIn instance table rows
holds_from instance table rows none =
    let kept = kept_from (constraints_of instance table) [] rows none in
    let keys = map key_constraint table.keys in
    let references = map (reference_constraint instance) table.references in record {
      keys = λ key h. (apart_from key.columns [] rows
          (kept (key_constraint key) (in_append (key_constraint key) keys references (inl (in_map key_constraint key table.keys h))))).alone;
      references = λ r h. met_from instance r [] rows
          (kept (reference_constraint instance r) (in_append (reference_constraint instance r) keys references
          (inr (in_map (reference_constraint instance) r table.references h))));
    }

pub holds_to : (instance : InstanceRows) (table : Table) (rows : TableRows) → HoldIn instance table rows → rows_fault (constraints_of instance table) [] rows ≡ None
holds_to instance table rows holds = kept_to (constraints_of instance table) [] rows
    (λ c h. by c (in_parts c (map key_constraint table.keys) (map (reference_constraint instance) table.references) h))
  where
    Quiet : Constraint → Type 0
    Quiet c = first_break c.breaks [] rows ≡ None

    by : (c : Constraint) → IsIn c (map key_constraint table.keys) ⊎ IsIn c (map (reference_constraint instance) table.references) → first_break c.breaks [] rows ≡ None
    by c (inl h) = let (key, there, same) = from_map key_constraint c table.keys h in
        subst Quiet same (apart_to key.columns [] rows (record { alone = holds.keys key there; fresh = λ values k none. none }))
    by c (inr h) = let (r, there, same) = from_map (reference_constraint instance) c table.references h in
        subst Quiet same (met_to instance r [] rows (holds.references r there))

-- what stands at a place that is there
pub get_or_any : {A : Type 0} (xs : List A) (k : ℕ) (d e : A) → k < length xs → get_or xs k d ≡ get_or xs k e
get_or_any [] k d e h = absurd (omega arith)
get_or_any (x ∷ xs) zero d e h = refl
get_or_any (x ∷ xs) (suc k) d e h = get_or_any xs k d e (omega arith)

-- ---- all tables, the first of which has its rows at the place

abbrev TablesKept : InstanceRows → ℕ → List Table → Type 0
TablesKept instance place tables =
    (k : ℕ) (d : Table) → k < length tables → rows_fault (constraints_of instance (get_or tables k d)) [] (rows_at instance (place + k)) ≡ None

faultless : (table : Table) (o : Option TableFault) (later : Option Refusal) → table_or table o later ≡ None → (o ≡ None) × (later ≡ None)
faultless table (Some fault) later e = cc
faultless table None later e = (refl, e)

pub tables_from : (instance : InstanceRows) (place : ℕ) (tables : List Table) → tables_refusal instance place tables ≡ None → TablesKept instance place tables
tables_from instance place [] e k d h = absurd (omega arith)
tables_from instance place (first ∷ rest) e zero d h =
    let here : place ≡ place + 0 = omega arith in
    subst (λ n. rows_fault (constraints_of instance first) [] (rows_at instance n) ≡ None) here (faultless first _ _ e).0
tables_from instance place (first ∷ rest) e (suc k) d h =
    let there : suc place + k ≡ place + suc k = omega arith in
    subst (λ n. rows_fault (constraints_of instance (get_or rest k d)) [] (rows_at instance n) ≡ None) there
    (tables_from instance (suc place) rest (faultless first _ _ e).1 k d (omega arith))

pub tables_to : (instance : InstanceRows) (place : ℕ) (tables : List Table) → TablesKept instance place tables → tables_refusal instance place tables ≡ None
tables_to instance place [] kept = refl
tables_to instance place (first ∷ rest) kept =
    let here : place + 0 ≡ place = omega arith in
    let none = subst (λ n. rows_fault (constraints_of instance first) [] (rows_at instance n) ≡ None) here (kept 0 first (omega arith)) in
    let later = tables_to instance (suc place) rest (λ k d h.
    let there : place + suc k ≡ suc place + k = omega arith in
    subst (λ n. rows_fault (constraints_of instance (get_or rest k d)) [] (rows_at instance n) ≡ None) there (kept (suc k) d (omega arith))) in
    ap (λ o. table_or first o (tables_refusal instance (suc place) rest)) none ∙ later
