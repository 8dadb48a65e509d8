-- Indexes: the places of a table's rows, by a code of the columns that are tied.
use Rattle.std.specs.Prelude.{◌≡◌, ℕ, suc, ◌==◌, ◌<◌, Bool, true, false, cond, List, [], ◌∷◌, ◌++◌, map, length, Option, Some, None, slice_get, nat_eq, nat_lt}
use Rattle.std.specs.Option.{option_map_or}
use Rattle.std.specs.HashMap.{HashMap, get}
use Rattle.std.specs.List.{fold, list_any, AllByRecursion}
use Rattle.std.specs.Hash as fed
use Rattle.std.specs.Hash.FoldHasher as folding
use Rattle.std.specs.declared.hash.FoldHasher.{FoldHasher}
use Rattle.pgq_base.specs.declared.value.Value.{Value}
use Rattle.pgq_base.specs.declared.value.Value.TheVariants as value
use Rattle.pgq_base.specs.Instances.{RowValues, TableRows, InstanceRows, rows_at}
use Rattle.row_eval.specs.declared.access.Tied.{Tied}
use Rattle.row_eval.specs.declared.access.Key.{Key}
use Rattle.row_eval.specs.declared.access.Access.{Access}
use Rattle.row_eval.specs.Access.{column_value}
use Rattle.row_eval.specs.declared.index.Groups.{Groups}
use Rattle.row_eval.specs.declared.index.Index.{Index}
use Rattle.row_eval.specs.Slots.{Stack, slot_value, lent_rows}

-- what a value feeds a hasher
abbrev pub writes : Value → List (List ℕ)
writes value.Null = []
writes (value.Truth b) = fed.bool b
writes (value.Number n) = fed.i64 n
writes (value.Decimal d) = fed.i64 d.unscaled ++ fed.u8 d.scale
writes (value.Date d) = fed.i32 d.day
writes (value.Text t) = t ∷ []

abbrev pub is_null : Value → Bool
is_null value.Null = true
is_null v = false

-- the code of a hasher that is fed the values; none where one is Null
abbrev pub code_from : FoldHasher → List Value → Option ℕ
code_from hasher [] = Some (folding.finish hasher)
code_from hasher (v ∷ vs) = cond (is_null v) None (code_from (fold folding.write hasher (writes v)) vs)

-- a number that equal lists of values share
abbrev pub code_of : List Value → Option ℕ
code_of values = code_from folding.initial values

abbrev pub row_code : List Tied → RowValues → Option ℕ
row_code tied row = code_of (map (λ (t : Tied). column_value row t.own) tied)

abbrev pub stack_code : List Tied → Stack → Option ℕ
stack_code tied stack = code_of (map (λ (t : Tied). slot_value stack t.other) tied)

abbrev pub is_code : ℕ → Option ℕ → Bool
is_code code None = false
is_code code (Some other) = other == code

-- the places under a code
abbrev pub group_in : {S : Type 0} → HashMap ℕ (List ℕ) S → ℕ → List ℕ
group_in groups code = option_map_or (λ places. places) (get nat_eq groups code) []

-- the places of the rows that pass the test, the first row at a given place
abbrev pub places_from : (RowValues → Bool) → ℕ → TableRows → List ℕ
places_from test at [] = []
places_from test at (row ∷ rows) = cond (test row) (at ∷ places_from test (suc at) rows) (places_from test (suc at) rows)

-- under each code the places of the rows that have it, in order
abbrev pub IsGroupsOf : List Tied → TableRows → Groups → Type 0
IsGroupsOf tied rows groups = (q : ℕ) → group_in groups.places q ≡ places_from (λ row. is_code q (row_code tied row)) 0 rows

-- the groups of each key
abbrev pub AreGroupsOf : List Key → TableRows → List Groups → Type 0
AreGroupsOf [] rows [] = Unit {0}
AreGroupsOf (key ∷ keys) rows (groups ∷ others) = IsGroupsOf key.tied rows groups × AreGroupsOf keys rows others
AreGroupsOf keys rows groups = ⊥

-- the index has the table's rows, and groups for each key
pub record IsIndexOf (keys : List Key) (rows : TableRows) (index : Index) : Type 0 where
  pub lent : lent_rows index.rows.items ≡ rows
  pub groups : AreGroupsOf keys rows index.groups.items

-- there is a code, and it is the row's
abbrev pub shares_code : Option ℕ → Option ℕ → Bool
shares_code None other = false
shares_code (Some code) other = is_code code other

-- by one of the keys the row has the code of the rows before it
abbrev pub is_candidate : List Key → Stack → RowValues → Bool
is_candidate keys stack row = list_any (λ (k : Key). shares_code (stack_code k.tied stack) (row_code k.tied row)) keys

-- Two ascending lists as one, without repeats.
abbrev pub put_before : ℕ → (List ℕ → List ℕ) → List ℕ → List ℕ
put_before x rest [] = x ∷ rest []
put_before x rest (y ∷ ys) = cond (nat_lt x y) (x ∷ rest (y ∷ ys)) (cond (nat_lt y x) (y ∷ put_before x rest ys) (put_before x rest ys))

abbrev pub merge : List ℕ → List ℕ → List ℕ
merge [] = λ ys. ys
merge (x ∷ xs) = put_before x (merge xs)

-- the access's index is that of its table, which is there
pub record IsServed (tables : InstanceRows) (indexes : List Index) (access : Access) : Type 0 where
  pub table : access.table < length tables
  pub index : Index
  pub at : slice_get indexes access.index ≡ Some index
  pub right : IsIndexOf access.keys (rows_at tables access.table) index

-- each access of a stage is served
abbrev pub AllServed : InstanceRows → List Index → List Access → Type 0
AllServed tables indexes all = AllByRecursion (IsServed tables indexes) all
