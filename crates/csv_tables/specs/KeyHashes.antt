-- Keys of rows in a set: which are equal, and what they feed a hasher.
use Rattle.std.specs.Prelude.{◌≡◌, List, Bool, IsTrue, [], ◌∷◌, ◌++◌, flat_map}
use Rattle.std.specs.List.{list_any}
use Rattle.std.specs.Cmp.{IsTotalOrder, IsEquivalence}
use Rattle.std.specs.HashSet.{HashSet}
use Rattle.std.specs.Hash.{HashWrites, on_Alike, same_Alike}
use Rattle.std.specs.Hash as fed
use Rattle.std.proofs.lemmas.Cmp.{lists_total, on_total, eq_by_cmp_equiv}
use Rattle.pgq_base.specs.declared.value.Value.{Value}
use Rattle.pgq_base.specs.declared.value.Value.TheVariants as value
use Rattle.pgq_base.specs.Instances.{same_values, values_at}
use Rattle.csv_tables.specs.declared.keys.KeyOf.{KeyOf}
use Rattle.pgq_base.proofs.TotalOrder.{value_order_total}
use Rattle.pgq_base.proofs.ValueOrder.{same_values_decides}
use Rattle.csv_tables.specs.Writing.{row_order}

-- the values of the row in the columns
abbrev pub values_in : KeyOf → List Value
values_in key = values_at key.columns.now key.row.now

-- keys are equal where their values are the same
abbrev pub key_equal : KeyOf → KeyOf → Bool
key_equal a b = same_values (values_in a) (values_in b)

-- what a value feeds a hasher
abbrev pub writes : Value → HashWrites
writes value.Null = []
writes (value.Truth b) = fed.bool b
writes (value.Number n) = fed.i64 n
writes (value.Decimal d) = fed.i64 d.unscaled ++ fed.u8 d.scale
writes (value.Date d) = fed.i32 d.day
writes (value.Text t) = t ∷ []

abbrev pub key_writes : KeyOf → HashWrites
key_writes key = flat_map writes (values_in key)

pub key_alike : (a b : KeyOf) → IsTrue (key_equal a b) → key_writes a ≡ key_writes b
key_alike = (on_Alike values_in (same_Alike (flat_map writes) same_values_decides)).fed

pub row_total : IsTotalOrder row_order
row_total = lists_total value_order_total

pub key_equivalence : IsEquivalence key_equal
key_equivalence = eq_by_cmp_equiv (on_total values_in row_total)

-- whether a key with these values is in the set
abbrev pub holds : {S : Type 0} → HashSet KeyOf S → List Value → Bool
holds set values = list_any (λ key. same_values values (values_in key)) set.keys
