-- The test for `IsWithin`: whether a value lies in a column's type.
use Rattle.std.specs.Prelude.{ℕ, ◌*◌, ◌-◌, ◌^◌, ◌&&◌, nat_le, nat_lt, Bool, true, false, ℤ, pos, negsuc, int_le, unsigned_abs, length, chars}
use Rattle.pgq_base.specs.declared.value.Value.{Value}
use Rattle.pgq_base.specs.declared.value.Value.TheVariants as value
use Rattle.graph_ast.specs.declared.catalog.ColumnType.{ColumnType}
use Rattle.graph_ast.specs.declared.catalog.ColumnType.TheVariants as type
use Rattle.graph_ast.specs.declared.catalog.Digits.{Digits}

-- from the first number up to the second
abbrev pub is_between : ℤ → ℤ → ℤ → Bool
is_between least most n = int_le least n && int_le n most

-- an unscaled number over 10 to a scale, as a number of at most so many digits, so many of them behind the point
abbrev pub has_digits : Digits → ℤ → ℕ → Bool
has_digits digits unscaled scale =
    nat_le scale digits.scale && nat_lt (unsigned_abs unscaled * 10 ^ (digits.scale - scale)) (10 ^ digits.precision)

abbrev pub is_within : ColumnType → Value → Bool
is_within kind value.Null = true
is_within type.SmallInt (value.Number n) = is_between (negsuc 32767) (pos 32767) n
is_within type.Integer (value.Number n) = is_between (negsuc 2147483647) (pos 2147483647) n
is_within type.BigInt (value.Number n) = is_between (negsuc 9223372036854775807) (pos 9223372036854775807) n
is_within (type.Decimal digits) (value.Number n) = has_digits digits n 0
is_within (type.Decimal digits) (value.Decimal d) = has_digits digits d.unscaled d.scale
is_within (type.VarChar most) (value.Text t) = nat_le (length (chars t)) most
is_within type.Boolean (value.Truth b) = true
is_within type.Date (value.Date d) = true
is_within kind v = false
