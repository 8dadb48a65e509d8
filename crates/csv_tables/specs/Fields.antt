-- What a field of a table's text stands for in a column, and how a value is written in a field. The conventions are this project's own.
use Rattle.std.specs.Prelude.{ℕ, ◌+◌, ◌-◌, ◌==◌, ◌&&◌, nat_lt, if◌then◌else◌, Bool, true, false, List, [], ◌∷◌, length, take, drop, position, slice_index, Option, Some, None}
use Rattle.std.specs.Prelude.{option_map, option_and_then, codes, bytes_eq}
use Rattle.std.specs.Char.{is_ascii_digit}
use Rattle.std.specs.List.{list_all, suffix_len}
use Rattle.std.specs.Str.{is_utf8, str_to_ascii_lowercase}
use Rattle.pgq_base.specs.declared.value.Value.{Value}
use Rattle.pgq_base.specs.declared.value.Value.TheVariants as value
use Rattle.pgq_base.specs.DecimalTexts.{number_text, decimal_text}
use Rattle.pgq_base.specs.Numerals.{is_zero, number_value, size_of}
use Rattle.pgq_base.specs.Signs.{signed}
use Rattle.pgq_base.specs.Sizes.{size_value}
use Rattle.civil_dates.specs.Texts.{is_date_text}
use Rattle.day_texts.specs.Dates.{date_value}
use Rattle.day_texts.specs.DayTexts.{day_text}
use Rattle.graph_ast.specs.declared.catalog.ColumnType.{ColumnType}
use Rattle.graph_ast.specs.declared.catalog.ColumnType.TheVariants as type
use Rattle.csv_tables.specs.Records.{Field}
use Rattle.csv_tables.specs.Within.{is_within}

abbrev pub backslash : ℕ
backslash = 92

-- the field of Null: a backslash and a capital N
abbrev pub null_field : Field
null_field = codes "\\N"

-- ---- numbers and decimals

-- one or more decimal digits
abbrev pub is_numeral : List ℕ → Bool
is_numeral bytes = nat_lt 0 (length bytes) && list_all is_ascii_digit bytes

-- a minus may stand before a number
abbrev pub has_minus : Field → Bool
has_minus field = slice_index field 0 == 45

abbrev pub behind_sign : Field → List ℕ
behind_sign field = if has_minus field then drop 1 field else field

abbrev pub if_within : ColumnType → Value → Option Value
if_within kind v = if is_within kind v then Some v else None

-- an optional minus, and then one or more digits; of more than 64 bits no value is made, since no column has so many
abbrev pub number_written : Field → Option Value
number_written field =
    if is_numeral (behind_sign field) then if_within type.BigInt (value.Number (signed (has_minus field) (number_value (behind_sign field)))) else None

abbrev pub is_point : ℕ → Bool
is_point byte = byte == 46

-- the digits up to the last one that is not 0
abbrev pub without_last_zeros : List ℕ → List ℕ
without_last_zeros digits = take (length digits - suffix_len is_zero digits) digits

-- the value of digits before and behind a point. Zeros at the front and, behind the point, at the end count for nothing; of more than 18
-- other digits no value is made, since no column has so many
abbrev pub value_of_digits : Bool → List ℕ → List ℕ → Option Value
value_of_digits negative whole fraction = option_map (size_value negative) (size_of whole (without_last_zeros fraction))

-- one or more digits; or one or more digits, a point, which stands at the place, and one or more digits
abbrev pub size_written : Bool → List ℕ → Option ℕ → Option Value
size_written negative bytes None = if is_numeral bytes then value_of_digits negative bytes [] else None
size_written negative bytes (Some place) =
    if is_numeral (take place bytes) && is_numeral (drop (place + 1) bytes) then value_of_digits negative (take place bytes) (drop (place + 1) bytes)
    else None

-- an optional minus, one or more digits, and optionally a point and one or more digits
abbrev pub decimal_written : Field → Option Value
decimal_written field = size_written (has_minus field) (behind_sign field) (position is_point (behind_sign field))

-- ---- other values

-- a text that begins with a backslash is written with one more
abbrev pub text_written : Field → Option (List ℕ)
text_written field =
    if slice_index field 0 == backslash then (if slice_index field 1 == backslash then Some (drop 1 field) else None)
    else Some field

-- a text is UTF-8
abbrev pub text_of_bytes : List ℕ → Option Value
text_of_bytes bytes = if is_utf8 bytes then Some (value.Text bytes) else None

-- `true` or `false`, in letters of either case
abbrev pub truth_written : Field → Option Value
truth_written field =
    if bytes_eq (str_to_ascii_lowercase field) (codes "true") then Some (value.Truth true)
    else if bytes_eq (str_to_ascii_lowercase field) (codes "false") then Some (value.Truth false)
    else None

-- the ten bytes of a date
abbrev pub date_written : Field → Option Value
date_written field = if is_date_text field then Some (date_value field) else None

-- ---- fields

-- Null where the field is empty, else what it is read as
abbrev pub empty_or : (Field → Option Value) → Field → Option Value
empty_or read [] = Some value.Null
empty_or read (b ∷ bs) = read (b ∷ bs)

-- what a field is read as in a column of this type
abbrev pub written : ColumnType → Field → Option Value
written type.SmallInt field = empty_or number_written field
written type.Integer field = empty_or number_written field
written type.BigInt field = empty_or number_written field
written (type.VarChar most) field = option_and_then text_of_bytes (text_written field)
written type.Boolean field = empty_or truth_written field
written (type.Decimal digits) field = empty_or decimal_written field
written type.Date field = empty_or date_written field

-- the value of a field in a column of this type, if it is one
abbrev pub field_value : ColumnType → Field → Option Value
field_value kind field =
    if bytes_eq field null_field then Some value.Null else option_and_then (if_within kind) (written kind field)

-- the field of a value
abbrev pub field_of : Value → Field
field_of value.Null = null_field
field_of (value.Truth b) = if b then codes "true" else codes "false"
field_of (value.Number n) = number_text n
field_of (value.Decimal d) = decimal_text d
field_of (value.Date d) = day_text d.day
field_of (value.Text t) = if slice_index t 0 == backslash then backslash ∷ t else t
