-- The date that a text names.
use Rattle.std.specs.Prelude.{◌≡◌, List, ℕ, take, drop, ℤ, pos, Bool, true, false, refl}
use Rattle.jiff_core.specs.Calendar.{days_from_civil}
use Rattle.pgq_base.specs.Numerals.{number_value, is_day}
use Rattle.pgq_base.specs.declared.value.Value.{Value}
use Rattle.pgq_base.specs.declared.value.Value.TheVariants.{Null, Date}

-- the number of the day that the ten bytes YYYY-MM-DD name, where 1 January 1970 is 0
abbrev pub day_named : List ℕ → ℤ
day_named text = days_from_civil (pos (number_value (take 4 text))) (number_value (take 2 (drop 5 text))) (number_value (drop 8 text))

-- the date of that day, where it is one
abbrev pub date_if : (day : ℤ) (b : Bool) → is_day day ≡ b → Value
date_if day true e = Date (record { day = day; civil = e })
date_if day false e = Null

unfoldable pub date_value : List ℕ → Value
date_value text = date_if (day_named text) (is_day (day_named text)) refl
