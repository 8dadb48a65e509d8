-- The text of a day (ISO 8601, the extended format of a calendar date), by the Gregorian calendar, day after day.
use Rattle.std.specs.Prelude.{ℕ, zero, suc, ◌+◌, nat_lt, cond, List, ℤ, pos, ◌+ℤ◌, unsigned_abs}
use Rattle.jiff_core.specs.Calendar.{days_in_month}
use Rattle.civil_dates.specs.Texts.{date_text}

pub record Civil : Type 0 where
  pub year : ℕ
  pub month : ℕ
  pub day : ℕ

abbrev pub civil : ℕ → ℕ → ℕ → Civil
civil year month day = record { year = year; month = month; day = day }

-- the day after it: the next one of its month, the first of the next month, or 1 January of the next year
abbrev pub next : Civil → Civil
next c = cond (nat_lt c.day (days_in_month (pos c.year) c.month)) (civil c.year c.month (c.day + 1))
    (cond (nat_lt c.month 12) (civil c.year (c.month + 1) 1) (civil (c.year + 1) 1 1))

-- the day that is so many days after 1 January of the year 1
unfoldable pub civil_after : ℕ → Civil
civil_after zero = civil 1 1 1
civil_after (suc n) = next (civil_after n)

abbrev pub civil_text : Civil → List ℕ
civil_text c = date_text c.year c.month c.day

-- the text of the day with that number, where 1 January 1970 is 0; 1 January of the year 1 is 719162 days before it
unfoldable pub day_text : ℤ → List ℕ
day_text day = civil_text (civil_after (unsigned_abs (day +ℤ pos 719162)))
