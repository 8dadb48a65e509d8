-- The text of a day names that day.
use Rattle.std.proofs.Common.{◌≡◌, ℕ, zero, suc, ◌+◌, ◌/◌, ◌%◌, ◌<◌, ◌≤◌, Bool, true, false, nat_lt, nat_le, cond, ◌&&◌, List, [], ◌∷◌, length, refl, sym, ap, ◌∙◌, arith, ℤ, pos}
use Rattle.std.proofs.Common.{negsuc, neg_ℤ, unsigned_abs, int_le, ◌+ℤ◌, ◌≤ℤ◌, ◌⊎◌, inl, inr}
use Rattle.std.proofs.lemmas.Bool.{cases_order}
use Rattle.std.proofs.lemmas.Bool.Decides.{nat_tests}
use Rattle.std.proofs.lemmas.Str.{IsUtf8-from_ascii, is_utf8-from_IsUtf8}
use Rattle.std.proofs.lemmas.Float.{T_from_true}
use Rattle.std.specs.Int.Signed.{le_z_yes}
use Rattle.std.specs.Str.{is_utf8, IsAscii}
use Rattle.jiff_core.specs.Calendar.{day_count, days_from_civil, days_in_month, IsCivilDate}
use Rattle.jiff_core.proofs.SignedLemmas.{signed_arith}
use Rattle.jiff_core.proofs.CalendarLemmas.{days_from_civil-day_count, day_count-lt_year, days_in_month_bounds}
use Rattle.jiff_core.proofs.DateLemmas.{days_from_civil-day, days_from_civil-next_month, days_from_civil-next_year, days_from_civil-max}
use Rattle.jiff_core.proofs.MarchLemmas.{day_count-early}
use Rattle.pgq_base.specs.declared.date.Date.{Date}
use Rattle.civil_dates.specs.Texts.{IsDateText, date_text}
use Rattle.civil_dates.proofs.DateTexts.{day_least}
use Rattle.sql_algebra.specs.DayTexts.{Civil, civil, next, civil_after, civil_text, day_text}

-- a day of the calendar, so many days after the first
pub record Counts (n : ℕ) (c : Civil) : Type 0 where
  pub year : 1 ≤ c.year
  pub month : (1 ≤ c.month) × (c.month ≤ 12)
  pub day : (1 ≤ c.day) × (c.day ≤ days_in_month (pos c.year) c.month)
  pub number : days_from_civil (pos c.year) c.month c.day +ℤ pos 719162 ≡ pos n

first : Counts 0 (civil 1 1 1)
first = record {
  year = omega arith;
  month = (omega arith, omega arith);
  day = (omega arith, omega arith);
  number = let e = day_count-early (pos 1) 10000 1 1 refl (omega arith) (omega arith) (omega arith) in omega (arith, signed_arith, e, days_from_civil-day_count (pos 1) 1 1);
}

within_month : (n : ℕ) (c : Civil) → Counts n c → c.day < days_in_month (pos c.year) c.month → Counts (suc n) (civil c.year c.month (c.day + 1))
within_month n c h less = record {
  year = h.year;
  month = h.month;
  day = (omega arith, omega arith);
  number = omega (arith, signed_arith, h.number, days_from_civil-day (pos c.year) c.month c.day (c.day + 1) h.day.0 (omega arith));
}

next_month : (n : ℕ) (c : Civil) → Counts n c → c.day ≡ days_in_month (pos c.year) c.month → c.month < 12 → Counts (suc n) (civil c.year (c.month + 1) 1)
next_month n c h last less = record {
  year = h.year;
  month = (omega arith, omega arith);
  day = (omega arith, omega (arith, days_in_month_bounds (pos c.year) (c.month + 1)));
  number = omega (arith, signed_arith, h.number, days_from_civil-next_month (pos c.year) c.month c.day h.month.0 last);
}

next_year : (n : ℕ) (c : Civil) → Counts n c → c.day ≡ days_in_month (pos c.year) c.month → c.month ≡ 12 → Counts (suc n) (civil (c.year + 1) 1 1)
next_year n c h last december =
    let thirty_one : c.day ≡ 31 = last ∙ ap (λ m. days_in_month (pos c.year) m) december in
    let number : days_from_civil (pos c.year) 12 31 +ℤ pos 719162 ≡ pos n = ap (λ d. days_from_civil (pos c.year) 12 d +ℤ pos 719162) (sym thirty_one)
    ∙ ap (λ m. days_from_civil (pos c.year) m c.day +ℤ pos 719162) (sym december) ∙ h.number in
    record {
      year = omega arith;
      month = (omega arith, omega arith);
      day = (omega arith, omega (arith, days_in_month_bounds (pos (c.year + 1)) 1));
      number = omega (arith, signed_arith, number, days_from_civil-next_year (pos c.year) (pos (c.year + 1)) (omega (arith, signed_arith)) (omega (arith, signed_arith)));
    }

next_counts : (n : ℕ) (c : Civil) → Counts n c → Counts (suc n) (next c)
next_counts n c h = by (nat_lt c.day (days_in_month (pos c.year) c.month)) refl
  where
    at_end : c.day ≡ days_in_month (pos c.year) c.month → (b : Bool) → nat_lt c.month 12 ≡ b → Counts (suc n) (cond b (civil c.year (c.month + 1) 1) (civil (c.year + 1) 1 1))
    at_end last true e = let less : c.month < 12 = grind (arith, nat_tests) in next_month n c h last less
    at_end last false e = let most : 12 ≤ c.month = grind (arith, nat_tests) in next_year n c h last (omega (arith, h.month.1))

    by : (b : Bool) → nat_lt c.day (days_in_month (pos c.year) c.month) ≡ b
        → Counts (suc n) (cond b (civil c.year c.month (c.day + 1)) (cond (nat_lt c.month 12) (civil c.year (c.month + 1) 1) (civil (c.year + 1) 1 1)))
    by true e = let less : c.day < days_in_month (pos c.year) c.month = grind (arith, nat_tests) in within_month n c h less
    by false e = let most : days_in_month (pos c.year) c.month ≤ c.day = grind (arith, nat_tests) in at_end (omega (arith, h.day.1)) (nat_lt c.month 12) refl

counts : (n : ℕ) → Counts n (civil_after n)
unfolding civil_after
counts zero = first
counts (suc n) = next_counts n (civil_after n) (counts n)

last_year : (n : ℕ) (c : Civil) → Counts n c → n ≤ 3652058 → c.year ≤ 9999
last_year n c h most = by (cases_order 9999 c.year)
  where
    by : (9999 ≡ c.year) ⊎ ((9999 < c.year) ⊎ (c.year < 9999)) → c.year ≤ 9999
    by (inl e) = omega arith
    by (inr (inr e)) = omega arith
    by (inr (inl e)) =
        let valid : IsCivilDate (pos 9999) 12 31 = ((omega (arith, signed_arith), omega (arith, signed_arith)), (omega arith, omega arith), (omega arith, omega arith)) in
        let later : day_count (pos 9999) 12 31 < day_count (pos c.year) c.month c.day = day_count-lt_year (pos 9999) 12 31 (pos c.year) c.month c.day valid h.day.0
        (omega (arith, signed_arith)) in
        absurd (omega (arith, signed_arith, later, h.number, days_from_civil-max, days_from_civil-day_count (pos 9999) 12 31, days_from_civil-day_count (pos c.year) c.month c.day))

right : (a b : Bool) → (a && b) ≡ true → b ≡ true
right true b h = h
right false b h = absurd cc

day_most : (date : Date) → date.day ≤ℤ pos 2932896
day_most date = le_z_yes (T_from_true (int_le date.day (pos 2932896)) (right (int_le (neg_ℤ (pos 719162)) date.day) (int_le date.day (pos 2932896)) date.civil))

whole : (z : ℤ) → pos 0 ≤ℤ z → pos (unsigned_abs z) ≡ z
whole (pos n) h = refl
whole (negsuc n) h = absurd (omega (arith, signed_arith, h))

pub day_text_names : (date : Date) → IsDateText (day_text date.day) date.day
unfolding day_text
day_text_names date =
    let n = unsigned_abs (date.day +ℤ pos 719162) in
    let number : pos n ≡ date.day +ℤ pos 719162 = whole (date.day +ℤ pos 719162) (omega (arith, signed_arith, day_least date)) in
    let most : n ≤ 3652058 = omega (arith, signed_arith, number, day_most date) in
    let c = civil_after n in
    let h = counts n in
    record {
      year = c.year;
      month = c.month;
      day = c.day;
      civil = record { year_in = (h.year, last_year n c h most); month_in = h.month; day_in = h.day };
      written = refl;
      counted = omega (arith, signed_arith, number, h.number);
    }

-- ---- its bytes

record Ascii (bytes : List ℕ) : Type 0 where
  are : IsAscii bytes

no_bytes : Ascii []
no_bytes = record { are = λ i. omega arith }

one_byte : {b : ℕ} {bs : List ℕ} → b < 128 → Ascii bs → Ascii (b ∷ bs)
one_byte h k = record { are = elim [ zero ↦ h | suc i ↦ k.are i ] }

digit_small : (n : ℕ) → 48 + n % 10 < 128
digit_small n = omega arith

ascii : (y m d : ℕ) → Ascii (date_text y m d)
ascii y m d =
    one_byte (digit_small (y / 100 / 10)) (one_byte (digit_small (y / 100)) (one_byte (digit_small (y / 10)) (one_byte (digit_small y) (one_byte (omega arith)
    (one_byte (digit_small (m / 10)) (one_byte (digit_small m) (one_byte (omega arith) (one_byte (digit_small (d / 10)) (one_byte (digit_small d) no_bytes)))))))))

-- it is short enough for a literal
pub day_text_fits : (day : ℤ) → (nat_le (length (day_text day)) 1024 && is_utf8 (day_text day)) ≡ true
unfolding day_text
day_text_fits day = let c = civil_after (unsigned_abs (day +ℤ pos 719162)) in is_utf8-from_IsUtf8 (civil_text c) (IsUtf8-from_ascii (civil_text c) (ascii c.year c.month c.day).are)
