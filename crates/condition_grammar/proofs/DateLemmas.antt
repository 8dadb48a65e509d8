-- The date that a text names is the one whose text it is.
use Rattle.std.proofs.Common.{◌≡◌, ℕ, ◌≤◌, refl, sym, ap, ◌∙◌, subst, List, take, drop, ℤ, pos, Bool, true, false, arith}
use mathlib.Core.Bool.{Bool-set}
use Rattle.jiff_core.specs.Calendar.{days_from_civil}
use Rattle.jiff_core.proofs.CalendarLemmas.{days_in_month_bounds}
use Rattle.pgq_base.specs.Numerals.{number_value, is_day}
use Rattle.pgq_base.specs.declared.date.Date.{Date}
use Rattle.pgq_base.specs.declared.value.Value.TheVariants as value
use Rattle.civil_dates.specs.Texts.{IsDateText}
use Rattle.civil_dates.proofs.DateTexts.{two_value, four_value}
use Rattle.condition_grammar.specs.Dates.{day_named, date_if, date_value}

pub day_of_text : (text : List ℕ) (number : ℤ) → IsDateText text number → day_named text ≡ number
day_of_text text number h =
    let year : number_value (take 4 text) ≡ h.year = ap (λ l. number_value (take 4 l)) h.written ∙ four_value h.year h.civil.year_in.1 in
    let month : number_value (take 2 (drop 5 text)) ≡ h.month = ap (λ l. number_value (take 2 (drop 5 l))) h.written ∙ two_value h.month (omega (arith, h.civil.month_in.1)) in
    let day : number_value (drop 8 text) ≡ h.day = ap (λ l. number_value (drop 8 l)) h.written
    ∙ two_value h.day (omega (arith, h.civil.day_in.1, days_in_month_bounds (pos h.year) h.month)) in
    ap (λ y. days_from_civil (pos y) (number_value (take 2 (drop 5 text))) (number_value (drop 8 text))) year
    ∙ ap (λ m. days_from_civil (pos h.year) m (number_value (drop 8 text))) month ∙ ap (λ d. days_from_civil (pos h.year) h.month d) day ∙ sym h.counted

tested : (date : Date) (b : Bool) (e : is_day date.day ≡ b) → b ≡ true → date_if date.day b e ≡ value.Date date
tested date true e h = ap value.Date (λ i. record { day = date.day; civil = Bool-set (is_day date.day) true e date.civil i })
tested date false e h = absurd cc

pub date_of_text : (text : List ℕ) (date : Date) → IsDateText text date.day → date_value text ≡ value.Date date
unfolding date_value
date_of_text text date h =
    ap (λ day. date_if day (is_day day) refl) (day_of_text text date.day h) ∙ tested date (is_day date.day) refl date.civil
