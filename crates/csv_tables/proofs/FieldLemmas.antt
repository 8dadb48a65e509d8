-- Texts and dates in fields.
use Rattle.std.proofs.Common.{◌≡◌, ◌≤◌, ℕ, ℤ, Bool, true, false, List, length, Some, None, refl, ap, subst, IsUtf8, chars}
use Rattle.std.specs.Prelude.{option_and_then, if◌then◌else◌}
use Rattle.std.specs.Str.{is_utf8}
use Rattle.std.proofs.lemmas.Str.{length-le-encodes, encodes-chars, IsUtf8-from_is_utf8, is_utf8-from_IsUtf8}
use Rattle.pgq_base.specs.declared.date.Date.{Date as Day}
use Rattle.pgq_base.specs.declared.value.Value.TheVariants.{Text, Date}
use Rattle.civil_dates.specs.Texts.{IsDateText, is_date_text}
use Rattle.civil_dates.proofs.DateTexts.{date_text_tells}
use Rattle.day_texts.specs.Dates.{date_value}
use Rattle.day_texts.proofs.DateLemmas.{date_of_text}
use Rattle.csv_tables.specs.Fields.{date_written, text_of_bytes, text_written}

-- a text has at most as many characters as bytes
pub characters_within : (bs : List ℕ) → IsUtf8 bs → length (chars bs) ≤ length bs
characters_within bs h = subst (λ n. length (chars bs) ≤ n) (ap length (encodes-chars bs h)) (length-le-encodes (chars bs))

-- what is written as a text
pub of_text : (field bytes : List ℕ) → text_written field ≡ Some bytes → IsUtf8 bytes → option_and_then text_of_bytes (text_written field) ≡ Some (Text bytes)
of_text field bytes e h = rw (e, is_utf8-from_IsUtf8 bytes h) refl

no_text : (b : Bool) (bytes : List ℕ) → (b ≡ true → ⊥) → (if b then Some (Text bytes) else None) ≡ None
no_text true bytes h = absurd (h refl)
no_text false bytes h = refl

pub of_no_text : (field bytes : List ℕ) → text_written field ≡ Some bytes → (IsUtf8 bytes → ⊥) → option_and_then text_of_bytes (text_written field) ≡ None
of_no_text field bytes e h = rw e (no_text (is_utf8 bytes) bytes (λ t. h (IsUtf8-from_is_utf8 bytes t)))

-- what is written as a date
pub of_date : (field : List ℕ) (date : Day) → IsDateText field date.day → date_written field ≡ Some (Date date)
of_date field date h = rw ((date_text_tells field).1 (date.day, h)) (ap Some (date_of_text field date h))

no_date : (b : Bool) (field : List ℕ) → (b ≡ true → ⊥) → (if b then Some (date_value field) else None) ≡ None
no_date true field h = absurd (h refl)
no_date false field h = refl

pub of_no_date : (field : List ℕ) → ((number : ℤ) → IsDateText field number → ⊥) → date_written field ≡ None
of_no_date field none = no_date (is_date_text field) field (λ h. let found = (date_text_tells field).0 h in none found.0 found.1)
