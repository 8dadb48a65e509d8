-- The content of a text that is UTF-8 with its quotes doubled is UTF-8.
use Rattle.std.proofs.Common.{◌≡◌, ℕ, zero, suc, ◌+◌, ◌<◌, ◌≤◌, ◌==◌, Bool, true, false, if◌then◌else◌, List, [], ◌∷◌, ◌++◌, append_assoc, length, take, drop, get_or, refl, sym}
use Rattle.std.proofs.Common.{subst, arith}
use Rattle.std.specs.Str.{IsUtf8, is_utf8}
use Rattle.std.specs.Str.Lossy.{valid_len_up_to, utf8_valid_len}
use Rattle.std.proofs.Math.Seq.{take-append_seam, drop-append-add, take-length}
use Rattle.std.proofs.Math.Utf8.{low_scalar}
use Rattle.std.proofs.lemmas.Bool.Decides.{Decides-eqb}
use Rattle.std.proofs.lemmas.List.{length-append}
use Rattle.std.proofs.lemmas.Str.{IsUtf8-nil, IsUtf8-append, IsUtf8-take, IsUtf8-drop, IsUtf8-encode, encode_ascii, IsUtf8-from_is_utf8, is_utf8-from_IsUtf8}
use Rattle.std.proofs.lemmas.Str.{IsCharBoundary-before_ascii, IsCharBoundary-after_ascii}
use Rattle.sql_lexer.specs.Pieces.{doubled}

-- ---- the longest front is the whole

up_to_all : (bs : List ℕ) (n m : ℕ) → n ≤ m → valid_len_up_to bs n ≡ suc m → ⊥
up_to_all bs zero m le h = cc
up_to_all bs (suc n) m le h = by (is_utf8 (take (suc n) bs)) (up_to_all bs n m (omega (arith, le))) h
  where
    by : (b : Bool) → (valid_len_up_to bs n ≡ suc m → ⊥) → (if b then suc n else valid_len_up_to bs n) ≡ suc m → ⊥
    by true shorter e = absurd (omega (arith, e, le))
    by false shorter e = shorter e

up_to_is : (bs : List ℕ) (n : ℕ) → valid_len_up_to bs n ≡ n → is_utf8 (take n bs) ≡ true
up_to_is bs zero h = is_utf8-from_IsUtf8 [] IsUtf8-nil
up_to_is bs (suc n) h = by (is_utf8 (take (suc n) bs)) refl h
  where
    by : (b : Bool) → is_utf8 (take (suc n) bs) ≡ b → (if b then suc n else valid_len_up_to bs n) ≡ suc n → is_utf8 (take (suc n) bs) ≡ true
    by true e k = e
    by false e k = absurd (up_to_all bs n n (omega arith) k)

whole_utf8 : (bs : List ℕ) → utf8_valid_len bs ≡ length bs → IsUtf8 bs
unfolding utf8_valid_len
whole_utf8 bs h = subst IsUtf8 (take-length bs) (IsUtf8-from_is_utf8 (take (length bs) bs) (up_to_is bs (length bs) h))

-- ---- a text cut at a byte of ASCII

at_seam : (front after : List ℕ) (q : ℕ) → get_or (front ++ q ∷ after) (length front) 0 ≡ q
at_seam [] after q = refl
at_seam (b ∷ front) after q = at_seam front after q

within_seam : (front after : List ℕ) (q : ℕ) → length front < length (front ++ q ∷ after)
within_seam front after q = let both : length (front ++ q ∷ after) ≡ length front + suc (length after) = length-append front (q ∷ after) in omega (arith, both)

small_at : (front after : List ℕ) (q : ℕ) → q < 128 → get_or (front ++ q ∷ after) (length front) 0 < 128
small_at front after q small = subst (λ n. n < 128) (sym (at_seam front after q)) small

pub before_ascii : (front after : List ℕ) (q : ℕ) → q < 128 → IsUtf8 (front ++ q ∷ after) → IsUtf8 front
before_ascii front after q small h =
    let bytes : List ℕ = front ++ q ∷ after in
    subst IsUtf8 (take-append_seam front (q ∷ after))
    (IsUtf8-take bytes (length front) h (IsCharBoundary-before_ascii bytes (length front) (within_seam front after q) (small_at front after q small)))

behind_seam : (front after : List ℕ) (q : ℕ) → drop (length front + 1) (front ++ q ∷ after) ≡ after
behind_seam front after q = drop-append-add front (q ∷ after) 1

pub behind_ascii : (front after : List ℕ) (q : ℕ) → q < 128 → IsUtf8 (front ++ q ∷ after) → IsUtf8 after
behind_ascii front after q small h =
    let bytes : List ℕ = front ++ q ∷ after in
    subst IsUtf8 (behind_seam front after q)
    (IsUtf8-drop bytes (length front + 1) h (IsCharBoundary-after_ascii bytes (length front) h (within_seam front after q) (small_at front after q small)))

one_utf8 : (q : ℕ) → q < 128 → IsUtf8 (q ∷ [])
one_utf8 q small = subst IsUtf8 (encode_ascii q small) (IsUtf8-encode q (low_scalar q (omega (arith, small))))

-- ---- quotes

same : (b q : ℕ) → (b == q) ≡ true → b ≡ q
same b q h = (Decides-eqb b q).0 h

-- behind a front without quotes
undoubled : (q : ℕ) (front content : List ℕ) → q < 128 → IsUtf8 (front ++ doubled q content) → IsUtf8 (front ++ content)
undoubled q front [] small h = h
undoubled q front (b ∷ content) small h = by (b == q) refl h (undoubled q (front ++ b ∷ []) content small) (undoubled q [] content small)
  where
    by : (t : Bool) → (b == q) ≡ t → IsUtf8 (front ++ (if t then b ∷ b ∷ doubled q content else b ∷ doubled q content))
        → (IsUtf8 ((front ++ b ∷ []) ++ doubled q content) → IsUtf8 ((front ++ b ∷ []) ++ content)) → (IsUtf8 (doubled q content) → IsUtf8 content) → IsUtf8 (front ++ b ∷ content)
    by true e k on again =
        let quote : b < 128 = subst (λ n. n < 128) (sym (same b q e)) small in
        IsUtf8-append front (b ∷ content) (before_ascii front (b ∷ doubled q content) b quote k)
        (IsUtf8-append (b ∷ []) content (one_utf8 b quote)
        (again (behind_ascii [] (doubled q content) b quote (behind_ascii front (b ∷ doubled q content) b quote k))))
    by false e k on again =
        subst IsUtf8 (append_assoc front (b ∷ []) content) (on (subst IsUtf8 (sym (append_assoc front (b ∷ []) (doubled q content))) k))

pub content_utf8 : (q : ℕ) (content : List ℕ) → q < 128 → (utf8_valid_len (doubled q content) == length (doubled q content)) ≡ true → is_utf8 content ≡ true
content_utf8 q content small h =
    is_utf8-from_IsUtf8 content (undoubled q [] content small (whole_utf8 (doubled q content) (same (utf8_valid_len (doubled q content)) (length (doubled q content)) h)))
