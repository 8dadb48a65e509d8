-- A number that tells the order of most rows: the first bytes of the text that a row begins with.
use Rattle.std.specs.Prelude.{◌≡◌, ◌<◌, ◌+◌, ◌*◌, ◌^◌, ℕ, zero, suc, All, List, [], ◌∷◌}
use Rattle.pgq_base.specs.declared.value.Value.TheVariants.{Text}
use Rattle.pgq_base.specs.Instances.{RowValues}

-- the first byte, and 0 where there is none
abbrev pub first_byte : List ℕ → ℕ
first_byte [] = 0
first_byte (byte ∷ bytes) = byte

abbrev pub behind_first : List ℕ → List ℕ
behind_first [] = []
behind_first (byte ∷ bytes) = bytes

-- so many of the first bytes as one number, the first one highest
abbrev pub bytes_rank : ℕ → List ℕ → ℕ
bytes_rank zero bytes = 0
bytes_rank (suc n) bytes = first_byte bytes * 256 ^ n + bytes_rank n (behind_first bytes)

abbrev pub text_rank : List ℕ → ℕ
text_rank bytes = bytes_rank 8 bytes

-- the text that a row begins with, and the empty one where it begins with none
abbrev pub first_text : RowValues → List ℕ
first_text [] = []
first_text (Text t ∷ values) = t
first_text (value ∷ values) = []

-- the number is that of the row
pub record IsRanked (rank : ℕ) (row : RowValues) : Type 0 where
  pub is : rank ≡ text_rank (first_text row)
  pub bytes : All (λ byte. byte < 256) (first_text row)
