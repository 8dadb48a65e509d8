-- The decimals among the tokens of a text are sizes.
use Rattle.std.proofs.Common.{◌≡◌, refl, sym, ap, ◌∙◌, subst, ℕ, zero, suc, ◌+◌, ◌/◌, ◌%◌, ◌^◌, ◌<◌, ◌≤◌, Bool, true, false, not, ◌&&◌, ◌||◌, ◌==◌, nat_lt, nat_le, if◌then◌else◌}
use Rattle.std.proofs.Common.{Option, Some, None, is_none, List, [], ◌∷◌, ◌++◌, length, map, arith}
use Rattle.std.proofs.lemmas.Bool.Decides.{nat_tests}
use Rattle.std.proofs.lemmas.List.Sums.{fold-append}
use Rattle.std.specs.Char.{to_ascii_uppercase}
use Rattle.pgq_base.specs.Numerals.{number_from, number_value, digit_count, lowest, is_size}
use Rattle.pgq_base.proofs.DigitLemmas.{size_bound}
use Rattle.word_table.specs.Tables.{place_of}
use Rattle.word_table.specs.Words.{reserved}
use Rattle.sql_lexer.specs.declared.fault.Fault.{Fault}
use Rattle.sql_lexer.specs.declared.token.Token.{Token}
use Rattle.sql_lexer.specs.Pieces.{Piece, Space, LineComment, BlockComment, Word, Number, Decimal, Delimited, Literal, Symbol, bytes_of, IsPiece, IsCut}
use Rattle.sql_lexer.specs.Faults.{fault_of}
use Rattle.sql_lexer.specs.Tokens.{folded_kind, kind_of, tokens_at, tokens_from, are_sound}
use Rattle.sql_lexer.specs.Texts.{AreTokens}
use Rattle.sql_reader.specs.Shapes.{AreSized}
use Rattle.sql_reader.proofs.Clean.{both, pair}

-- ---- sizes

below : (n m : ℕ) → n < m → nat_lt n m ≡ true
below n m h = grind (arith, nat_tests)

at_most : (n m : ℕ) → n ≤ m → nat_le n m ≡ true
at_most n m h = grind (arith, nat_tests)

or_true : (b : Bool) → (b || true) ≡ true
or_true true = refl
or_true false = refl

sized : (n s : ℕ) → n < 10 ^ 18 → s ≤ 18 → (s == 0 || not (n % 10 == 0)) ≡ true → is_size (n, s) ≡ true
sized n s h k last =
    pair (nat_le s 18) (nat_lt n (10 ^ 18) && (s == 0 || not (n % 10 == 0))) (at_most s 18 k) (pair (nat_lt n (10 ^ 18)) (s == 0 || not (n % 10 == 0)) (below n (10 ^ 18) h) last)

lowest_sized : (n s : ℕ) → n < 10 ^ 18 → s ≤ 18 → is_size (lowest n s) ≡ true
lowest_sized n zero h k = sized n 0 h k refl
lowest_sized n (suc s) h k = by (n % 10 == 0) refl (lowest_sized (n / 10) s (omega (arith, h)) (omega (arith, k)))
  where
    by : (b : Bool) → (n % 10 == 0) ≡ b → is_size (lowest (n / 10) s) ≡ true → is_size (if b then lowest (n / 10) s else (n, suc s)) ≡ true
    by true e rest = rest
    by false e rest = sized n (suc s) h k (ap (λ b. suc s == 0 || not b) e ∙ or_true (suc s == 0))

few_digits : (count : ℕ) (fault : Fault) (b : Bool) → nat_lt 18 count ≡ b → (if b then Some fault else None) ≡ None → count ≤ 18
few_digits count fault true e h = absurd cc
few_digits count fault false e h = grind (arith, nat_tests)

-- ---- pieces

word_sized : (from to : ℕ) (folded : List ℕ) (o : Option ℕ) → AreSized (tokens_at from to (Some (folded_kind folded o)))
word_sized from to folded None = (tt, tt)
word_sized from to folded (Some place) = (tt, tt)

piece_sized : (p : Piece) (from to : ℕ) → IsPiece p → fault_of p ≡ None → AreSized (tokens_at from to (kind_of p))
piece_sized (Space bytes) from to is sound = tt
piece_sized (LineComment body) from to is sound = tt
piece_sized (BlockComment body) from to is sound = tt
piece_sized (Word bytes) from to is sound = word_sized from to (map to_ascii_uppercase bytes) (place_of reserved (map to_ascii_uppercase bytes))
piece_sized (Number digits) from to is sound = (tt, tt)
piece_sized (Decimal whole fraction) from to is sound =
    let few : digit_count whole fraction ≤ 18 = few_digits (digit_count whole fraction) _ (nat_lt 18 (digit_count whole fraction)) refl sound in
    let value : number_value (whole ++ fraction) ≡ number_from (number_from 0 whole) fraction = fold-append _ 0 whole fraction in
    let bound : number_from (number_from 0 whole) fraction < 10 ^ 18 = size_bound whole fraction is.0.1 is.1.1 few in
    let small : number_value (whole ++ fraction) < 10 ^ 18 = rw value bound in
    (lowest_sized (number_value (whole ++ fraction)) (length fraction) small (omega (arith, few)), tt)
piece_sized (Delimited content) from to is sound = (tt, tt)
piece_sized (Literal content) from to is sound = (tt, tt)
piece_sized (Symbol place) from to is sound = (tt, tt)

append_sized : (ts us : List Token) → AreSized ts → AreSized us → AreSized (ts ++ us)
append_sized [] us h k = k
append_sized (t ∷ ts) us h k = (h.0, append_sized ts us h.1 k)

none : (o : Option Fault) → is_none o ≡ true → o ≡ None
none None h = refl
none (Some f) h = absurd cc

pieces_sized : (at : ℕ) (pieces : List Piece) (text rest : List ℕ) → IsCut pieces text rest → are_sound pieces ≡ true → AreSized (tokens_from at pieces)
pieces_sized at [] text rest cut sound = tt
pieces_sized at (p ∷ pieces) text rest (after, stands, cut) sound =
    let two = both (is_none (fault_of p)) (are_sound pieces) sound in
    let to : ℕ = at + length (bytes_of p) in
    append_sized (tokens_at at to (kind_of p)) (tokens_from to pieces) (piece_sized p at to stands.can.kind (none (fault_of p) two.0)) (pieces_sized to pieces after rest cut two.1)

pub lexed_sized : (text : List ℕ) (tokens : List Token) → AreTokens text tokens → AreSized tokens
lexed_sized text tokens h = subst AreSized (sym h.among) (pieces_sized 0 h.pieces text [] h.cut h.sound)
