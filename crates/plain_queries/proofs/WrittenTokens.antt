-- What the tokens of a text hold: decimals are sizes, and character literals are UTF-8 and not too long.
use Rattle.std.proofs.Common.{◌≡◌, refl, sym, ap, ◌∙◌, subst, lit<, ℕ, zero, suc, ◌+◌, ◌/◌, ◌%◌, ◌^◌, ◌<◌, ◌≤◌, Bool, true, false, not, ◌&&◌, ◌||◌, ◌==◌, nat_lt, nat_le}
use Rattle.std.proofs.Common.{if◌then◌else◌, Option, Some, None, is_none, List, [], ◌∷◌, ◌++◌, length, map, arith}
use Rattle.std.proofs.lemmas.Bool.Decides.{nat_tests}
use Rattle.std.proofs.lemmas.List.Sums.{fold-append}
use Rattle.std.specs.Char.{to_ascii_uppercase}
use Rattle.std.specs.List.{AllByRecursion}
use Rattle.std.specs.Str.{is_utf8}
use Rattle.std.specs.Str.Lossy.{utf8_valid_len}
use Rattle.pgq_base.specs.Numerals.{number_from, number_value, digit_count, lowest, is_size}
use Rattle.pgq_base.proofs.DigitLemmas.{size_bound}
use Rattle.word_table.specs.Tables.{place_of}
use Rattle.word_table.specs.Words.{reserved}
use Rattle.expr_tree.proofs.Folds.{parts}
use Rattle.graph_meaning.proofs.Members.{both_parts, both_true}
use Rattle.sql_lexer.specs.declared.fault.Fault.{Fault}
use Rattle.sql_lexer.specs.declared.token.Kind.{Kind}
use Rattle.sql_lexer.specs.declared.token.Kind.TheVariants as k
use Rattle.sql_lexer.specs.declared.token.Token.{Token}
use Rattle.sql_lexer.specs.Pieces.{Piece, Space, LineComment, BlockComment, Word, Number, Decimal, Delimited, Literal, Symbol, bytes_of, doubled, text_quote, IsPiece, IsCut}
use Rattle.sql_lexer.specs.Faults.{fault_of, utf8_fault}
use Rattle.sql_lexer.specs.Tokens.{folded_kind, kind_of, tokens_at, tokens_from, are_sound}
use Rattle.sql_lexer.specs.Texts.{AreTokens}
use Rattle.pattern_check.proofs.Factors.{together}
use Rattle.plain_queries.proofs.Undoubled.{content_utf8}

-- a decimal is a size with the least scale that it has, a character literal has at most 1,024 bytes of UTF-8
abbrev pub IsWritten : Kind → Type 0
IsWritten (k.Decimal size) = is_size size ≡ true
IsWritten (k.Literal text) = (nat_le (length text) 1024 && is_utf8 text) ≡ true
IsWritten (k.Word bytes) = Unit {0}
IsWritten (k.Delimited bytes) = Unit {0}
IsWritten (k.Reserved place) = Unit {0}
IsWritten (k.Number n) = Unit {0}
IsWritten (k.Symbol place) = Unit {0}

abbrev pub IsWrittenToken : Token → Type 0
IsWrittenToken token = IsWritten token.kind

abbrev pub AreWritten : List Token → Type 0
AreWritten tokens = AllByRecursion IsWrittenToken tokens

pub first_written : (ts us : List Token) → AreWritten (ts ++ us) → AreWritten ts
first_written ts us h = (parts IsWrittenToken ts us h).0

pub rest_written : (ts us : List Token) → AreWritten (ts ++ us) → AreWritten us
rest_written ts us h = (parts IsWrittenToken ts us h).1

-- ---- sizes

below : (n m : ℕ) → n < m → nat_lt n m ≡ true
below n m h = grind (arith, nat_tests)

at_most : (n m : ℕ) → n ≤ m → nat_le n m ≡ true
at_most n m h = grind (arith, nat_tests)

or_true : (b : Bool) → (b || true) ≡ true
or_true true = refl
or_true false = refl

sized : (n s : ℕ) → n < 10 ^ 18 → s ≤ 18 → (s == 0 || not (n % 10 == 0)) ≡ true → is_size (n, s) ≡ true
sized n s h k last =
    both_true (nat_le s 18) (nat_lt n (10 ^ 18) && (s == 0 || not (n % 10 == 0))) (at_most s 18 k)
    (both_true (nat_lt n (10 ^ 18)) (s == 0 || not (n % 10 == 0)) (below n (10 ^ 18) h) last)

lowest_sized : (n s : ℕ) → n < 10 ^ 18 → s ≤ 18 → is_size (lowest n s) ≡ true
lowest_sized n zero h k = sized n 0 h k refl
lowest_sized n (suc s) h k = by (n % 10 == 0) refl (lowest_sized (n / 10) s (omega (arith, h)) (omega (arith, k)))
  where
    by : (b : Bool) → (n % 10 == 0) ≡ b → is_size (lowest (n / 10) s) ≡ true → is_size (if b then lowest (n / 10) s else (n, suc s)) ≡ true
    by true e rest = rest
    by false e rest = sized n (suc s) h k (ap (λ b. suc s == 0 || not b) e ∙ or_true (suc s == 0))

-- a fault of what is above a bound is not there
not_above : (count most : ℕ) (fault : Fault) (other : Option Fault) (b : Bool) → nat_lt most count ≡ b → (if b then Some fault else other) ≡ None → (count ≤ most) × (other ≡ None)
not_above count most fault other true e h = absurd cc
not_above count most fault other false e h = (grind (arith, nat_tests), h)

-- ---- character literals

no_fault : (fault : Fault) (b : Bool) → (if b then None else Some fault) ≡ None → b ≡ true
no_fault fault true h = refl
no_fault fault false h = absurd cc

literal_written : (content : List ℕ) → fault_of (Literal content) ≡ None → IsWritten (k.Literal content)
literal_written content h =
    let two = not_above (length content) 1024 _ (utf8_fault (doubled text_quote content)) (nat_lt 1024 (length content)) refl h in
    both_true (nat_le (length content) 1024) (is_utf8 content) (at_most (length content) 1024 two.0)
    (content_utf8 text_quote content (lit< tt) (no_fault _ (utf8_valid_len (doubled text_quote content) == length (doubled text_quote content)) two.1))

-- ---- pieces

word_written : (from to : ℕ) (folded : List ℕ) (o : Option ℕ) → AreWritten (tokens_at from to (Some (folded_kind folded o)))
word_written from to folded None = (tt, tt)
word_written from to folded (Some place) = (tt, tt)

piece_written : (p : Piece) (from to : ℕ) → IsPiece p → fault_of p ≡ None → AreWritten (tokens_at from to (kind_of p))
piece_written (Space bytes) from to is sound = tt
piece_written (LineComment body) from to is sound = tt
piece_written (BlockComment body) from to is sound = tt
piece_written (Word bytes) from to is sound = word_written from to (map to_ascii_uppercase bytes) (place_of reserved (map to_ascii_uppercase bytes))
piece_written (Number digits) from to is sound = (tt, tt)
piece_written (Decimal whole fraction) from to is sound =
    let few : digit_count whole fraction ≤ 18 = (not_above (digit_count whole fraction) 18 _ None (nat_lt 18 (digit_count whole fraction)) refl sound).0 in
    let value : number_value (whole ++ fraction) ≡ number_from (number_from 0 whole) fraction = fold-append _ 0 whole fraction in
    let bound : number_from (number_from 0 whole) fraction < 10 ^ 18 = size_bound whole fraction is.0.1 is.1.1 few in
    let small : number_value (whole ++ fraction) < 10 ^ 18 = rw value bound in
    (lowest_sized (number_value (whole ++ fraction)) (length fraction) small (omega (arith, few)), tt)
piece_written (Delimited content) from to is sound = (tt, tt)
piece_written (Literal content) from to is sound = (literal_written content sound, tt)
piece_written (Symbol place) from to is sound = (tt, tt)

pub none : {A : Type 0} (o : Option A) → is_none o ≡ true → o ≡ None
none None h = refl
none (Some a) h = absurd cc

pieces_written : (at : ℕ) (pieces : List Piece) (text rest : List ℕ) → IsCut pieces text rest → are_sound pieces ≡ true → AreWritten (tokens_from at pieces)
pieces_written at [] text rest cut sound = tt
pieces_written at (p ∷ pieces) text rest (after, stands, cut) sound =
    let two = both_parts (is_none (fault_of p)) (are_sound pieces) sound in
    let to : ℕ = at + length (bytes_of p) in
    together IsWrittenToken (tokens_at at to (kind_of p)) (tokens_from to pieces) (piece_written p at to stands.can.kind (none (fault_of p) two.0))
    (pieces_written to pieces after rest cut two.1)

pub tokens_written : (text : List ℕ) (tokens : List Token) → AreTokens text tokens → AreWritten tokens
tokens_written text tokens h = subst AreWritten (sym h.among) (pieces_written 0 h.pieces text [] h.cut h.sound)
