-- The query text of the generated run is cut into its tokens.
use Rattle.std.proofs.Common.{◌≡◌, refl, subst, sym, ◌≤◌, Bool, true, false, ◌&&◌, List, [], ◌∷◌, ◌++◌, flat_map, length, arith, true≢false}
use Rattle.std.specs.Prelude.{codes, nat_lt}
use Rattle.std.specs.Char.{is_ascii_digit}
use Rattle.std.specs.List.{list_all}
use Rattle.std.proofs.lemmas.Bool.{ltb-true}
use Rattle.sql_lexer.specs.Pieces.{Piece, Space, Word, Number, Symbol, bytes_of, is_space, begins_word, is_word_byte, IsPiece, IsCut}
use Rattle.sql_lexer.specs.Tokens.{tokens_from, are_sound}
use Rattle.sql_lexer.specs.Texts.{AreTokens, most_tokens}
use Rattle.sql_lexer.specs.Joining.{ends_before, StandInRow}
use Rattle.sql_lexer.proofs.Joined.{cut_of_row}
use Rattle.graph_meaning.proofs.Members.{both_parts}
use Rattle.sample_run.specs.SampleRun.{sample_query}
use Rattle.sample_reading.specs.SampleTree.{sample_tokens}

-- what the text is cut into
unfoldable pieces : List Piece
pieces =
    Word (codes "SELECT") ∷ Space (codes " ") ∷ Symbol 10 ∷ Space (codes " ") ∷ Word (codes "FROM") ∷ Space (codes " ") ∷
    Word (codes "GRAPH_TABLE") ∷ Space (codes " ") ∷ Symbol 0 ∷ Word (codes "G") ∷ Space (codes " ") ∷ Word (codes "MATCH") ∷ Space (codes " ") ∷
    Word (codes "ALL") ∷ Space (codes " ") ∷ Word (codes "SHORTEST") ∷ Space (codes " ") ∷ Symbol 0 ∷ Word (codes "x") ∷ Symbol 1 ∷ Symbol 12 ∷
    Symbol 2 ∷ Word (codes "e") ∷ Symbol 3 ∷ Symbol 12 ∷ Symbol 16 ∷ Symbol 4 ∷ Number (codes "1") ∷ Symbol 6 ∷ Number (codes "2") ∷ Symbol 5 ∷
    Symbol 0 ∷ Word (codes "y") ∷ Symbol 1 ∷ Space (codes " ") ∷ Word (codes "COLUMNS") ∷ Space (codes " ") ∷ Symbol 0 ∷ Word (codes "x") ∷
    Symbol 7 ∷ Word (codes "id") ∷ Space (codes " ") ∷ Word (codes "AS") ∷ Space (codes " ") ∷ Word (codes "f") ∷ Symbol 6 ∷ Space (codes " ") ∷
    Word (codes "y") ∷ Symbol 7 ∷ Word (codes "id") ∷ Space (codes " ") ∷ Word (codes "AS") ∷ Space (codes " ") ∷ Word (codes "t") ∷ Symbol 1 ∷
    Symbol 1 ∷ []

spelled : sample_query ≡ flat_map bytes_of pieces ++ []
unfolding sample_query pieces
spelled = refl

-- ---- each stands in its place, by computing

is_piece : Piece → Bool
is_piece (Space bytes) = nat_lt 0 (length bytes) && list_all is_space bytes
is_piece (Word []) = false
is_piece (Word (b ∷ bs)) = begins_word b && list_all is_word_byte bs
is_piece (Number digits) = nat_lt 0 (length digits) && list_all is_ascii_digit digits
is_piece (Symbol place) = nat_lt place 25
is_piece piece = false

is_one : (piece : Piece) → is_piece piece ≡ true → IsPiece piece
unfolding is_piece
is_one (Space bytes) h = let p = both_parts (nat_lt 0 (length bytes)) (list_all is_space bytes) h in (ltb-true 0 (length bytes) p.0, p.1)
is_one (Word []) h = absurd (true≢false (sym h))
is_one (Word (b ∷ bs)) h = both_parts (begins_word b) (list_all is_word_byte bs) h
is_one (Number digits) h = let p = both_parts (nat_lt 0 (length digits)) (list_all is_ascii_digit digits) h in (ltb-true 0 (length digits) p.0, p.1)
is_one (Symbol place) h = ltb-true place 25 h
is_one piece h = absurd (true≢false (sym h))

stand : List Piece → Bool
stand [] = true
stand (piece ∷ more) = is_piece piece && (ends_before piece (flat_map bytes_of more ++ []) && stand more)

in_row : (all : List Piece) → stand all ≡ true → StandInRow all []
unfolding stand
in_row [] h = tt
in_row (piece ∷ more) h =
    let ends = ends_before piece (flat_map bytes_of more ++ []) in
    let p = both_parts (is_piece piece) (ends && stand more) h in
    let q = both_parts ends (stand more) p.1 in
    (is_one piece p.0, q.0, in_row more q.1)

row : StandInRow pieces []
unfolding pieces is_piece stand
row = in_row pieces refl

sound : are_sound pieces ≡ true
unfolding pieces
sound = refl

among : sample_tokens ≡ tokens_from 0 pieces
unfolding sample_tokens pieces
among = refl

pub tokens : AreTokens sample_query sample_tokens
tokens = record { pieces = pieces; cut = subst (λ text. IsCut pieces text []) (sym spelled) (cut_of_row pieces [] row); sound = sound; among = among }

pub few : length sample_tokens ≤ most_tokens
unfolding sample_tokens
few = omega arith
