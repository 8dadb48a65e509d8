-- A text that is one identifier is one piece: a word or a delimited name.
use Rattle.std.proofs.Common.{◌≡◌, ℕ, ◌+◌, ◌*◌, ◌≤◌, ◌<◌, ◌==◌, ◌||◌, ◌&&◌, nat_lt, Bool, true, false, List, [], ◌∷◌, ◌++◌, length, Option, None, Some, is_none, refl, sym, ap}
use Rattle.std.proofs.Common.{◌∙◌, subst, arith, append-nil, length-append, zero-add}
use Rattle.std.proofs.lemmas.Bool.Decides.{nat_tests}
use Rattle.sql_lexer.specs.declared.token.Token.{Token}
use Rattle.sql_lexer.specs.declared.token.Kind.{Kind}
use Rattle.sql_lexer.specs.Pieces.{Piece, Space, LineComment, BlockComment, Word, Number, Decimal, Delimited, Literal, Symbol, bytes_of, doubled, name_quote, IsPiece, Stands}
use Rattle.sql_lexer.specs.Pieces.{IsCut}
use Rattle.sql_lexer.specs.Faults.{fault_of}
use Rattle.sql_lexer.specs.Tokens.{kind_of, token, tokens_from, are_sound}
use Rattle.sql_lexer.specs.Texts.{AreTokens}
use Rattle.sql_lexer.specs.Joining.{ends_before}
use Rattle.sql_lexer.proofs.Joined.{stands}
use Rattle.table_words.specs.TableWords.{name_of, IsIdentifier}

-- a piece that is a name
pub data IsName : Piece → Type 0 where
  bare : (bytes : List ℕ) → IsName (Word bytes)
  delimited : (content : List ℕ) → IsName (Delimited content)

-- the piece, its kind and the name that it is, without a fault
pub record Named (piece : Piece) (name : List ℕ) : Type 0 where
  pub is_piece : IsPiece piece
  pub sound : fault_of piece ≡ None
  pub kind : Kind
  pub is_kind : kind_of piece ≡ Some kind
  pub named : name_of kind ≡ Some name

unnamed : (j k : Kind) (name : List ℕ) → Some j ≡ Some k → name_of j ≡ None → name_of k ≡ Some name → ⊥
unnamed j k name h none named =
    let e : j ≡ k = cc in
    let m : None ≡ Some name = sym none ∙ ap name_of e ∙ named in
    cc

pub is_name : (piece : Piece) (k : Kind) (name : List ℕ) → kind_of piece ≡ Some k → name_of k ≡ Some name → IsName piece
is_name (Space bytes) k name h n = absurd cc
is_name (LineComment body) k name h n = absurd cc
is_name (BlockComment body) k name h n = absurd cc
is_name (Word bytes) k name h n = bare bytes
is_name (Number digits) k name h n = absurd (unnamed _ k name h refl n)
is_name (Decimal whole fraction) k name h n = absurd (unnamed _ k name h refl n)
is_name (Delimited content) k name h n = delimited content
is_name (Literal content) k name h n = absurd (unnamed _ k name h refl n)
is_name (Symbol place) k name h n = absurd (unnamed _ k name h refl n)

-- ---- the tokens of one piece

sound_alone : (p : Piece) → fault_of p ≡ None → are_sound (p ∷ []) ≡ true
sound_alone p h = rw h refl

tokens_alone : (p : Piece) (k : Kind) → kind_of p ≡ Some k → token 0 (length (bytes_of p)) k ∷ [] ≡ tokens_from 0 (p ∷ [])
tokens_alone p k h = rw (h, zero-add (length (bytes_of p))) refl

-- a piece without a fault that stands alone is the one token of its bytes
pub alone : (p : Piece) (k : Kind) → Stands p (bytes_of p) [] → fault_of p ≡ None → kind_of p ≡ Some k → AreTokens (bytes_of p) (token 0 (length (bytes_of p)) k ∷ [])
alone p k here sound is = record {
  pieces = p ∷ [];
  cut = ([], here, refl);
  sound = sound_alone p sound;
  among = tokens_alone p k is;
}

ends_at_end : (p : Piece) → IsName p → ends_before p [] ≡ true
ends_at_end p (bare bytes) = refl
ends_at_end p (delimited content) = refl

pub identifies : (p : Piece) (name : List ℕ) → Named p name → IsIdentifier (bytes_of p) name
identifies p name n =
    let at_end : Stands p (bytes_of p ++ []) [] = stands p [] n.is_piece (ends_at_end p (is_name p n.kind name n.is_kind n.named)) in
    let here : Stands p (bytes_of p) [] = subst (λ l. Stands p l []) (append-nil (bytes_of p)) at_end in
    record { kind = n.kind; tokens = alone p n.kind here n.sound n.is_kind; named = n.named }

-- ---- and back

-- no token of pieces begins before them
begins : (at : ℕ) (ps : List Piece) (t : Token) (ts : List Token) → t ∷ ts ≡ tokens_from at ps → at ≤ t.span.from
begins at [] t ts h = absurd cc
begins at (p ∷ ps) t ts h = by_kind (λ e. begins (at + length (bytes_of p)) ps t ts e) (kind_of p) refl
  where
    by_kind : (t ∷ ts ≡ tokens_from (at + length (bytes_of p)) ps → at + length (bytes_of p) ≤ t.span.from) → (k : Option Kind) → kind_of p ≡ k → at ≤ t.span.from
    by_kind later None e =
        let k : t ∷ ts ≡ tokens_from (at + length (bytes_of p)) ps = rw e at h in
        let far : at + length (bytes_of p) ≤ t.span.from = later k in
        omega arith
    by_kind later (Some k) e =
        let same : t ∷ ts ≡ token at (at + length (bytes_of p)) k ∷ tokens_from (at + length (bytes_of p)) ps = rw e at h in
        let first : t ≡ token at (at + length (bytes_of p)) k = cc in
        let from : t.span.from ≡ at = ap (λ t. t.span.from) first in
        omega arith

both : (a b : Bool) → (a && b) ≡ true → (a ≡ true) × (b ≡ true)
both true b h = (refl, h)
both false b h = (h, cc)

is_none_is : {A : Type 0} (o : Option A) → is_none o ≡ true → o ≡ None
is_none_is None h = refl
is_none_is (Some a) h = absurd cc

no_more : {A : Type 0} (xs : List A) → length xs ≤ 0 → xs ≡ []
no_more [] h = refl
no_more (x ∷ xs) h = absurd (omega arith)

-- what is no token has bytes
some_bytes : (p : Piece) → kind_of p ≡ None → IsPiece p → 0 < length (bytes_of p)
some_bytes (Space bytes) h is = is.0
some_bytes (LineComment body) h is = omega arith
some_bytes (BlockComment body) h is = omega arith
some_bytes (Word bytes) h is = absurd cc
some_bytes (Number digits) h is = absurd cc
some_bytes (Decimal whole fraction) h is = absurd cc
some_bytes (Delimited content) h is = absurd cc
some_bytes (Literal content) h is = absurd cc
some_bytes (Symbol place) h is = absurd cc

-- the piece of an identifier
pub record IsOnePiece (text name : List ℕ) : Type 0 where
  pub piece : Piece
  pub bytes : text ≡ bytes_of piece
  pub names : Named piece name

of_pieces : (ps : List Piece) (text name : List ℕ) (k : Kind) → IsCut ps text [] → are_sound ps ≡ true → token 0 (length text) k ∷ [] ≡ tokens_from 0 ps → name_of k ≡ Some name
    → IsOnePiece text name
of_pieces [] text name k cut sound among named = absurd cc
of_pieces (p ∷ ps) text name k (after, here, more) sound among named = by_kind (kind_of p) refl
  where
    by_kind : (o : Option Kind) → kind_of p ≡ o → IsOnePiece text name
    by_kind None e =
        let later : token 0 (length text) k ∷ [] ≡ tokens_from (0 + length (bytes_of p)) ps = rw e at among in
        let far : 0 + length (bytes_of p) ≤ 0 = begins (0 + length (bytes_of p)) ps (token 0 (length text) k) [] later in
        let some : 0 < length (bytes_of p) = some_bytes p e here.can.kind in
        absurd (omega arith)
    by_kind (Some j) e =
        let same : token 0 (length text) k ∷ [] ≡ token 0 (0 + length (bytes_of p)) j ∷ tokens_from (0 + length (bytes_of p)) ps = rw e at among in
        let first : token 0 (length text) k ≡ token 0 (0 + length (bytes_of p)) j = cc in
        let kinds : j ≡ k = sym (ap (λ t. t.kind) first) in
        let ends : length text ≡ 0 + length (bytes_of p) = ap (λ t. t.span.to) first in
        let whole : length text ≡ length (bytes_of p) + length after = ap length here.can.split ∙ length-append (bytes_of p) after in
        let none : after ≡ [] = no_more after (omega arith) in
        record {
          piece = p;
          bytes = here.can.split ∙ ap (λ l. bytes_of p ++ l) none ∙ append-nil (bytes_of p);
          names = record {
            is_piece = here.can.kind;
            sound = is_none_is (fault_of p) (both (is_none (fault_of p)) (are_sound ps) sound).0;
            kind = k;
            is_kind = e ∙ ap Some kinds;
            named = named;
          };
        }

pub one_piece : (text name : List ℕ) → IsIdentifier text name → IsOnePiece text name
one_piece text name is = of_pieces is.tokens.pieces text name is.kind is.tokens.cut is.tokens.sound is.tokens.among is.named

-- ---- how long it is

not_more : (n : ℕ) → nat_lt 128 n ≡ false → n ≤ 128
not_more n h = grind (arith, nat_tests)

at_most_twice : (q : ℕ) (c : List ℕ) → length (doubled q c) ≤ 2 * length c
at_most_twice q [] = omega arith
at_most_twice q (b ∷ c) = by_test (at_most_twice q c) (b == q) refl
  where
    by_test : length (doubled q c) ≤ 2 * length c → (t : Bool) → (b == q) ≡ t → length (doubled q (b ∷ c)) ≤ 2 * length (b ∷ c)
    by_test rest true e = rw e (omega arith)
    by_test rest false e = rw e (omega arith)

word_short : (bytes : List ℕ) → fault_of (Word bytes) ≡ None → length bytes ≤ 128
word_short bytes h = by_test (nat_lt 128 (length bytes)) refl
  where
    by_test : (t : Bool) → nat_lt 128 (length bytes) ≡ t → length bytes ≤ 128
    by_test true e = let k = rw e at h in absurd cc
    by_test false e = not_more (length bytes) e

either_false : (a b : Bool) → (a || b) ≡ false → b ≡ false
either_false true b h = absurd cc
either_false false b h = h

content_short : (content : List ℕ) → fault_of (Delimited content) ≡ None → length content ≤ 128
content_short content h = by_test (length content == 0 || nat_lt 128 (length content)) refl
  where
    by_test : (t : Bool) → (length content == 0 || nat_lt 128 (length content)) ≡ t → length content ≤ 128
    by_test true e = let k = rw e at h in absurd cc
    by_test false e = not_more (length content) (either_false (length content == 0) (nat_lt 128 (length content)) e)

short : (p : Piece) → IsName p → fault_of p ≡ None → length (bytes_of p) ≤ 258
short p (bare bytes) h = let few : length bytes ≤ 128 = word_short bytes h in omega arith
short p (delimited content) h =
    let few : length content ≤ 128 = content_short content h in
    let body : length (doubled name_quote content) ≤ 2 * length content = at_most_twice name_quote content in
    let whole : length (doubled name_quote content ++ name_quote ∷ []) ≡ length (doubled name_quote content) + 1 = length-append (doubled name_quote content) (name_quote ∷ []) in
    omega arith

-- an identifier has at most 258 bytes
pub identifiers_short : (text name : List ℕ) → IsIdentifier text name → length text ≤ 258
identifiers_short text name is =
    let one = one_piece text name is in
    let n = one.names in
    let most : length (bytes_of one.piece) ≤ 258 = short one.piece (is_name one.piece n.kind name n.is_kind n.named) n.sound in
    subst (λ l. length l ≤ 258) (sym one.bytes) most
