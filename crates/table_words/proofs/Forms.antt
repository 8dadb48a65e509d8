-- A word is an identifier, a `=` and a file exactly where the piece at its front says so.
use Rattle.std.proofs.Common.{◌≡◌, ℕ, ◌≤◌, ◌==◌, ◌&&◌, Bool, true, false, List, [], ◌∷◌, ◌++◌, length, drop, Option, None, Some, refl, sym, ap, ◌∙◌, subst, arith, append_assoc}
use Rattle.std.specs.List.{list_all}
use Rattle.std.proofs.Math.Seq.{drop-append_seam}
use Rattle.std.proofs.lemmas.Bool.Decides.{Decides-eqb, nat_tests}
use Rattle.pgq_base.specs.Files.{after_equals, equals_sign, double_quote}
use Rattle.sql_lexer.specs.declared.fault.Fault.{Fault}
use Rattle.sql_lexer.specs.declared.token.Kind.{Kind}
use Rattle.sql_lexer.specs.Pieces.{Piece, bytes_of, doubled, name_quote, is_word_byte, begins_word, IsWord, IsPiece, Stands}
use Rattle.sql_lexer.specs.Faults.{fault_of}
use Rattle.sql_lexer.specs.Tokens.{kind_of}
use Rattle.sql_lexer.specs.Scan.{front}
use Rattle.sql_lexer.specs.Joining.{ends_before}
use Rattle.sql_lexer.proofs.Joined.{stands}
use Rattle.table_words.specs.declared.word.TableWord.{TableWord}
use Rattle.table_words.specs.TableWords.{name_of, IsTableWord, name_in, file_in, asked_by, word_by, table_word}
use Rattle.table_words.proofs.Identifiers.{IsName, bare, delimited, Named, is_name, identifies, one_piece}

-- what is found at the front stands there, and what stands there is found: laws of the lexer
abbrev pub FoundStands : Type 0
FoundStands = (text : List ℕ) (piece : Piece) → front text ≡ Some piece → (after : List ℕ) × Stands piece text after

abbrev pub StandsFound : Type 0
StandsFound = (text after : List ℕ) (piece : Piece) → Stands piece text after → front text ≡ Some piece

-- ---- from the piece at the front

record IsAsked (name file : Option (List ℕ)) (asked : TableWord) : Type 0 where
  table : name ≡ Some asked.table
  behind : file ≡ Some asked.file

asked_is : (name file : Option (List ℕ)) (asked : TableWord) → asked_by name file ≡ Some asked → IsAsked name file asked
asked_is None file asked h = absurd cc
asked_is (Some table) None asked h = absurd cc
asked_is (Some table) (Some file) asked h =
    let same : (let w : TableWord = record { table = table; file = file } in w) ≡ asked = cc in
    record { table = ap (λ w. Some w.table) same; behind = ap (λ w. Some w.file) same }

record IsNamed (fault : Option Fault) (kind : Option Kind) (name : List ℕ) : Type 0 where
  sound : fault ≡ None
  found : Kind
  is_kind : kind ≡ Some found
  named : name_of found ≡ Some name

named_is : (fault : Option Fault) (kind : Option Kind) (name : List ℕ) → name_in fault kind ≡ Some name → IsNamed fault kind name
named_is (Some fault) kind name h = absurd cc
named_is None None name h = absurd cc
named_is None (Some kind) name h = record { sound = refl; found = kind; is_kind = refl; named = h }

record IsBehind (rest file : List ℕ) : Type 0 where
  split : rest ≡ equals_sign ∷ file
  some : 1 ≤ length file

behind_is : (rest file : List ℕ) → file_in rest ≡ Some file → IsBehind rest file
behind_is [] file h = absurd cc
behind_is (e ∷ []) file h = absurd cc
behind_is (e ∷ b ∷ bs) file h = by_test (e == equals_sign) refl
  where
    by_test : (t : Bool) → (e == equals_sign) ≡ t → IsBehind (e ∷ b ∷ bs) file
    by_test true t =
        let is : Some (b ∷ bs) ≡ Some file = rw t at h in
        let same : b ∷ bs ≡ file = cc in
        let sign : e ≡ equals_sign = (Decides-eqb e equals_sign).0 t in
        subst (λ f. IsBehind (e ∷ b ∷ bs) f) same (record { split = ap (λ e. e ∷ b ∷ bs) sign; some = omega arith })
    by_test false t = let is = rw t at h in absurd cc

module _ (found_stands : FoundStands) where
  of_piece : (word : List ℕ) (asked : TableWord) (p : Piece) → front word ≡ Some p → word_by word (Some p) ≡ Some asked → IsTableWord word asked
  of_piece word asked p e h =
      let (after, here) = found_stands word p e in
      let parts = asked_is (name_in (fault_of p) (kind_of p)) (file_in (drop (length (bytes_of p)) word)) asked h in
      let n = named_is (fault_of p) (kind_of p) asked.table parts.table in
      let left : drop (length (bytes_of p)) word ≡ after = ap (drop (length (bytes_of p))) here.can.split ∙ drop-append_seam (bytes_of p) after in
      let b = behind_is after asked.file (ap file_in (sym left) ∙ parts.behind) in
      record {
        identifier = bytes_of p;
        split = here.can.split ∙ ap (λ l. bytes_of p ++ l) b.split;
        names = identifies p asked.table (record { is_piece = here.can.kind; sound = n.sound; kind = n.found; is_kind = n.is_kind; named = n.named });
        some = b.some;
      }

  pub is_word : (word : List ℕ) (asked : TableWord) → table_word word ≡ Some asked → IsTableWord word asked
  is_word word asked h = by_front (front word) refl
    where
      by_front : (o : Option Piece) → front word ≡ o → IsTableWord word asked
      by_front None e = let none : None ≡ Some asked = rw e at h in absurd cc
      by_front (Some p) e = of_piece word asked p e (rw e at h)

-- ---- and back

ends_at_sign : (p : Piece) (file : List ℕ) → IsName p → ends_before p (equals_sign ∷ file) ≡ true
ends_at_sign p file (bare bytes) = refl
ends_at_sign p file (delimited content) = refl

file_there : (file : List ℕ) → 1 ≤ length file → file_in (equals_sign ∷ file) ≡ Some file
file_there [] some = absurd (omega arith)
file_there (b ∷ bs) some = refl

asks_by : (p : Piece) (asked : TableWord) → Named p asked.table → 1 ≤ length asked.file → word_by (bytes_of p ++ equals_sign ∷ asked.file) (Some p) ≡ Some asked
asks_by p asked n some =
    let left : drop (length (bytes_of p)) (bytes_of p ++ equals_sign ∷ asked.file) ≡ equals_sign ∷ asked.file = drop-append_seam (bytes_of p) (equals_sign ∷ asked.file) in
    rw (n.sound, n.is_kind, n.named, left, file_there asked.file some) refl

module _ (stands_found : StandsFound) where
  pub word_there : (word : List ℕ) (asked : TableWord) → IsTableWord word asked → table_word word ≡ Some asked
  word_there word asked is =
      let one = one_piece is.identifier asked.table is.names in
      let p = one.piece in
      let n = one.names in
      let ends = ends_at_sign p asked.file (is_name p n.kind asked.table n.is_kind n.named) in
      let here = stands p (equals_sign ∷ asked.file) n.is_piece ends in
      let found : front (bytes_of p ++ equals_sign ∷ asked.file) ≡ Some p = stands_found (bytes_of p ++ equals_sign ∷ asked.file) (equals_sign ∷ asked.file) p here in
      let whole : word ≡ bytes_of p ++ equals_sign ∷ asked.file = is.split ∙ ap (λ l. l ++ equals_sign ∷ asked.file) one.bytes in
      ap table_word whole ∙ ap (word_by (bytes_of p ++ equals_sign ∷ asked.file)) found ∙ asks_by p asked n is.some

-- ---- the first `=` that is in no quotes

both : (a b : Bool) → (a && b) ≡ true → (a ≡ true) × (b ≡ true)
both true b h = (refl, h)
both false b h = (h, cc)

no_quote : (b : ℕ) → is_word_byte b ≡ true → (b == double_quote) ≡ false
no_quote b h = grind (arith, nat_tests)

no_sign : (b : ℕ) → is_word_byte b ≡ true → (b == equals_sign) ≡ false
no_sign b h = grind (arith, nat_tests)

begins_too : (b : ℕ) → begins_word b ≡ true → is_word_byte b ≡ true
begins_too b h = grind (arith, nat_tests)

past_word : (bytes rest : List ℕ) → list_all is_word_byte bytes ≡ true → after_equals false (bytes ++ rest) ≡ after_equals false rest
past_word [] rest h = refl
past_word (b ∷ bs) rest h =
    let two = both (is_word_byte b) (list_all is_word_byte bs) h in
    rw (no_quote b two.0, no_sign b two.0) (past_word bs rest two.1)

past_bare : (bytes rest : List ℕ) → IsWord bytes → after_equals false (bytes ++ rest) ≡ after_equals false rest
past_bare [] rest h = absurd h
past_bare (b ∷ bs) rest h = past_word (b ∷ bs) rest (rw (begins_too b h.0) h.1)

past_content : (c rest : List ℕ) → after_equals true (doubled name_quote c ++ rest) ≡ after_equals true rest
past_content [] rest = refl
past_content (b ∷ c) rest = by_quote (past_content c rest) (b == name_quote) refl
  where
    by_sign : after_equals true (doubled name_quote c ++ rest) ≡ after_equals true rest → (b == name_quote) ≡ false → (t : Bool) → (b == equals_sign) ≡ t
        → after_equals true (doubled name_quote (b ∷ c) ++ rest) ≡ after_equals true rest
    by_sign more q true e = rw (q, q, e) more
    by_sign more q false e = rw (q, q, e) more

    by_quote : after_equals true (doubled name_quote c ++ rest) ≡ after_equals true rest → (t : Bool) → (b == name_quote) ≡ t
        → after_equals true (doubled name_quote (b ∷ c) ++ rest) ≡ after_equals true rest
    by_quote more true e = rw (e, e) more
    by_quote more false e = by_sign more e (b == equals_sign) refl

past_name : (p : Piece) (file : List ℕ) → IsName p → IsPiece p → after_equals false (bytes_of p ++ equals_sign ∷ file) ≡ Some file
past_name p file (bare bytes) is = past_bare bytes (equals_sign ∷ file) is
past_name p file (delimited content) is =
    ap (after_equals true) (append_assoc (doubled name_quote content) (name_quote ∷ []) (equals_sign ∷ file)) ∙ past_content content (name_quote ∷ equals_sign ∷ file)

pub file_is : (word : List ℕ) (asked : TableWord) → IsTableWord word asked → after_equals false word ≡ Some asked.file
file_is word asked is =
    let one = one_piece is.identifier asked.table is.names in
    let n = one.names in
    ap (after_equals false) (is.split ∙ ap (λ l. l ++ equals_sign ∷ asked.file) one.bytes)
    ∙ past_name one.piece asked.file (is_name one.piece n.kind asked.table n.is_kind n.named) n.is_piece
