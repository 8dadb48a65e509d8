-- What a word TABLE=FILE of a command line asks for. The form is this project's own.
use Rattle.std.specs.Prelude.{◌≡◌, ℕ, ◌≤◌, ◌==◌, ◌&&◌, cond, List, [], ◌∷◌, ◌++◌, length, drop, Option, None, Some}
use Rattle.pgq_base.specs.Files.{equals_sign}
use Rattle.sql_lexer.specs.declared.fault.Fault.{Fault}
use Rattle.sql_lexer.specs.declared.token.Token.{Token}
use Rattle.sql_lexer.specs.declared.token.Kind.{Kind}
use Rattle.sql_lexer.specs.declared.token.Kind.TheVariants as kind
use Rattle.sql_lexer.specs.Pieces.{Piece, bytes_of}
use Rattle.sql_lexer.specs.Faults.{fault_of}
use Rattle.sql_lexer.specs.Tokens.{kind_of, token}
use Rattle.sql_lexer.specs.Texts.{AreTokens}
use Rattle.sql_lexer.specs.Scan.{front}
use Rattle.table_words.specs.declared.word.TableWord.{TableWord}

-- the name of a token that is one, bare or delimited; a reserved word is none
abbrev pub name_of : Kind → Option (List ℕ)
name_of (kind.Word name) = Some name
name_of (kind.Delimited name) = Some name
name_of k = None

-- the text is cut into one token, which is a name and stands on the whole text
pub record IsIdentifier (text name : List ℕ) : Type 0 where
  pub kind : Kind
  pub tokens : AreTokens text (token 0 (length text) kind ∷ [])
  pub named : name_of kind ≡ Some name

-- the word is an identifier, which names the table, a `=`, and the name of the file
pub record IsTableWord (word : List ℕ) (asked : TableWord) : Type 0 where
  pub identifier : List ℕ
  pub split : word ≡ identifier ++ equals_sign ∷ asked.file
  pub names : IsIdentifier identifier asked.table
  pub some : 1 ≤ length asked.file

-- the name that a piece without a fault is, if it is one
abbrev pub name_in : Option Fault → Option Kind → Option (List ℕ)
name_in (Some fault) kind = None
name_in None None = None
name_in None (Some kind) = name_of kind

-- the file that is named behind a `=`
abbrev pub file_in : List ℕ → Option (List ℕ)
file_in [] = None
file_in (e ∷ []) = None
file_in (e ∷ b ∷ bs) = cond (e == equals_sign) (Some (b ∷ bs)) None

abbrev pub asked_by : Option (List ℕ) → Option (List ℕ) → Option TableWord
asked_by None file = None
asked_by (Some table) None = None
asked_by (Some table) (Some file) = Some (record { table = table; file = file })

abbrev pub word_by : List ℕ → Option Piece → Option TableWord
word_by word None = None
word_by word (Some piece) = asked_by (name_in (fault_of piece) (kind_of piece)) (file_in (drop (length (bytes_of piece)) word))

-- what the word asks for, by the piece at its front
abbrev pub table_word : List ℕ → Option TableWord
table_word word = word_by word (front word)

abbrev pub together : Option TableWord → Option (List TableWord) → Option (List TableWord)
together None more = None
together (Some asked) None = None
together (Some asked) (Some more) = Some (asked ∷ more)

-- what some words ask for, if each of them has the form
abbrev pub table_words : List (List ℕ) → Option (List TableWord)
table_words [] = Some []
table_words (word ∷ words) = together (table_word word) (table_words words)

-- ---- words of private functions

-- the name of the one token of a text of that length, if it stands on the whole text
abbrev pub name_alone : ℕ → List Token → Option (List ℕ)
name_alone len [] = None
name_alone len (t ∷ []) = cond (t.span.from == 0 && t.span.to == len) (name_of t.kind) None
name_alone len (t ∷ u ∷ more) = None

-- the text is an identifier of that name, or none
abbrev pub Names : List ℕ → Option (List ℕ) → Type 0
Names text (Some name) = IsIdentifier text name
Names text None = (name : List ℕ) → IsIdentifier text name → ⊥

-- the word asks for this, or for nothing
abbrev pub AsksFor : List ℕ → Option TableWord → Type 0
AsksFor word (Some asked) = IsTableWord word asked
AsksFor word None = (asked : TableWord) → IsTableWord word asked → ⊥
