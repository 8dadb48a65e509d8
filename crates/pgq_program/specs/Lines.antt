-- The lines on `err`. Their form is this project's own.
use Rattle.std.specs.Prelude.{◌≡◌, ◌==◌, ◌&&◌, ◌||◌, ℕ, Bool, false, nat_le, cond, List, [], ◌∷◌, ◌++◌, is_none, codes, decimal}
use Rattle.std.specs.List.{list_all}
use Rattle.pgq_base.specs.Codes.{number_of, message_of}
use Rattle.pgq_base.specs.declared.refusal.Refusal.{Refusal}
use Rattle.pgq_base.specs.declared.refusal.Detail.{Detail}
use Rattle.pgq_base.specs.declared.refusal.Detail.TheVariants.{Nothing, At}
use Rattle.pgq_base.specs.declared.refusal.Role.{Role}
use Rattle.pgq_base.specs.declared.refusal.Role.TheVariants.{Schema, Query, Sql, Table}
use Rattle.word_table.specs.Tables.{place_of}
use Rattle.word_table.specs.Words.{reserved}
use Rattle.sql_lexer.specs.Pieces.{Word, Delimited, bytes_of}
use Rattle.pgq_program.specs.declared.status.Status.{Status}
use Rattle.pgq_program.specs.declared.status.Status.TheVariants.{Done, Refused, Usage, ReadFault, WriteFault, NoMemory}

abbrev pub role_text : Role → List ℕ
role_text Schema = codes "schema"
role_text Query = codes "query"
role_text Sql = codes "sql"
role_text Table = codes "table"

abbrev pub begins_bare : ℕ → Bool
begins_bare b = (nat_le 65 b && nat_le b 90) || b == 95

abbrev pub is_bare_byte : ℕ → Bool
is_bare_byte b = begins_bare b || (nat_le 48 b && nat_le b 57)

abbrev pub is_bare_text : List ℕ → Bool
is_bare_text [] = false
is_bare_text (b ∷ bs) = begins_bare b && list_all is_bare_byte bs

-- a letter A to Z or `_`, then such letters, digits and `_`, and no reserved word
abbrev pub is_bare : List ℕ → Bool
is_bare name = is_bare_text name && is_none (place_of reserved name)

-- a name as SQL texts have it: bare where it can be, and else delimited
abbrev pub name_text : List ℕ → List ℕ
name_text name = bytes_of (cond (is_bare name) (Word name) (Delimited name))

-- : <table> <row> <column>
abbrev pub detail_text : Detail → List ℕ
detail_text Nothing = []
detail_text (At table row column) = codes ": " ++ name_text table ++ codes " " ++ decimal row ++ codes " " ++ decimal column

-- <role>:<from>-<to>: <code> <text>, and behind it the detail
unfoldable pub refusal_line : Refusal → List ℕ
refusal_line refusal =
    role_text refusal.role ++ codes ":" ++ decimal refusal.span.from ++ codes "-" ++ decimal refusal.span.to ++ codes ": " ++ decimal (number_of refusal.code) ++ codes " "
    ++ message_of refusal.code ++ detail_text refusal.detail ++ codes "\n"

abbrev pub usage_line : List ℕ
usage_line =
    codes "usage: pgq translate SCHEMA QUERY, check SCHEMA [QUERY], run SCHEMA QUERY TABLE=FILE ..., eval SCHEMA SQL TABLE=FILE ..., sample N\n"

-- what `err` receives under a status; under WriteFault the status that was due decides
abbrev pub IsLineOf : Status → List ℕ → Type 0
IsLineOf Done line = line ≡ []
IsLineOf Refused line = (refusal : Refusal) × (line ≡ refusal_line refusal)
IsLineOf Usage line = line ≡ usage_line
IsLineOf ReadFault line = line ≡ codes "read fault\n"
IsLineOf WriteFault line = ⊥
IsLineOf NoMemory line = line ≡ codes "out of memory\n"
