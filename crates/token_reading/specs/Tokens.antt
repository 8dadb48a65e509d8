-- What the grammars' rules see of a token: its class, and what stands in it.
use Rattle.std.specs.Prelude.{ℕ, ◌^◌, ◌==◌, ◌&&◌, nat_le, nat_lt, cond, Bool, List, [], Option, None, Some}
use Rattle.pgq_base.specs.declared.refusal.Span.{Span}
use Rattle.sql_lexer.specs.declared.token.Kind.{Kind}
use Rattle.sql_lexer.specs.declared.token.Kind.TheVariants as k
use Rattle.sql_lexer.specs.declared.token.Token.{Token}
use Rattle.graph_ast.specs.declared.schema.Named.{Named}
use Rattle.token_marks.specs.declared.mark.Mark.{Mark}
use Rattle.token_marks.specs.declared.mark.Mark.TheVariants as m
use Rattle.token_marks.specs.Marks.{mark, number_of}

-- the class of a token is the number of its mark
unfoldable pub class : Token → ℕ
class token = number_of (mark token)

-- all classes are below it
abbrev pub class_count : ℕ
class_count = 112

-- the token has the mark
abbrev pub is_mark : Mark → Token → Bool
is_mark wanted x = class x == number_of wanted

-- a bare word, also one that some grammar names
abbrev pub is_word : ℕ → Bool
is_word c = nat_le (number_of m.Action) c && nat_le c (number_of m.OtherWord)

-- a bare word or a delimited name
abbrev pub is_name : ℕ → Bool
is_name c = nat_le (number_of m.Action) c && nat_le c (number_of m.Delimited)

abbrev pub span_of : Token → Span
span_of token = token.span

-- from where the first begins to where the second ends
abbrev pub both : Span → Span → Span
both a b = record { from = a.from; to = b.to }

-- the bytes of a bare word or a delimited name, if it is one
abbrev pub name_bytes : Kind → Option (List ℕ)
name_bytes (k.Word bytes) = Some bytes
name_bytes (k.Delimited bytes) = Some bytes
name_bytes other = None

-- the bytes of a bare word, if it is one
abbrev pub word_bytes : Kind → Option (List ℕ)
word_bytes (k.Word bytes) = Some bytes
word_bytes other = None

-- a number below 2^63, if it is one
abbrev pub small_number : Kind → Option ℕ
small_number (k.Number n) = cond (nat_lt n (2 ^ 63)) (Some n) None
small_number other = None

abbrev pub bytes_of : Kind → List ℕ
bytes_of (k.Word bytes) = bytes
bytes_of (k.Delimited bytes) = bytes
bytes_of other = []

abbrev pub named : Token → Named
named token = record { name = bytes_of token.kind; span = token.span }

abbrev pub number_in : Kind → ℕ
number_in (k.Number n) = n
number_in other = 0

-- a number, and where it stands
abbrev pub number_at : Token → ℕ × Span
number_at token = (number_in token.kind, token.span)
