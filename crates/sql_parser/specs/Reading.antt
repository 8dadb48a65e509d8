-- The parser that the code follows.
use Rattle.std.specs.Prelude.{ℕ, None}
use Rattle.sql_lexer.specs.declared.token.Token.{Token}
use Rattle.token_grammar.specs.Parser.{Parser, Inner, parser, inner}
use Rattle.token_reading.specs.Tokens.{class}
use Rattle.condition_grammar.specs.Conditions.{Inside}
use Rattle.sql_algebra.specs.Grammar.{Nested, HeldInside, Production, inside}

-- how many more parentheses may be opened
abbrev pub Level : Type 0
Level = Inner Token (Inside Nested) HeldInside

abbrev pub reads : Level → {V : Type 0} → Production V → Parser Token V
reads l r = parser class l r

abbrev pub at_depth : ℕ → Level
at_depth n = inner class inside n

-- what nests nowhere is read at any depth alike
abbrev pub flat : Level
flat = None
