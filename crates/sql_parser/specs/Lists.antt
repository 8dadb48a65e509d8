-- Lists of one or more.
use Rattle.std.specs.Prelude.{Bool, List, ◌∷◌}
use Rattle.sql_lexer.specs.declared.token.Token.{Token}
use Rattle.token_grammar.specs.Parser.{Parser, mapped_p, seq_p, many_p}

-- the first, and the others, each of which begins with a token that passes the test
abbrev pub reads_list : {V : Type 0} → Parser Token V → (Token → Bool) → Parser Token V → Parser Token (List V)
reads_list P goes_on Q = mapped_p (λ d. d.0 ∷ d.1) (seq_p P (many_p goes_on Q))
