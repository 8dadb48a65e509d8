-- The productions of selects.
use Rattle.std.specs.Prelude.{List}
use Rattle.token_grammar.specs.Rules.Rule.{either}
use Rattle.sql_algebra.specs.declared.text.ItemText.{ItemText}
use Rattle.sql_algebra.specs.declared.text.ConjunctText.{ConjunctText}
use Rattle.sql_algebra.specs.Grammar.{Production, joined, next_chain, conjunct, and_list}

-- JOIN from ON member { AND member } | , from
abbrev pub next_item : Production ItemText
next_item = either joined next_chain

-- conjunct { AND conjunct }
abbrev pub conjuncts : Production (List ConjunctText)
conjuncts = and_list conjunct
