-- A query that is read has a column.
use Rattle.std.proofs.Common.{◌≡◌, refl, sym, ap, subst, ◌∙◌, ℕ, ◌≤◌, Option, Some, None, List, [], ◌∷◌, map, length, Result, Ok, Err, IfOk, arith}
use Rattle.std.proofs.lemmas.List.{length-map}
use Rattle.pgq_base.specs.Answers.{Gives}
use Rattle.pgq_base.specs.declared.refusal.Refusal.{Refusal}
use Rattle.pgq_base.specs.declared.refusal.Stop.{Stop}
use Rattle.sql_lexer.specs.declared.token.Token.{Token}
use Rattle.graph_ast.specs.declared.catalog.Catalog.{Catalog}
use Rattle.first_faults.specs.declared.faults.Fault.{Fault}
use Rattle.sql_algebra.specs.declared.tree.Select.{Select}
use Rattle.sql_algebra.specs.declared.tree.SelectColumn.{SelectColumn}
use Rattle.sql_algebra.specs.declared.tree.SqlQuery.{SqlQuery}
use Rattle.sql_algebra.specs.declared.text.SelectText.{SelectText, out-SelectText, fold-roll-SelectText}
use Rattle.sql_algebra.specs.declared.text.SqlText.{SqlText}
use Rattle.sql_algebra.specs.Grammar.{Production, list, within, select, sql}
use Rattle.sql_algebra.specs.Meaning.{names_of}
use Rattle.sql_parser.specs.Outcomes.{SpellsSql}
use Rattle.sql_reader.specs.Phases.{first_fault}
use Rattle.sql_reader.specs.Reaches.{Reach, reach_within}
use Rattle.sql_reader.specs.Queries as queries
use Rattle.sql_reader.specs.Queries.{column_made, select_made, query_of, query_unless, due}
use Rattle.sql_reader.specs.Shapes.{AreSized}
use Rattle.sql_reader.proofs.RuleValues.{Parts, Of, Gives as Holds, any_gives, mapped_gives, seq_gives}

abbrev Filled : Of SelectText
Filled s = 1 ≤ length s.columns

-- the first of some selects has a column
abbrev FirstFilled : Of (List SelectText)
FirstFilled [] = ⊥
FirstFilled (s ∷ ss) = Filled s

some : {V : Type 0} (v : V) (vs : List V) → 1 ≤ length (v ∷ vs)
some v vs = omega arith

module _ {b : Parts} where
  some_list : {V : Type 0} (r : Production V) → Holds b (list r) (λ vs. 1 ≤ length vs)
  some_list r = mapped_gives any_gives (λ d h. some d.0 d.1)

  select_filled : Holds b select Filled
  unfolding select
  select_filled = mapped_gives (seq_gives any_gives (seq_gives (some_list _) any_gives)) (λ d h. h.1.0)

  text_filled : Holds b sql (λ s. FirstFilled s.selects)
  unfolding sql
  text_filled = mapped_gives (seq_gives (seq_gives select_filled any_gives) any_gives) (λ d h. h.0.0)

first_filled : (ts : List Token) (s : SqlText) → AreSized ts → SpellsSql ts s → FirstFilled s.selects
first_filled ts s i (n, d) = subst (λ (t : SqlText). FirstFilled t.selects) d.2 (text_filled.holds d.0 (subst AreSized d.1 i))

columns_made : (catalog : Catalog) (t : SelectText) → length (select_made catalog t []).columns ≡ length t.columns
columns_made catalog t =
    ap (λ (f : Reach → Select). length (f []).columns) (fold-roll-SelectText (Reach → _) (Reach → Select) queries.conjunct_step (queries.select_step catalog) (out-SelectText t))
    ∙ length-map t.columns (column_made (reach_within catalog [] t.from))

named : (catalog : Catalog) (ss : List SelectText) → FirstFilled ss → 1 ≤ length (names_of (record { selects = map (λ select. select_made catalog select []) ss }))
named catalog [] h = absurd h
named catalog (s ∷ ss) h = omega (arith, h, columns_made catalog s, length-map (select_made catalog s []).columns (λ (column : SelectColumn). column.name))

module _ (catalog : Catalog) (text : SqlText) where
  of_due : FirstFilled text.selects → (o : Option Fault) (query : SqlQuery) → query_unless (query_of catalog text) o ≡ Ok query → 1 ≤ length (names_of query)
  of_due filled None query e = let same : query_of catalog text ≡ query = cc in subst (λ q. 1 ≤ length (names_of q)) same (named catalog text.selects filled)
  of_due filled (Some f) query e = absurd cc

  pub judged_filled : (ts : List Token) → AreSized ts → SpellsSql ts text → (result : Result SqlQuery (Stop Refusal)) → Gives (due catalog text) result
      → IfOk result (λ query. 1 ≤ length (names_of query))
  unfolding due
  judged_filled ts sized spelled (Ok query) e = of_due (first_filled ts text sized spelled) (first_fault catalog text) query e
  judged_filled ts sized spelled (Err stop) e = tt
