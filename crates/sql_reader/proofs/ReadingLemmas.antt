-- What reading answers, from what parsing and judging answer.
use Rattle.std.proofs.Common.{◌≡◌, ℕ, List, sym, ap, ◌∙◌, subst, Result, Ok, Err, inl, inr}
use Rattle.pgq_base.specs.Answers.{Gives}
use Rattle.pgq_base.specs.declared.refusal.Refusal.{Refusal}
use Rattle.pgq_base.specs.declared.refusal.Stop.{Stop}
use Rattle.pgq_base.specs.declared.refusal.Stop.TheVariants.{Refused, NoMemory}
use Rattle.sql_lexer.specs.declared.token.Token.{Token}
use Rattle.graph_ast.specs.declared.catalog.Catalog.{Catalog}
use Rattle.sql_algebra.specs.declared.text.SqlText.{SqlText}
use Rattle.sql_algebra.specs.declared.tree.SqlQuery.{SqlQuery}
use Rattle.sql_algebra.specs.Meant.{SpellsQuery}
use Rattle.sql_algebra.specs.Soundness.{IsSound}
use Rattle.sql_parser.specs.Outcomes.{IsOutcome, IsShallow}
use Rattle.sql_reader.specs.Phases.{first_fault}
use Rattle.sql_reader.specs.Queries.{query_of, query_unless, due}
use Rattle.sql_reader.specs.Reading.{IsRead, IsAnswer}
use Rattle.sql_reader.proofs.TellingTexts.{sound_faultless}
use Rattle.sql_reader.proofs.Written.{written}

-- a sound query is due for a text that tells it
due_for : (catalog : Catalog) (text : SqlText) (query : SqlQuery) → IsSound query catalog → query_of catalog text ≡ query → due catalog text ≡ Ok query
unfolding due
due_for catalog text query sound is =
    ap (λ q. query_unless q (first_fault catalog text)) is
    ∙ ap (query_unless query) (sound_faultless catalog text (subst (λ q. IsSound q catalog) (sym is) sound))

pub is_read : (tokens : List Token) (catalog : Catalog) (query : SqlQuery) → SpellsQuery tokens query → IsSound query catalog → IsShallow tokens → IsRead tokens catalog (Ok query)
is_read tokens catalog query s sound shallow = record {
  text = s.text;
  spelled = (s.depth, s.spells);
  shallow = shallow;
  due_is = due_for catalog s.text query sound (written catalog s.text query sound s.told);
}

module _ (tokens : List Token) (end : ℕ) (catalog : Catalog) where
  read_by : (t : SqlText) → ((o : Result SqlText Refusal) → IsOutcome tokens end o → Gives o (Ok t)) → (result : Result SqlQuery (Stop Refusal)) → Gives (due catalog t) result
      → (d : Result SqlQuery Refusal) → IsRead tokens catalog d → Gives d result
  read_by t parsed result judged d r =
      let whole : Ok r.text ≡ Ok t = parsed (Ok r.text) (r.spelled, r.shallow) in
      let same : r.text ≡ t = cc in
      subst (λ x. Gives x result) (ap (due catalog) (sym same) ∙ r.due_is) judged

  pub from_text : (t : SqlText) → ((o : Result SqlText Refusal) → IsOutcome tokens end o → Gives o (Ok t)) → (result : Result SqlQuery (Stop Refusal))
      → Gives (due catalog t) result
      → (d : Result SqlQuery Refusal) → IsAnswer tokens end catalog d → Gives d result
  from_text t parsed result judged (Ok query) r = read_by t parsed result judged (Ok query) r
  from_text t parsed result judged (Err refusal) (inl first) = let whole : Err refusal ≡ Ok t = parsed (Err refusal) first in absurd cc
  from_text t parsed result judged (Err refusal) (inr r) = read_by t parsed result judged (Err refusal) r

  pub from_stop : (stop : Stop Refusal) → ((o : Result SqlText Refusal) → IsOutcome tokens end o → Gives o (Err stop)) → (d : Result SqlQuery Refusal)
      → IsAnswer tokens end catalog d → Gives d (Err stop)
  from_stop NoMemory parsed d r = tt
  from_stop (Refused f) parsed (Ok query) r = let whole : Ok r.text ≡ Err f = parsed (Ok r.text) (r.spelled, r.shallow) in absurd cc
  from_stop (Refused f) parsed (Err refusal) (inl first) = let whole : Err refusal ≡ Err f = parsed (Err refusal) first in let same : refusal ≡ f = cc in ap Err same
  from_stop (Refused f) parsed (Err refusal) (inr r) = let whole : Ok r.text ≡ Err f = parsed (Ok r.text) (r.spelled, r.shallow) in absurd cc
