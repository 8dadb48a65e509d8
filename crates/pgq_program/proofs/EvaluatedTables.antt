-- What is answered of an SQL text and of the tables of a command is what the words are due.
use Rattle.std.proofs.Common.{◌≡◌, refl, sym, ap, subst, ◌∙◌, ℕ, ◌≤◌, List, length, ◌⊎◌, inl, inr, Option, None, Some, IfSome, IfOk, IfErr, IsErrAnd, IsErrOf, Result, Ok, Err}
use Rattle.pgq_base.specs.Answers.{Gives}
use Rattle.pgq_base.specs.Instances.{TableRows, InstanceRows}
use Rattle.pgq_base.specs.declared.refusal.Refusal.{Refusal}
use Rattle.pgq_base.specs.declared.refusal.Role.TheVariants.{Sql}
use Rattle.pgq_base.specs.declared.refusal.Stop.{Stop}
use Rattle.pgq_base.specs.declared.refusal.Stop.TheVariants.{Refused, NoMemory}
use Rattle.sql_lexer.specs.declared.token.Token.{Token}
use Rattle.sql_lexer.specs.Texts.{AreTokens, most_tokens}
use Rattle.graph_ast.specs.declared.catalog.Catalog.{Catalog}
use Rattle.sql_algebra.specs.declared.tree.SqlQuery.{SqlQuery}
use Rattle.sql_parser.specs.Outcomes.{IfRefused, IsFirstFault}
use Rattle.sql_reader.specs.Reading.{IsRead}
use Rattle.table_words.specs.declared.word.TableWord.{TableWord}
use Rattle.table_files.specs.TablePlaces.{table_places}
use Rattle.table_loads.specs.Loads.{instance_at}
use Rattle.pgq_program.specs.declared.halt.Halt.{Halt}
use Rattle.pgq_program.specs.declared.halt.Halt.TheVariants as h
use Rattle.pgq_program.specs.Chains.{Then, Only}
use Rattle.pgq_program.specs.Halts.{halting, tables_halting, places_or}
use Rattle.pgq_program.specs.Outcomes.{Outcome}
use Rattle.pgq_program.specs.Rows.{IsSqlRead, WritesTable}
use Rattle.pgq_program.specs.Steps.{StepGives, StepWrites, Halted, IsCatalogAt, IsSqlAt, text_at}
use Rattle.pgq_program.specs.Texts.{GivesDue, next}

-- what the SQL rules answer of the tokens
pub at_sql : (catalog : Catalog) (text : List ℕ) (tokens : List Token) (r : Result SqlQuery (Stop Refusal)) → AreTokens text tokens → length tokens ≤ most_tokens
    → (seen : List Token) → seen ≡ tokens → (end : ℕ) → end ≡ length text → IfOk r (λ query. IsRead seen catalog (Ok query))
    → IfErr r (λ stop. IfRefused stop (λ refusal. IsFirstFault seen end refusal ⊎ IsRead seen catalog (Err refusal))) → GivesDue (IsSqlRead catalog text) r
at_sql catalog text tokens (Ok query) a few seen same end is k f = let read = subst (λ l. IsRead l catalog (Ok query)) same k in
    (tokens, (a, few), (read.text, (read.spelled, read.shallow), read.due_is))
at_sql catalog text tokens (Err (Refused refusal)) a few seen same end is k f = by (subst (λ l. IsFirstFault l end refusal ⊎ IsRead l catalog (Err refusal)) same f)
  where
    by : IsFirstFault tokens end refusal ⊎ IsRead tokens catalog (Err refusal) → GivesDue (IsSqlRead catalog text) (Err (Refused refusal))
    by (inl first) = inr (tokens, (a, few), inl (subst (λ n. IsFirstFault tokens n refusal) is first))
    by (inr read) = inr (tokens, (a, few), inr (read.text, (read.spelled, read.shallow), read.due_is))
at_sql catalog text tokens (Err NoMemory) a few seen same end is k f = tt

-- what the text of a file is due is what the file is due
pub in_file : (catalog : Catalog) (name text : List ℕ) (files : Option (List (List ℕ × List ℕ))) (r : Result SqlQuery Halt)
    → IfSome files (λ told. StepGives (Only (text_at Sql name told)) (Ok text))
    → (seen : List ℕ) → seen ≡ text → StepGives (Halted (IsSqlRead catalog seen)) r → IfSome files (λ told. StepGives (IsSqlAt catalog name told) r)
in_file catalog name text None r e seen same k = tt
in_file catalog name text (Some told) r e seen same k = by r (subst (λ t. StepGives (Halted (IsSqlRead catalog t)) r) same k)
  where
    by : (r : Result SqlQuery Halt) → StepGives (Halted (IsSqlRead catalog text)) r → StepGives (IsSqlAt catalog name told) r
    by (Ok query) k = (text, e, k)
    by (Err (h.Refused refusal)) k = inr (text, e, k)
    by (Err h.Usage) k = absurd k
    by (Err h.ReadFault) k = tt
    by (Err h.NoMemory) k = tt

-- the instance, and then the rows that are due over it, under their names
module _ (catalog : Catalog) (words : List TableWord) (places : List ℕ) (names : List (List ℕ)) (due : InstanceRows → Result TableRows Refusal) where
  abbrev pub Reads : Result InstanceRows Halt → List (List ℕ × List ℕ) → Type 0
  Reads r told = StepGives (Only (tables_halting (instance_at catalog told words places))) r

  abbrev pub WritesAt : Result (List ℕ) Halt → List (List ℕ × List ℕ) → Type 0
  WritesAt r told = WritesTable names (next (tables_halting (instance_at catalog told words places)) (λ instance. halting (due instance))) r

  pub with_instance : (files : Option (List (List ℕ × List ℕ))) (instance : InstanceRows) (r : Result (List ℕ) Halt) → IfSome files (Reads (Ok instance))
      → WritesTable names (halting (due instance)) r → IfSome files (WritesAt r)
  with_instance None instance r e k = tt
  with_instance (Some told) instance r e k = subst (λ rows. WritesTable names rows r) (sym (ap (λ i. next i (λ instance. halting (due instance))) e)) k

  refused_instance : (told : List (List ℕ × List ℕ)) (e : Halt) → Reads (Err e) told → (e ≡ h.Usage → ⊥) → WritesAt (Err e) told
  refused_instance told (h.Refused refusal) k never = ap (λ i. next i (λ instance. halting (due instance))) k
  refused_instance told h.Usage k never = absurd (never refl)
  refused_instance told h.ReadFault k never = tt
  refused_instance told h.NoMemory k never = tt

  pub without_instance : (files : Option (List (List ℕ × List ℕ))) (e : Halt) (r : Result (List ℕ) Halt) → IsErrAnd r (λ x. x ≡ e) → IfSome files (Reads (Err e))
      → (e ≡ h.Usage → ⊥) → IfSome files (WritesAt r)
  without_instance None e r is k never = tt
  without_instance (Some told) e (Ok text) is k never = absurd is
  without_instance (Some told) e (Err x) is k never = let P : Halt → Type 0 = λ x. WritesAt (Err x) told in subst P (sym is) (refused_instance told e k never)

-- a query, and then the table of its rows under its names
module _ {Q : Type 0} (first : List (List ℕ × List ℕ) → Result Q Halt → Type 0) (names : Q → List (List ℕ)) (rows : Q → List (List ℕ × List ℕ) → Result TableRows Halt) where
  abbrev pub IsTable : List (List ℕ × List ℕ) → Result Outcome Halt → Type 0
  IsTable told answer = Then (first told) (λ query. Then (Only (rows query told)) (λ table. Only (Ok (Outcome.Table (names query) table)))) answer

  pub with_query : (query : Q) (files : Option (List (List ℕ × List ℕ))) (r : Result (List ℕ) Halt) → IfSome files (λ told. StepGives (first told) (Ok query))
      → IfSome files (λ told. WritesTable (names query) (rows query told) r) → IfSome files (λ told. StepWrites (IsTable told) r)
  with_query query None r e k = tt
  with_query query (Some told) r e k = by r k
    where
      by : (r : Result (List ℕ) Halt) → WritesTable (names query) (rows query told) r → StepWrites (IsTable told) r
      by (Ok text) (table, due, is) = (Outcome.Table (names query) table, (query, e, (table, due, refl)), is)
      by (Err (h.Refused refusal)) due = inr (query, e, inl due)
      by (Err h.Usage) k = absurd k
      by (Err h.ReadFault) k = tt
      by (Err h.NoMemory) k = tt

-- the catalog and the places of the tables, and then the rest
module _ (schema : List ℕ) (words : List TableWord) (rest : Catalog → List ℕ → List (List ℕ × List ℕ) → Result Outcome Halt → Type 0) where
  abbrev pub IsOver : List (List ℕ × List ℕ) → Result Outcome Halt → Type 0
  IsOver told answer = Then (IsCatalogAt schema told) (λ catalog. Then (Only (places_or (table_places catalog words))) (λ places. rest catalog places told)) answer

  pub with_places : (catalog : Catalog) (places : List ℕ) (files : Option (List (List ℕ × List ℕ))) (r : Result (List ℕ) Halt)
      → IfSome files (λ told. StepGives (IsCatalogAt schema told) (Ok catalog)) → StepGives (Only (places_or (table_places catalog words))) (Ok places)
      → (seen : List ℕ) → seen ≡ places → IfSome files (λ told. StepWrites (rest catalog seen told) r) → IfSome files (λ told. StepWrites (IsOver told) r)
  with_places catalog places None r e p seen same k = tt
  with_places catalog places (Some told) r e p seen same k = by r (subst (λ l. StepWrites (rest catalog l told) r) same k)
    where
      by : (r : Result (List ℕ) Halt) → StepWrites (rest catalog places told) r → StepWrites (IsOver told) r
      by (Ok text) (outcome, due, is) = (outcome, (catalog, e, (places, p, due)), is)
      by (Err (h.Refused refusal)) due = inr (catalog, e, inr (places, p, due))
      by (Err h.Usage) due = inr (catalog, e, inr (places, p, due))
      by (Err h.ReadFault) k = tt
      by (Err h.NoMemory) k = tt
