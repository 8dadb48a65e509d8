-- The refusal that words are due names a part of the text of its role.
use Rattle.std.proofs.Common.{◌≡◌, refl, ap, subst, sym, ℕ, List, length, ◌⊎◌, inl, inr, Option, None, Some, IfSome, Result, Ok, Err}
use Rattle.pgq_base.specs.Files.{content_of}
use Rattle.pgq_base.specs.declared.refusal.Refusal.{Refusal}
use Rattle.pgq_base.specs.declared.refusal.Role.{Role}
use Rattle.pgq_base.specs.declared.refusal.Role.TheVariants.{Schema, Query, Sql}
use Rattle.pgq_program.specs.declared.halt.Halt.TheVariants as h
use Rattle.pgq_program.specs.declared.answers.Answer.{Answer}
use Rattle.pgq_program.specs.declared.answers.Answer.TheVariants as a
use Rattle.pgq_program.specs.declared.status.Status.TheVariants.{Refused}
use Rattle.pgq_program.specs.Commands.{Asked}
use Rattle.pgq_program.specs.Places.{NamesPart, IsLineDue, of_role, text_for}
use Rattle.pgq_program.specs.Runs.{IsDue, status_of, err_text}
use Rattle.pgq_program.specs.Halts.{halting}
use Rattle.pgq_program.specs.Steps.{Owes, IsTableOf, IsTranslationOf, IsAnswerOf, IsSampled, IsCatalogAt, IsCheckedAt, held_text, text_at}
use Rattle.pgq_program.specs.Texts.{sized}
use Rattle.pgq_program.proofs.Placed.{IsPlaced, read}
use Rattle.pgq_program.proofs.PlacedQueries.{query_read}
use Rattle.pgq_program.proofs.PlacedSqls.{sql_read, too_many_lies}
use Rattle.pgq_program.proofs.PlacedTables.{IsTablePlaced, table_part, many_refused, rows_placed, places_not_refused}
use Rattle.pgq_program.specs.Running.{answer_of}
use Rattle.sample_run.specs.SampleCatalog.{sample_catalog}
use Rattle.sample_run.specs.SampleRun.{sample_query, sample_rows}
use Rattle.sql_algebra.specs.Meaning.{bag}
use Rattle.pgq_program.specs.Rows.{too_many}
use Rattle.table_words.specs.declared.word.TableWord.{TableWord}
use Rattle.table_files.specs.TablePlaces.{table_places}
use Rattle.pgq_program.proofs.PlacedTexts.{too_large, within_size, schema_part, query_part, sql_part}

halted : {A : Type 0} (due : Result A Refusal) (r : Refusal) → halting due ≡ Err (h.Refused r) → due ≡ Err r
halted (Ok x) r e = absurd cc
halted (Err refusal) r e = cc

kept : {A : Type 0} (due : Result A Refusal) (x : A) → halting due ≡ Ok x → due ≡ Ok x
kept (Ok y) x e = cc
kept (Err refusal) x e = absurd cc

-- ---- the text of a file

-- there is a text, and P holds of it
abbrev OfText : (List ℕ → Type 0) → Option (List ℕ) → Type 0
OfText P held = (text : List ℕ) × (held ≡ Some text) × P text

refused_text : (role : Role) (r : Refusal) (held : Option (List ℕ)) → held_text role held ≡ Err (h.Refused r) → OfText (λ text. IsPlaced role (length text) r) held
refused_text role r None e = absurd cc
refused_text role r (Some text) e = (text, refl, too_large role text r (halted (sized role text) r e))

read_text : (role : Role) (text : List ℕ) (held : Option (List ℕ)) → held_text role held ≡ Ok text → held ≡ Some text
read_text role text None e = absurd cc
read_text role text (Some content) e = ap Some (within_size role content text (kept (sized role content) text e))

module _ (files : List (List ℕ × List ℕ)) (name : List ℕ) where
  refused_catalog : (r : Refusal) → IsCatalogAt name files (Err (h.Refused r)) → OfText (λ text. IsPlaced Schema (length text) r) (content_of name files)
  refused_catalog r (inl e) = refused_text Schema r (content_of name files) e
  refused_catalog r (inr (text, e, fault)) = (text, read_text Schema text (content_of name files) e, read text r fault)

-- ---- the words

in_schema : (schema query sql : Option (List ℕ)) (r : Refusal) → OfText (λ text. IsPlaced Schema (length text) r) schema → NamesPart (of_role schema query sql) r
in_schema schema query sql r (text, held, placed) = subst (λ o. NamesPart (of_role o query sql) r) (sym held) (schema_part text query sql r placed)

in_query : (schema query sql : Option (List ℕ)) (r : Refusal) → OfText (λ text. IsPlaced Query (length text) r) query → NamesPart (of_role schema query sql) r
in_query schema query sql r (text, held, placed) = subst (λ o. NamesPart (of_role schema o sql) r) (sym held) (query_part schema sql text r placed)

in_sql : (schema query sql : Option (List ℕ)) (r : Refusal) → OfText (λ text. IsPlaced Sql (length text) r) sql → NamesPart (of_role schema query sql) r
in_sql schema query sql r (text, held, placed) = subst (λ o. NamesPart (of_role schema query o) r) (sym held) (sql_part schema query text r placed)

by_check : (schema query : List ℕ) (files : List (List ℕ × List ℕ)) (r : Refusal) → IsCheckedAt schema query files (Err (h.Refused r))
    → NamesPart (of_role (content_of schema files) (content_of query files) None) r
by_check schema query files r (inl fault) = in_schema (content_of schema files) (content_of query files) None r (refused_catalog files schema r fault)
by_check schema query files r (inr (catalog, e, inl fault)) = in_query (content_of schema files) (content_of query files) None r
    (refused_text Query r (content_of query files) fault)
by_check schema query files r (inr (catalog, e, inr (text, held, fault))) =
    in_query (content_of schema files) (content_of query files) None r (text, read_text Query text (content_of query files) held, query_read catalog text r fault)

by_translate : (schema query : List ℕ) (files : List (List ℕ × List ℕ)) (r : Refusal) → IsTranslationOf schema query files (Err (h.Refused r))
    → NamesPart (of_role (content_of schema files) (content_of query files) None) r
by_translate schema query files r (inl fault) = by_check schema query files r (inl fault)
by_translate schema query files r (inr (catalog, e, inl fault)) = by_check schema query files r (inr (catalog, e, fault))
by_translate schema query files r (inr (catalog, e, inr (checked, k, other))) = absurd cc

by_eval_rows : (schema sql text : List ℕ) (files : List (List ℕ × List ℕ)) (r : Refusal) → content_of sql files ≡ Some text → (too_many Sql ≡ r) ⊎ IsTablePlaced r
    → NamesPart (of_role (content_of schema files) None (content_of sql files)) r
by_eval_rows schema sql text files r held (inl same) = in_sql (content_of schema files) None (content_of sql files) r (text, held, too_many_lies Sql (length text) r same)
by_eval_rows schema sql text files r held (inr placed) = table_part (content_of schema files) None (content_of sql files) r placed

by_eval : (schema sql : List ℕ) (words : List TableWord) (files : List (List ℕ × List ℕ)) (r : Refusal) → IsTableOf schema sql words files (Err (h.Refused r))
    → NamesPart (of_role (content_of schema files) None (content_of sql files)) r
by_eval schema sql words files r (inl fault) = in_schema (content_of schema files) None (content_of sql files) r (refused_catalog files schema r fault)
by_eval schema sql words files r (inr (catalog, e, inl fault)) = absurd (places_not_refused (table_places catalog words) r fault)
by_eval schema sql words files r (inr (catalog, e, inr (places, is, inl (inl fault)))) = in_sql (content_of schema files) None (content_of sql files) r
    (refused_text Sql r (content_of sql files) fault)
by_eval schema sql words files r (inr (catalog, e, inr (places, is, inl (inr (text, held, fault))))) =
    in_sql (content_of schema files) None (content_of sql files) r (text, read_text Sql text (content_of sql files) held, sql_read catalog text r fault)
by_eval schema sql words files r (inr (catalog, e, inr (places, is, inr (query, (text, held, read), inl fault)))) =
    by_eval_rows schema sql text files r (read_text Sql text (content_of sql files) held) (rows_placed Sql (bag catalog query) catalog words places files r fault)
by_eval schema sql words files r (inr (catalog, e, inr (places, is, inr (query, at, inr (rows, k, other))))) = absurd cc

by_run_rows : (schema query text : List ℕ) (files : List (List ℕ × List ℕ)) (r : Refusal) → content_of query files ≡ Some text → (too_many Query ≡ r) ⊎ IsTablePlaced r
    → NamesPart (of_role (content_of schema files) (content_of query files) None) r
by_run_rows schema query text files r held (inl same) = in_query (content_of schema files) (content_of query files) None r (text, held, too_many_lies Query (length text) r same)
by_run_rows schema query text files r held (inr placed) = table_part (content_of schema files) (content_of query files) None r placed

by_run : (schema query : List ℕ) (words : List TableWord) (files : List (List ℕ × List ℕ)) (r : Refusal) → IsAnswerOf schema query words files (Err (h.Refused r))
    → NamesPart (of_role (content_of schema files) (content_of query files) None) r
by_run schema query words files r (inl fault) = in_schema (content_of schema files) (content_of query files) None r (refused_catalog files schema r fault)
by_run schema query words files r (inr (catalog, e, inl fault)) = absurd (places_not_refused (table_places catalog words) r fault)
by_run schema query words files r (inr (catalog, e, inr (places, is, inl (inl fault)))) =
    in_query (content_of schema files) (content_of query files) None r (refused_text Query r (content_of query files) fault)
by_run schema query words files r (inr (catalog, e, inr (places, is, inl (inr (text, held, fault))))) =
    in_query (content_of schema files) (content_of query files) None r (text, read_text Query text (content_of query files) held, query_read catalog text r fault)
by_run schema query words files r (inr (catalog, e, inr (places, is, inr (checked, (text, held, read), inl fault)))) =
    by_run_rows schema query text files r (read_text Query text (content_of query files) held) (rows_placed Query (answer_of catalog checked) catalog words places files r fault)
by_run schema query words files r (inr (catalog, e, inr (places, is, inr (checked, at, inr (rows, k, other))))) = absurd cc

by_sample : (n : ℕ) (r : Refusal) → IsSampled n (Err (h.Refused r)) → NamesPart (of_role None (Some sample_query) None) r
by_sample n r (inl fault) = query_part None None sample_query r (query_read sample_catalog sample_query r fault)
by_sample n r (inr (checked, read, inl fault)) =
    query_part None None sample_query r (too_many_lies Query (length sample_query) r (many_refused Query (answer_of sample_catalog checked (sample_rows n)) r fault))
by_sample n r (inr (checked, read, inr (rows, k, other))) = absurd cc

placed : (asked : Option Asked) (files : List (List ℕ × List ℕ)) (r : Refusal) → Owes asked files (Err (h.Refused r)) → NamesPart (text_for asked files) r
placed None files r e = absurd cc
placed (Some (Asked.OfTranslate schema query)) files r e = by_translate schema query files r e
placed (Some (Asked.OfCheck schema)) files r (inl fault) = in_schema (content_of schema files) None None r (refused_catalog files schema r fault)
placed (Some (Asked.OfCheck schema)) files r (inr (catalog, e, other)) = absurd cc
placed (Some (Asked.OfCheckQuery schema query)) files r (inl fault) = by_check schema query files r fault
placed (Some (Asked.OfCheckQuery schema query)) files r (inr (checked, e, other)) = absurd cc
placed (Some (Asked.OfRun schema query words)) files r fault = by_run schema query words files r fault
placed (Some (Asked.OfSample n)) files r fault = by_sample n r fault
placed (Some (Asked.OfEval schema sql words)) files r fault = by_eval schema sql words files r fault

-- ---- what there is to say

said_line : (asked : Option Asked) (files : List (List ℕ × List ℕ)) (said : Answer) → IsDue (Owes asked files) said → status_of said ≡ Refused
    → IsLineDue asked files (err_text said)
said_line asked files (a.Done text) d e = absurd cc
said_line asked files (a.Refused line) (r, d, l) e = record { refusal = r; due = d; is_line = l; in_text = placed asked files r d }
said_line asked files a.Usage d e = absurd cc
said_line asked files a.ReadFault d e = absurd cc
said_line asked files a.NoMemory d e = absurd cc

pub line_if : (asked : Option Asked) (files : Option (List (List ℕ × List ℕ))) (said : Answer) → IfSome files (λ told. IsDue (Owes asked told) said)
    → status_of said ≡ Refused → IfSome files (λ told. IsLineDue asked told (err_text said))
line_if asked None said d e = tt
line_if asked (Some told) said d e = said_line asked told said d e
