-- What the words are due is one answer.
use Rattle.std.proofs.Common.{◌≡◌, sym, ap, ap₂, ◌∙◌, subst, ℕ, List, length, Option, None, Some, inl, inr, Result, Ok, Err}
use Rattle.pgq_base.specs.declared.refusal.Refusal.{Refusal}
use Rattle.pgq_base.specs.declared.refusal.Role.{Role}
use Rattle.pgq_base.specs.declared.refusal.Role.TheVariants.{Schema, Query, Sql}
use Rattle.sql_lexer.specs.declared.token.Token.{Token}
use Rattle.sql_lexer.specs.Texts.{refusal}
use Rattle.sql_lexer.proofs.Uniqueness.{tokens_unique, fault_unique, fault_excludes}
use Rattle.graph_ast.specs.declared.schema.SchemaTree.{SchemaTree}
use Rattle.graph_ast.specs.declared.catalog.Catalog.{Catalog}
use Rattle.graph_ast.specs.declared.query.QueryTree.{QueryTree}
use Rattle.schema_parser.specs.Outcomes.{IsOutcome}
use Rattle.schema_parser.proofs.Whole.{one_outcome}
use Rattle.pattern_parser.specs.Outcomes as query
use Rattle.pattern_parser.proofs.Whole as query_text
use Rattle.pattern_check.specs.Checks as rules
use Rattle.sql_algebra.specs.declared.tree.SqlQuery.{SqlQuery}
use Rattle.sql_algebra.specs.Meaning.{names_of}
use Rattle.sql_parser.specs.Outcomes as sql
use Rattle.sql_parser.proofs.Whole as sql_text
use Rattle.sql_reader.specs.Queries as sql_rules
use Rattle.table_words.specs.declared.word.TableWord.{TableWord}
use Rattle.table_files.specs.TablePlaces.{table_places}
use Rattle.pgq_program.specs.declared.halt.Halt.{Halt}
use Rattle.pgq_program.specs.declared.halt.Halt.TheVariants as h
use Rattle.pgq_program.specs.Chains.{Then, Only}
use Rattle.pgq_program.specs.Commands.{Asked}
use Rattle.pgq_program.specs.Outcomes.{Outcome}
use Rattle.pgq_program.specs.Queries.{served, IsJudged, IsQueryRead}
use Rattle.pgq_program.specs.Rows.{IsSqlRead}
use Rattle.graph_meaning.specs.Answers.{names}
use Rattle.sample_run.specs.SampleCatalog.{sample_catalog}
use Rattle.sample_run.specs.SampleRun.{sample_query, sample_rows}
use Rattle.pgq_program.specs.Halts.{halting, places_or}
use Rattle.pgq_program.specs.Running.{answer_due, summary_of}
use Rattle.pgq_program.specs.Schemas.{IsLexed, IsChecked, IsRead}
use Rattle.pgq_program.specs.Steps.{Halted, IsCatalogAt, IsQueryAt, IsCheckedAt, IsTranslationIn, IsTranslationOf, IsSqlAt, rows_at, IsTableAt, IsTableOf, answer_at, IsAnswerAt}
use Rattle.pgq_program.specs.Steps.{IsAnswerOf, IsSampled, Owes, text_at}
use Rattle.pgq_program.specs.Texts.{sized, IsSchemaDue, IsQueryDue, IsPairDue, IsTextsDue}

abbrev pub IsSingle : {A E : Type 0} → (Result A E → Type 0) → Type 0
IsSingle {A} {E} due = (x y : Result A E) → due x → due y → x ≡ y

single_only : {A E : Type 0} (answer : Result A E) → IsSingle (Only answer)
single_only answer x y p q = sym p ∙ q

pub ok_inside : {A E : Type 0} (x y : A) → (let r : Result A E = Ok x in r) ≡ Ok y → x ≡ y
ok_inside x y h = cc

err_inside : {A E : Type 0} (x y : E) → (let r : Result A E = Err x in r) ≡ Err y → x ≡ y
err_inside x y h = cc

pub ok_not_err : {A E : Type 0} (x : A) (y : E) → (let r : Result A E = Ok x in r) ≡ Err y → ⊥
ok_not_err x y h = cc

module _ {A B E : Type 0} (first : Result A E → Type 0) (following : A → Result B E → Type 0) (one : IsSingle first) (each : (x : A) → IsSingle (following x)) where
  same_step : (a b : A) (y : Result B E) → first (Ok a) → first (Ok b) → following b y → following a y
  same_step a b y p q r = subst (λ x. following x y) (ok_inside b a (one (Ok b) (Ok a) q p)) r

  pub single_then : IsSingle (Then first following)
  single_then (Ok x) (Ok y) (a, p, q) (b, r, t) = each a (Ok x) (Ok y) q (same_step a b (Ok y) p r t)
  single_then (Ok x) (Err f) (a, p, q) (inl r) = absurd (ok_not_err a f (one (Ok a) (Err f) p r))
  single_then (Ok x) (Err f) (a, p, q) (inr (b, r, t)) = each a (Ok x) (Err f) q (same_step a b (Err f) p r t)
  single_then (Err e) (Ok y) (inl p) (b, r, t) = absurd (ok_not_err b e (one (Ok b) (Err e) r p))
  single_then (Err e) (Ok y) (inr (a, p, q)) (b, r, t) = each a (Err e) (Ok y) q (same_step a b (Ok y) p r t)
  single_then (Err e) (Err f) (inl p) (inl r) = ap Err (err_inside e f (one (Err e) (Err f) p r))
  single_then (Err e) (Err f) (inl p) (inr (b, r, t)) = absurd (ok_not_err b e (one (Ok b) (Err e) r p))
  single_then (Err e) (Err f) (inr (a, p, q)) (inl r) = absurd (ok_not_err a f (one (Ok a) (Err f) p r))
  single_then (Err e) (Err f) (inr (a, p, q)) (inr (b, r, t)) = each a (Err e) (Err f) q (same_step a b (Err f) p r t)

single_lexed : (role : Role) (text : List ℕ) → IsSingle (IsLexed role text)
single_lexed role text (Ok xs) (Ok ys) p q = ap Ok (tokens_unique text xs ys p.0 q.0)
single_lexed role text (Ok xs) (Err f) p q = absurd (fault_excludes text xs f.code f.span p.0 p.1 q.1)
single_lexed role text (Err e) (Ok ys) p q = absurd (fault_excludes text ys e.code e.span q.0 q.1 p.1)
single_lexed role text (Err e) (Err f) p q = let u = fault_unique text e.code f.code e.span f.span p.1 q.1 in ap Err (p.0 ∙ ap₂ (refusal role) u.0 u.1 ∙ sym q.0)

single_parsed : (end : ℕ) (tokens : List Token) → IsSingle (IsOutcome tokens end)
single_parsed end tokens = one_outcome tokens end

single_checked : (tree : SchemaTree) → IsSingle (IsChecked tree)
single_checked tree (Ok x) (Ok y) p q = cc
single_checked tree (Ok x) (Err f) p q = cc
single_checked tree (Err e) (Ok y) p q = cc
single_checked tree (Err e) (Err f) p q = cc

single_read : (text : List ℕ) → IsSingle (IsRead text)
single_read text = single_then (IsLexed Schema text) (λ tokens. Then (IsOutcome tokens (length text)) IsChecked) (single_lexed Schema text)
    (λ tokens. single_then (IsOutcome tokens (length text)) IsChecked (single_parsed (length text) tokens) single_checked)

single_judged : (catalog : Catalog) (tree : QueryTree) → IsSingle (IsJudged catalog tree)
single_judged catalog tree = single_then (Only (served tree)) (λ tree. Only (rules.due catalog tree)) (single_only (served tree)) (λ tree. single_only (rules.due catalog tree))

pub single_query : (catalog : Catalog) (text : List ℕ) → IsSingle (IsQueryRead catalog text)
single_query catalog text = single_then (IsLexed Query text) (λ tokens. Then (query.IsOutcome tokens (length text)) (IsJudged catalog)) (single_lexed Query text)
    (λ tokens. single_then (query.IsOutcome tokens (length text)) (IsJudged catalog) (query_text.one_outcome tokens (length text)) (single_judged catalog))

single_halted : {A : Type 0} (due : Result A Refusal → Type 0) → IsSingle due → IsSingle (Halted due)
single_halted due one (Ok x) (Ok y) p q = ap Ok (ok_inside x y (one (Ok x) (Ok y) p q))
single_halted due one (Ok x) (Err (h.Refused f)) p q = absurd (ok_not_err x f (one (Ok x) (Err f) p q))
single_halted due one (Err (h.Refused e)) (Ok y) p q = absurd (ok_not_err y e (one (Ok y) (Err e) q p))
single_halted due one (Err (h.Refused e)) (Err (h.Refused f)) p q = ap (λ r. Err (h.Refused r)) (err_inside e f (one (Err e) (Err f) p q))
single_halted due one (Ok x) (Err h.Usage) p q = absurd q
single_halted due one (Ok x) (Err h.ReadFault) p q = absurd q
single_halted due one (Ok x) (Err h.NoMemory) p q = absurd q
single_halted due one (Err (h.Refused e)) (Err h.Usage) p q = absurd q
single_halted due one (Err (h.Refused e)) (Err h.ReadFault) p q = absurd q
single_halted due one (Err (h.Refused e)) (Err h.NoMemory) p q = absurd q
single_halted due one (Err h.Usage) y p q = absurd p
single_halted due one (Err h.ReadFault) y p q = absurd p
single_halted due one (Err h.NoMemory) y p q = absurd p

single_catalog_at : (schema : List ℕ) (files : List (List ℕ × List ℕ)) → IsSingle (IsCatalogAt schema files)
single_catalog_at schema files =
    single_then (Only (text_at Schema schema files)) (λ text. Halted (IsRead text)) (single_only (text_at Schema schema files))
    (λ text. single_halted (IsRead text) (single_read text))

single_query_at : (catalog : Catalog) (name : List ℕ) (files : List (List ℕ × List ℕ)) → IsSingle (IsQueryAt catalog name files)
single_query_at catalog name files =
    single_then (Only (text_at Query name files)) (λ text. Halted (IsQueryRead catalog text)) (single_only (text_at Query name files))
    (λ text. single_halted (IsQueryRead catalog text) (single_query catalog text))

single_checked_at : (schema name : List ℕ) (files : List (List ℕ × List ℕ)) → IsSingle (IsCheckedAt schema name files)
single_checked_at schema name files =
    single_then (IsCatalogAt schema files) (λ catalog. IsQueryAt catalog name files) (single_catalog_at schema files) (λ catalog. single_query_at catalog name files)

single_translation : (schema name : List ℕ) (files : List (List ℕ × List ℕ)) → IsSingle (IsTranslationOf schema name files)
single_translation schema name files =
    single_then (IsCatalogAt schema files) (λ catalog. IsTranslationIn catalog name files) (single_catalog_at schema files)
    (λ catalog. single_then (IsQueryAt catalog name files) (λ checked. Only (Ok (Outcome.Translation catalog checked))) (single_query_at catalog name files)
    (λ checked. single_only (Ok (Outcome.Translation catalog checked))))

single_sql : (catalog : Catalog) (text : List ℕ) → IsSingle (IsSqlRead catalog text)
single_sql catalog text = single_then (IsLexed Sql text) (λ tokens. Then (sql.IsOutcome tokens (length text)) (λ tree. Only (sql_rules.due catalog tree))) (single_lexed Sql text)
    (λ tokens. single_then (sql.IsOutcome tokens (length text)) (λ tree. Only (sql_rules.due catalog tree)) (sql_text.one_outcome tokens (length text))
    (λ tree. single_only (sql_rules.due catalog tree)))

single_sql_at : (catalog : Catalog) (name : List ℕ) (files : List (List ℕ × List ℕ)) → IsSingle (IsSqlAt catalog name files)
single_sql_at catalog name files =
    single_then (Only (text_at Sql name files)) (λ text. Halted (IsSqlRead catalog text)) (single_only (text_at Sql name files))
    (λ text. single_halted (IsSqlRead catalog text) (single_sql catalog text))

single_table_at : (catalog : Catalog) (words : List TableWord) (places sql : List ℕ) (files : List (List ℕ × List ℕ)) → IsSingle (IsTableAt catalog words places sql files)
single_table_at catalog words places sql files =
    single_then (IsSqlAt catalog sql files) (λ query. Then (Only (rows_at catalog query words places files)) (λ rows. Only (Ok (Outcome.Table (names_of query) rows))))
    (single_sql_at catalog sql files)
    (λ query. single_then (Only (rows_at catalog query words places files)) (λ rows. Only (Ok (Outcome.Table (names_of query) rows)))
    (single_only (rows_at catalog query words places files))
    (λ rows. single_only (Ok (Outcome.Table (names_of query) rows))))

single_table_of : (schema sql : List ℕ) (words : List TableWord) (files : List (List ℕ × List ℕ)) → IsSingle (IsTableOf schema sql words files)
single_table_of schema sql words files =
    single_then (IsCatalogAt schema files) (λ catalog. Then (Only (places_or (table_places catalog words))) (λ places. IsTableAt catalog words places sql files))
    (single_catalog_at schema files)
    (λ catalog. single_then (Only (places_or (table_places catalog words))) (λ places. IsTableAt catalog words places sql files)
    (single_only (places_or (table_places catalog words)))
    (λ places. single_table_at catalog words places sql files))

single_answer_at : (catalog : Catalog) (words : List TableWord) (places name : List ℕ) (files : List (List ℕ × List ℕ)) → IsSingle (IsAnswerAt catalog words places name files)
single_answer_at catalog words places name files =
    single_then (IsQueryAt catalog name files) (λ query. Then (Only (answer_at catalog query words places files)) (λ rows. Only (Ok (Outcome.Table (names query) rows))))
    (single_query_at catalog name files)
    (λ query. single_then (Only (answer_at catalog query words places files)) (λ rows. Only (Ok (Outcome.Table (names query) rows)))
    (single_only (answer_at catalog query words places files))
    (λ rows. single_only (Ok (Outcome.Table (names query) rows))))

single_answer_of : (schema name : List ℕ) (words : List TableWord) (files : List (List ℕ × List ℕ)) → IsSingle (IsAnswerOf schema name words files)
single_answer_of schema name words files =
    single_then (IsCatalogAt schema files) (λ catalog. Then (Only (places_or (table_places catalog words))) (λ places. IsAnswerAt catalog words places name files))
    (single_catalog_at schema files)
    (λ catalog. single_then (Only (places_or (table_places catalog words))) (λ places. IsAnswerAt catalog words places name files)
    (single_only (places_or (table_places catalog words)))
    (λ places. single_answer_at catalog words places name files))

single_sampled : (n : ℕ) → IsSingle (IsSampled n)
single_sampled n =
    single_then (Halted (IsQueryRead sample_catalog sample_query)) (λ query. Then (Only (halting (answer_due sample_catalog query (sample_rows n))))
    (λ rows. Only (Ok (summary_of n rows))))
    (single_halted (IsQueryRead sample_catalog sample_query) (single_query sample_catalog sample_query))
    (λ query. single_then (Only (halting (answer_due sample_catalog query (sample_rows n)))) (λ rows. Only (Ok (summary_of n rows)))
    (single_only (halting (answer_due sample_catalog query (sample_rows n)))) (λ rows. single_only (Ok (summary_of n rows))))

-- the words are due one answer
pub single_owes : (asked : Option Asked) (files : List (List ℕ × List ℕ)) (x y : Result Outcome Halt) → Owes asked files x → Owes asked files y → x ≡ y
single_owes None files = λ x y p q. p ∙ sym q
single_owes (Some (Asked.OfTranslate schema query)) files = single_translation schema query files
single_owes (Some (Asked.OfCheck schema)) files =
    single_then (IsCatalogAt schema files) (λ catalog. Only (Ok Outcome.Sound)) (single_catalog_at schema files) (λ catalog. single_only (Ok Outcome.Sound))
single_owes (Some (Asked.OfCheckQuery schema name)) files =
    single_then (IsCheckedAt schema name files) (λ checked. Only (Ok (Outcome.Weighed checked.weight))) (single_checked_at schema name files)
    (λ checked. single_only (Ok (Outcome.Weighed checked.weight)))
single_owes (Some (Asked.OfRun schema name words)) files = single_answer_of schema name words files
single_owes (Some (Asked.OfSample n)) files = single_sampled n
single_owes (Some (Asked.OfEval schema sql words)) files = single_table_of schema sql words files

-- ---- two texts

pub single_schema_due : (schema : List ℕ) → IsSingle (IsSchemaDue schema)
single_schema_due schema = single_then (Only (sized Schema schema)) IsRead (single_only (sized Schema schema)) single_read

single_query_due : (catalog : Catalog) (query : List ℕ) → IsSingle (IsQueryDue catalog query)
single_query_due catalog query = single_then (Only (sized Query query)) (IsQueryRead catalog) (single_only (sized Query query)) (single_query catalog)

pub single_texts : (schema query : List ℕ) → IsSingle (IsTextsDue schema query)
single_texts schema query =
    single_then (IsSchemaDue schema) (λ catalog. IsPairDue catalog query) (single_schema_due schema)
    (λ catalog. single_then (IsQueryDue catalog query) (λ checked. Only (Ok (catalog, checked))) (single_query_due catalog query) (λ checked. single_only (Ok (catalog, checked))))
