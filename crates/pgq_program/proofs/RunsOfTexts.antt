-- What is answered of a query over the texts of tables is what they are due, and a refusal names a part of the text of its role.
use Rattle.std.proofs.Common.{◌≡◌, refl, sym, ap, subst, ◌∙◌, ℕ, List, [], ◌∷◌, length, ◌⊎◌, inl, inr, Option, None, Some, Result, Ok, Err, IfErr}
use Rattle.std.specs.Prelude.{IsErrOf}
use Rattle.pgq_base.specs.Instances.{TableRows, InstanceRows}
use Rattle.pgq_base.specs.declared.refusal.Refusal.{Refusal}
use Rattle.pgq_base.specs.declared.refusal.Role.TheVariants.{Query}
use Rattle.pgq_base.specs.declared.refusal.Stop.{Stop}
use Rattle.pgq_base.specs.declared.refusal.Stop.TheVariants as s
use Rattle.csv_tables.specs.Writing.{table_text}
use Rattle.graph_ast.specs.declared.catalog.Catalog.{Catalog}
use Rattle.graph_ast.specs.declared.checked.CheckedQuery.{CheckedQuery}
use Rattle.graph_meaning.specs.Answers.{names}
use Rattle.table_files.specs.TableFiles.{RowsRead, none_read, file_read, files_read, and_then, instance_checked, instance_due}
use Rattle.table_files.specs.declared.files.TableText.{TableText}
use Rattle.pgq_program.specs.declared.halt.Halt.{Halt}
use Rattle.pgq_program.specs.declared.halt.Halt.TheVariants as h
use Rattle.pgq_program.specs.Halts.{halting}
use Rattle.pgq_program.specs.Places.{NamesPart, StopNamesPart, of_role}
use Rattle.pgq_program.specs.Rows.{WritesTable}
use Rattle.pgq_program.specs.Running.{answer_of, answer_due}
use Rattle.pgq_program.specs.TableRuns.{stopped, rows_of_texts, IsTableDue, IsRunDue}
use Rattle.pgq_program.specs.Texts.{next, GivesDue, IsSchemaDue, IsQueryDue}
use Rattle.pgq_program.proofs.PlacedSqls.{too_many_lies}
use Rattle.pgq_program.proofs.PlacedTables.{IsTablePlaced, table_part, behind, of_file, of_checked, halted, many_refused}
use Rattle.pgq_program.proofs.PlacedTexts.{refused_next, schema_part, query_part, refused_schema, refused_query}

-- ---- what is answered

unhalted : {A : Type 0} (due : Result A Refusal) (x : A) → halting due ≡ Ok x → due ≡ Ok x
unhalted (Ok y) x e = cc
unhalted (Err refusal) x e = absurd cc

module _ (catalog : Catalog) (query : CheckedQuery) (tables : List TableText) where
  pub with_instance : (instance : InstanceRows) (r : Result (List ℕ) Halt) → instance_due catalog tables ≡ Ok instance
      → WritesTable (names query) (halting (answer_due catalog query instance)) r → GivesDue (IsTableDue catalog query tables) (stopped r)
  with_instance instance (Ok text) is (rows, due, written) =
      (rows, ap (λ r. next r (answer_due catalog query)) is ∙ unhalted (answer_due catalog query instance) rows due, ap Ok (sym written))
  with_instance instance (Err (h.Refused refusal)) is due = inl (ap (λ r. next r (answer_due catalog query)) is ∙ halted (answer_due catalog query instance) refusal due)
  with_instance instance (Err h.Usage) is due = tt
  with_instance instance (Err h.ReadFault) is due = tt
  with_instance instance (Err h.NoMemory) is due = tt

-- what is answered of a query in a catalog, behind the schema text and the query text
pub behind_texts : (schema query : List ℕ) (tables : List TableText) (catalog : Catalog) (checked : CheckedQuery) (r : Result (List ℕ) (Stop Refusal))
    → IsSchemaDue schema (Ok catalog) → IsQueryDue catalog query (Ok checked) → GivesDue (IsTableDue catalog checked tables) r → GivesDue (IsRunDue schema query tables) r
behind_texts schema query tables catalog checked (Ok text) first second due = (catalog, first, (checked, second, due))
behind_texts schema query tables catalog checked (Err (s.Refused refusal)) first second due = inr (catalog, first, inr (checked, second, due))
behind_texts schema query tables catalog checked (Err s.NoMemory) first second due = tt

-- ---- the place of a refusal

of_texts : (catalog : Catalog) (read : RowsRead) (texts : List TableText) (r : Refusal) → files_read catalog read texts ≡ Err r → IsTablePlaced r
of_texts catalog read [] r e = absurd cc
of_texts catalog read (text ∷ texts) r e = by (behind (file_read catalog read text.table text.bytes) (λ more. files_read catalog more texts) r e)
    (λ more. of_texts catalog more texts r)
  where
    by : (file_read catalog read text.table text.bytes ≡ Err r) ⊎ ((more : RowsRead) × (files_read catalog more texts ≡ Err r))
        → ((more : RowsRead) → files_read catalog more texts ≡ Err r → IsTablePlaced r) → IsTablePlaced r
    by (inl e) later = of_file catalog read text.table text.bytes r e
    by (inr (more, e)) later = later more e

of_due : (catalog : Catalog) (texts : List TableText) (r : Refusal) → instance_due catalog texts ≡ Err r → IsTablePlaced r
of_due catalog texts r e = by (behind (files_read catalog (none_read catalog) texts) (λ read. instance_checked catalog read.tables) r e)
  where
    by : (files_read catalog (none_read catalog) texts ≡ Err r) ⊎ ((read : RowsRead) × (instance_checked catalog read.tables ≡ Err r)) → IsTablePlaced r
    by (inl e) = of_texts catalog (none_read catalog) texts r e
    by (inr (read, e)) = of_checked catalog read.tables r e

module _ (schema query : List ℕ) (tables : List TableText) (r : Refusal) where
  abbrev IsPlacedHere : Type 0
  IsPlacedHere = NamesPart (of_role (Some schema) (Some query) None) r

  of_rows : (catalog : Catalog) (checked : CheckedQuery) → rows_of_texts catalog checked tables ≡ Err r → IsPlacedHere
  of_rows catalog checked e = by (refused_next (instance_due catalog tables) (answer_due catalog checked) r e)
    where
      by : (instance_due catalog tables ≡ Err r) ⊎ ((instance : InstanceRows) × (instance_due catalog tables ≡ Ok instance) × (answer_due catalog checked instance ≡ Err r))
          → IsPlacedHere
      by (inl e) = table_part (Some schema) (Some query) None r (of_due catalog tables r e)
      by (inr (instance, is, e)) =
          query_part (Some schema) None query r (too_many_lies Query (length query) r (many_refused Query (answer_of catalog checked instance) r (ap halting e)))

  refused_run : IsRunDue schema query tables (Err r) → IsPlacedHere
  refused_run (inl fault) = schema_part schema (Some query) None r (refused_schema schema r fault)
  refused_run (inr (catalog, e, inl fault)) = query_part (Some schema) None query r (refused_query catalog query r fault)
  refused_run (inr (catalog, e, inr (checked, k, inl fault))) = of_rows catalog checked fault
  refused_run (inr (catalog, e, inr (checked, k, inr (rows, due, other)))) = absurd cc

pub placed_run : (schema query : List ℕ) (tables : List TableText) (result : Result (List ℕ) (Stop Refusal)) → GivesDue (IsRunDue schema query tables) result
    → IfErr result (λ stop. StopNamesPart (of_role (Some schema) (Some query) None) stop)
placed_run schema query tables (Ok text) h = tt
placed_run schema query tables (Err (s.Refused refused)) h = refused_run schema query tables refused h
placed_run schema query tables (Err s.NoMemory) h = tt
