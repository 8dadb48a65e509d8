-- A refusal of the tables of a command has no place in a text.
use Rattle.std.proofs.Common.{suc, ◌≡◌, refl, sym, ap, subst, ◌∙◌, ℕ, ◌+◌, List, [], ◌∷◌, length, Bool, true, false, nat_le, cond, ◌⊎◌, inl, inr, Option, None, Some, Result, Ok}
use Rattle.std.proofs.Common.{Err}
use Rattle.pgq_base.specs.Files.{content_of}
use Rattle.pgq_base.specs.Instances.{TableRows, InstanceRows}
use Rattle.pgq_base.specs.declared.code.Code.TheVariants.{DataTooLarge}
use Rattle.pgq_base.specs.declared.refusal.Refusal.{Refusal}
use Rattle.pgq_base.specs.declared.refusal.Role.{Role}
use Rattle.pgq_base.specs.declared.refusal.Role.TheVariants.{Table as OfTable}
use Rattle.graph_ast.specs.declared.catalog.Catalog.{Catalog}
use Rattle.graph_ast.specs.declared.catalog.Table.{Table}
use Rattle.graph_ast.specs.Lookups.{table_at}
use Rattle.csv_tables.specs.declared.faults.TableFault.{TableFault}
use Rattle.csv_tables.specs.Constraints.{table_or, tables_refusal, instance_refusal}
use Rattle.csv_tables.specs.Outcomes.{refusal_of, refused_as}
use Rattle.csv_tables.specs.Reading.{table_rows}
use Rattle.table_words.specs.declared.word.TableWord.{TableWord}
use Rattle.table_files.specs.TableFiles.{RowsRead, none_read, added, file_read, and_then, unless, instance_checked, too_large, most_bytes}
use Rattle.table_loads.specs.declared.stops.TablesStop.{TablesStop}
use Rattle.table_loads.specs.declared.stops.TablesStop.TheVariants as t
use Rattle.table_loads.specs.Loads.{stopping, held_file, file_at, files_at, instance_at}
use Rattle.pgq_program.specs.declared.halt.Halt.{Halt}
use Rattle.pgq_program.specs.declared.halt.Halt.TheVariants as h
use Rattle.pgq_program.specs.Halts.{halting, halt_by, tables_halting, places_or}
use Rattle.pgq_program.specs.Places.{IsPart, NamesPart, of_role}
use Rattle.pgq_program.specs.Rows.{too_many, few_rows}
use Rattle.pgq_program.specs.Texts.{next}
use Rattle.pgq_program.proofs.PlacedTexts.{refused_next}

-- the refusal of a table: its span is 0-0
abbrev pub IsTablePlaced : Refusal → Type 0
IsTablePlaced r = (r.role ≡ OfTable) × (r.span.from ≡ 0) × (r.span.to ≡ 0)

pub table_part : (schema query sql : Option (List ℕ)) (r : Refusal) → IsTablePlaced r → NamesPart (of_role schema query sql) r
table_part schema query sql r placed = subst (λ role. IsPart (of_role schema query sql role) r.span) (sym placed.0) (placed.1, placed.2)

of_fault : (name : List ℕ) (fault : TableFault) (r : Refusal) → refusal_of name fault ≡ r → IsTablePlaced r
of_fault name fault r e = subst IsTablePlaced e (refl, refl, refl)

-- ---- the rows of a file

of_refused : {A : Type 0} (name : List ℕ) (result : Result A TableFault) (r : Refusal) → refused_as name result ≡ Err r → IsTablePlaced r
of_refused name (Ok x) r e = absurd cc
of_refused name (Err fault) r e = of_fault name fault r cc

of_rows : (bytes : List ℕ) (table : Table) (r : Refusal) → table_rows bytes table ≡ Err r → IsTablePlaced r
of_rows bytes table r e = of_refused table.name _ r e

of_added : (read : RowsRead) (place count : ℕ) (rows : Result TableRows Refusal) (r : Refusal) → added read place count rows ≡ Err r → rows ≡ Err r
of_added read place count (Ok rows) r e = absurd cc
of_added read place count (Err refusal) r e = cc

too_large_is : (catalog : Catalog) (place : ℕ) (r : Refusal) → (let x : Result RowsRead Refusal = Err (too_large (table_at catalog place).name) in x) ≡ Err r
    → too_large (table_at catalog place).name ≡ r
too_large_is catalog place r e = cc

pub of_file : (catalog : Catalog) (read : RowsRead) (place : ℕ) (bytes : List ℕ) (r : Refusal) → file_read catalog read place bytes ≡ Err r → IsTablePlaced r
of_file catalog read place bytes r e = by (nat_le (read.bytes + length bytes) most_bytes) e
  where
    by : (b : Bool) → cond b (added read place (length bytes) (table_rows bytes (table_at catalog place))) (Err (too_large (table_at catalog place).name)) ≡ Err r → IsTablePlaced r
    by true e = of_rows bytes (table_at catalog place) r (of_added read place (length bytes) (table_rows bytes (table_at catalog place)) r e)
    by false e = of_fault (table_at catalog place).name (record { code = DataTooLarge; row = 0; column = 0 }) r (too_large_is catalog place r e)

-- ---- the files one after another

stopped : {A : Type 0} (due : Result A Refusal) (r : Refusal) → stopping due ≡ Err (t.Refused r) → due ≡ Err r
stopped (Ok x) r e = absurd cc
stopped (Err refusal) r e = cc

of_held : (catalog : Catalog) (read : RowsRead) (place : ℕ) (held : Option (List ℕ)) (r : Refusal) → held_file catalog read place held ≡ Err (t.Refused r) → IsTablePlaced r
of_held catalog read place None r e = absurd cc
of_held catalog read place (Some bytes) r e = of_file catalog read place bytes r (stopped (file_read catalog read place bytes) r e)

-- a step behind another one
pub behind : {A B E : Type 0} (first : Result A E) (step : A → Result B E) (e : E) → and_then first step ≡ Err e → (first ≡ Err e) ⊎ ((x : A) × (step x ≡ Err e))
behind (Ok x) step e is = inr (x, is)
behind (Err f) step e is = inl cc

of_files : (catalog : Catalog) (files : List (List ℕ × List ℕ)) (read : RowsRead) (words : List TableWord) (places : List ℕ) (r : Refusal)
    → files_at catalog files read words places ≡ Err (t.Refused r)
    → IsTablePlaced r
of_files catalog files read [] places r e = absurd cc
of_files catalog files read (word ∷ words) [] r e = absurd cc
of_files catalog files read (word ∷ words) (place ∷ places) r e =
    by (behind (file_at catalog files read place word.file) (λ more. files_at catalog files more words places) (t.Refused r) e) (λ more. of_files catalog files more words places r)
  where
    by : (file_at catalog files read place word.file ≡ Err (t.Refused r)) ⊎ ((more : RowsRead) × (files_at catalog files more words places ≡ Err (t.Refused r)))
        → ((more : RowsRead) → files_at catalog files more words places ≡ Err (t.Refused r) → IsTablePlaced r) → IsTablePlaced r
    by (inl e) later = of_held catalog read place (content_of word.file files) r e
    by (inr (more, e)) later = later more e

-- ---- the keys and references

of_table_or : (table : Table) (fault : Option TableFault) (rest : Option Refusal) (r : Refusal) → table_or table fault rest ≡ Some r → (rest ≡ Some r → IsTablePlaced r)
    → IsTablePlaced r
of_table_or table None rest r e later = later e
of_table_or table (Some fault) rest r e later = of_fault table.name fault r cc

of_tables : (instance : InstanceRows) (n : ℕ) (tables : List Table) (r : Refusal) → tables_refusal instance n tables ≡ Some r → IsTablePlaced r
of_tables instance n [] r e = absurd cc
of_tables instance n (table ∷ tables) r e = of_table_or table _ _ r e (of_tables instance (suc n) tables r)

of_unless : {A : Type 0} (o : Option Refusal) (x : A) (r : Refusal) → unless o x ≡ Err r → o ≡ Some r
of_unless None x r e = absurd cc
of_unless (Some refusal) x r e = cc

pub of_checked : (catalog : Catalog) (instance : InstanceRows) (r : Refusal) → instance_checked catalog instance ≡ Err r → IsTablePlaced r
of_checked catalog instance r e = of_tables instance _ catalog.tables r (of_unless (instance_refusal catalog instance) instance r e)

of_instance : (catalog : Catalog) (files : List (List ℕ × List ℕ)) (words : List TableWord) (places : List ℕ) (r : Refusal) → instance_at catalog files words places
    ≡ Err (t.Refused r) → IsTablePlaced r
of_instance catalog files words places r e = by (behind (files_at catalog files (none_read catalog) words places) (λ read. stopping (instance_checked catalog read.tables))
    (t.Refused r) e)
  where
    by : (files_at catalog files (none_read catalog) words places ≡ Err (t.Refused r)) ⊎
        ((read : RowsRead) × (stopping (instance_checked catalog read.tables) ≡ Err (t.Refused r))) → IsTablePlaced r
    by (inl e) = of_files catalog files (none_read catalog) words places r e
    by (inr (read, e)) = of_checked catalog read.tables r (stopped (instance_checked catalog read.tables) r e)

-- ---- the rows

halted_by : {A : Type 0} (due : Result A TablesStop) (r : Refusal) → tables_halting due ≡ Err (h.Refused r) → due ≡ Err (t.Refused r)
halted_by (Ok x) r e = absurd cc
halted_by (Err (t.Refused refusal)) r e = cc
halted_by (Err t.ReadFault) r e = absurd cc
halted_by (Err t.NoMemory) r e = absurd cc

pub halted : {A : Type 0} (due : Result A Refusal) (r : Refusal) → halting due ≡ Err (h.Refused r) → due ≡ Err r
halted (Ok x) r e = absurd cc
halted (Err refusal) r e = cc

too_many_is : (role : Role) (rows : TableRows) (r : Refusal) (b : Bool) → cond b (let x : Result TableRows Refusal = Ok rows in x) (Err (too_many role)) ≡ Err r → too_many role ≡ r
too_many_is role rows r true e = absurd cc
too_many_is role rows r false e = cc

-- rows are refused where there are too many
pub many_refused : (role : Role) (rows : TableRows) (r : Refusal) → halting (few_rows role rows) ≡ Err (h.Refused r) → too_many role ≡ r
many_refused role rows r e = too_many_is role rows r (nat_le (length rows) 1000000) (halted (few_rows role rows) r e)

-- rows over the instance of some files
pub rows_placed : (role : Role) (rows : InstanceRows → TableRows) (catalog : Catalog) (words : List TableWord) (places : List ℕ) (files : List (List ℕ × List ℕ)) (r : Refusal)
    → next (tables_halting (instance_at catalog files words places)) (λ instance. halting (few_rows role (rows instance))) ≡ Err (h.Refused r)
    → (too_many role ≡ r) ⊎ IsTablePlaced r
rows_placed role rows catalog words places files r e = by (refused_next (tables_halting (instance_at catalog files words places)) _ (h.Refused r) e)
  where
    by : ((tables_halting (instance_at catalog files words places) ≡ Err (h.Refused r))
        ⊎ ((instance : InstanceRows) × (tables_halting (instance_at catalog files words places) ≡ Ok instance) × (halting (few_rows role (rows instance)) ≡ Err (h.Refused r))))
        → (too_many role ≡ r) ⊎ IsTablePlaced r
    by (inl e) = inr (of_instance catalog files words places r (halted_by (instance_at catalog files words places) r e))
    by (inr (instance, is, e)) = inl (many_refused role (rows instance) r e)

-- the places of tables are Usage or there
pub places_not_refused : (places : Option (List ℕ)) (r : Refusal) → places_or places ≡ Err (h.Refused r) → ⊥
places_not_refused None r e = cc
places_not_refused (Some places) r e = cc
