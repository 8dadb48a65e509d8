-- The tables that told files give, or why they are not there.
use Rattle.std.specs.Prelude.{◌≡◌, ◌≤◌, ⊤, ℕ, List, [], ◌∷◌, Option, None, Some, Result, Ok, Err, IsErrOf}
use Rattle.pgq_base.specs.Causes.{Rose}
use Rattle.pgq_base.specs.Files.{content_of}
use Rattle.pgq_base.specs.Instances.{InstanceRows}
use Rattle.pgq_base.specs.declared.refusal.Refusal.{Refusal}
use Rattle.pgq_base.specs.declared.refusal.Stop.{Stop}
use Rattle.pgq_base.specs.declared.refusal.Stop.TheVariants as stop
use Rattle.graph_ast.specs.declared.catalog.Catalog.{Catalog}
use Rattle.table_words.specs.declared.word.TableWord.{TableWord}
use Rattle.table_files.specs.TableFiles.{RowsRead, none_read, file_read, and_then, instance_checked}
use Rattle.table_loads.specs.declared.stops.TablesStop.{TablesStop}
use Rattle.table_loads.specs.declared.stops.TablesStop.TheVariants.{Refused, ReadFault, NoMemory}

abbrev pub stop_of : Stop Refusal → TablesStop
stop_of (stop.Refused refusal) = Refused refusal
stop_of stop.NoMemory = NoMemory

-- a refusal stops the loading
abbrev pub stopping : {A : Type 0} → Result A Refusal → Result A TablesStop
stopping (Ok x) = Ok x
stopping (Err refusal) = Err (Refused refusal)

-- an absent file is a fault
abbrev pub held_file : Catalog → RowsRead → ℕ → Option (List ℕ) → Result RowsRead TablesStop
held_file catalog read place None = Err ReadFault
held_file catalog read place (Some bytes) = stopping (file_read catalog read place bytes)

-- the file of that name, for the table at the place
abbrev pub file_at : Catalog → List (List ℕ × List ℕ) → RowsRead → ℕ → List ℕ → Result RowsRead TablesStop
file_at catalog files read place name = held_file catalog read place (content_of name files)

-- the files of the words, each for the table at the place beside it
abbrev pub files_at : Catalog → List (List ℕ × List ℕ) → RowsRead → List TableWord → List ℕ → Result RowsRead TablesStop
files_at catalog files read [] places = Ok read
files_at catalog files read (word ∷ words) [] = Ok read
files_at catalog files read (word ∷ words) (place ∷ places) =
    and_then (file_at catalog files read place word.file) (λ more. files_at catalog files more words places)

-- and then the keys and references of their rows
abbrev pub instance_at : Catalog → List (List ℕ × List ℕ) → List TableWord → List ℕ → Result InstanceRows TablesStop
instance_at catalog files words places =
    and_then (files_at catalog files (none_read catalog) words places) (λ read. stopping (instance_checked catalog read.tables))

-- this is due, or it is want of memory or a fault, which have their own clauses
abbrev pub TablesGive : {A : Type 0} → Result A TablesStop → Result A TablesStop → Type 0
TablesGive due (Ok x) = due ≡ Ok x
TablesGive due (Err (Refused refusal)) = due ≡ Err (Refused refusal)
TablesGive due (Err ReadFault) = ⊤
TablesGive due (Err NoMemory) = ⊤

-- a read fault comes only where the count rose, or stands at its last value, and but for want of memory nothing else does
pub record TablesCause {A : Type 0} (before now : ℕ) (result : Result A TablesStop) : Type 0 where
  pub later : before ≤ now
  pub read : IsErrOf result ReadFault → Rose before now
  pub kept : (IsErrOf result ReadFault → ⊥) → (IsErrOf result NoMemory → ⊥) → now ≡ before
