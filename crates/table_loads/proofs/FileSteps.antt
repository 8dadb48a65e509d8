-- The files of words, one after another.
use Rattle.std.proofs.Common.{◌≡◌, ℕ, List, drop}
use Rattle.graph_ast.specs.declared.catalog.Catalog.{Catalog}
use Rattle.table_words.specs.declared.word.TableWord.{TableWord}
use Rattle.table_files.specs.TableFiles.{RowsRead, none_read}
use Rattle.table_loads.specs.Loads.{files_at}

-- what is due all files is what is due those from a place on, behind what was read
abbrev pub DueFrom : Catalog → List TableWord → List ℕ → RowsRead → ℕ → List (List ℕ × List ℕ) → Type 0
DueFrom catalog words places read i told =
    files_at catalog told (none_read catalog) words places ≡ files_at catalog told read (drop i words) (drop i places)
