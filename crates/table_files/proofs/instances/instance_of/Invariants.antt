use Rattle.std.proofs.Common.{◌≡◌, ◌≤◌, drop}
use Rattle.csv_tables.specs.Constraints.{instance_rows}
use Rattle.csv_tables.specs.Typed.{IsTyped}
use Rattle.table_files.specs.TableFiles.{files_read, most_bytes, none_read, read_of}
use Rattle.table_files.proofs.instances.instance_of.Given as goal

abbrev pub invariant-loop-text : goal.invariant-loop-text
invariant-loop-text l =
    (files_read l.catalog (none_read l.catalog) l.tables ≡ files_read l.catalog (read_of l.read) (drop l.text-index l.tables))
    × IsTyped l.catalog (instance_rows l.read.instance) × (l.read.bytes ≤ most_bytes)
