use Rattle.std.proofs.Common.{◌≡◌, ◌≤◌, IfSome}
use Rattle.csv_tables.specs.Constraints.{instance_rows}
use Rattle.csv_tables.specs.Typed.{IsTyped}
use Rattle.table_files.specs.TableFiles.{most_bytes, read_of}
use Rattle.table_loads.proofs.FileSteps.{DueFrom}
use Rattle.table_loads.proofs.loads.load_files.Given as goal

abbrev pub invariant-loop-i : goal.invariant-loop-i
invariant-loop-i g l = record {
  words : g.F.Shelf.words l.files ≡ g.F.Shelf.words l.fn.files;
  files : g.F.Shelf.files l.files ≡ g.F.Shelf.files l.fn.files;
  kept : g.F.Shelf.faults l.files ≡ g.F.Shelf.faults l.fn.files;
  told : IfSome (g.F.Shelf.files l.fn.files) (DueFrom l.catalog l.words l.places (read_of l.read) l.i);
  typed : IsTyped l.catalog (instance_rows l.read.instance);
  few : l.read.bytes ≤ most_bytes;
}
