use Rattle.std.proofs.Common.{sym, subst}
use Rattle.csv_tables.specs.Typed.{IsTyped}
use Rattle.table_files.proofs.Typing.{typed_none}
use Rattle.table_files.proofs.files.TablesRead.new.Goals as goal

pub returns-clause-typed : goal.returns-clause-typed
returns-clause-typed c = subst (IsTyped c.args.catalog.now) (sym c.in_ok-instance.ensures) (typed_none c.args.catalog.now)
