use Rattle.std.proofs.Common.{refl}
use Rattle.sql_algebra.specs.Printed.{name_piece}
use Rattle.sql_printer.specs.declared.line.Last.TheVariants.{Nothing}
use Rattle.sql_printer.proofs.Lined.{one_piece}
use Rattle.sql_printer.proofs.parts.print_name.Goals as goal

pub returns : goal.returns
returns c = one_piece (record { alloc = c.args.alloc; text = c.new.result; last = Nothing }) c.put_name.new.line (name_piece c.args.name.now) refl c.new.ensures
    c.in_ok-put_name.ensures
