use Rattle.std.proofs.Common.{◌-◌, length}
use Rattle.csv_tables.proofs.NumberLemmas.{digits_before}
use Rattle.csv_tables.proofs.numbers.value_of_digits.Goals as goal

pub from_digits-requires-clause-fraction : goal.from_digits-requires-clause-fraction
from_digits-requires-clause-fraction c = digits_before (length c.args.fraction.now - c.last_zeros.result) c.args.fraction.now c.requires.fraction
