use Rattle.pgq_base.proofs.DecimalTextLemmas.{digits_of_size, size_of_decimal, decimal_of_size, number_of_size}
use Rattle.pgq_base.proofs.laws.decimals_read_back.Goals as goal

pub returns-clause-digits : goal.returns-clause-digits
returns-clause-digits c = digits_of_size

pub returns-clause-size : goal.returns-clause-size
returns-clause-size c = size_of_decimal

pub returns-clause-decimal : goal.returns-clause-decimal
returns-clause-decimal c = decimal_of_size

pub returns-clause-number : goal.returns-clause-number
returns-clause-number c = number_of_size
