use Rattle.csv_tables.proofs.CatalogLemmas.{valid_numbers}
use Rattle.csv_tables.proofs.laws.valid_catalogs_number.Goals as goal

pub returns : goal.returns
returns c = valid_numbers
