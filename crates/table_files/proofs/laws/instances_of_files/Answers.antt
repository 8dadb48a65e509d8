use Rattle.table_files.proofs.GivenTables.{given_by}
use Rattle.table_files.proofs.laws.instances_of_files.Goals as goal

pub returns : goal.returns
returns c = given_by
