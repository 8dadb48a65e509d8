use Rattle.std.proofs.Common.{arith}
use Rattle.csv_tables.proofs.RankLemmas.{by_place}
use Rattle.csv_tables.proofs.sorting.text_rank.Goals as goal

pub returns : goal.returns
returns c = let whole = by_place c.args.bytes.now in grind (arith, whole)
