use Rattle.std.proofs.Common.{rules}
use Rattle.view_check.specs.Clauses.{names_in}
use Rattle.view_check.proofs.ClauseLemmas.{same_list}
use Rattle.view_check.proofs.clauses.have_same_names.Goals as goal

pub returns-then-are_all_of_one : goal.returns-then-are_all_of_one
returns-then-are_all_of_one c =
    same_list (names_in c.args.entries.now c.args.source.now) (names_in c.args.entries.now c.args.other.now) (c.are_all_of_one.ensures c.if-are_all_of_one.true c.args.entries.now)
