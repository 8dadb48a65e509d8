use Rattle.std.proofs.Common.{◌∙◌}
use Rattle.view_check.proofs.ClauseLemmas.{columns_within_source}
use Rattle.view_check.proofs.clauses.are_columns_within.Goals as goal

pub returns : goal.returns
returns c = c.are_left_out_or_within.ensures ∙ columns_within_source c.args.entries.now c.args.other.now c.args.names.now c.args.columns.now
