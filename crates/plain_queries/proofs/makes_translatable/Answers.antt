use Rattle.plain_queries.proofs.TranslatableQueries.{makes_translatable}
use Rattle.plain_queries.proofs.makes_translatable.Goals as goal

pub returns : goal.returns
returns c = makes_translatable
