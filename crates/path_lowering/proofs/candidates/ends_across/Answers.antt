use Rattle.std.proofs.Common.{◌≡◌}
use Rattle.path_lowering.proofs.candidates.ends_across.Goals as goal

pub key_across-requires-clause-own : goal.key_across-requires-clause-own
key_across-requires-clause-own c = c.requires.first

pub key_across-requires-clause-other : goal.key_across-requires-clause-other
key_across-requires-clause-other c = c.requires.first_outside

pub key_across-requires-clause-same : goal.key_across-requires-clause-same
key_across-requires-clause-same c = c.requires.same_first
