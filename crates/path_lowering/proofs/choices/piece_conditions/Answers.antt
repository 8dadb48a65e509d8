use Rattle.path_lowering.proofs.choices.piece_conditions.Goals as goal

pub edge_at-requires-clause-between : goal.edge_at-requires-clause-between
edge_at-requires-clause-between c = c.requires.there c.in-Edge.direction c.in-Edge.field-1 (c.in-Edge.is)
