use Rattle.std.proofs.Common.{◌<◌, length, sym, subst, arith}
use Rattle.graph_ast.specs.declared.checked.CheckedQuery.{CheckedQuery}
use Rattle.block_tests.proofs.SmallTranslatable.{translatable_by}
use Rattle.block_tests.proofs.lowering_tests.candidates_of_small.Goals as goal

pub candidates-requires-clause-translatable : goal.candidates-requires-clause-translatable
candidates-requires-clause-translatable c = translatable_by c.args.catalog.now c.args.query.now c.requires.catalog c.requires.query

pub candidates-requires-clause-there : goal.candidates-requires-clause-there
candidates-requires-clause-there c = subst (λ (q : CheckedQuery). 0 < length q.paths) (sym c.requires.query) (omega arith)
