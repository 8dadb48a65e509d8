use Rattle.std.proofs.Common.{subst}
use Rattle.pattern_parser.specs.Outcomes.{SpellsQuery}
use Rattle.pgq_program.proofs.CheckedQueries.{at_rules}
use Rattle.pgq_program.proofs.PlacedQueries.{refusal_lies}
use Rattle.pgq_program.proofs.TranslatableQueries.{translatable}
use Rattle.pgq_program.proofs.queries.read_checked.Goals as goal

pub returns-clause-due : goal.returns-clause-due
returns-clause-due c =
    at_rules c.args.catalog.now c.args.text.now c.in_ok-tokens.tokens c.in_ok-tree.tree c.judge.result c.in_ok-tokens.ensures.tokens c.in_ok-tokens.ensures.few
    c.as_slice.result.now c.as_slice.ensures c.in_ok-tree.ensures.ok c.in_ok-tree.ensures.shallow c.judge.ensures

pub returns-clause-translatable : goal.returns-clause-translatable
returns-clause-translatable c =
    translatable c.makes_translatable.ensures c.args.catalog.now c.requires.valid c.args.text.now c.in_ok-tokens.tokens c.in_ok-tree.tree c.in_ok-tokens.ensures.tokens
    (subst (λ l. SpellsQuery l c.in_ok-tree.tree) c.as_slice.ensures c.in_ok-tree.ensures.ok) c.judge.result c.judge.ensures

pub returns-clause-in_text : goal.returns-clause-in_text
returns-clause-in_text c = refusal_lies c.args.catalog.now c.args.text.now c.judge.result (returns-clause-due c)
