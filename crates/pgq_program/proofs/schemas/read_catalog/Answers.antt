use Rattle.pgq_program.proofs.Checked.{at_rules}
use Rattle.pgq_program.proofs.Placed.{refusal_lies}
use Rattle.pgq_program.proofs.schemas.read_catalog.Goals as goal

pub returns-clause-due : goal.returns-clause-due
returns-clause-due c =
    at_rules c.args.text.now c.in_ok-tokens.tokens c.in_ok-tree.tree c.check_schema.result c.in_ok-tokens.ensures.tokens c.in_ok-tokens.ensures.few c.as_slice.result.now
    c.as_slice.ensures c.in_ok-tree.ensures.ok c.in_ok-tree.ensures.shallow c.check_schema.ensures.answer

pub returns-clause-in_text : goal.returns-clause-in_text
returns-clause-in_text c = refusal_lies c.args.text.now c.check_schema.result (returns-clause-due c)
