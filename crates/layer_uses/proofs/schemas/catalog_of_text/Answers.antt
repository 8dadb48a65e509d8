use Rattle.std.proofs.Common.{length, subst, sym}
use Rattle.sql_lexer.specs.Texts.{AreInOrder}
use Rattle.layer_uses.proofs.Spans.{stop_lies}
use Rattle.layer_uses.proofs.schemas.catalog_of_text.Goals as goal

pub returns-clause-in_text : goal.returns-clause-in_text
returns-clause-in_text c = stop_lies (length c.args.text.now) c.check_schema.result
    (c.check_schema.ensures.in_text (length c.args.text.now) (c.in_ok-tree.ensures.spans
    (subst (λ tokens. AreInOrder 0 (length c.args.text.now) tokens) (sym c.as_slice.ensures) c.in_ok-tokens.ensures.spans)))
