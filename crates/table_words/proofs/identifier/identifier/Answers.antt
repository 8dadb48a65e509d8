use Rattle.std.proofs.Common.{sym, subst}
use Rattle.sql_lexer.specs.Texts.{AreTokens}
use Rattle.table_words.proofs.Names.{too_long, of_tokens}
use Rattle.table_words.proofs.identifier.identifier.Goals as goal

pub returns-then-text-gt-MOST_IDENTIFIER_BYTES : goal.returns-then-text-gt-MOST_IDENTIFIER_BYTES
returns-then-text-gt-MOST_IDENTIFIER_BYTES c = too_long c.args.text.now c.if-text-gt-MOST_IDENTIFIER_BYTES.true

pub returns-in-Ok : goal.returns-in-Ok
returns-in-Ok c =
    of_tokens c.args.text.now c.as_slice.result.now c.name_alone.result (subst (AreTokens c.args.text.now) (sym c.as_slice.ensures) c.in-Ok.ensures.tokens) c.name_alone.ensures
