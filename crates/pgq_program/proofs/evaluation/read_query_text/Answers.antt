use Rattle.std.proofs.Common.{refl, sym, subst, length}
use Rattle.sql_reader.specs.Shapes.{AreSized}
use Rattle.pgq_program.proofs.EvaluatedTables.{at_sql}
use Rattle.pgq_program.proofs.PlacedSqls.{refusal_lies}
use Rattle.pgq_program.proofs.evaluation.read_query_text.Goals as goal

pub returns-clause-due : goal.returns-clause-due
returns-clause-due c =
    at_sql c.args.catalog.now c.args.text.now c.in_ok-tokens.tokens c.read_sql.result c.in_ok-tokens.ensures.tokens c.in_ok-tokens.ensures.few c.as_slice.result.now
    c.as_slice.ensures (length c.args.text.now) refl c.read_sql.ensures.ok c.read_sql.ensures.refused

pub returns-clause-sound : goal.returns-clause-sound
returns-clause-sound c =
    c.read_sql.ensures.sound (subst AreSized (sym c.as_slice.ensures) (c.lexed_are_sized.ensures c.args.text.now c.in_ok-tokens.tokens c.in_ok-tokens.ensures.tokens))

pub returns-clause-columns : goal.returns-clause-columns
returns-clause-columns c =
    c.read_sql.ensures.columns (subst AreSized (sym c.as_slice.ensures) (c.lexed_are_sized.ensures c.args.text.now c.in_ok-tokens.tokens c.in_ok-tokens.ensures.tokens))

pub returns-clause-in_text : goal.returns-clause-in_text
returns-clause-in_text c = refusal_lies c.args.catalog.now c.args.text.now c.read_sql.result (returns-clause-due c)
