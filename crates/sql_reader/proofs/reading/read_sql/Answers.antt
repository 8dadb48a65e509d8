use Rattle.std.proofs.Common.{subst, Ok}
use Rattle.pgq_base.specs.Answers.{Gives}
use Rattle.sql_reader.proofs.ReadingLemmas.{from_text, from_stop, is_read}
use Rattle.sql_reader.proofs.ShapedTexts.{has_shape}
use Rattle.sql_reader.proofs.FilledTexts.{judged_filled}
use Rattle.sql_reader.proofs.SoundAnswers.{judged_sound, judged_spelled, in_order_lie}
use Rattle.sql_reader.proofs.reading.read_sql.Goals as goal

pub returns-in-Ok-clause-due : goal.returns-in-Ok-clause-due
returns-in-Ok-clause-due c =
    from_text c.args.tokens.now c.args.end c.args.catalog.now c.in-Ok.text (λ o is. subst (Gives o) c.in-Ok.is (c.parse_sql.ensures.due o is)) c.judge_text.result
    c.judge_text.ensures.answer

pub returns-in-Err-clause-due : goal.returns-in-Err-clause-due
returns-in-Err-clause-due c = from_stop c.args.tokens.now c.args.end c.args.catalog.now c.in-Err.stop (λ o is. subst (Gives o) c.in-Err.is (c.parse_sql.ensures.due o is))

pub returns-in-Ok-clause-sound : goal.returns-in-Ok-clause-sound
returns-in-Ok-clause-sound c = λ sized.
    judged_sound c.args.catalog.now c.in-Ok.text (has_shape c.args.tokens.now c.in-Ok.text sized c.in-Ok.ensures.ok) c.judge_text.result c.judge_text.ensures.answer

pub returns-in-Ok-clause-columns : goal.returns-in-Ok-clause-columns
returns-in-Ok-clause-columns c = λ sized.
    judged_filled c.args.catalog.now c.in-Ok.text c.args.tokens.now sized c.in-Ok.ensures.ok c.judge_text.result c.judge_text.ensures.answer

pub returns-in-Ok-clause-spelled : goal.returns-in-Ok-clause-spelled
returns-in-Ok-clause-spelled c =
    judged_spelled c.args.catalog.now c.in-Ok.text c.args.tokens.now c.in-Ok.ensures.ok c.judge_text.result c.judge_text.ensures.answer

pub returns-in-Ok-clause-complete : goal.returns-in-Ok-clause-complete
returns-in-Ok-clause-complete c = λ query spelled sound shallow.
    from_text c.args.tokens.now c.args.end c.args.catalog.now c.in-Ok.text (λ o is. subst (Gives o) c.in-Ok.is (c.parse_sql.ensures.due o is)) c.judge_text.result
    c.judge_text.ensures.answer
    (Ok query) (is_read c.args.tokens.now c.args.catalog.now query spelled sound shallow)

pub returns-in-Err-clause-complete : goal.returns-in-Err-clause-complete
returns-in-Err-clause-complete c = λ query spelled sound shallow.
    from_stop c.args.tokens.now c.args.end c.args.catalog.now c.in-Err.stop (λ o is. subst (Gives o) c.in-Err.is (c.parse_sql.ensures.due o is))
    (Ok query) (is_read c.args.tokens.now c.args.catalog.now query spelled sound shallow)

pub returns-in-Ok-clause-in_text : goal.returns-in-Ok-clause-in_text
returns-in-Ok-clause-in_text c = λ order. c.judge_text.ensures.in_text c.args.end (c.in-Ok.ensures.spans order)

pub returns-in-Err-clause-in_text : goal.returns-in-Err-clause-in_text
returns-in-Err-clause-in_text c = λ order. c.in-Err.ensures.in_text (in_order_lie 0 c.args.end c.args.tokens.now order)
