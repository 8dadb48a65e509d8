use Rattle.pgq_program.proofs.PlacedTexts.{stopped_texts}
use Rattle.pgq_program.proofs.texts.translate_texts.Goals as goal

pub returns-clause-in_text : goal.returns-clause-in_text
returns-clause-in_text c = stopped_texts c.args.schema.now c.args.query.now c.text_over.result c.text_over.ensures.refused
