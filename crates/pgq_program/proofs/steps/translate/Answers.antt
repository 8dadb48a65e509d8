use Rattle.std.proofs.Common.{subst, IfSome}
use Rattle.pgq_program.specs.Steps.{StepWrites, IsTranslationIn}
use Rattle.pgq_program.proofs.Translated.{catalog_written}
use Rattle.pgq_program.proofs.steps.translate.Goals as goal

pub returns-clause-told : goal.returns-clause-told
returns-clause-told g c =
    catalog_written c.in_ok-catalog.catalog c.args.schema.now c.args.query.now _ c.translation.result c.in_ok-catalog.ensures.told
    (subst (λ files. IfSome files (λ told. StepWrites (IsTranslationIn c.in_ok-catalog.catalog c.args.query.now told) c.translation.result)) c.in_ok-catalog.ensures.files
    c.translation.ensures.told)
