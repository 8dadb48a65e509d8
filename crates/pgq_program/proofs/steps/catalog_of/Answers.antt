use Rattle.pgq_program.proofs.Checked.{in_file}
use Rattle.pgq_program.proofs.steps.catalog_of.Goals as goal

pub returns-clause-told : goal.returns-clause-told
returns-clause-told g c = in_file c.args.name.now c.in_ok-text.text _ c.catalog_in.result c.in_ok-text.ensures.told c.as_slice.result.now c.as_slice.ensures
    c.catalog_in.ensures.due
