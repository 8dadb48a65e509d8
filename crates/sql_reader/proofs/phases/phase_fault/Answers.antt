use Rattle.std.proofs.Common.{◌≡◌, ◌∙◌, None}
use Rattle.first_faults.specs.Faults.{first_of}
use Rattle.sql_reader.specs.Levels.{reach_of}
use Rattle.sql_reader.specs.Phases.{faults_in}
use Rattle.sql_reader.proofs.MadeSelects.{lifted, phase_of_parts}
use Rattle.sql_reader.proofs.phases.phase_fault.Goals as goal

pub returns : goal.returns
returns c =
    lifted _ (λ found. found ≡ first_of None (faults_in c.args.phase c.args.tables.now c.args.text.now))
    (λ all h. phase_of_parts c.args.phase c.args.tables.now c.args.text.now c.as_slice-selects.result.now (reach_of c.alone-outer.result) c.in_ok-found.found all
    c.as_slice-selects.ensures
    (c.alone-outer.ensures ∙ c.new-nothing.ensures) c.in_ok-found.ensures h)
    c.union_faults.result c.union_faults.ensures
