use Rattle.std.proofs.Common.{◌≡◌, drop}
use Rattle.query_lowering.specs.Names.{outputs_are_named}
use Rattle.query_lowering.proofs.names.outputs_are_named.Given as goal

abbrev pub invariant-loop-output : goal.invariant-loop-output
invariant-loop-output l = outputs_are_named (drop l.output-index l.outputs) ≡ outputs_are_named l.outputs
