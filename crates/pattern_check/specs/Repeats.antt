-- Variables that are declared again, told by the operand and the path pattern in which each of the two stands.
use Rattle.std.specs.Prelude.{◌||◌, List, [], ◌∷◌, ◌++◌, flat_map}
use Rattle.pgq_base.specs.declared.code.Code.TheVariants as code
use Rattle.first_faults.specs.declared.faults.Fault.{Fault}
use Rattle.first_faults.specs.Faults.{when}
use Rattle.pattern_check.specs.Scopes.{Declaration}
use Rattle.pattern_check.specs.ByName.{has_other_kind, has_same_kind}

-- at a declaration, behind those of earlier path patterns, those of earlier operands of its path pattern, and those of its operand
abbrev pub mention_faults : List Declaration → List Declaration → List Declaration → Declaration → List Fault
mention_faults settled others here later =
    when ((has_other_kind later settled || has_other_kind later others) || has_other_kind later here) code.VariableKind later.variable.span
    ++ when (has_same_kind later settled || has_same_kind later here) code.VariableRepeated later.variable.span

-- at the rest of an operand
abbrev pub operand_faults : List Declaration → List Declaration → List Declaration → List Declaration → List Fault
operand_faults settled others here [] = []
operand_faults settled others here (later ∷ more) = mention_faults settled others here later ++ operand_faults settled others (here ++ later ∷ []) more

-- at the rest of a path pattern
abbrev pub path_faults : List Declaration → List Declaration → List (List Declaration) → List Fault
path_faults settled others [] = []
path_faults settled others (operand ∷ more) = operand_faults settled others [] operand ++ path_faults settled (others ++ operand) more

-- at the rest of the path patterns
abbrev pub said_faults : List Declaration → List (List (List Declaration)) → List Fault
said_faults settled [] = []
said_faults settled (path ∷ more) = path_faults settled [] path ++ said_faults (settled ++ flat_map (λ (operand : List Declaration). operand) path) more
