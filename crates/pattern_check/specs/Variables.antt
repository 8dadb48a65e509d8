-- The variables of patterns, and those that are around a leaf.
use Rattle.std.specs.Prelude.{ℕ, List, flat_map, Option, None, Some}
use Rattle.graph_ast.specs.declared.query.Quantifier.{Quantifier}
use Rattle.graph_ast.specs.declared.query.PropertyRef.{PropertyRef}
use Rattle.pattern_check.specs.Scopes.{Uses, Use, Around}

-- the variables of a sequence
abbrev pub row_variables : List Uses → List (List ℕ)
row_variables row = flat_map (λ (factor : Uses). factor.variables) row

-- the leaves of a sequence
abbrev pub row_uses : Around → List Uses → List Use
row_uses around row = flat_map (λ (factor : Uses). factor.uses around) row

-- the variables, where there is a quantifier
abbrev pub variables_if : Option Quantifier → List (List ℕ) → Option (List (List ℕ))
variables_if None names = None
variables_if (Some quantifier) names = Some names

-- a leaf, and what is around it
abbrev pub used : Around → PropertyRef → Use
used around leaf = record { leaf = leaf; around = around }
