-- The conditions of a choice are those of its path.
use Rattle.std.proofs.Common.{◌≡◌, ℕ, zero, suc, ◌+◌, List, [], ◌∷◌, ◌++◌, flat_map, replicate, get_or, sym, subst, inl, inr}
use Rattle.multisets.specs.Bags.{IsIn}
use Rattle.multisets.proofs.Members.{in_append, in_parts}
use Rattle.graph_ast.specs.declared.checked.CheckedPath.{CheckedPath}
use Rattle.graph_ast.specs.declared.checked.Operand.{Operand}
use Rattle.graph_ast.specs.declared.checked.Step.{Step}
use Rattle.graph_ast.specs.declared.checked.Step.TheVariants.{One, Part}
use Rattle.graph_ast.specs.declared.blocks.Alternative.{Alternative}
use Rattle.graph_meaning.specs.Choices.{Condition, PlacedPiece, Scoped, Iteration, placed, edges_in, iterations, iterated, scoped_by, operand_at, expansion_of}
use Rattle.graph_meaning.proofs.Members.{from_map, from_flat, in_flat}
use Rattle.path_lowering.specs.Sound.{conditions_in, operand_conditions, path_conditions}

same_always : {X : Type 0} (n : ℕ) (x y : X) → IsIn y (replicate n x) → x ≡ y
same_always zero x y h = absurd h
same_always (suc n) x y (inl e) = e
same_always (suc n) x y (inr h) = same_always n x y h

from_scoped : (scope : List PlacedPiece) (conditions : List Condition) (scoped : Scoped) → IsIn scoped (scoped_by scope conditions) → IsIn scoped.condition conditions
from_scoped scope conditions scoped h =
    let made = from_map (λ condition. record { condition = condition; scope = scope }) scoped conditions h in
    subst (λ (s : Scoped). IsIn s.condition conditions) made.2 made.1

from_iterated : (j : ℕ) (some : List Iteration) (scoped : Scoped) → IsIn scoped (iterated j some) → IsIn scoped.condition (flat_map (λ iteration. iteration.conditions) some)
from_iterated j [] scoped h = absurd h
from_iterated j (i ∷ more) scoped h =
    elim (in_parts scoped (scoped_by (placed j i.pieces) i.conditions) (iterated (j + edges_in i.pieces) more) h) [
      | inl k ↦ in_append scoped.condition i.conditions (flat_map (λ iteration. iteration.conditions) more) (inl (from_scoped (placed j i.pieces) i.conditions scoped k))
      | inr k ↦ in_append scoped.condition i.conditions (flat_map (λ iteration. iteration.conditions) more) (inr (from_iterated (j + edges_in i.pieces) more scoped k))
    ]

-- the conditions of an iteration are those of a step
from_iterations : (steps : List Step) (counts : List ℕ) (c : Condition) → IsIn c (flat_map (λ iteration. iteration.conditions) (iterations steps counts))
    → IsIn c (flat_map conditions_in steps)
from_iterations [] counts c h = absurd h
from_iterations (One one ∷ steps) counts c h = from_iterations steps counts c h
from_iterations (Part lower upper pieces conditions ∷ steps) [] c h = absurd h
from_iterations (Part lower upper pieces conditions ∷ steps) (count ∷ counts) c h =
    let part : Iteration = record { pieces = pieces; conditions = conditions } in
    let found = from_flat (λ (iteration : Iteration). iteration.conditions) c (replicate count part ++ iterations steps counts) h in
    elim (in_parts found.0 (replicate count part) (iterations steps counts) found.1) [
      | inl k ↦ in_append c conditions (flat_map conditions_in steps) (inl (subst (λ (i : Iteration). IsIn c i.conditions) (sym (same_always count part found.0 k)) found.2))
      | inr k ↦ in_append c conditions (flat_map conditions_in steps)
          (inr (from_iterations steps counts c (in_flat (λ (iteration : Iteration). iteration.conditions) c found.0 (iterations steps counts) k found.2)))
    ]

-- those of the operand at a place are those of some operand
from_operand : (operands : List Operand) (place : ℕ) (c : Condition) → IsIn c (operand_conditions (get_or operands place (record { steps = []; conditions = [] })))
    → IsIn c (flat_map operand_conditions operands)
from_operand [] place c h = absurd h
from_operand (operand ∷ operands) zero c h = in_append c (operand_conditions operand) (flat_map operand_conditions operands) (inl h)
from_operand (operand ∷ operands) (suc place) c h = in_append c (operand_conditions operand) (flat_map operand_conditions operands) (inr (from_operand operands place c h))

pub condition_among : (path : CheckedPath) (choice : Alternative) (scoped : Scoped) → IsIn scoped (expansion_of path choice).conditions
    → IsIn scoped.condition (path_conditions path)
condition_among path choice scoped h =
    let operand : Operand = operand_at path choice.operand in
    let parts : List Iteration = iterations operand.steps choice.counts in
    let whole : List PlacedPiece = placed 0 (flat_map (λ part. part.pieces) parts) in
    from_operand path.operands choice.operand scoped.condition
    (elim (in_parts scoped (iterated 0 parts) (scoped_by whole operand.conditions) h) [
      | inl k ↦ in_append scoped.condition (flat_map conditions_in operand.steps) operand.conditions
          (inl (from_iterations operand.steps choice.counts scoped.condition (from_iterated 0 parts scoped k)))
      | inr k ↦ in_append scoped.condition (flat_map conditions_in operand.steps) operand.conditions (inr (from_scoped whole operand.conditions scoped k))
    ])
