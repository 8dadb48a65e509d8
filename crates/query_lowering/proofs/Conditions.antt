-- The element patterns and the conditions of a query, found as members of the lists that the rules on queries speak of.
use Rattle.std.proofs.Common.{◌≡◌, ℕ, true, List, [], ◌∷◌, ◌++◌, flat_map, option_to_list, refl, sym, ap, ap₂, subst, inl, inr, Option, Some, bytes_eq}
use Rattle.std.specs.List.{AllByRecursion}
use Rattle.std.proofs.lemmas.Slice.Eq.{bytes_eq-Decides}
use Rattle.multisets.specs.Bags.{IsIn}
use Rattle.multisets.proofs.Members.{in_append}
use Rattle.graph_ast.specs.declared.checked.CheckedPath.{CheckedPath}
use Rattle.graph_ast.specs.declared.checked.CheckedQuery.{CheckedQuery}
use Rattle.graph_ast.specs.declared.checked.Operand.{Operand}
use Rattle.graph_ast.specs.declared.checked.Step.{Step}
use Rattle.graph_ast.specs.declared.checked.Step.TheVariants.{One, Part}
use Rattle.graph_ast.specs.declared.checked.Piece.{Piece}
use Rattle.graph_ast.specs.declared.checked.Piece.TheVariants as form
use Rattle.graph_ast.specs.declared.blocks.Alternative.{Alternative}
use Rattle.graph_meaning.specs.Choices.{Condition, Scoped, expansion_of, pattern_of}
use Rattle.graph_meaning.proofs.Members.{in_map, in_flat, from_flat}
use Rattle.pattern_check.specs.Scopes.{Kind, vertices, edges}
use Rattle.pattern_check.specs.Checked.{pieces_of}
use Rattle.pattern_check.specs.Lowerable.{kinds_in, kinds_of, HasOneKinds, conditions_in, conditions_of}
use Rattle.path_lowering.specs.Lowered.{pieces_in, path_pieces, query_pieces, kind_of_piece}
use Rattle.path_lowering.specs.Sound.{operand_conditions, path_conditions}
use Rattle.path_lowering.specs.Sound as of_path
use Rattle.path_lowering.proofs.SoundExpansion.{condition_among}

-- what holds of all holds of a member
pub of_member : {X : Type 0} (P : X → Type 0) (xs : List X) → AllByRecursion P xs → (x : X) → IsIn x xs → P x
of_member P [] all x h = absurd h
of_member P (y ∷ ys) all x (inl e) = subst P e all.0
of_member P (y ∷ ys) all x (inr h) = of_member P ys all.1 x h

pub given_in : {X : Type 0} (o : Option X) (x : X) → o ≡ Some x → IsIn x (option_to_list o)
given_in o x e = subst (λ p. IsIn x (option_to_list p)) (sym e) (inl refl)

-- ---- variables

abbrev kind_named : Piece → Kind
kind_named (form.Vertex pattern) = vertices
kind_named (form.Edge direction pattern) = edges

piece_named : (piece : Piece) (name : List ℕ) → (pattern_of piece).variable ≡ Some name → IsIn (name, kind_named piece) (kinds_in piece)
piece_named (form.Vertex pattern) name e = in_map (λ n. (n, vertices)) name (option_to_list pattern.variable) (given_in pattern.variable name e)
piece_named (form.Edge direction pattern) name e = in_map (λ n. (n, edges)) name (option_to_list pattern.variable) (given_in pattern.variable name e)

same_pieces : (step : Step) → pieces_in step ≡ pieces_of step
same_pieces (One piece) = refl
same_pieces (Part lower upper pieces conditions) = refl

abbrev kinds_in_step : Step → List (List ℕ × Kind)
kinds_in_step step = flat_map kinds_in (pieces_of step)

abbrev kinds_in_operand : Operand → List (List ℕ × Kind)
kinds_in_operand operand = flat_map kinds_in_step operand.steps

abbrev kinds_in_path : CheckedPath → List (List ℕ × Kind)
kinds_in_path path = flat_map kinds_in_operand path.operands

-- a variable of an element pattern is among the variables of the query
named_in : (query : CheckedQuery) (piece : Piece) (name : List ℕ) → IsIn piece (query_pieces query) → (pattern_of piece).variable ≡ Some name
    → IsIn (name, kind_named piece) (kinds_of query)
named_in query piece name h e =
    let path = from_flat path_pieces piece query.paths h in
    let operand = from_flat (λ (operand : Operand). flat_map pieces_in operand.steps) piece path.0.operands path.2 in
    let step = from_flat pieces_in piece operand.0.steps operand.2 in
    let here : IsIn (name, kind_named piece) (kinds_in_step step.0) =
    in_flat kinds_in (name, kind_named piece) piece (pieces_of step.0) (subst (λ l. IsIn piece l) (same_pieces step.0) step.2) (piece_named piece name e) in
    in_flat kinds_in_path (name, kind_named piece) path.0 query.paths path.1
    (in_flat kinds_in_operand (name, kind_named piece) operand.0 path.0.operands operand.1
    (in_flat kinds_in_step (name, kind_named piece) step.0 operand.0.steps step.1 here))

same_kinds : (piece other : Piece) → kind_named piece ≡ kind_named other → kind_of_piece piece ≡ kind_of_piece other
same_kinds (form.Vertex pattern) (form.Vertex other) e = refl
same_kinds (form.Vertex pattern) (form.Edge direction other) e = absurd cc
same_kinds (form.Edge direction pattern) (form.Vertex other) e = absurd cc
same_kinds (form.Edge direction pattern) (form.Edge turn other) e = refl

pub one_kind : (query : CheckedQuery) → HasOneKinds query → (piece other : Piece) (name : List ℕ) → IsIn piece (query_pieces query) → IsIn other (query_pieces query)
    → (pattern_of piece).variable ≡ Some name → (pattern_of other).variable ≡ Some name → kind_of_piece piece ≡ kind_of_piece other
one_kind query kinds piece other name h k e f =
    let same : (a b : List ℕ × Kind) → Type 0 = λ a b. bytes_eq a.0 b.0 ≡ true → a.1 ≡ b.1 in
    let first = of_member (λ (a : List ℕ × Kind). AllByRecursion (same a) (kinds_of query)) (kinds_of query) kinds (name, kind_named piece) (named_in query piece name h e) in
    let second = of_member (same (name, kind_named piece)) (kinds_of query) first (name, kind_named other) (named_in query other name k f) in
    same_kinds piece other (second ((bytes_eq-Decides name name).1 refl))

-- ---- conditions

same_conditions : (step : Step) → of_path.conditions_in step ≡ conditions_in step
same_conditions (One piece) = refl
same_conditions (Part lower upper pieces conditions) = refl

abbrev of_operand : Operand → List Condition
of_operand operand = flat_map conditions_in operand.steps ++ operand.conditions

same_of_steps : (steps : List Step) → flat_map of_path.conditions_in steps ≡ flat_map conditions_in steps
same_of_steps [] = refl
same_of_steps (step ∷ steps) = ap₂ (λ a b. a ++ b) (same_conditions step) (same_of_steps steps)

same_of_operand : (operand : Operand) → operand_conditions operand ≡ of_operand operand
same_of_operand operand = ap (λ l. l ++ operand.conditions) (same_of_steps operand.steps)

-- a condition of a path is one of the query
path_condition : (query : CheckedQuery) (path : CheckedPath) → IsIn path query.paths → (c : Condition) → IsIn c (path_conditions path) → IsIn c (conditions_of query)
path_condition query path there c h =
    let operand = from_flat operand_conditions c path.operands h in
    let of_paths : CheckedPath → List Condition = λ p. flat_map of_operand p.operands in
    in_append c (flat_map of_paths query.paths) (option_to_list query.condition)
    (inl (in_flat of_paths c path query.paths there
    (in_flat of_operand c operand.0 path.operands operand.1 (subst (λ l. IsIn c l) (same_of_operand operand.0) operand.2))))

-- so is a condition of a choice
pub choice_condition : (query : CheckedQuery) (path : CheckedPath) → IsIn path query.paths → (choice : Alternative) (scoped : Scoped)
    → IsIn scoped (expansion_of path choice).conditions → IsIn scoped.condition (conditions_of query)
choice_condition query path there choice scoped h = path_condition query path there scoped.condition (condition_among path choice scoped h)

-- and the last one
pub last_condition : (query : CheckedQuery) (c : Condition) → query.condition ≡ Some c → IsIn c (conditions_of query)
last_condition query c e =
    in_append c (flat_map (λ (path : CheckedPath). flat_map of_operand path.operands) query.paths) (option_to_list query.condition) (inr (given_in query.condition c e))
