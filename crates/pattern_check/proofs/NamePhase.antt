-- What the phase names puts together.
use Rattle.std.proofs.Common.{add-one, ◌≡◌, ◌∙◌, ℕ, zero, suc, ◌+◌, ◌<◌, ap, sym, refl, List, [], ◌∷◌, ◌++◌, length, drop, get_or, map, Option, None, Some, slice_get}
use Rattle.std.proofs.Common.{option_to_list, bytes_eq}
use Rattle.std.specs.List.{flat_map}
use Rattle.std.proofs.lemmas.List.{drop_more, append-nil}
use Rattle.std.proofs.lemmas.List.Quantifiers.{position-Some}
use Rattle.graph_ast.specs.declared.catalog.Catalog.{Catalog}
use Rattle.graph_ast.specs.declared.catalog.Graph.{Graph}
use Rattle.graph_ast.specs.declared.query.Joint.{Joint}
use Rattle.graph_ast.specs.declared.query.PathTree.{PathTree}
use Rattle.graph_ast.specs.declared.query.Union.{out-Union}
use Rattle.graph_ast.specs.declared.query.Quantifier.{Quantifier}
use Rattle.graph_ast.specs.Lookups.{graph_place}
use Rattle.first_faults.specs.declared.faults.Fault.{Fault}
use Rattle.first_faults.specs.Faults.{first_of}
use Rattle.first_faults.proofs.Steps.{first_of_append}
use Rattle.pattern_check.specs.declared.mentions.Mention.{Mention}
use Rattle.graph_ast.specs.Patterns.{body_given}
use Rattle.pattern_check.specs.Scopes.{Declaration, Around, Use, declaring, around_inside, operands_declare}
use Rattle.pattern_check.specs.Variables.{variables_if}
use Rattle.pattern_check.specs.Mentions.{unplaced, row_said, rows_said, AreOperands}
use Rattle.pattern_check.specs.NameRules.{labelling, variable_faults, unknown_property, variables_differ, unlike_first, unlike_among, union_faults}
use Rattle.pattern_check.proofs.Opened.{joints_inside}
use Rattle.pattern_check.proofs.Placing.{operands_said_are}
use Rattle.pattern_check.proofs.Unplaced.{variable_unplaced, property_unplaced, among_unplaced, each_same}

pub place_within : (catalog : Catalog) (name : List ℕ) (place : ℕ) → graph_place catalog name ≡ Some place → place < length catalog.graphs
place_within catalog name place e =
    (position-Some (λ (graph : Graph). bytes_eq graph.name name) catalog.graphs place (record { name = []; vertices = []; edges = [] }) e).0

pub inside_is : (quantifier : Option Quantifier) (variables : List (List ℕ)) (around : Around) →
    record { parts = option_to_list (variables_if quantifier variables) ++ around.parts; path = around.path } ≡ around_inside quantifier variables around
inside_is None variables around = refl
inside_is (Some quantifier) variables around = refl

pub variables_at : (declared all : List Declaration) (us : List Use) → declared ≡ map unplaced all →
    flat_map (λ (used : Use). variable_faults declared used.around used.leaf.variable) us ≡ flat_map (λ (used : Use). variable_faults all used.around used.leaf.variable) us
variables_at declared all us e =
    ap (λ l. flat_map (λ (used : Use). variable_faults l used.around used.leaf.variable) us) e
    ∙ each_same (λ (used : Use). variable_faults (map unplaced all) used.around used.leaf.variable) (λ (used : Use). variable_faults all used.around used.leaf.variable)
    (λ used. variable_unplaced all used.around used.leaf.variable) us

pub properties_at : (graph : Graph) (declared all : List Declaration) (us : List Use) → declared ≡ map unplaced all →
    flat_map (λ (used : Use). unknown_property graph declared used.leaf) us ≡ flat_map (λ (used : Use). unknown_property graph all used.leaf) us
properties_at graph declared all us e =
    ap (λ l. flat_map (λ (used : Use). unknown_property graph l used.leaf) us) e
    ∙ each_same (λ (used : Use). unknown_property graph (map unplaced all) used.leaf) (λ (used : Use). unknown_property graph all used.leaf)
    (λ used. property_unplaced graph all used.leaf) us

-- the bars of a path pattern
pub unions_at : (path : PathTree) (operands : List (List Mention)) (joints : List Joint) → AreOperands (body_given declaring path.body).operands operands →
    joints ≡ (out-Union path.body).joints → unlike_among (rows_said operands) joints ≡ union_faults path
unions_at path operands joints are e =
    ap (λ l. unlike_among l joints) (operands_said_are path operands are)
    ∙ among_unplaced (operands_declare 0 path.body) joints
    ∙ ap (unlike_among (operands_declare 0 path.body)) (e ∙ joints_inside labelling path.body)

some_same : {X : Type 0} (x y : X) → Some x ≡ Some y → x ≡ y
some_same x y e = cc

no_joints : (first : List Declaration) (operands : List (List Declaration)) → unlike_first first operands [] ≡ []
no_joints first [] = refl
no_joints first (operand ∷ operands) = refl

drop_nothing : {X : Type 0} (i : ℕ) → drop {A = X} i [] ≡ []
drop_nothing zero = refl
drop_nothing (suc i) = refl

joints_on : (first operand : List Declaration) (operands : List (List Declaration)) (joints : List Joint) (i : ℕ) →
    unlike_first first (operand ∷ operands) (drop i joints) ≡
    flat_map (variables_differ first operand) (option_to_list (slice_get joints i)) ++ unlike_first first operands (drop (suc i) joints)
joints_on first operand operands [] i = ap (unlike_first first (operand ∷ operands)) (drop_nothing i) ∙ sym (no_joints first operands)
joints_on first operand operands (joint ∷ joints) zero =
    ap (λ l. l ++ unlike_first first operands joints) (sym (append-nil (variables_differ first operand joint)))
joints_on first operand operands (joint ∷ joints) (suc i) = joints_on first operand operands joints i

-- how the loop over the operands behind the first goes on by one
pub operands_on : (found : Option Fault) (first : List Declaration) (xs : List (List Mention)) (joints : List Joint) (i : ℕ) (x : List Mention) → i < length xs →
    x ≡ get_or xs i x →
    first_of found (unlike_first first (rows_said (drop i xs)) (drop i joints)) ≡
    first_of (first_of found (flat_map (variables_differ first (row_said x)) (option_to_list (slice_get joints i))))
    (unlike_first first (rows_said (drop (i + 1) xs)) (drop (i + 1) joints))
operands_on found first xs joints i x within is =
    ap (λ l. first_of found (unlike_first first (rows_said l) (drop i joints))) (drop_more xs i x within)
    ∙ ap (λ y. first_of found (unlike_first first (row_said y ∷ rows_said (drop (i + 1) xs)) (drop i joints))) (sym is)
    ∙ ap (first_of found) (joints_on first (row_said x) (rows_said (drop (i + 1) xs)) joints i
    ∙ ap (λ k. flat_map (variables_differ first (row_said x)) (option_to_list (slice_get joints i)) ++ unlike_first first (rows_said (drop (i + 1) xs)) (drop k joints))
    (sym (add-one i)))
    ∙ first_of_append found (flat_map (variables_differ first (row_said x)) (option_to_list (slice_get joints i)))
    (unlike_first first (rows_said (drop (i + 1) xs)) (drop (i + 1) joints))

-- the operands behind the first
pub among_first : (xs : List (List Mention)) (x : List Mention) (joints : List Joint) → slice_get xs 0 ≡ Some x →
    unlike_first (row_said x) (rows_said (drop 1 xs)) joints ≡ unlike_among (rows_said xs) joints
among_first [] x joints e = cc
among_first (y ∷ xs) x joints e = let same : y ≡ x = some_same y x e in ap (λ z. unlike_first (row_said z) (rows_said xs) joints) (sym same)
