-- Where a declaration stands plays no part in what is asked of variables by name.
use Rattle.std.proofs.Common.{◌≡◌, ◌∙◌, ℕ, Bool, true, false, ◌||◌, ◌&&◌, not, cond, ap, refl, List, [], ◌∷◌, ◌++◌, map, Option, None, Some, option_map, option_to_list}
use Rattle.std.specs.List.{flat_map, list_any, list_all, find}
use Rattle.graph_ast.specs.declared.schema.Named.{Named}
use Rattle.graph_ast.specs.declared.query.Joint.{Joint}
use Rattle.graph_ast.specs.declared.query.PropertyRef.{PropertyRef}
use Rattle.graph_ast.specs.declared.catalog.Graph.{Graph}
use Rattle.first_faults.specs.declared.faults.Fault.{Fault}
use Rattle.first_faults.specs.Faults.{when}
use Rattle.first_faults.specs.Names.{has_text}
use Rattle.pgq_base.specs.declared.code.Code.TheVariants as code
use Rattle.pattern_check.specs.Scopes.{Declaration, Around, declares, first_declaration}
use Rattle.pattern_check.specs.Graphs.{elements_of_kind, has_property}
use Rattle.pattern_check.specs.NameRules.{is_declared, is_group, is_out_of_reach, is_out_of_scope, same_truth, has_variables_of, variables_differ, unlike_first, unlike_among}
use Rattle.pattern_check.specs.NameRules.{variable_faults, unknown_property}
use Rattle.pattern_check.specs.Mentions.{unplaced}

pub any_mapped : {X Y : Type 0} (p : Y → Bool) (f : X → Y) (xs : List X) → list_any p (map f xs) ≡ list_any (λ x. p (f x)) xs
any_mapped p f [] = refl
any_mapped p f (x ∷ xs) = ap (λ b. p (f x) || b) (any_mapped p f xs)

pub all_mapped : {X Y : Type 0} (p : Y → Bool) (f : X → Y) (xs : List X) → list_all p (map f xs) ≡ list_all (λ x. p (f x)) xs
all_mapped p f [] = refl
all_mapped p f (x ∷ xs) = ap (λ b. p (f x) && b) (all_mapped p f xs)

all_same : {X : Type 0} (p q : X → Bool) → ((x : X) → p x ≡ q x) → (xs : List X) → list_all p xs ≡ list_all q xs
all_same p q h [] = refl
all_same p q h (x ∷ xs) = ap (λ b. b && list_all p xs) (h x) ∙ ap (λ b. q x && b) (all_same p q h xs)

pub declared_unplaced : (all : List Declaration) (name : List ℕ) → is_declared (map unplaced all) name ≡ is_declared all name
declared_unplaced all name = any_mapped (declares name) unplaced all

pub group_unplaced : (all : List Declaration) (name : List ℕ) → is_group (map unplaced all) name ≡ is_group all name
group_unplaced all name = any_mapped (λ (declaration : Declaration). declares name declaration && declaration.place.quantified) unplaced all

found_mapped : {X Y : Type 0} (p : Y → Bool) (f : X → Y) (xs : List X) → find p (map f xs) ≡ option_map f (find (λ x. p (f x)) xs)
found_mapped p f [] = refl
found_mapped p f (x ∷ xs) = go (p (f x)) (found_mapped p f xs)
  where
    go : (b : Bool) → find p (map f xs) ≡ option_map f (find (λ y. p (f y)) xs) → cond b (Some (f x)) (find p (map f xs)) ≡ option_map f (cond b (Some x) (find (λ y. p (f y)) xs))
    go true e = refl
    go false e = e

reach_unplaced : (all : List Declaration) (around : Around) (name : List ℕ) → is_out_of_reach (map unplaced all) around name ≡ is_out_of_reach all around name
reach_unplaced all around name = ap (λ b. b && not (list_any (has_text name) around.parts)) (group_unplaced all name)

abbrev faults_at : Bool → Bool → Bool → Named → List Fault
faults_at declared hidden outside variable =
    when (not declared) code.UnknownVariable variable.span ++ when hidden code.GroupVariable variable.span
    ++ when (declared && not hidden && outside) code.OutOfScope variable.span

pub variable_unplaced : (all : List Declaration) (around : Around) (variable : Named) → variable_faults (map unplaced all) around variable ≡ variable_faults all around variable
variable_unplaced all around variable =
    ap (λ b. faults_at b (is_out_of_reach (map unplaced all) around variable.name) (is_out_of_scope around variable.name) variable) (declared_unplaced all variable.name)
    ∙ ap (λ b. faults_at (is_declared all variable.name) b (is_out_of_scope around variable.name) variable) (reach_unplaced all around variable.name)

abbrev faults_of_kind : Graph → PropertyRef → Option Declaration → List Fault
faults_of_kind graph leaf first =
    flat_map (λ (d : Declaration). when (not (list_any (has_property leaf.property.name) (elements_of_kind graph d.kind))) code.UnknownProperty leaf.property.span)
    (option_to_list first)

kind_unplaced : (graph : Graph) (leaf : PropertyRef) (first : Option Declaration) → faults_of_kind graph leaf (option_map unplaced first) ≡ faults_of_kind graph leaf first
kind_unplaced graph leaf None = refl
kind_unplaced graph leaf (Some d) = refl

pub property_unplaced : (graph : Graph) (all : List Declaration) (leaf : PropertyRef) → unknown_property graph (map unplaced all) leaf ≡ unknown_property graph all leaf
property_unplaced graph all leaf =
    ap (faults_of_kind graph leaf) (found_mapped (declares leaf.variable.name) unplaced all)
    ∙ kind_unplaced graph leaf (first_declaration all leaf.variable.name)

-- the same faults at each
pub each_same : {X Y : Type 0} (f g : X → List Y) → ((x : X) → f x ≡ g x) → (xs : List X) → flat_map f xs ≡ flat_map g xs
each_same f g h [] = refl
each_same f g h (x ∷ xs) = ap (λ l. l ++ flat_map f xs) (h x) ∙ ap (λ l. g x ++ l) (each_same f g h xs)

-- ---- the variables of operands

abbrev like : List Declaration → List Declaration → List ℕ → Bool
like xs ys name = is_declared ys name && same_truth (is_group xs name) (is_group ys name)

like_unplaced : (xs ys : List Declaration) (name : List ℕ) → like (map unplaced xs) (map unplaced ys) name ≡ like xs ys name
like_unplaced xs ys name =
    ap (λ b. b && same_truth (is_group (map unplaced xs) name) (is_group (map unplaced ys) name)) (declared_unplaced ys name)
    ∙ ap (λ b. is_declared ys name && same_truth b (is_group (map unplaced ys) name)) (group_unplaced xs name)
    ∙ ap (λ b. is_declared ys name && same_truth (is_group xs name) b) (group_unplaced ys name)

variables_unplaced : (xs ys : List Declaration) → has_variables_of (map unplaced xs) (map unplaced ys) ≡ has_variables_of xs ys
variables_unplaced xs ys =
    all_mapped (λ (d : Declaration). like (map unplaced xs) (map unplaced ys) d.variable.name) unplaced xs
    ∙ all_same (λ (d : Declaration). like (map unplaced xs) (map unplaced ys) d.variable.name) (λ d. like xs ys d.variable.name) (λ d. like_unplaced xs ys d.variable.name) xs

differ_unplaced : (first operand : List Declaration) (joint : Joint) → variables_differ (map unplaced first) (map unplaced operand) joint ≡ variables_differ first operand joint
differ_unplaced first operand joint =
    ap (λ b. when (not (b && has_variables_of (map unplaced operand) (map unplaced first))) code.UnionVariablesDiffer joint.span) (variables_unplaced first operand)
    ∙ ap (λ b. when (not (has_variables_of first operand && b)) code.UnionVariablesDiffer joint.span) (variables_unplaced operand first)

first_unplaced : (first : List Declaration) (operands : List (List Declaration)) (joints : List Joint) →
    unlike_first (map unplaced first) (map (map unplaced) operands) joints ≡ unlike_first first operands joints
first_unplaced first [] joints = refl
first_unplaced first (operand ∷ operands) [] = refl
first_unplaced first (operand ∷ operands) (joint ∷ joints) =
    ap (λ l. l ++ unlike_first (map unplaced first) (map (map unplaced) operands) joints) (differ_unplaced first operand joint)
    ∙ ap (λ l. variables_differ first operand joint ++ l) (first_unplaced first operands joints)

pub among_unplaced : (operands : List (List Declaration)) (joints : List Joint) → unlike_among (map (map unplaced) operands) joints ≡ unlike_among operands joints
among_unplaced [] joints = refl
among_unplaced (first ∷ operands) joints = first_unplaced first operands joints
