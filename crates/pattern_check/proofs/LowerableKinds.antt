-- A name of a query without faults stands for vertices or for edges, and not for both.
use Rattle.std.proofs.Common.{◌≡◌, ℕ, ◌+◌, ◌⊎◌, Bool, true, false, not, ◌&&◌, List, [], ◌∷◌, ◌++◌, map, refl, sym, ap, ap₂, subst, ◌∙◌, Option, None, Some, bytes_eq}
use Rattle.std.proofs.Common.{append_assoc, option_map, option_to_list, inl, inr}
use Rattle.std.specs.List.{AllByRecursion, flat_map, enumerate_from, list_any}
use Rattle.std.proofs.lemmas.Cmp.{nat_list_eq_equiv}
use Rattle.std.proofs.lemmas.List.{append-nil, map-append}
use Rattle.std.proofs.lemmas.Grind.{flat_map-append}
use Rattle.multisets.specs.Bags.{IsIn}
use Rattle.multisets.proofs.Members.{in_parts}
use Rattle.graph_ast.specs.declared.schema.Named.{Named}
use Rattle.graph_ast.specs.declared.query.QueryTree.{QueryTree}
use Rattle.graph_ast.specs.declared.query.PathTree.{PathTree}
use Rattle.graph_ast.specs.declared.query.PartTree.{PartTree}
use Rattle.graph_ast.specs.declared.query.Filler.{Filler}
use Rattle.graph_ast.specs.declared.query.Direction.{Direction}
use Rattle.graph_ast.specs.declared.query.Quantifier.{Quantifier}
use Rattle.graph_ast.specs.declared.query.Factor.{Factor}
use Rattle.graph_ast.specs.declared.query.Factor.TheVariants as v
use Rattle.graph_ast.specs.declared.catalog.Catalog.{Catalog}
use Rattle.graph_ast.specs.declared.catalog.Graph.{Graph}
use Rattle.graph_ast.specs.declared.checked.CheckedPath.{CheckedPath}
use Rattle.graph_ast.specs.declared.checked.Operand.{Operand}
use Rattle.graph_ast.specs.declared.checked.Step.{Step}
use Rattle.graph_ast.specs.declared.checked.Piece.{Piece}
use Rattle.graph_ast.specs.declared.checked.Piece.TheVariants as piece
use Rattle.first_faults.specs.declared.faults.Fault.{Fault}
use Rattle.graph_ast.specs.Lookups.{graph_at}
use Rattle.graph_ast.specs.Patterns.{Part, given_by, part_given}
use Rattle.pattern_check.specs.Scopes.{Kind, vertices, edges, same_kind, Place, Declaration, place_inside, declaring, operand_declares, path_declares, declarations, declares}
use Rattle.pattern_check.specs.Checked.{Spliced, splice, pieces_of, quantified, element, pattern_for, body_spliced, part_spliced, splicing, checked_path, unweighed_at}
use Rattle.pattern_check.specs.NameRules.{variable_kind, variable_repeated, declaration_faults_behind}
use Rattle.pattern_check.specs.Lowerable.{kinds_in, kinds_of, HasOneKinds}
use Rattle.pattern_check.proofs.Factors.{given_vertex, given_edge, given_part, part_operands, operands_given, rows_of, rows_in, Each, each_union}
use Rattle.pattern_check.proofs.Faultless.{left_none, right_none, not_when, or_left, or_right}
use Rattle.graph_meaning.proofs.Members.{from_map}

abbrev Kinded : Type 0
Kinded = List ℕ × Kind

abbrev pub key : Declaration → Kinded
key declaration = (declaration.variable.name, declaration.kind)

abbrev kinds_at : Step → List Kinded
kinds_at step = flat_map kinds_in (pieces_of step)

-- what the element patterns of some steps declare
abbrev pub kinds_along : List Step → List Kinded
kinds_along = flat_map kinds_at

-- ---- lists

flat_flat : {X Y Z : Type 0} (f : X → List Y) (g : Y → List Z) (xs : List X) → flat_map g (flat_map f xs) ≡ flat_map (λ x. flat_map g (f x)) xs
flat_flat f g [] = refl
flat_flat f g (x ∷ xs) = flat_map-append g (f x) (flat_map f xs) ∙ ap (λ l. flat_map g (f x) ++ l) (flat_flat f g xs)

-- ---- factors

declared_kinds : (kind : Kind) (place : Place) (variable : Option Named) →
    map key (map (λ (own : Named). record { variable = own; kind = kind; place = place }) (option_to_list variable)) ≡
    map (λ name. (name, kind)) (option_to_list (option_map (λ (own : Named). own.name) variable))
declared_kinds kind place None = refl
declared_kinds kind place (Some own) = refl

module _ (catalog : Catalog) (graph : Graph) where
  abbrev S : Factor → Spliced
  S = given_by (splicing catalog graph)

  abbrev D : Factor → Place → List Declaration
  D = given_by declaring

  abbrev P : Factor → Type 0
  P factor = (place : Place) → kinds_along (S factor).steps ≡ map key (D factor place)

  -- one factor after another
  row_kinds : (row : List Factor) → AllByRecursion P row → (place : Place) →
      kinds_along (flat_map (λ (own : Spliced). own.steps) (map S row)) ≡ map key (flat_map (λ (declared : Place → List Declaration). declared place) (map D row))
  row_kinds [] all place = refl
  row_kinds (factor ∷ row) all place =
      flat_map-append kinds_at (S factor).steps (flat_map (λ (own : Spliced). own.steps) (map S row))
      ∙ ap₂ (λ a b. a ++ b) (all.0 place) (row_kinds row all.1 place)
      ∙ sym (map-append key (D factor place) (flat_map (λ (declared : Place → List Declaration). declared place) (map D row)))

  rows_kinds : (rows : List (List Factor)) → Each P rows → (place : Place) →
      kinds_along (flat_map (λ (own : Spliced). own.steps) (flat_map (λ (row : List Spliced). row) (map (map S) rows))) ≡
      map key (flat_map (flat_map (λ (declared : Place → List Declaration). declared place)) (map (map D) rows))
  rows_kinds [] all place = refl
  rows_kinds (row ∷ rows) all place =
      ap kinds_along (flat_map-append (λ (own : Spliced). own.steps) (map S row) (flat_map (λ (row : List Spliced). row) (map (map S) rows)))
      ∙ flat_map-append kinds_at (flat_map (λ (own : Spliced). own.steps) (map S row)) (flat_map (λ (own : Spliced). own.steps) (flat_map (λ (row : List Spliced). row) (map
      (map S) rows)))
      ∙ ap₂ (λ a b. a ++ b) (row_kinds row all.0 place) (rows_kinds rows all.1 place)
      ∙ sym (map-append key (flat_map (λ (declared : Place → List Declaration). declared place) (map D row)) (flat_map (flat_map (λ (declared : Place →
      List Declaration). declared place)) (map (map D) rows)))

  -- a quantifier changes nothing of it
  quantified_kinds : (quantifier : Option Quantifier) (inside : Spliced) → kinds_along (quantified quantifier inside).steps ≡ kinds_along inside.steps
  quantified_kinds None inside = refl
  quantified_kinds (Some quantifier) inside =
      append-nil (flat_map kinds_in (flat_map pieces_of inside.steps)) ∙ flat_flat pieces_of kinds_in inside.steps

  of_vertex : (filler : Filler) → P (v.Vertex filler)
  of_vertex filler place =
      ap (λ (own : Spliced). kinds_along own.steps) (given_vertex (splicing catalog graph) filler)
      ∙ append-nil (flat_map kinds_in (piece.Vertex (pattern_for filler) ∷ [])) ∙ append-nil (kinds_in (piece.Vertex (pattern_for filler)))
      ∙ sym (declared_kinds vertices place filler.variable)
      ∙ sym (ap (λ (d : Place → List Declaration). map key (d place)) (given_vertex declaring filler))

  of_edge : (direction : Direction) (filler : Filler) (quantifier : Option Quantifier) → P (v.Edge direction filler quantifier)
  of_edge direction filler quantifier place =
      let own : Piece = piece.Edge direction (pattern_for filler) in
      ap (λ (own : Spliced). kinds_along own.steps) (given_edge (splicing catalog graph) direction filler quantifier)
      ∙ quantified_kinds quantifier (element catalog graph own filler)
      ∙ append-nil (flat_map kinds_in (own ∷ [])) ∙ append-nil (kinds_in own)
      ∙ sym (declared_kinds edges (place_inside quantifier place) filler.variable)
      ∙ sym (ap (λ (d : Place → List Declaration). map key (d place)) (given_edge declaring direction filler quantifier))

  of_part : (part : PartTree) (quantifier : Option Quantifier) → Each P (rows_of part) → P (v.Part part quantifier)
  of_part part quantifier all place =
      let given : Part Spliced = part_given (splicing catalog graph) part in
      ap (λ (own : Spliced). kinds_along own.steps) (given_part (splicing catalog graph) part quantifier)
      ∙ quantified_kinds quantifier (part_spliced catalog graph given)
      ∙ ap kinds_along (append-nil (body_spliced given.body).steps)
      ∙ ap (λ (rows : List (List Spliced)). kinds_along (flat_map (λ (own : Spliced). own.steps) (flat_map (λ (row : List Spliced). row) rows))) (part_operands
      (splicing catalog graph) part)
      ∙ rows_kinds (rows_of part) all (place_inside quantifier place)
      ∙ sym (ap (λ (rows : List (List (Place → List Declaration))). map key (flat_map (flat_map (λ (declared : Place → List Declaration). declared
      (place_inside quantifier place))) rows)) (part_operands declaring part))
      ∙ sym (ap (λ (d : Place → List Declaration). map key (d place)) (given_part declaring part quantifier))

  -- ---- path patterns

  operands_kinds : (path n : ℕ) (rows : List (List Factor)) → Each P rows →
      flat_map (λ (operand : Operand). kinds_along operand.steps) (map splice (map (map S) rows)) ≡
      map key (flat_map (λ (operand : List Declaration). operand) (map (operand_declares path) (enumerate_from n (map (map D) rows))))
  operands_kinds path n [] all = refl
  operands_kinds path n (row ∷ rows) all =
      let place : Place = record { path = path; operand = n; quantified = false } in
      ap₂ (λ a b. a ++ b) (row_kinds row all.0 place) (operands_kinds path (n + 1) rows all.1)
      ∙ sym (map-append key (flat_map (λ (declared : Place → List Declaration). declared place) (map D row))
      (flat_map (λ (operand : List Declaration). operand) (map (operand_declares path) (enumerate_from (n + 1) (map (map D) rows)))))

  path_kinds : (n : ℕ) (path : PathTree) → flat_map (λ (operand : Operand). kinds_along operand.steps) (checked_path catalog graph path).operands ≡ map key (path_declares
      (n, path))
  path_kinds n path =
      ap (λ (rows : List (List Spliced)). flat_map (λ (operand : Operand). kinds_along operand.steps) (map splice rows)) (operands_given (splicing catalog graph) path.body)
      ∙ operands_kinds n 0 (rows_in path.body) (each_union P of_vertex of_edge of_part (rows_in path.body))
      ∙ sym (ap (λ (rows : List (List (Place → List Declaration))). map key (flat_map (λ (operand : List Declaration). operand) (map (operand_declares n)
      (enumerate_from 0 rows)))) (operands_given declaring path.body))

  paths_kinds : (n : ℕ) (paths : List PathTree) →
      flat_map (λ (path : CheckedPath). flat_map (λ (operand : Operand). kinds_along operand.steps) path.operands) (map (checked_path catalog graph) paths) ≡
      map key (flat_map path_declares (enumerate_from n paths))
  paths_kinds n [] = refl
  paths_kinds n (path ∷ paths) =
      ap₂ (λ a b. a ++ b) (path_kinds n path) (paths_kinds (n + 1) paths)
      ∙ sym (map-append key (path_declares (n, path)) (flat_map path_declares (enumerate_from (n + 1) paths)))

-- what a checked query declares is what the text declares
pub kinds_are : (catalog : Catalog) (place : ℕ) (tree : QueryTree) → kinds_of (unweighed_at catalog place tree) ≡ map key (declarations tree)
unfolding declarations
kinds_are catalog place tree = paths_kinds catalog (graph_at catalog place) 0 tree.paths

-- ---- one kind

abbrev Agree : Kinded → Kinded → Type 0
Agree a b = bytes_eq a.0 b.0 ≡ true → a.1 ≡ b.1

same_kind_is : (a b : Kind) → not (same_kind a b) ≡ false → a ≡ b
same_kind_is vertices vertices h = refl
same_kind_is vertices edges h = cc
same_kind_is edges vertices h = cc
same_kind_is edges edges h = refl

and_false : (a b : Bool) → (a && b) ≡ false → a ≡ true → b ≡ false
and_false true b h t = h
and_false false b h t = cc

-- none of some has a property
none_of : {X : Type 0} (p : X → Bool) (xs : List X) → list_any p xs ≡ false → (x : X) → IsIn x xs → p x ≡ false
none_of p [] h x there = absurd there
none_of p (y ∷ xs) h x (inl is) = ap p (sym is) ∙ or_left (p y) (list_any p xs) h
none_of p (y ∷ xs) h x (inr more) = none_of p xs (or_right (p y) (list_any p xs) h) x more

bytes_turned : (a b : List ℕ) → bytes_eq a b ≡ true → bytes_eq b a ≡ true
bytes_turned a b h = sym (nat_list_eq_equiv.symm a b) ∙ h

abbrev PairsAgree : List Declaration → Type 0
PairsAgree ds = (a b : Declaration) → IsIn a ds → IsIn b ds → Agree (key a) (key b)

earlier_agrees : (before : List Declaration) (later : Declaration) → variable_kind before later ≡ [] → (earlier : Declaration) → IsIn earlier before → Agree (key earlier)
    (key later)
earlier_agrees before later h earlier there same =
    let test : Declaration → Bool = λ (own : Declaration). declares later.variable.name own && not (same_kind own.kind later.kind) in
    same_kind_is earlier.kind later.kind
    (and_false (declares later.variable.name earlier) (not (same_kind earlier.kind later.kind)) (none_of test before (not_when (list_any test before) _ _ h) earlier there) same)

one_more : (before : List Declaration) (later : Declaration) → PairsAgree before → variable_kind before later ≡ [] → PairsAgree (before ++ later ∷ [])
one_more before later pairs h a b ia ib = by (in_parts a before (later ∷ []) ia) (in_parts b before (later ∷ []) ib)
  where
    by : (IsIn a before ⊎ IsIn a (later ∷ [])) → (IsIn b before ⊎ IsIn b (later ∷ [])) → Agree (key a) (key b)
    by (inl x) (inl y) same = pairs a b x y same
    by (inl x) (inr (inl y)) same = subst (λ l. Agree (key a) (key l)) y (earlier_agrees before later h a x) same
    by (inl x) (inr (inr none)) same = absurd none
    by (inr (inl x)) (inl y) same = sym (subst (λ l. Agree (key b) (key l)) x (earlier_agrees before later h b y) (bytes_turned a.variable.name b.variable.name same))
    by (inr (inl x)) (inr (inl y)) same = ap (λ (d : Declaration). d.kind) (sym x ∙ y)
    by (inr (inl x)) (inr (inr none)) same = absurd none
    by (inr (inr none)) there same = absurd none

all_agree : (before rest : List Declaration) → PairsAgree before → declaration_faults_behind before rest ≡ [] → PairsAgree (before ++ rest)
all_agree before [] pairs h = subst PairsAgree (sym (append-nil before)) pairs
all_agree before (later ∷ rest) pairs h =
    let two : List Fault = variable_kind before later ++ variable_repeated before later in
    let rest_faults : List Fault = declaration_faults_behind (before ++ later ∷ []) rest in
    let own = left_none (variable_kind before later) (variable_repeated before later) (left_none two rest_faults h) in
    let more = right_none two rest_faults h in
    subst PairsAgree (append_assoc before (later ∷ []) rest) (all_agree (before ++ later ∷ []) rest (one_more before later pairs own) more)

each_in : {X : Type 0} (Q : X → Type 0) (xs : List X) → ((x : X) → IsIn x xs → Q x) → AllByRecursion Q xs
each_in Q [] f = tt
each_in Q (x ∷ xs) f = (f x (inl refl), each_in Q xs (λ y there. f y (inr there)))

one_kinds : (ds : List Declaration) → PairsAgree ds → AllByRecursion (λ (a : Kinded). AllByRecursion (λ (b : Kinded). Agree a b) (map key ds)) (map key ds)
one_kinds ds pairs =
    each_in _ (map key ds) (λ a ia. each_in _ (map key ds) (λ b ib.
    let x = from_map key a ds ia in
    let y = from_map key b ds ib in
    subst (λ k. Agree k b) x.2 (subst (λ k. Agree (key x.0) k) y.2 (pairs x.0 y.0 x.1 y.1))))

pub has_one_kinds : (catalog : Catalog) (place : ℕ) (tree : QueryTree) → declaration_faults_behind [] (declarations tree) ≡ [] → HasOneKinds (unweighed_at catalog place tree)
has_one_kinds catalog place tree h =
    subst (λ (kinds : List Kinded). AllByRecursion (λ (a : Kinded). AllByRecursion (λ (b : Kinded). Agree a b) kinds) kinds) (sym (kinds_are catalog place tree))
    (one_kinds (declarations tree) (all_agree [] (declarations tree) (λ a b ia ib same. absurd ia) h))
