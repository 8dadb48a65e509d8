-- The conditions of a checked query are those of the text, and their leaves are the text's leaves.
use Rattle.std.proofs.Common.{ℕ, List, [], ◌∷◌, ◌++◌, map, sym, subst, ◌∙◌, Option, None, Some, option_map, option_to_list}
use Rattle.std.specs.List.{AllByRecursion, flat_map}
use Rattle.std.proofs.lemmas.List.{append-nil}
use Rattle.std.proofs.lemmas.Grind.{flat_map-append}
use Rattle.expr_tree.specs.Leaves.{leaves_in, EachLeaf}
use Rattle.expr_tree.proofs.Folds.{parts}
use Rattle.graph_ast.specs.declared.query.QueryTree.{QueryTree}
use Rattle.graph_ast.specs.declared.query.PathTree.{PathTree}
use Rattle.graph_ast.specs.declared.query.PartTree.{PartTree}
use Rattle.graph_ast.specs.declared.query.Filler.{Filler}
use Rattle.graph_ast.specs.declared.query.Condition.{Condition}
use Rattle.graph_ast.specs.declared.query.PropertyRef.{PropertyRef}
use Rattle.graph_ast.specs.declared.query.Item.{Item}
use Rattle.graph_ast.specs.declared.query.Direction.{Direction}
use Rattle.graph_ast.specs.declared.query.Quantifier.{Quantifier}
use Rattle.graph_ast.specs.declared.query.Factor.{Factor}
use Rattle.graph_ast.specs.declared.query.Factor.TheVariants as v
use Rattle.graph_ast.specs.declared.catalog.Catalog.{Catalog}
use Rattle.graph_ast.specs.declared.catalog.Graph.{Graph}
use Rattle.graph_ast.specs.declared.checked.CheckedPath.{CheckedPath}
use Rattle.graph_ast.specs.declared.checked.Operand.{Operand}
use Rattle.graph_ast.specs.declared.checked.Step.{Step}
use Rattle.graph_ast.specs.declared.checked.Piece.{Piece}
use Rattle.graph_ast.specs.declared.checked.Piece.TheVariants as piece
use Rattle.graph_ast.specs.Lookups.{graph_at}
use Rattle.graph_ast.specs.Patterns.{Part, given_by, body_given, part_given}
use Rattle.pattern_check.specs.Scopes.{Around, Use, Uses, uses_in, uses_in_any, names_in, around_inside, body_variables, body_uses, using, path_uses, nothing_around, uses}
use Rattle.pattern_check.specs.Scopes.{row_conditions, body_conditions, conditions, path_conditions, wheres}
use Rattle.pattern_check.specs.Checked.{Leafed, Spliced, splice, quantified, element, pattern_for, conditions_for, checked_condition, body_spliced, part_spliced, splicing}
use Rattle.pattern_check.specs.Checked.{checked_path, unweighed_at}
use Rattle.pattern_check.specs.Lowerable.{conditions_in, conditions_of}
use Rattle.pattern_check.proofs.Opened.{condition_inside}
use Rattle.pattern_check.proofs.Factors.{together, given_vertex, given_edge, given_part, part_operands, operands_given, rows_of, rows_in, Each, each_union}

abbrev C : Factor → List Condition
C = given_by conditions

-- ---- the conditions

module _ (catalog : Catalog) (graph : Graph) (Q : Leafed → Type 0) where
  abbrev S : Factor → Spliced
  S = given_by (splicing catalog graph)

  -- what is asked of a condition of the text
  abbrev pub Meets : Condition → Type 0
  Meets condition = Q (checked_condition catalog graph condition)

  abbrev pub AllMeet : List Condition → Type 0
  AllMeet = AllByRecursion Meets

  abbrev along : List Step → List Leafed
  along = flat_map conditions_in

  abbrev HasAll : Spliced → Type 0
  HasAll own = AllByRecursion Q (along own.steps) × AllByRecursion Q own.conditions

  abbrev P : Factor → Type 0
  P factor = AllMeet (C factor) → HasAll (S factor)

  optional : (condition : Option Condition) → AllMeet (option_to_list condition) → AllByRecursion Q (conditions_for catalog graph condition)
  optional None h = tt
  optional (Some condition) h = (h.0, tt)

  row_has : (row : List Factor) → AllByRecursion P row → AllMeet (row_conditions (map C row)) → HasAll (splice (map S row))
  row_has [] all h = (tt, tt)
  row_has (factor ∷ row) all h =
      let two = parts Meets (C factor) (row_conditions (map C row)) h in
      let own = all.0 two.0 in
      let more = row_has row all.1 two.1 in (
        subst (AllByRecursion Q) (sym (flat_map-append conditions_in (S factor).steps (splice (map S row)).steps)) (together Q (along (S factor).steps) (along (splice
            (map S row)).steps) own.0 more.0),
        together Q (S factor).conditions (splice (map S row)).conditions own.1 more.1,
      )

  joined_has : (xs ys : List Spliced) → HasAll (splice xs) → HasAll (splice ys) → HasAll (splice (xs ++ ys))
  joined_has xs ys a b = (
    subst (λ l. AllByRecursion Q (along l)) (sym (flat_map-append (λ (own : Spliced). own.steps) xs ys))
        (subst (AllByRecursion Q) (sym (flat_map-append conditions_in (splice xs).steps (splice ys).steps)) (together Q (along (splice xs).steps) (along
        (splice ys).steps) a.0 b.0)),
    subst (AllByRecursion Q) (sym (flat_map-append (λ (own : Spliced). own.conditions) xs ys)) (together Q (splice xs).conditions (splice ys).conditions a.1 b.1),
  )

  rows_have : (rows : List (List Factor)) → Each P rows → AllMeet (flat_map row_conditions (map (map C) rows)) → HasAll (splice (flat_map (λ (row : List Spliced). row) (map
      (map S) rows)))
  rows_have [] all h = (tt, tt)
  rows_have (row ∷ rows) all h =
      let two = parts Meets (row_conditions (map C row)) (flat_map row_conditions (map (map C) rows)) h in
      joined_has (map S row) (flat_map (λ (row : List Spliced). row) (map (map S) rows)) (row_has row all.0 two.0) (rows_have rows all.1 two.1)

  quantified_has : (quantifier : Option Quantifier) (inside : Spliced) → HasAll inside → HasAll (quantified quantifier inside)
  quantified_has None inside h = h
  quantified_has (Some quantifier) inside h = (subst (AllByRecursion Q) (sym (append-nil inside.conditions)) h.1, tt)

  element_has : (own : Piece) (filler : Filler) → AllMeet (option_to_list filler.condition) → HasAll (element catalog graph own filler)
  element_has own filler h = (tt, optional filler.condition h)

  of_vertex : (filler : Filler) → P (v.Vertex filler)
  of_vertex filler h =
      subst HasAll (sym (given_vertex (splicing catalog graph) filler))
      (element_has (piece.Vertex (pattern_for filler)) filler (subst AllMeet (given_vertex conditions filler) h))

  of_edge : (direction : Direction) (filler : Filler) (quantifier : Option Quantifier) → P (v.Edge direction filler quantifier)
  of_edge direction filler quantifier h =
      subst HasAll (sym (given_edge (splicing catalog graph) direction filler quantifier))
      (quantified_has quantifier (element catalog graph (piece.Edge direction (pattern_for filler)) filler)
      (element_has (piece.Edge direction (pattern_for filler)) filler (subst AllMeet (given_edge conditions direction filler quantifier) h)))

  of_part : (part : PartTree) (quantifier : Option Quantifier) → Each P (rows_of part) → P (v.Part part quantifier)
  of_part part quantifier all h =
      let given : Part Spliced = part_given (splicing catalog graph) part in
      let own : Part (List Condition) = part_given conditions part in
      let two = parts Meets (body_conditions own.body) (option_to_list own.condition) (subst AllMeet (given_part conditions part quantifier) h) in
      let inside : HasAll (body_spliced given.body) =
      subst (λ (rows : List (List Spliced)). HasAll (splice (flat_map (λ (row : List Spliced). row) rows))) (sym (part_operands (splicing catalog graph) part))
      (rows_have (rows_of part) all (subst (λ (rows : List (List (List Condition))). AllMeet (flat_map row_conditions rows)) (part_operands conditions part) two.0)) in
      let condition : AllByRecursion Q (conditions_for catalog graph given.condition) =
      optional given.condition (subst (λ c. AllMeet (option_to_list c)) (sym (condition_inside conditions part) ∙ condition_inside (splicing catalog graph) part) two.1) in
      subst HasAll (sym (given_part (splicing catalog graph) part quantifier))
      (quantified_has quantifier (part_spliced catalog graph given) (
        subst (λ l. AllByRecursion Q (along l)) (sym (append-nil (body_spliced given.body).steps)) inside.0,
        together Q (body_spliced given.body).conditions (conditions_for catalog graph given.condition ++ []) inside.1
            (subst (AllByRecursion Q) (sym (append-nil (conditions_for catalog graph given.condition))) condition),
      ))

  -- ---- path patterns

  abbrev of_operand : Operand → List Leafed
  of_operand operand = along operand.steps ++ operand.conditions

  operands_have : (rows : List (List Factor)) → Each P rows → AllMeet (flat_map row_conditions (map (map C) rows)) → AllByRecursion Q (flat_map of_operand (map splice (map
      (map S) rows)))
  operands_have [] all h = tt
  operands_have (row ∷ rows) all h =
      let two = parts Meets (row_conditions (map C row)) (flat_map row_conditions (map (map C) rows)) h in
      let own = row_has row all.0 two.0 in
      together Q (of_operand (splice (map S row))) (flat_map of_operand (map splice (map (map S) rows)))
      (together Q (along (splice (map S row)).steps) (splice (map S row)).conditions own.0 own.1)
      (operands_have rows all.1 two.1)

  path_has : (path : PathTree) → AllMeet (path_conditions path) → AllByRecursion Q (flat_map of_operand (checked_path catalog graph path).operands)
  path_has path h =
      subst (λ (rows : List (List Spliced)). AllByRecursion Q (flat_map of_operand (map splice rows))) (sym (operands_given (splicing catalog graph) path.body))
      (operands_have (rows_in path.body) (each_union P of_vertex of_edge of_part (rows_in path.body))
      (subst (λ (rows : List (List (List Condition))). AllMeet (flat_map row_conditions rows)) (operands_given conditions path.body) h))

  paths_have : (paths : List PathTree) → AllMeet (flat_map path_conditions paths) →
      AllByRecursion Q (flat_map (λ (path : CheckedPath). flat_map of_operand path.operands) (map (checked_path catalog graph) paths))
  paths_have [] h = tt
  paths_have (path ∷ paths) h =
      let two = parts Meets (path_conditions path) (flat_map path_conditions paths) h in
      together Q (flat_map of_operand (checked_path catalog graph path).operands) (flat_map (λ (path : CheckedPath). flat_map of_operand path.operands) (map
      (checked_path catalog graph) paths))
      (path_has path two.0) (paths_have paths two.1)

  last_has : (condition : Option Condition) → AllMeet (option_to_list condition) → AllByRecursion Q (option_to_list (option_map (checked_condition catalog graph) condition))
  last_has None h = tt
  last_has (Some condition) h = (h.0, tt)

-- what holds of the text's conditions, checked, holds of the conditions of the checked query
pub conditions_meet : (catalog : Catalog) (place : ℕ) (tree : QueryTree) (Q : Leafed → Type 0) → AllMeet catalog (graph_at catalog place) Q (wheres tree) →
    AllByRecursion Q (conditions_of (unweighed_at catalog place tree))
unfolding wheres
conditions_meet catalog place tree Q h =
    let graph : Graph = graph_at catalog place in
    let two = parts (Meets catalog graph Q) (flat_map path_conditions tree.paths) (option_to_list tree.condition) h in
    together Q _ _ (paths_have catalog graph Q tree.paths two.0) (last_has catalog graph Q tree.condition two.1)

-- ---- the leaves

module _ (R : PropertyRef → Type 0) where
  abbrev U : Factor → Uses
  U = given_by using

  abbrev OfUse : Use → Type 0
  OfUse used = R used.leaf

  abbrev pub Leaves : Condition → Type 0
  Leaves condition = EachLeaf R condition.tree

  abbrev AllLeaves : List Condition → Type 0
  AllLeaves = AllByRecursion Leaves

  abbrev PU : Factor → Type 0
  PU factor = (around : Around) → AllByRecursion OfUse ((U factor).uses around) → AllLeaves (C factor)

  leaves_used : (around : Around) (leaves : List PropertyRef) → AllByRecursion OfUse (map (λ leaf. record { leaf = leaf; around = around }) leaves) → AllByRecursion R leaves
  leaves_used around [] h = tt
  leaves_used around (leaf ∷ leaves) h = (h.0, leaves_used around leaves h.1)

  condition_used : (around : Around) (condition : Option Condition) → AllByRecursion OfUse (uses_in_any around condition) → AllLeaves (option_to_list condition)
  condition_used around None h = tt
  condition_used around (Some condition) h = (leaves_used around (leaves_in condition.tree) (subst (AllByRecursion OfUse) (append-nil (uses_in around condition)) h), tt)

  row_used : (row : List Factor) → AllByRecursion PU row → (around : Around) → AllByRecursion OfUse (flat_map (λ (factor : Uses). factor.uses around) (map U row)) → AllLeaves
      (row_conditions (map C row))
  row_used [] all around h = tt
  row_used (factor ∷ row) all around h =
      let two = parts OfUse ((U factor).uses around) (flat_map (λ (factor : Uses). factor.uses around) (map U row)) h in
      together Leaves (C factor) (row_conditions (map C row)) (all.0 around two.0) (row_used row all.1 around two.1)

  rows_used : (rows : List (List Factor)) → Each PU rows → (around : Around) → AllByRecursion OfUse (flat_map (flat_map (λ (factor : Uses). factor.uses around)) (map
      (map U) rows)) →
      AllLeaves (flat_map row_conditions (map (map C) rows))
  rows_used [] all around h = tt
  rows_used (row ∷ rows) all around h =
      let two = parts OfUse (flat_map (λ (factor : Uses). factor.uses around) (map U row)) (flat_map (flat_map (λ (factor : Uses). factor.uses around)) (map (map U) rows)) h in
      together Leaves (row_conditions (map C row)) (flat_map row_conditions (map (map C) rows)) (row_used row all.0 around two.0) (rows_used rows all.1 around two.1)

  vertex_used : (filler : Filler) → PU (v.Vertex filler)
  vertex_used filler around h =
      subst AllLeaves (sym (given_vertex conditions filler))
      (condition_used around filler.condition (subst (λ (own : Uses). AllByRecursion OfUse (own.uses around)) (given_vertex using filler) h))

  edge_used : (direction : Direction) (filler : Filler) (quantifier : Option Quantifier) → PU (v.Edge direction filler quantifier)
  edge_used direction filler quantifier around h =
      subst AllLeaves (sym (given_edge conditions direction filler quantifier))
      (condition_used (around_inside quantifier (names_in filler) around) filler.condition (subst (λ (own : Uses). AllByRecursion OfUse (own.uses around))
      (given_edge using direction filler quantifier) h))

  part_used : (part : PartTree) (quantifier : Option Quantifier) → Each PU (rows_of part) → PU (v.Part part quantifier)
  part_used part quantifier all around h =
      let given : Part Uses = part_given using part in
      let own : Part (List Condition) = part_given conditions part in
      let inner : Around = around_inside quantifier (body_variables given.body) around in
      let two = parts OfUse (body_uses given.body inner) (uses_in_any inner given.condition) (subst (λ (own : Uses). AllByRecursion OfUse (own.uses around))
      (given_part using part quantifier) h) in
      subst AllLeaves (sym (given_part conditions part quantifier))
      (together Leaves (body_conditions own.body) (option_to_list own.condition)
      (subst (λ (rows : List (List (List Condition))). AllLeaves (flat_map row_conditions rows)) (sym (part_operands conditions part))
      (rows_used (rows_of part) all inner (subst (λ (rows : List (List Uses)). AllByRecursion OfUse (flat_map (flat_map (λ (factor : Uses). factor.uses inner)) rows))
      (part_operands using part) two.0)))
      (condition_used inner own.condition (subst (λ c. AllByRecursion OfUse (uses_in_any inner c)) (sym (condition_inside using part) ∙ condition_inside conditions part) two.1)))

  path_used : (path : PathTree) → AllByRecursion OfUse (path_uses path) → AllLeaves (path_conditions path)
  path_used path h =
      let around : Around = record { parts = []; path = Some (body_variables (body_given using path.body)) } in
      subst (λ (rows : List (List (List Condition))). AllLeaves (flat_map row_conditions rows)) (sym (operands_given conditions path.body))
      (rows_used (rows_in path.body) (each_union PU vertex_used edge_used part_used (rows_in path.body)) around
      (subst (λ (rows : List (List Uses)). AllByRecursion OfUse (flat_map (flat_map (λ (factor : Uses). factor.uses around)) rows)) (operands_given using path.body) h))

  paths_used : (paths : List PathTree) → AllByRecursion OfUse (flat_map path_uses paths) → AllLeaves (flat_map path_conditions paths)
  paths_used [] h = tt
  paths_used (path ∷ paths) h =
      let two = parts OfUse (path_uses path) (flat_map path_uses paths) h in
      together Leaves (path_conditions path) (flat_map path_conditions paths) (path_used path two.0) (paths_used paths two.1)

  columns_used : (columns : List Item) → AllByRecursion OfUse (flat_map (λ (item : Item). uses_in nothing_around item.value) columns) → AllByRecursion (λ
      (item : Item). Leaves item.value) columns
  columns_used [] h = tt
  columns_used (item ∷ columns) h =
      let two = parts OfUse (uses_in nothing_around item.value) (flat_map (λ (item : Item). uses_in nothing_around item.value) columns) h in
      (leaves_used nothing_around (leaves_in item.value.tree) two.0, columns_used columns two.1)

  -- what holds of each leaf that a query uses holds of the leaves of its conditions and columns
  pub leaves_of_uses : (tree : QueryTree) → AllByRecursion OfUse (uses tree) → AllLeaves (wheres tree) × AllByRecursion (λ (item : Item). Leaves item.value) tree.columns
  unfolding uses wheres
  leaves_of_uses tree h =
      let one = parts OfUse (flat_map path_uses tree.paths ++ uses_in_any nothing_around tree.condition) (flat_map (λ
      (item : Item). uses_in nothing_around item.value) tree.columns) h in
      let two = parts OfUse (flat_map path_uses tree.paths) (uses_in_any nothing_around tree.condition) one.0 in (
        together Leaves (flat_map path_conditions tree.paths) (option_to_list tree.condition) (paths_used tree.paths two.0)
            (condition_used nothing_around tree.condition two.1),
        columns_used tree.columns one.1,
      )
