-- What holds of the leaves of a query's conditions and columns holds of each leaf that it uses.
use Rattle.std.proofs.Common.{List, [], ◌∷◌, ◌++◌, map, sym, subst, ◌∙◌, Option, None, Some, option_to_list}
use Rattle.std.specs.List.{AllByRecursion, flat_map}
use Rattle.std.proofs.lemmas.List.{append-nil}
use Rattle.expr_tree.specs.Leaves.{leaves_in}
use Rattle.expr_tree.proofs.Folds.{parts}
use Rattle.graph_ast.specs.declared.query.QueryTree.{QueryTree}
use Rattle.graph_ast.specs.declared.query.PathTree.{PathTree}
use Rattle.graph_ast.specs.declared.query.PartTree.{PartTree}
use Rattle.graph_ast.specs.declared.query.Filler.{Filler}
use Rattle.graph_ast.specs.declared.query.Condition.{Condition}
use Rattle.graph_ast.specs.declared.query.PropertyRef.{PropertyRef}
use Rattle.graph_ast.specs.declared.query.Item.{Item}
use Rattle.graph_ast.specs.declared.query.Direction.{Direction}
use Rattle.graph_ast.specs.declared.query.Quantifier.{Quantifier}
use Rattle.graph_ast.specs.declared.query.Factor.{Factor}
use Rattle.graph_ast.specs.declared.query.Factor.TheVariants as v
use Rattle.graph_ast.specs.Patterns.{Part, given_by, body_given, part_given}
use Rattle.pattern_check.specs.Scopes.{Around, Use, Uses, uses_in, uses_in_any, names_in, around_inside, body_variables, body_uses, using, path_uses, nothing_around, uses}
use Rattle.pattern_check.specs.Scopes.{row_conditions, body_conditions, conditions, path_conditions, wheres}
use Rattle.pattern_check.proofs.Opened.{condition_inside}
use Rattle.pattern_check.proofs.Factors.{together, given_vertex, given_edge, given_part, part_operands, operands_given, rows_of, rows_in, Each, each_union}
use Rattle.pattern_check.proofs.LowerableConditions.{Leaves}

module _ (R : PropertyRef → Type 0) where
  abbrev C : Factor → List Condition
  C = given_by conditions

  abbrev U : Factor → Uses
  U = given_by using

  abbrev OfUse : Use → Type 0
  OfUse used = R used.leaf

  abbrev AllUses : List Use → Type 0
  AllUses = AllByRecursion OfUse

  abbrev AllLeaves : List Condition → Type 0
  AllLeaves = AllByRecursion (Leaves R)

  abbrev P : Factor → Type 0
  P factor = AllLeaves (C factor) → (around : Around) → AllUses ((U factor).uses around)

  leaves_used : (around : Around) (leaves : List PropertyRef) → AllByRecursion R leaves → AllUses (map (λ leaf. record { leaf = leaf; around = around }) leaves)
  leaves_used around [] h = tt
  leaves_used around (leaf ∷ leaves) h = (h.0, leaves_used around leaves h.1)

  condition_used : (around : Around) (condition : Option Condition) → AllLeaves (option_to_list condition) → AllUses (uses_in_any around condition)
  condition_used around None h = tt
  condition_used around (Some condition) h = subst AllUses (sym (append-nil (uses_in around condition))) (leaves_used around (leaves_in condition.tree) h.0)

  row_used : (row : List Factor) → AllByRecursion P row → AllLeaves (row_conditions (map C row)) → (around : Around) →
      AllUses (flat_map (λ (factor : Uses). factor.uses around) (map U row))
  row_used [] all h around = tt
  row_used (factor ∷ row) all h around =
      let two = parts (Leaves R) (C factor) (row_conditions (map C row)) h in
      together OfUse ((U factor).uses around) (flat_map (λ (factor : Uses). factor.uses around) (map U row)) (all.0 two.0 around) (row_used row all.1 two.1 around)

  rows_used : (rows : List (List Factor)) → Each P rows → AllLeaves (flat_map row_conditions (map (map C) rows)) → (around : Around) →
      AllUses (flat_map (flat_map (λ (factor : Uses). factor.uses around)) (map (map U) rows))
  rows_used [] all h around = tt
  rows_used (row ∷ rows) all h around =
      let two = parts (Leaves R) (row_conditions (map C row)) (flat_map row_conditions (map (map C) rows)) h in
      together OfUse (flat_map (λ (factor : Uses). factor.uses around) (map U row)) (flat_map (flat_map (λ (factor : Uses). factor.uses around)) (map (map U) rows))
      (row_used row all.0 two.0 around) (rows_used rows all.1 two.1 around)

  vertex_used : (filler : Filler) → P (v.Vertex filler)
  vertex_used filler h around =
      subst (λ (own : Uses). AllUses (own.uses around)) (sym (given_vertex using filler))
      (condition_used around filler.condition (subst AllLeaves (given_vertex conditions filler) h))

  edge_used : (direction : Direction) (filler : Filler) (quantifier : Option Quantifier) → P (v.Edge direction filler quantifier)
  edge_used direction filler quantifier h around =
      subst (λ (own : Uses). AllUses (own.uses around)) (sym (given_edge using direction filler quantifier))
      (condition_used (around_inside quantifier (names_in filler) around) filler.condition (subst AllLeaves (given_edge conditions direction filler quantifier) h))

  part_used : (part : PartTree) (quantifier : Option Quantifier) → Each P (rows_of part) → P (v.Part part quantifier)
  part_used part quantifier all h around =
      let given : Part Uses = part_given using part in
      let own : Part (List Condition) = part_given conditions part in
      let inner : Around = around_inside quantifier (body_variables given.body) around in
      let two = parts (Leaves R) (body_conditions own.body) (option_to_list own.condition) (subst AllLeaves (given_part conditions part quantifier) h) in
      subst (λ (own : Uses). AllUses (own.uses around)) (sym (given_part using part quantifier))
      (together OfUse (body_uses given.body inner) (uses_in_any inner given.condition)
      (subst (λ (rows : List (List Uses)). AllUses (flat_map (flat_map (λ (factor : Uses). factor.uses inner)) rows)) (sym (part_operands using part))
      (rows_used (rows_of part) all (subst (λ (rows : List (List (List Condition))). AllLeaves (flat_map row_conditions rows)) (part_operands conditions part) two.0) inner))
      (condition_used inner given.condition
      (subst (λ c. AllLeaves (option_to_list c)) (sym (condition_inside conditions part) ∙ condition_inside using part) two.1)))

  path_used : (path : PathTree) → AllLeaves (path_conditions path) → AllUses (path_uses path)
  path_used path h =
      let around : Around = record { parts = []; path = Some (body_variables (body_given using path.body)) } in
      subst (λ (rows : List (List Uses)). AllUses (flat_map (flat_map (λ (factor : Uses). factor.uses around)) rows)) (sym (operands_given using path.body))
      (rows_used (rows_in path.body) (each_union P vertex_used edge_used part_used (rows_in path.body))
      (subst (λ (rows : List (List (List Condition))). AllLeaves (flat_map row_conditions rows)) (operands_given conditions path.body) h) around)

  paths_used : (paths : List PathTree) → AllLeaves (flat_map path_conditions paths) → AllUses (flat_map path_uses paths)
  paths_used [] h = tt
  paths_used (path ∷ paths) h =
      let two = parts (Leaves R) (path_conditions path) (flat_map path_conditions paths) h in
      together OfUse (path_uses path) (flat_map path_uses paths) (path_used path two.0) (paths_used paths two.1)

  columns_used : (columns : List Item) → AllByRecursion (λ (item : Item). Leaves R item.value) columns →
      AllUses (flat_map (λ (item : Item). uses_in nothing_around item.value) columns)
  columns_used [] h = tt
  columns_used (item ∷ columns) h =
      together OfUse (uses_in nothing_around item.value) (flat_map (λ (item : Item). uses_in nothing_around item.value) columns)
      (leaves_used nothing_around (leaves_in item.value.tree) h.0) (columns_used columns h.1)

  pub uses_of_leaves : (tree : QueryTree) → AllLeaves (wheres tree) → AllByRecursion (λ (item : Item). Leaves R item.value) tree.columns → AllUses (uses tree)
  unfolding uses wheres
  uses_of_leaves tree h k =
      let two = parts (Leaves R) (flat_map path_conditions tree.paths) (option_to_list tree.condition) h in
      together OfUse (flat_map path_uses tree.paths ++ uses_in_any nothing_around tree.condition) (flat_map (λ (item : Item). uses_in nothing_around item.value) tree.columns)
      (together OfUse (flat_map path_uses tree.paths) (uses_in_any nothing_around tree.condition) (paths_used tree.paths two.0)
      (condition_used nothing_around tree.condition two.1))
      (columns_used tree.columns k)
