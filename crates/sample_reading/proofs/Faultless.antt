-- The tree has no fault, and its checked form is the query of the generated run.
use Rattle.std.proofs.Common.{◌≡◌, refl, sym, ap, ap₂, ◌∙◌, ◌++◌, Bool, true, false, List, [], ◌∷◌, map, flat_map, Option, None, Some, Result, Ok}
use Rattle.pgq_base.specs.declared.refusal.Span.{Span}
use Rattle.pgq_base.specs.declared.value.Class.{Class}
use Rattle.expr_tree.specs.declared.tree.Expr.TheVariants as expr
use Rattle.expr_tree.specs.declared.tree.Expr.TheOpen.{Expr-F}
use Rattle.expr_tree.specs.declared.tree.Expr.TheFolds.{fold-Expr}
use Rattle.expr_tree.specs.Leaves.{leaves_step}
use Rattle.expr_tree.specs.Mapping.{map_step}
use Rattle.expr_tree.specs.Nodes.{nodes_step}
use Rattle.expr_tree.proofs.Folds.{at_layer}
use Rattle.graph_ast.specs.declared.checked.CheckedQuery.{CheckedQuery}
use Rattle.graph_ast.specs.declared.checked.PropertyLeaf.{PropertyLeaf}
use Rattle.graph_ast.specs.declared.schema.Named.{Named}
use Rattle.graph_ast.specs.declared.query.Condition.{Condition}
use Rattle.graph_ast.specs.declared.query.Item.{Item}
use Rattle.graph_ast.specs.declared.query.Direction.TheVariants.{Right}
use Rattle.graph_ast.specs.declared.query.Factor.{Factor}
use Rattle.graph_ast.specs.declared.query.Filler.{Filler}
use Rattle.graph_ast.specs.declared.query.PartTree.{PartTree}
use Rattle.graph_ast.specs.declared.query.PropertyRef.{PropertyRef}
use Rattle.graph_ast.specs.declared.query.Sequence.{Sequence}
use Rattle.graph_ast.specs.declared.query.Union.{Union}
use Rattle.graph_ast.specs.declared.query.Factor.TheOpen.{Union-F}
use Rattle.graph_ast.specs.declared.query.Factor.TheViews.{out-roll-Union}
use Rattle.graph_ast.specs.Patterns.{Giving, Body, body_given, variable_in}
use Rattle.graph_meaning.specs.Weights.{weight}
use Rattle.pattern_check.specs.FormRules.{forms, path_faults, form_faults}
use Rattle.pattern_check.specs.Scopes.{Kind, Place, Declaration, Use, declaring, declarations, conditions, wheres, using, uses, nothing_around}
use Rattle.pattern_check.specs.NameRules.{labelling, column_faults, name_faults}
use Rattle.pattern_check.specs.TypeRules.{Typed, typed_step, leaf_class, condition_faults, where_faults, type_faults}
use Rattle.pattern_check.specs.SizeRules.{large, measuring, size_faults}
use Rattle.pattern_check.specs.SizeRules as size
use Rattle.pattern_check.specs.Checked.{leaf_for, splicing, with_weight, unweighed, checked}
use Rattle.pattern_check.specs.Phases.{lowering_too_large, first_fault}
use Rattle.pattern_check.specs.Served.{is_served}
use Rattle.pattern_check.specs.Checks.{due, judged}
use Rattle.pattern_check.proofs.Opened.{joints_inside}
use Rattle.pattern_check.proofs.Factors.{given_vertex, given_edge, operands_given}
use Rattle.sample_run.specs.SampleCatalog.{sample_graph, sample_catalog}
use Rattle.sample_bound.specs.SampleQuery.{sample_checked}
use Rattle.sample_reading.specs.SampleTree.{span, from_x, by_e, once_or_twice, to_y, sample_sequence, sample_union, sample_path_tree, id_of_x, id_of_y, sample_tree}

-- ---- folds

-- what is given for the three factors
abbrev sample_body : {A : Type 0} → Giving A → Body A
sample_body giving = record { operands = (giving.vertex from_x ∷ giving.edge Right by_e (Some once_or_twice) ∷ giving.vertex to_y ∷ []) ∷ []; joints = [] }

body_is : {A : Type 0} (giving : Giving A) → body_given giving sample_union ≡ sample_body giving
body_is {A} giving =
    let opened = out-roll-Union (record { operands = sample_sequence ∷ []; joints = [] }) in
    let operands : (body_given giving sample_union).operands ≡ (sample_body giving).operands =
    operands_given giving sample_union ∙ simp (opened, given_vertex giving, given_edge giving) refl in
    let joints : (body_given giving sample_union).joints ≡ [] = sym (joints_inside giving sample_union) ∙ ap (λ (u : Union-F Factor PartTree Sequence Union). u.joints) opened in
    ap₂ (λ o j. record { operands = o; joints = j }) operands joints

leaf_is : {L A : Type 0} (step : Expr-F L A → A) (l : L) → fold-Expr L A step (expr.Leaf l) ≡ step (Expr-F.Leaf l)
leaf_is step l = at_layer step (Expr-F.Leaf l) (expr.Leaf l) (expr.rolls-Leaf l)

-- ---- what the tree has

abbrev declaration : Kind → Filler → Bool → List Declaration
declaration kind filler quantified =
    let place : Place = record { path = 0; operand = 0; quantified = quantified } in
    map (λ (variable : Named). record { variable = variable; kind = kind; place = place }) (variable_in filler)

declared : declarations sample_tree ≡ declaration Kind.vertices from_x false ++ (declaration Kind.edges by_e true ++ declaration Kind.vertices to_y false)
unfolding declarations sample_tree
declared = simp (body_is declaring) refl

no_wheres : wheres sample_tree ≡ []
unfolding wheres sample_tree
no_wheres = simp (body_is conditions) refl

abbrev use_of : PropertyRef → Use
use_of leaf = record { leaf = leaf; around = nothing_around }

used_leaves : uses sample_tree ≡ use_of id_of_x ∷ use_of id_of_y ∷ []
unfolding uses sample_tree
used_leaves = simp (body_is using, leaf_is {L = PropertyRef} {A = List PropertyRef} leaves_step) refl

-- ---- the phases

pub served : is_served sample_tree ≡ true
unfolding is_served sample_tree
served = simp (no_wheres, leaf_is {L = PropertyRef} {A = List PropertyRef} leaves_step) refl

no_form_faults : form_faults sample_tree ≡ []
unfolding form_faults path_faults sample_tree
no_form_faults = simp (body_is forms) refl

no_name_faults : name_faults sample_catalog sample_tree ≡ []
unfolding name_faults column_faults sample_tree
no_name_faults = simp (declared, used_leaves, body_is labelling, body_is declaring) refl

abbrev classes : PropertyRef → Class
classes = leaf_class sample_catalog sample_graph

leaf_faultless : (leaf : PropertyRef) (span : Span) → condition_faults classes (record { tree = expr.Leaf leaf; spans = span ∷ [] }) ≡ []
leaf_faultless leaf span = ap (λ (typed : Typed). typed.faults (span ∷ [])) (leaf_is (typed_step classes) leaf)

no_type_faults : type_faults sample_catalog sample_graph sample_tree ≡ []
unfolding type_faults sample_tree
no_type_faults =
    let in_columns = flat_map (λ (item : Item). condition_faults classes item.value) sample_tree.columns in
    ap (λ (wheres : List Condition). flat_map (where_faults classes) wheres ++ in_columns) no_wheres
    ∙ ap₂ (λ xs ys. xs ++ (ys ++ [])) (leaf_faultless id_of_x (span 75 79)) (leaf_faultless id_of_y (span 86 90))

no_size_faults : size_faults sample_tree ≡ []
unfolding size_faults size.path_faults sample_tree
no_size_faults = simp (body_is large, body_is measuring) refl

-- ---- the checked form

abbrev without_weight : CheckedQuery
without_weight = with_weight 0 sample_checked

unweighed_is : unweighed sample_catalog sample_tree ≡ without_weight
unfolding unweighed sample_tree sample_checked
unweighed_is = simp (body_is (splicing sample_catalog sample_graph), leaf_is (map_step (λ (leaf : PropertyRef). expr.Leaf (leaf_for sample_catalog sample_graph leaf)))) refl

weight_is : weight sample_catalog without_weight ≡ 23
unfolding sample_checked
weight_is = simp (leaf_is {L = PropertyLeaf} nodes_step) refl

checked_is : checked sample_catalog sample_tree ≡ sample_checked
unfolding checked sample_checked
checked_is = ap (λ query. with_weight (weight sample_catalog query) query) unweighed_is ∙ ap (λ n. with_weight n without_weight) weight_is

light : lowering_too_large sample_catalog sample_tree ≡ []
unfolding sample_tree
light = simp (unweighed_is, weight_is) refl

no_fault : first_fault sample_catalog sample_tree ≡ None
unfolding first_fault sample_tree
no_fault = simp (no_form_faults, no_name_faults, no_type_faults, no_size_faults, light) refl

pub due_is : due sample_catalog sample_tree ≡ Ok sample_checked
unfolding due
due_is = ap₂ judged no_fault checked_is
