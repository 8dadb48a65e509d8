-- The leaves of a query without faults of names are sound, and so are its expressions where there is no fault of types.
use Rattle.std.proofs.Common.{◌≡◌, ℕ, Bool, true, false, cond, not, ◌||◌, List, [], ◌∷◌, ◌++◌, map, refl, sym, ap, subst, ◌∙◌, Option, None, Some, option_to_list, bytes_eq}
use Rattle.std.specs.List.{AllByRecursion, flat_map, list_any, find}
use Rattle.pgq_base.specs.declared.value.Class.{Class}
use Rattle.pgq_base.specs.declared.value.Class.TheVariants.{Truth}
use Rattle.pgq_base.specs.declared.code.Code.TheVariants as code
use Rattle.expr_tree.specs.declared.tree.Expr.TheVariants as v
use Rattle.expr_tree.specs.Classes.{same_class, class_in}
use Rattle.expr_tree.specs.Leaves.{leaves_in, EachLeaf}
use Rattle.expr_tree.specs.Mapping.{KeepsClass}
use Rattle.expr_tree.proofs.Folds.{each_implies}
use Rattle.expr_tree.proofs.ClassLemmas.{same_from}
use Rattle.expr_tree.proofs.FormLemmas.{leaves, classes, rules_kept}
use Rattle.expr_tree.proofs.LawLemmas.{mapped_class, mapped_rules, mapped_leaves}
use Rattle.graph_ast.specs.declared.query.Condition.{Condition}
use Rattle.graph_ast.specs.declared.query.ElementTest.{ElementTest}
use Rattle.graph_ast.specs.declared.query.PropertyRef.{PropertyRef}
use Rattle.graph_ast.specs.declared.catalog.Catalog.{Catalog}
use Rattle.graph_ast.specs.declared.catalog.Graph.{Graph}
use Rattle.graph_ast.specs.declared.catalog.Element.{Element}
use Rattle.graph_ast.specs.declared.catalog.EdgeElement.{EdgeElement}
use Rattle.graph_ast.specs.declared.checked.CheckedQuery.{CheckedQuery}
use Rattle.graph_ast.specs.declared.checked.PropertyLeaf.{PropertyLeaf}
use Rattle.graph_ast.specs.Lookups.{graph_at, elements_of}
use Rattle.first_faults.specs.declared.faults.Fault.{Fault}
use Rattle.first_faults.specs.Faults.{when}
use Rattle.first_faults.proofs.Steps.{list_any_append}
use Rattle.pattern_check.specs.Scopes.{Kind, vertices, edges, Declaration, Use, declares}
use Rattle.pattern_check.specs.Graphs.{elements_of_kind, has_property, property_class}
use Rattle.pattern_check.specs.NameRules.{is_declared, unknown_variable, group_variable, out_of_scope, variable_faults, unknown_property}
use Rattle.pattern_check.specs.TypeRules.{typed, leaf_class, condition_faults, where_faults, not_truth, own_span}
use Rattle.pattern_check.specs.Checked.{Leafed, leaf_for, class_of_leaf, checked_condition}
use Rattle.pattern_check.specs.Lowerable.{kinds_of, IsSoundLeaf, IsSoundExpression, IsSoundCondition, IsSpelled, class_is}
use Rattle.pattern_check.proofs.Faultless.{left_none, right_none}
use Rattle.pattern_check.proofs.LowerableKinds.{key}
use Rattle.pattern_check.proofs.LowerableClasses.{told, typed_class, kept_when}

-- a leaf of the text that has no fault and is no element predicate
pub record IsGood (graph : Graph) (all : List Declaration) (leaf : PropertyRef) : Type 0 where
  pub plain : leaf.test ≡ None
  pub declared : is_declared all leaf.variable.name ≡ true
  pub known : list_any (has_property leaf.property.name) (elements_of graph) ≡ true

-- ---- each leaf is good

found_some : {X : Type 0} (p : X → Bool) (xs : List X) → list_any p xs ≡ true → (x : X) × (find p xs ≡ Some x)
found_some p [] h = cc
found_some {X} p (x ∷ xs) h = go (p x) (found_some p xs) h
  where
    go : (b : Bool) → (list_any p xs ≡ true → (y : X) × (find p xs ≡ Some y)) → (b || list_any p xs) ≡ true → (y : X) × (cond b (Some x) (find p xs) ≡ Some y)
    go true more h = (x, refl)
    go false more h = more h

any_left : (p : Element → Bool) (graph : Graph) (kind : Kind) → list_any p (elements_of_kind graph kind) ≡ true → list_any p (elements_of graph) ≡ true
any_left p graph vertices h =
    list_any_append p graph.vertices (map (λ (edge : EdgeElement). edge.element) graph.edges) ∙ ap (λ b. b || list_any p (map (λ
    (edge : EdgeElement). edge.element) graph.edges)) h
any_left p graph edges h =
    list_any_append p graph.vertices (map (λ (edge : EdgeElement). edge.element) graph.edges) ∙ ap (λ b. list_any p graph.vertices || b) h ∙ or_true (list_any p graph.vertices)
  where
    or_true : (b : Bool) → (b || true) ≡ true
    or_true true = refl
    or_true false = refl

property_known : (graph : Graph) (all : List Declaration) (leaf : PropertyRef) → is_declared all leaf.variable.name ≡ true → unknown_property graph all leaf ≡ [] →
    list_any (has_property leaf.property.name) (elements_of graph) ≡ true
property_known graph all leaf declared none =
    let first = found_some (declares leaf.variable.name) all declared in
    let test : Declaration → List Fault = λ (d : Declaration). when (not (list_any (has_property leaf.property.name) (elements_of_kind graph d.kind))) _ leaf.property.span in
    let own : flat_map test (option_to_list (Some first.0)) ≡ [] = ap (λ o. flat_map test (option_to_list o)) (sym first.1) ∙ none in
    any_left (has_property leaf.property.name) graph first.0.kind
    (kept_when (list_any (has_property leaf.property.name) (elements_of_kind graph first.0.kind)) code.UnknownProperty leaf.property.span (left_none (test first.0) [] own))

variable_known : (all : List Declaration) (used : Use) → variable_faults all used.around used.leaf.variable ≡ [] → is_declared all used.leaf.variable.name ≡ true
variable_known all used none =
    let own : List Fault = unknown_variable all used.leaf.variable in
    let group : List Fault = group_variable all used.around used.leaf.variable in
    let scope : List Fault = out_of_scope all used.around used.leaf.variable in
    kept_when (is_declared all used.leaf.variable.name) code.UnknownVariable used.leaf.variable.span (left_none own group (left_none (own ++ group) scope none))

-- each leaf that a query uses is good
pub uses_good : (graph : Graph) (all : List Declaration) (used : List Use) → AllByRecursion (λ (own : Use). own.leaf.test ≡ None) used →
    flat_map (λ (own : Use). variable_faults all own.around own.leaf.variable) used ≡ [] → flat_map (λ (own : Use). unknown_property graph all own.leaf) used ≡ [] →
    AllByRecursion (λ (own : Use). IsGood graph all own.leaf) used
uses_good graph all [] plain variables properties = tt
uses_good graph all (own ∷ used) plain variables properties =
    let more_variables : List Fault = flat_map (λ (own : Use). variable_faults all own.around own.leaf.variable) used in
    let more_properties : List Fault = flat_map (λ (own : Use). unknown_property graph all own.leaf) used in
    let declared = variable_known all own (left_none (variable_faults all own.around own.leaf.variable) more_variables variables) in (
      record {
        plain = plain.0;
        declared = declared;
        known = property_known graph all own.leaf declared (left_none (unknown_property graph all own.leaf) more_properties properties);
      },
      uses_good graph all used plain.1 (right_none (variable_faults all own.around own.leaf.variable) more_variables variables) (right_none
          (unknown_property graph all own.leaf) more_properties properties),
    )

-- ---- expressions

any_of_map : {X Y : Type 0} (p : Y → Bool) (f : X → Y) (xs : List X) → list_any p (map f xs) ≡ list_any (λ x. p (f x)) xs
any_of_map p f [] = refl
any_of_map p f (x ∷ xs) = ap (λ b. p (f x) || b) (any_of_map p f xs)

module _ (catalog : Catalog) (query : CheckedQuery) (all : List Declaration) (kinds : kinds_of query ≡ map key all) where
  abbrev graph : Graph
  graph = graph_at catalog query.graph

  abbrev Good : PropertyRef → Type 0
  Good = IsGood graph all

  abbrev made : PropertyRef → Leafed
  made leaf = v.Leaf (leaf_for catalog graph leaf)

  abbrev own_class : PropertyRef → Class
  own_class = leaf_class catalog graph

  class_stays : (leaf : PropertyRef) → Good leaf → (leaf_for catalog graph leaf).class ≡ own_class leaf
  class_stays leaf good = ap (λ (test : Option ElementTest). class_of_leaf test (property_class catalog graph leaf.property.name)) good.plain

  sound_leaf : (leaf : PropertyRef) → Good leaf → IsSoundLeaf catalog query (leaf_for catalog graph leaf)
  sound_leaf leaf good = record {
    declared = ap (list_any (λ (kind : List ℕ × Kind). bytes_eq kind.0 leaf.variable.name)) kinds
        ∙ any_of_map (λ (kind : List ℕ × Kind). bytes_eq kind.0 leaf.variable.name) key all ∙ good.declared;
    known = good.known;
    class = class_stays leaf good;
    plain = good.plain;
  }

  leaves_sound : (ls : List PropertyRef) → AllByRecursion Good ls → AllByRecursion (IsSoundLeaf catalog query) (flat_map (λ leaf. leaves_in (made leaf)) ls)
  leaves_sound [] good = tt
  leaves_sound (leaf ∷ ls) good =
      subst (λ (own : List PropertyLeaf). AllByRecursion (IsSoundLeaf catalog query) (own ++ flat_map (λ leaf. leaves_in (made leaf)) ls)) (sym (leaves.leaf
      (leaf_for catalog graph leaf)))
      (sound_leaf leaf good.0, leaves_sound ls good.1)

  class_of_made : (leaf : PropertyRef) → Good leaf → class_in class_is (made leaf) ≡ own_class leaf
  class_of_made leaf good = (classes class_is).leaf (leaf_for catalog graph leaf) ∙ class_stays leaf good

  keeps_class : (leaf : PropertyRef) → Good leaf → KeepsClass own_class class_is made leaf
  keeps_class leaf good = record { well_classed = (rules_kept class_is).leaf (leaf_for catalog graph leaf); class = class_of_made leaf good }

  pub sound_expression : (condition : Condition) → EachLeaf Good condition.tree → condition_faults own_class condition ≡ [] → IsSpelled condition →
      IsSoundExpression catalog query (checked_condition catalog graph condition)
  sound_expression condition good none spelled = record {
    leaves = subst (AllByRecursion (IsSoundLeaf catalog query)) (sym (mapped_leaves made condition.tree)) (leaves_sound (leaves_in condition.tree) good);
    well_classed = mapped_rules own_class class_is made condition.tree (each_implies Good (KeepsClass own_class class_is made) keeps_class (leaves_in condition.tree) good)
        ∙ told own_class condition.tree condition.spans none spelled;
  }

  pub sound_condition : (condition : Condition) → EachLeaf Good condition.tree → where_faults own_class condition ≡ [] → IsSpelled condition →
      IsSoundCondition catalog query (checked_condition catalog graph condition)
  sound_condition condition good none spelled =
      let class : Class = (typed own_class condition.tree).class in
      let own : List Fault = not_truth (record { class = class; span = own_span condition.spans }) in
      let truth : Truth ≡ class = same_from Truth class (kept_when (same_class Truth class) code.NotTruth (own_span condition.spans) (left_none own
      (condition_faults own_class condition) none)) in record {
        sound = sound_expression condition good (right_none own (condition_faults own_class condition) none) spelled;
        truth = mapped_class own_class class_is made condition.tree (each_implies Good (λ leaf. class_in class_is (made leaf) ≡ own_class leaf) class_of_made
            (leaves_in condition.tree) good)
            ∙ sym (typed_class own_class condition.tree) ∙ sym truth;
      }
