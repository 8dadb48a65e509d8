-- A query without faults is lowerable.
use Rattle.std.proofs.Common.{◌≡◌, ℕ, zero, suc, ◌≤◌, false, List, [], ◌∷◌, ◌++◌, length, map, refl, sym, subst, Option, None, Some, slice_get, unwrap_or, option_to_list}
use Rattle.std.proofs.Common.{bytes_eq, nat_lt, arith}
use Rattle.std.specs.List.{AllByRecursion, flat_map, list_all}
use Rattle.std.proofs.lemmas.List.{length-map}
use Rattle.std.proofs.lemmas.List.Quantifiers.{position-Some}
use Rattle.pgq_base.specs.declared.code.Code.TheVariants as code
use Rattle.expr_tree.specs.Leaves.{EachLeaf}
use Rattle.graph_ast.specs.declared.query.QueryTree.{QueryTree}
use Rattle.graph_ast.specs.declared.query.PathTree.{PathTree}
use Rattle.graph_ast.specs.declared.query.Condition.{Condition}
use Rattle.graph_ast.specs.declared.query.Item.{Item}
use Rattle.graph_ast.specs.declared.catalog.Catalog.{Catalog}
use Rattle.graph_ast.specs.declared.catalog.Graph.{Graph}
use Rattle.graph_ast.specs.declared.checked.CheckedQuery.{CheckedQuery}
use Rattle.graph_ast.specs.declared.checked.Output.{Output}
use Rattle.graph_ast.specs.Lookups.{graph_at, graph_place}
use Rattle.graph_meaning.specs.Weights.{weight}
use Rattle.graph_meaning.proofs.Members.{both_parts}
use Rattle.first_faults.specs.declared.faults.Fault.{Fault}
use Rattle.first_faults.specs.Faults.{fault, first_of}
use Rattle.graph_ast.specs.Patterns.{body_given, joining, IsJoined}
use Rattle.pattern_check.specs.Scopes.{Declaration, Use, declarations, uses, wheres}
use Rattle.pattern_check.specs.FormRules as rules
use Rattle.pattern_check.specs.SizeRules as limits
use Rattle.pattern_check.specs.SizeRules.{size_faults, too_many_paths}
use Rattle.pattern_check.specs.FormRules.{form_faults}
use Rattle.pattern_check.specs.NameRules.{unknown_label, path_labels, unknown_property, variable_faults, declaration_faults_behind, union_faults, column_faults, faults_by_graph}
use Rattle.pattern_check.specs.NameRules.{name_faults}
use Rattle.pattern_check.specs.TypeRules.{leaf_class, condition_faults, where_faults, type_faults}
use Rattle.pattern_check.specs.Checked.{checked_path, output, with_weight, unweighed_at, unweighed, checked}
use Rattle.pattern_check.specs.Phases.{Phase, lowering_too_large, query_faults, or_then, first_fault}
use Rattle.pattern_check.specs.Lowerable.{IsShortPath, IsLowerable, IsPlain, IsSpelled, IsSoundCondition, IsSoundExpression, kinds_of, MakesLowerable}
use Rattle.pattern_check.proofs.Faultless.{no_first, left_none, right_none, not_when}
use Rattle.pattern_check.proofs.LowerablePaths.{at_most, short_path}
use Rattle.pattern_check.proofs.LowerableKinds.{key, kinds_are, has_one_kinds}
use Rattle.pattern_check.proofs.LowerableConditions.{AllMeet, conditions_meet, leaves_of_uses}
use Rattle.pattern_check.proofs.LowerableLeaves.{IsGood, uses_good, sound_condition, sound_expression}

-- ---- the phases

pub then_first : (a b : Option Fault) → or_then a b ≡ None → a ≡ None
then_first None b h = refl
then_first (Some f) b h = cc

pub then_later : (a b : Option Fault) → or_then a b ≡ None → b ≡ None
then_later None b h = h
then_later (Some f) b h = cc

abbrev place_of : Catalog → QueryTree → ℕ
place_of catalog tree = unwrap_or (graph_place catalog tree.graph.name) 0

-- no phase has a fault
pub record IsClean (catalog : Catalog) (tree : QueryTree) : Type 0 where
  pub forms : form_faults tree ≡ []
  pub names : name_faults catalog tree ≡ []
  pub types : type_faults catalog (graph_at catalog (place_of catalog tree)) tree ≡ []
  pub limits : size_faults tree ≡ []
  pub weight : lowering_too_large catalog tree ≡ []

pub clean : (catalog : Catalog) (tree : QueryTree) → first_fault catalog tree ≡ None → IsClean catalog tree
unfolding first_fault
clean catalog tree h =
    let first : Phase → Option Fault = λ phase. first_of None (query_faults catalog tree phase) in
    let behind_limits : Option Fault = or_then (first Phase.limits) (first Phase.weights) in
    let behind_types : Option Fault = or_then (first Phase.types) behind_limits in
    let behind_names : Option Fault = or_then (first Phase.names) behind_types in
    let two = then_later (first Phase.forms) behind_names h in
    let three = then_later (first Phase.names) behind_types two in
    let four = then_later (first Phase.types) behind_limits three in record {
      forms = no_first (form_faults tree) (then_first (first Phase.forms) behind_names h);
      names = no_first (name_faults catalog tree) (then_first (first Phase.names) behind_types two);
      types = no_first (type_faults catalog (graph_at catalog (place_of catalog tree)) tree) (then_first (first Phase.types) behind_limits three);
      limits = no_first (size_faults tree) (then_first (first Phase.limits) (first Phase.weights) four);
      weight = no_first (lowering_too_large catalog tree) (then_later (first Phase.limits) (first Phase.weights) four);
    }

-- ---- the phase names

pub known_place : (catalog : Catalog) (tree : QueryTree) (found : Option ℕ) → faults_by_graph catalog tree found ≡ [] → found ≡ Some (unwrap_or found 0)
known_place catalog tree None h = cc
known_place catalog tree (Some place) h = refl

no_graph : Graph
no_graph = record { name = []; vertices = []; edges = [] }

pub place_within : (catalog : Catalog) (tree : QueryTree) → faults_by_graph catalog tree (graph_place catalog tree.graph.name) ≡ [] → suc
    (place_of catalog tree) ≤ length catalog.graphs
place_within catalog tree h =
    let within = position-Some (λ (graph : Graph). bytes_eq graph.name tree.graph.name) catalog.graphs (place_of catalog tree) no_graph (known_place catalog tree
    (graph_place catalog tree.graph.name) h) in
    omega (arith, within.0)

properties_known : (catalog : Catalog) (tree : QueryTree) (found : Option ℕ) → faults_by_graph catalog tree found ≡ [] →
    flat_map (λ (used : Use). unknown_property (graph_at catalog (unwrap_or found 0)) (declarations tree) used.leaf) (uses tree) ≡ []
properties_known catalog tree None h = cc
properties_known catalog tree (Some place) h =
    right_none (flat_map (unknown_label (graph_at catalog place)) (flat_map path_labels tree.paths))
    (flat_map (λ (used : Use). unknown_property (graph_at catalog place) (declarations tree) used.leaf) (uses tree)) h

-- what the phase names leaves
pub record HasNames (catalog : Catalog) (tree : QueryTree) : Type 0 where
  pub graph : faults_by_graph catalog tree (graph_place catalog tree.graph.name) ≡ []
  pub variables : flat_map (λ (used : Use). variable_faults (declarations tree) used.around used.leaf.variable) (uses tree) ≡ []
  pub declared : declaration_faults_behind [] (declarations tree) ≡ []
  pub columns : column_faults tree.columns ≡ []

pub has_names : (catalog : Catalog) (tree : QueryTree) → name_faults catalog tree ≡ [] → HasNames catalog tree
unfolding name_faults
has_names catalog tree h =
    let a : List Fault = faults_by_graph catalog tree (graph_place catalog tree.graph.name) in
    let b : List Fault = flat_map (λ (used : Use). variable_faults (declarations tree) used.around used.leaf.variable) (uses tree) in
    let c : List Fault = declaration_faults_behind [] (declarations tree) in
    let d : List Fault = flat_map union_faults tree.paths in
    let e : List Fault = column_faults tree.columns in
    let four = left_none (a ++ b ++ c ++ d) e h in
    let three = left_none (a ++ b ++ c) d four in
    let two = left_none (a ++ b) c three in record {
      graph = left_none a b two;
      variables = right_none a b two;
      declared = right_none (a ++ b) c three;
      columns = right_none (a ++ b ++ c ++ d) e h;
    }

-- ---- path patterns

none_there : {X : Type 0} (xs : List X) (i : ℕ) → slice_get xs i ≡ None → length xs ≤ i
none_there [] i h = omega arith
none_there (x ∷ xs) zero h = cc
none_there (x ∷ xs) (suc i) h = let less = none_there xs i h in omega (arith, less)

no_fault_of : {X Y : Type 0} (f : X → Y) (o : Option X) → map f (option_to_list o) ≡ [] → o ≡ None
no_fault_of f None h = refl
no_fault_of f (Some x) h = cc

pub few_paths : (paths : List PathTree) → too_many_paths paths ≡ [] → length paths ≤ 8
few_paths paths h = none_there paths 8 (no_fault_of (λ (ninth : PathTree). fault code.TooManyPaths ninth.span) (slice_get paths 8) h)

pub paths_short : (catalog : Catalog) (graph : Graph) (paths : List PathTree) → flat_map rules.path_faults paths ≡ [] → flat_map limits.path_faults paths ≡ [] →
    AllByRecursion IsJoined paths → AllByRecursion IsShortPath (map (checked_path catalog graph) paths)
paths_short catalog graph [] h small j = tt
paths_short catalog graph (path ∷ paths) h small j = (
  short_path catalog graph path (left_none (rules.path_faults path) (flat_map rules.path_faults paths) h) (left_none (limits.path_faults path)
      (flat_map limits.path_faults paths) small)
      (both_parts _ (list_all (list_all (λ b. b)) (body_given joining path.body).operands) j.0).1,
  paths_short catalog graph paths (right_none (rules.path_faults path) (flat_map rules.path_faults paths) h) (right_none (limits.path_faults path)
      (flat_map limits.path_faults paths) small) j.1,
)

-- ---- expressions

module _ (catalog : Catalog) (query : CheckedQuery) (all : List Declaration) (kinds : kinds_of query ≡ map key all) where
  abbrev graph : Graph
  graph = graph_at catalog query.graph

  abbrev Good : Condition → Type 0
  Good condition = EachLeaf (IsGood graph all) condition.tree

  wheres_sound : (conditions : List Condition) → AllByRecursion Good conditions → flat_map (where_faults (leaf_class catalog graph)) conditions ≡ [] →
      AllByRecursion IsSpelled conditions →
      AllMeet catalog graph (IsSoundCondition catalog query) conditions
  wheres_sound [] good none spelled = tt
  wheres_sound (condition ∷ conditions) good none spelled =
      let own : List Fault = where_faults (leaf_class catalog graph) condition in
      let more : List Fault = flat_map (where_faults (leaf_class catalog graph)) conditions in
      (sound_condition catalog query all kinds condition good.0 (left_none own more none) spelled.0, wheres_sound conditions good.1 (right_none own more none) spelled.1)

  columns_sound : (columns : List Item) → AllByRecursion (λ (item : Item). Good item.value) columns →
      flat_map (λ (item : Item). condition_faults (leaf_class catalog graph) item.value) columns ≡ [] → AllByRecursion (λ (item : Item). IsSpelled item.value) columns →
      AllByRecursion (λ (own : Output). IsSoundExpression catalog query own.value) (map (output catalog graph) columns)
  columns_sound [] good none spelled = tt
  columns_sound (item ∷ columns) good none spelled =
      let own : List Fault = condition_faults (leaf_class catalog graph) item.value in
      let more : List Fault = flat_map (λ (item : Item). condition_faults (leaf_class catalog graph) item.value) columns in
      (sound_expression catalog query all kinds item.value good.0 (left_none own more none) spelled.0, columns_sound columns good.1 (right_none own more none) spelled.1)

-- ---- the query

module _ (catalog : Catalog) (tree : QueryTree) (plain : IsPlain tree) (none : IsClean catalog tree) where
  abbrev place : ℕ
  place = place_of catalog tree

  abbrev own_graph : Graph
  own_graph = graph_at catalog place

  abbrev query : CheckedQuery
  query = with_weight (weight catalog (unweighed_at catalog place tree)) (unweighed_at catalog place tree)

  names : HasNames catalog tree
  names = has_names catalog tree none.names

  all_good : AllByRecursion (λ (own : Use). IsGood own_graph (declarations tree) own.leaf) (uses tree)
  all_good =
      uses_good own_graph (declarations tree) (uses tree) plain.no_tests names.variables
      (properties_known catalog tree (graph_place catalog tree.graph.name) names.graph)

  light_enough : nat_lt 1000000 (weight catalog (unweighed_at catalog place tree)) ≡ false
  unfolding unweighed
  light_enough = not_when (nat_lt 1000000 (weight catalog (unweighed_at catalog place tree))) code.LoweringTooLarge tree.match_span none.weight

  pub lowerable : IsLowerable catalog query
  unfolding form_faults size_faults type_faults
  lowerable =
      let good_parts = leaves_of_uses (IsGood own_graph (declarations tree)) tree all_good in
      let wheres_none = left_none (flat_map (where_faults (leaf_class catalog own_graph)) (wheres tree)) (flat_map (λ (item : Item). condition_faults
      (leaf_class catalog own_graph) item.value) tree.columns) none.types in
      let columns_none = right_none (flat_map (where_faults (leaf_class catalog own_graph)) (wheres tree)) (flat_map (λ (item : Item). condition_faults
      (leaf_class catalog own_graph) item.value) tree.columns) none.types in
      let sizes_none = left_none (flat_map limits.path_faults tree.paths) (too_many_paths tree.paths) none.limits in
      let few_none = right_none (flat_map limits.path_faults tree.paths) (too_many_paths tree.paths) none.limits in record {
        graph = place_within catalog tree names.graph;
        some_path = subst (λ n. 1 ≤ n) (sym (length-map tree.paths (checked_path catalog own_graph))) plain.some_path;
        few_paths = subst (λ n. n ≤ 8) (sym (length-map tree.paths (checked_path catalog own_graph))) (few_paths tree.paths few_none);
        paths = paths_short catalog own_graph tree.paths none.forms sizes_none plain.joined;
        kinds = has_one_kinds catalog place tree names.declared;
        conditions = conditions_meet catalog place tree (IsSoundCondition catalog query)
            (wheres_sound catalog query (declarations tree) (kinds_are catalog place tree) (wheres tree) good_parts.0 wheres_none plain.wheres);
        columns = columns_sound catalog query (declarations tree) (kinds_are catalog place tree) tree.columns good_parts.1 columns_none plain.columns;
        light = at_most 1000000 (weight catalog (unweighed_at catalog place tree)) (light_enough);
      }

pub makes_lowerable : MakesLowerable
unfolding checked unweighed
makes_lowerable catalog tree plain h = lowerable catalog tree plain (clean catalog tree h)
