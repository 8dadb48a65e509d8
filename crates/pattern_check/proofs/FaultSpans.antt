-- What holds of each span of a query's tree, and of 0-0, holds of the span of each fault.
use Rattle.std.proofs.Common.{◌≡◌, refl, sym, ap, subst, ◌∙◌, ℕ, zero, suc, ◌+◌, Bool, true, false, not, ◌&&◌, ◌||◌, cond, List, [], ◌∷◌, ◌++◌, map, drop, option_to_list}
use Rattle.std.proofs.Common.{slice_get, nat_lt, Option, None, Some, is_some, unwrap_or, bytes_eq}
use Rattle.std.specs.List.{flat_map, list_any, find, enumerate_from, AllByRecursion}
use Rattle.pgq_base.specs.declared.refusal.Span.{Span}
use Rattle.pgq_base.specs.declared.value.Class.{Class}
use Rattle.pgq_base.specs.declared.code.Code.{Code}
use Rattle.pgq_base.specs.declared.code.Code.TheVariants as code
use Rattle.expr_tree.specs.declared.tree.Test.{Test}
use Rattle.expr_tree.specs.declared.tree.Test.TheVariants as test
use Rattle.expr_tree.specs.declared.tree.Expr.{Expr, Expr-F, map-Expr, fold-roll-Expr, ind-Expr}
use Rattle.expr_tree.specs.Classes.{children_of, same_class}
use Rattle.expr_tree.specs.Leaves.{leaves_in, leaves_step, joined}
use Rattle.graph_ast.specs.declared.schema.Named.{Named}
use Rattle.graph_ast.specs.declared.catalog.Catalog.{Catalog}
use Rattle.graph_ast.specs.declared.catalog.Graph.{Graph}
use Rattle.graph_ast.specs.declared.query.QueryTree.{QueryTree}
use Rattle.graph_ast.specs.declared.query.PathTree.{PathTree}
use Rattle.graph_ast.specs.declared.query.Selector.{Selector}
use Rattle.graph_ast.specs.declared.query.ModeWord.{ModeWord}
use Rattle.graph_ast.specs.declared.query.Joint.{Joint}
use Rattle.graph_ast.specs.declared.query.Item.{Item}
use Rattle.graph_ast.specs.declared.query.Condition.{Condition}
use Rattle.graph_ast.specs.declared.query.PropertyRef.{PropertyRef}
use Rattle.graph_ast.specs.declared.query.Filler.{Filler}
use Rattle.graph_ast.specs.declared.query.Direction.{Direction}
use Rattle.graph_ast.specs.declared.query.Quantifier.{Quantifier}
use Rattle.graph_ast.specs.declared.query.Union.{Union}
use Rattle.graph_ast.specs.declared.query.LabelExpr.{LabelExpr, LabelExpr-F, map-LabelExpr, fold-roll-LabelExpr, ind-LabelExpr}
use Rattle.graph_ast.specs.Lookups.{graph_at, graph_place}
use Rattle.graph_ast.specs.Patterns.{Giving, Body, Part, body_given, from_all, variable_in, is_repeated}
use Rattle.graph_ast.specs.QuerySpans.{if_given, of_name, of_test, of_leaf, of_condition, label_step, of_label, of_filler, of_mode, of_quantifier, of_union, of_selector, of_path}
use Rattle.graph_ast.specs.QuerySpans.{of_gather, of_item, of_tree, EachSpanHas}
use Rattle.first_faults.specs.declared.faults.Fault.{Fault}
use Rattle.first_faults.specs.Faults.{fault, when, is_before, earlier, first_of}
use Rattle.first_faults.specs.Names.{is_among, repeated_behind}
use Rattle.pattern_check.specs.Scopes.{Kind, vertices, edges, Place, Declaration, Around, Use, Uses, declared_by, place_inside, body_declares, declaring, operand_declares}
use Rattle.pattern_check.specs.Scopes.{operands_declare, path_declares, declarations, uses_in, uses_in_any, around_inside, names_in, body_variables, body_uses, part_uses, using}
use Rattle.pattern_check.specs.Scopes.{path_uses, nothing_around, uses, body_conditions, row_conditions, part_conditions, conditions, path_conditions, wheres, declares}
use Rattle.pattern_check.specs.Scopes.{first_declaration}
use Rattle.pattern_check.specs.Graphs.{is_label, elements_of_kind, has_property}
use Rattle.pattern_check.specs.FormRules as forms
use Rattle.pattern_check.specs.FormRules.{Form, form_faults}
use Rattle.pattern_check.specs.NameRules as names
use Rattle.pattern_check.specs.NameRules.{name_faults}
use Rattle.pattern_check.specs.TypeRules as types
use Rattle.pattern_check.specs.TypeRules.{Operand, Typed, own_span, side_by_side, typed_step, typed, type_faults}
use Rattle.pattern_check.specs.SizeRules as sizes
use Rattle.pattern_check.specs.SizeRules.{size_faults}
use Rattle.pattern_check.specs.Phases.{or_then, first_fault, lowering_too_large}
use Rattle.pattern_check.proofs.SpanParts.{All, first_part, other_part, HasOwn, joints_have, union_given}

-- ---- lists

both : {X : Type 0} (Q : X → Type 0) (xs ys : List X) → AllByRecursion Q xs → AllByRecursion Q ys → AllByRecursion Q (xs ++ ys)
both Q [] ys h g = g
both Q (x ∷ xs) ys h g = (h.0, both Q xs ys h.1 g)

each : {X Y : Type 0} (Q : X → Type 0) (R : Y → Type 0) (f : X → List Y) → ((x : X) → Q x → AllByRecursion R (f x)) → (xs : List X) → AllByRecursion Q xs
    → AllByRecursion R (flat_map f xs)
each Q R f step [] h = tt
each Q R f step (x ∷ xs) h = both R (f x) (flat_map f xs) (step x h.0) (each Q R f step xs h.1)

mapped : {X Y : Type 0} (Q : X → Type 0) (R : Y → Type 0) (f : X → Y) → ((x : X) → Q x → R (f x)) → (xs : List X) → AllByRecursion Q xs → AllByRecursion R (map f xs)
mapped Q R f step [] h = tt
mapped Q R f step (x ∷ xs) h = (step x h.0, mapped Q R f step xs h.1)

of_rows : {A B : Type 0} (Q : A → Type 0) (R : B → Type 0) (f : A → List B) → ((a : A) → Q a → AllByRecursion R (f a)) → (rows : List (List A))
    → AllByRecursion (AllByRecursion Q) rows
    → AllByRecursion R (flat_map (flat_map f) rows)
of_rows Q R f step rows h = each (AllByRecursion Q) R (flat_map f) (λ row k. each Q R f step row k) rows h

module _ (P : Span → Type 0) (nowhere : P (record { from = 0; to = 0 })) where
  abbrev PF : Fault → Type 0
  PF f = P f.span

  abbrev Have : List Fault → Type 0
  Have faults = AllByRecursion PF faults

  abbrev Spans : List Span → Type 0
  Spans spans = AllByRecursion P spans

  abbrev PN : Named → Type 0
  PN n = P n.span

  pair : (xs ys : List Fault) → Have xs → Have ys → Have (xs ++ ys)
  pair xs ys h g = both PF xs ys h g

  -- in whatever way they are put together
  three : (xs ys zs : List Fault) → Have xs → Have ys → Have zs → Have (xs ++ ys ++ zs)
  three xs ys zs h i j = pair (xs ++ ys) zs (pair xs ys h i) j

  four : (xs ys zs ws : List Fault) → Have xs → Have ys → Have zs → Have ws → Have (xs ++ ys ++ zs ++ ws)
  four xs ys zs ws h i j k = pair (xs ++ ys ++ zs) ws (three xs ys zs h i j) k

  five : (xs ys zs ws vs : List Fault) → Have xs → Have ys → Have zs → Have ws → Have vs → Have (xs ++ ys ++ zs ++ ws ++ vs)
  five xs ys zs ws vs h i j k l = pair (xs ++ ys ++ zs ++ ws) vs (four xs ys zs ws h i j k) l

  at_when : (b : Bool) (c : Code) (s : Span) → P s → Have (when b c s)
  at_when true c s h = (h, tt)
  at_when false c s h = tt

  flat_parts : {X : Type 0} (f : X → List Span) (xs : List X) → Spans (flat_map f xs) → AllByRecursion (λ x. Spans (f x)) xs
  flat_parts f [] h = tt
  flat_parts f (x ∷ xs) h = (first_part P (f x) (flat_map f xs) h, flat_parts f xs (other_part P (f x) (flat_map f xs) h))

  given_one : {X : Type 0} (f : X → List Span) (o : Option X) → Spans (if_given f o) → AllByRecursion (λ x. Spans (f x)) (option_to_list o)
  given_one f None h = tt
  given_one f (Some x) h = (h, tt)

  -- ---- a path pattern's parts

  record PathHas (path : PathTree) : Type 0 where
    span : P path.span
    variable : Spans (if_given of_name path.variable)
    selector : Spans (if_given of_selector path.selector)
    body : Spans (of_union path.body)

  path_has : (path : PathTree) → Spans (of_path path) → PathHas path
  path_has path h =
      let a = if_given of_name path.variable in
      let b = if_given of_selector path.selector in
      let c = if_given of_mode path.mode in
      let d = of_union path.body in
      let behind : Spans (b ++ (c ++ d)) = other_part P a (b ++ (c ++ d)) h.1 in
      record {
        span = h.0;
        variable = first_part P a (b ++ (c ++ d)) h.1;
        selector = first_part P b (c ++ d) behind;
        body = other_part P c d (other_part P b (c ++ d) behind);
      }

  record FillerHas (filler : Filler) : Type 0 where
    span : P filler.span
    variable : Spans (if_given of_name filler.variable)
    label : Spans (if_given of_label filler.label)
    condition : Spans (if_given of_condition filler.condition)

  filler_has : (filler : Filler) → Spans (of_filler filler) → FillerHas filler
  filler_has filler h =
      let a = if_given of_name filler.variable in
      let b = if_given of_label filler.label in
      let c = if_given of_condition filler.condition in
      let behind : Spans (b ++ c) = other_part P a (b ++ c) h.1 in
      record { span = h.0; variable = first_part P a (b ++ c) h.1; label = first_part P b c behind; condition = other_part P b c behind }

  -- ---- forms

  abbrev FormHas : Form → Type 0
  FormHas form = (inside : Bool) → Have (form.faults inside)

  at_quantifier : (inside : Bool) (q : Option Quantifier) → Spans (if_given of_quantifier q) → Have (forms.quantifier_faults inside q)
  at_quantifier inside None h = tt
  at_quantifier inside (Some q) h =
      four (forms.unbounded_quantifier q) (forms.optional_part q) (forms.nested_part inside q) (forms.quantifier_order q) (at_when _ _ q.span h.0) (at_when _ _ q.span h.0)
      (at_when _ _ q.span h.0) (at_when _ _ q.span h.0)

  at_mode : (mode : Option ModeWord) → Spans (if_given of_mode mode) → Have (forms.inner_mode mode)
  at_mode None h = tt
  at_mode (Some word) h = (h.0, tt)

  at_joints : (c : Code) (joints : List Joint) → Spans (map (λ (j : Joint). j.span) joints) → Have (flat_map (λ (j : Joint). fault c j.span ∷ []) joints)
  at_joints c [] h = tt
  at_joints c (j ∷ joints) h = (h.0, at_joints c joints h.1)

  at_multiset : (joints : List Joint) → Spans (map (λ (j : Joint). j.span) joints) → Have (flat_map forms.multiset_union joints)
  at_multiset [] h = tt
  at_multiset (j ∷ joints) h = pair (forms.multiset_union j) (flat_map forms.multiset_union joints) (at_when j.multiset code.PathUnion j.span h.0) (at_multiset joints h.1)

  at_rows : (inside : Bool) (rows : List (List Form)) → AllByRecursion (AllByRecursion FormHas) rows → Have (flat_map (forms.row_faults inside) rows)
  at_rows inside rows h = of_rows FormHas PF (λ (form : Form). form.faults inside) (λ form k. k inside) rows h

  form_edge : (direction : Direction) (filler : Filler) (q : Option Quantifier) → Spans (of_filler filler) → Spans (if_given of_quantifier q)
      → FormHas (forms.forms.edge direction filler q)
  form_edge direction filler q h k inside =
      pair (forms.undirected_edge direction filler) (forms.quantifier_faults inside q) (at_when _ _ filler.span h.0) (at_quantifier inside q k)

  form_part : (part : Part Form) (q : Option Quantifier) → HasOwn P part → Spans (if_given of_quantifier q) → AllByRecursion (AllByRecursion FormHas) part.body.operands
      → FormHas (forms.forms.part part q)
  form_part part q own k rows inside =
      pair (forms.own_faults inside part q) (forms.body_faults (inside || is_repeated q) part.body)
      (four (forms.quantifier_faults inside q) (forms.inner_mode part.mode) (forms.part_without_edge (forms.has_edge part.body) part q)
      (flat_map forms.inner_union part.body.joints)
      (at_quantifier inside q k) (at_mode part.mode own.mode) (at_when _ _ part.span own.span) (at_joints code.PathUnion part.body.joints own.joints))
      (at_rows (inside || is_repeated q) part.body.operands rows)

  at_selector : (selector : Option Selector) → Spans (if_given of_selector selector) → Have (forms.any_selector selector)
  at_selector None h = tt
  at_selector (Some words) h = at_when _ _ words.span h.0

  at_path_variable : (variable : Option Named) → Spans (if_given of_name variable) → Have (forms.path_variable variable)
  at_path_variable None h = tt
  at_path_variable (Some variable) h = (h.0, tt)

  at_form_path : (path : PathTree) → PathHas path → Have (forms.path_faults path)
  unfolding forms.path_faults
  at_form_path path h =
      let body = body_given forms.forms path.body in
      three (forms.path_variable path.variable) (forms.any_selector path.selector) (forms.top_faults body) (at_path_variable path.variable h.variable)
      (at_selector path.selector h.selector)
      (pair (flat_map forms.multiset_union body.joints) (forms.body_faults false body) (at_multiset body.joints (joints_have P forms.forms path.body h.body))
      (at_rows false body.operands (union_given P forms.forms FormHas (λ filler k inside. tt) form_edge form_part path.body h.body)))

  at_forms : (tree : QueryTree) → AllByRecursion PathHas tree.paths → Have (form_faults tree)
  unfolding form_faults
  at_forms tree h = each PathHas PF forms.path_faults at_form_path tree.paths h

  -- ---- labels

  abbrev LabelHas : LabelExpr → Type 0
  LabelHas l = Spans (of_label l) → AllByRecursion PN (names.labels_in l)

  abbrev LabelChild : Type 0
  LabelChild = (l : LabelExpr) × LabelHas l

  abbrev bare_label : LabelChild → LabelExpr
  bare_label c = c.0

  label_rows : (cs : List LabelChild) → Spans (joined (map of_label (map bare_label cs))) → AllByRecursion PN (names.row_labels (map names.labels_in (map bare_label cs)))
  label_rows [] h = tt
  label_rows (c ∷ cs) h =
      both PN (names.labels_in c.0) (names.row_labels (map names.labels_in (map bare_label cs)))
      (c.1 (first_part P (of_label c.0) (joined (map of_label (map bare_label cs))) h)) (label_rows cs (other_part P (of_label c.0) (joined (map of_label (map bare_label cs))) h))

  abbrev LabelLayer : LabelExpr-F LabelExpr → Type 0
  LabelLayer x = Spans (label_step (map-LabelExpr LabelExpr (List Span) of_label x))
      → AllByRecursion PN (names.labels_step (map-LabelExpr LabelExpr (List Named) names.labels_in x))

  label_node : (y : LabelExpr-F LabelChild) → LabelLayer (map-LabelExpr LabelChild LabelExpr bare_label y)
  label_node (LabelExpr-F.Label name) h = h
  label_node LabelExpr-F.AnyLabel h = tt
  label_node (LabelExpr-F.Not c) h = c.1 h
  label_node (LabelExpr-F.And cs) h = label_rows cs h
  label_node (LabelExpr-F.Or cs) h = label_rows cs h

  label_has : (l : LabelExpr) → LabelHas l
  label_has = ind-LabelExpr LabelHas (λ x y is h.
      subst (AllByRecursion PN) (sym (fold-roll-LabelExpr (List Named) names.labels_step x))
      (subst LabelLayer is (label_node y) (subst Spans (fold-roll-LabelExpr (List Span) label_step x) h)))

  filler_labels : (filler : Filler) → Spans (of_filler filler) → AllByRecursion PN (names.labels_of filler)
  filler_labels filler h =
      each (λ (l : LabelExpr). Spans (of_label l)) PN names.labels_in label_has (option_to_list filler.label) (given_one of_label filler.label (filler_has filler h).label)

  label_lists : (rows : List (List (List Named))) → AllByRecursion (AllByRecursion (AllByRecursion PN)) rows → AllByRecursion PN (flat_map names.row_labels rows)
  label_lists rows h = of_rows (AllByRecursion PN) PN (λ (labels : List Named). labels) (λ labels k. k) rows h

  path_has_labels : (path : PathTree) → PathHas path → AllByRecursion PN (names.path_labels path)
  path_has_labels path h =
      label_lists (body_given names.labelling path.body).operands
      (union_given P names.labelling (AllByRecursion PN) (λ filler k. filler_labels filler k) (λ direction filler q k l. filler_labels filler k)
      (λ part q own k rows. label_lists part.body.operands rows) path.body h.body)

  -- ---- declarations

  abbrev PD : Declaration → Type 0
  PD d = P d.variable.span

  abbrev DeclaredHas : (Place → List Declaration) → Type 0
  DeclaredHas f = (place : Place) → AllByRecursion PD (f place)

  declared_has : (kind : Kind) (place : Place) (o : Option Named) → Spans (if_given of_name o)
      → AllByRecursion PD (map (λ variable. record { variable = variable; kind = kind; place = place }) (option_to_list o))
  declared_has kind place None h = tt
  declared_has kind place (Some n) h = (h.0, tt)

  body_declared : (place : Place) (rows : List (List (Place → List Declaration))) → AllByRecursion (AllByRecursion DeclaredHas) rows
      → AllByRecursion PD (flat_map (flat_map (λ (f : Place → List Declaration). f place)) rows)
  body_declared place rows h = of_rows DeclaredHas PD (λ (f : Place → List Declaration). f place) (λ f k. k place) rows h

  given_declared : (union : Union) → Spans (of_union union) → AllByRecursion (AllByRecursion DeclaredHas) (body_given declaring union).operands
  given_declared union h =
      union_given P declaring DeclaredHas (λ filler k place. declared_has vertices place filler.variable (filler_has filler k).variable)
      (λ direction filler q k l place. declared_has edges (place_inside q place) filler.variable (filler_has filler k).variable)
      (λ part q own k rows place. body_declared (place_inside q place) part.body.operands rows) union h

  operand_declared : (path : ℕ) (numbered : ℕ × List (Place → List Declaration)) → AllByRecursion DeclaredHas numbered.1 → AllByRecursion PD (operand_declares path numbered)
  operand_declared path numbered h =
      each DeclaredHas PD (λ (f : Place → List Declaration). f (record { path = path; operand = numbered.0; quantified = false })) (λ f k. k _) numbered.1 h

  numbered_declared : (path n : ℕ) (rows : List (List (Place → List Declaration))) → AllByRecursion (AllByRecursion DeclaredHas) rows
      → AllByRecursion (AllByRecursion PD) (map (operand_declares path) (enumerate_from n rows))
  numbered_declared path n [] h = tt
  numbered_declared path n (row ∷ rows) h = (operand_declared path (n, row) h.0, numbered_declared path (n + 1) rows h.1)

  operands_declared : (path : ℕ) (union : Union) → Spans (of_union union) → AllByRecursion (AllByRecursion PD) (operands_declare path union)
  operands_declared path union h = numbered_declared path 0 (body_given declaring union).operands (given_declared union h)

  path_declared : (n : ℕ) (path : PathTree) → PathHas path → AllByRecursion PD (path_declares (n, path))
  path_declared n path h =
      each (AllByRecursion PD) PD (λ (operand : List Declaration). operand) (λ operand k. k) (operands_declare n path.body) (operands_declared n path.body h.body)

  paths_declared : (n : ℕ) (paths : List PathTree) → AllByRecursion PathHas paths → AllByRecursion PD (flat_map path_declares (enumerate_from n paths))
  paths_declared n [] h = tt
  paths_declared n (path ∷ paths) h =
      both PD (path_declares (n, path)) (flat_map path_declares (enumerate_from (n + 1) paths)) (path_declared n path h.0) (paths_declared (n + 1) paths h.1)

  all_declared : (tree : QueryTree) → AllByRecursion PathHas tree.paths → AllByRecursion PD (declarations tree)
  unfolding declarations
  all_declared tree h = paths_declared 0 tree.paths h

  -- ---- leaves

  abbrev PL : PropertyRef → Type 0
  PL leaf = P leaf.variable.span × P leaf.property.span

  abbrev PU : Use → Type 0
  PU used = PL used.leaf

  abbrev ConditionHas : Condition → Type 0
  ConditionHas condition = Spans (of_condition condition)

  leaf_has : (leaf : PropertyRef) → Spans (of_leaf leaf) → PL leaf
  leaf_has leaf h = (h.0, h.1.0)

  condition_leaves : (condition : Condition) → ConditionHas condition → AllByRecursion PL (leaves_in condition.tree)
  condition_leaves condition h = go (leaves_in condition.tree)
      (flat_parts of_leaf (leaves_in condition.tree) (other_part P condition.spans (flat_map of_leaf (leaves_in condition.tree)) h))
    where
      go : (leaves : List PropertyRef) → AllByRecursion (λ leaf. Spans (of_leaf leaf)) leaves → AllByRecursion PL leaves
      go [] k = tt
      go (leaf ∷ leaves) k = (leaf_has leaf k.0, go leaves k.1)

  uses_have : (around : Around) (condition : Condition) → ConditionHas condition → AllByRecursion PU (uses_in around condition)
  uses_have around condition h = mapped PL PU (λ leaf. record { leaf = leaf; around = around }) (λ leaf k. k) (leaves_in condition.tree) (condition_leaves condition h)

  any_uses : (around : Around) (o : Option Condition) → Spans (if_given of_condition o) → AllByRecursion PU (uses_in_any around o)
  any_uses around o h = each ConditionHas PU (uses_in around) (λ condition k. uses_have around condition k) (option_to_list o) (given_one of_condition o h)

  abbrev UsesHave : Uses → Type 0
  UsesHave u = (around : Around) → AllByRecursion PU (u.uses around)

  body_used : (around : Around) (rows : List (List Uses)) → AllByRecursion (AllByRecursion UsesHave) rows
      → AllByRecursion PU (flat_map (flat_map (λ (factor : Uses). factor.uses around)) rows)
  body_used around rows h = of_rows UsesHave PU (λ (factor : Uses). factor.uses around) (λ factor k. k around) rows h

  part_used : (part : Part Uses) (around : Around) → HasOwn P part → AllByRecursion (AllByRecursion UsesHave) part.body.operands → AllByRecursion PU (part_uses part around)
  part_used part around own rows =
      both PU (body_uses part.body around) (uses_in_any around part.condition) (body_used around part.body.operands rows) (any_uses around part.condition own.condition)

  path_used : (path : PathTree) → PathHas path → AllByRecursion PU (path_uses path)
  path_used path h =
      body_used _ (body_given using path.body).operands
      (union_given P using UsesHave (λ filler k around. any_uses around filler.condition (filler_has filler k).condition)
      (λ direction filler q k l around. any_uses (around_inside q (names_in filler) around) filler.condition (filler_has filler k).condition)
      (λ part q own k rows around. part_used part (around_inside q (body_variables part.body) around) own rows) path.body h.body)

  -- ---- items

  record ItemHas (item : Item) : Type 0 where
    span : P item.span
    value : ConditionHas item.value
    name : Spans (if_given of_name item.name)

  item_has : (item : Item) → Spans (of_item item) → ItemHas item
  item_has item h =
      let a = of_condition item.value in
      let b = if_given of_name item.name in
      let c = if_given of_gather item.gather in
      record { span = h.0; value = first_part P a (b ++ c) h.1; name = first_part P b c (other_part P a (b ++ c) h.1) }

  record TreeHas (tree : QueryTree) : Type 0 where
    graph : P tree.graph.span
    match : P tree.match_span
    paths : AllByRecursion PathHas tree.paths
    condition : Spans (if_given of_condition tree.condition)
    columns : AllByRecursion ItemHas tree.columns

  tree_has : (tree : QueryTree) → EachSpanHas P tree → TreeHas tree
  tree_has tree h =
      let a = flat_map of_path tree.paths in
      let b = if_given of_condition tree.condition in
      let c = flat_map of_item tree.columns in
      let behind : Spans (b ++ c) = other_part P a (b ++ c) h.1.1 in
      record {
        graph = h.0;
        match = h.1.0;
        paths = all_paths tree.paths (flat_parts of_path tree.paths (first_part P a (b ++ c) h.1.1));
        condition = first_part P b c behind;
        columns = all_items tree.columns (flat_parts of_item tree.columns (other_part P b c behind));
      }
    where
      all_paths : (paths : List PathTree) → AllByRecursion (λ path. Spans (of_path path)) paths → AllByRecursion PathHas paths
      all_paths [] k = tt
      all_paths (path ∷ paths) k = (path_has path k.0, all_paths paths k.1)

      all_items : (items : List Item) → AllByRecursion (λ item. Spans (of_item item)) items → AllByRecursion ItemHas items
      all_items [] k = tt
      all_items (item ∷ items) k = (item_has item k.0, all_items items k.1)

  all_used : (tree : QueryTree) → TreeHas tree → AllByRecursion PU (uses tree)
  unfolding uses
  all_used tree h =
      both PU (flat_map path_uses tree.paths ++ uses_in_any nothing_around tree.condition) (flat_map (λ (item : Item). uses_in nothing_around item.value) tree.columns)
      (both PU (flat_map path_uses tree.paths) (uses_in_any nothing_around tree.condition) (each PathHas PU path_uses path_used tree.paths h.paths)
      (any_uses nothing_around tree.condition h.condition))
      (each ItemHas PU (λ (item : Item). uses_in nothing_around item.value) (λ item k. uses_have nothing_around item.value k.value) tree.columns h.columns)

  -- ---- names

  at_variable : (all : List Declaration) (around : Around) (variable : Named) → P variable.span → Have (names.variable_faults all around variable)
  at_variable all around variable h =
      three (names.unknown_variable all variable) (names.group_variable all around variable) (names.out_of_scope all around variable) (at_when _ _ variable.span h)
      (at_when _ _ variable.span h)
      (at_when _ _ variable.span h)

  at_property : (graph : Graph) (leaf : PropertyRef) → P leaf.property.span → (found : List Declaration)
      → Have (flat_map (λ (first : Declaration). when (not (list_any (has_property leaf.property.name) (elements_of_kind graph first.kind))) code.UnknownProperty
      leaf.property.span) found)
  at_property graph leaf h [] = tt
  at_property graph leaf h (d ∷ found) = pair _ _ (at_when _ code.UnknownProperty leaf.property.span h) (at_property graph leaf h found)

  at_declarations : (before more : List Declaration) → AllByRecursion PD more → Have (names.declaration_faults_behind before more)
  at_declarations before [] h = tt
  at_declarations before (d ∷ more) h =
      three (names.variable_kind before d) (names.variable_repeated before d) (names.declaration_faults_behind (before ++ d ∷ []) more) (at_when _ _ d.variable.span h.0)
      (at_when _ _ d.variable.span h.0) (at_declarations (before ++ d ∷ []) more h.1)

  at_unlike : (first : List Declaration) (operands : List (List Declaration)) (joints : List Joint) → Spans (map (λ (j : Joint). j.span) joints)
      → Have (names.unlike_first first operands joints)
  at_unlike first [] joints h = tt
  at_unlike first (operand ∷ operands) [] h = tt
  at_unlike first (operand ∷ operands) (j ∷ joints) h =
      pair (names.variables_differ first operand j) (names.unlike_first first operands joints) (at_when _ _ j.span h.0) (at_unlike first operands joints h.1)

  at_unlike_among : (operands : List (List Declaration)) (joints : List Joint) → Spans (map (λ (j : Joint). j.span) joints) → Have (names.unlike_among operands joints)
  at_unlike_among [] joints h = tt
  at_unlike_among (first ∷ operands) joints h = at_unlike first operands joints h

  at_union : (path : PathTree) → PathHas path → Have (names.union_faults path)
  at_union path h = at_unlike_among (operands_declare 0 path.body) (body_given names.labelling path.body).joints (joints_have P names.labelling path.body h.body)

  at_repeated : (c : Code) (before ns : List Named) → AllByRecursion PN ns → Have (repeated_behind c before ns)
  at_repeated c before [] h = tt
  at_repeated c before (n ∷ ns) h =
      pair (when (is_among n.name before) c n.span) (repeated_behind c (before ++ n ∷ []) ns) (at_when (is_among n.name before) c n.span h.0)
      (at_repeated c (before ++ n ∷ []) ns h.1)

  -- the leaf of an expression that is one is among its leaves
  abbrev LeafAmong : Expr PropertyRef → Type 0
  LeafAmong e = AllByRecursion PL (leaves_in e) → AllByRecursion PN (option_to_list (names.property_of (names.leaf_of e)))

  abbrev LeafLayer : Expr-F PropertyRef (Expr PropertyRef) → Type 0
  LeafLayer x = AllByRecursion PL (leaves_step (map-Expr PropertyRef (Expr PropertyRef) (List PropertyRef) leaves_in x))
      → AllByRecursion PN (option_to_list (names.property_of (names.leaf_step (map-Expr PropertyRef (Expr PropertyRef) (Option PropertyRef) names.leaf_of x))))

  leaf_node : (x : Expr-F PropertyRef (Expr PropertyRef)) → LeafLayer x
  leaf_node (Expr-F.Lit v) h = tt
  leaf_node (Expr-F.Null c) h = tt
  leaf_node (Expr-F.Leaf l) h = (h.0.1, tt)
  leaf_node (Expr-F.Compare op a b) h = tt
  leaf_node (Expr-F.All es) h = tt
  leaf_node (Expr-F.Any es) h = tt
  leaf_node (Expr-F.Not e) h = tt
  leaf_node (Expr-F.Is e t n) h = tt
  leaf_node (Expr-F.InList e es n) h = tt
  leaf_node (Expr-F.Between a b c n) h = tt
  leaf_node (Expr-F.Coalesce es) h = tt

  leaf_among : (e : Expr PropertyRef) → LeafAmong e
  leaf_among = ind-Expr PropertyRef LeafAmong (λ x y is h.
      subst (λ o. AllByRecursion PN (option_to_list (names.property_of o))) (sym (fold-roll-Expr PropertyRef (Option PropertyRef) names.leaf_step x))
      (leaf_node x (subst (AllByRecursion PL) (fold-roll-Expr PropertyRef (List PropertyRef) leaves_step x) h)))

  name_or_leaf : (o other : Option Named) → Spans (if_given of_name o) → AllByRecursion PN (option_to_list other) → AllByRecursion PN (option_to_list (names.name_or o other))
  name_or_leaf None other h k = k
  name_or_leaf (Some n) other h k = (h.0, tt)

  item_names : (item : Item) → ItemHas item → AllByRecursion PN (names.column_names item)
  item_names item h = name_or_leaf item.name (names.property_of (names.leaf_of item.value.tree)) h.name (leaf_among item.value.tree (condition_leaves item.value h.value))

  at_columns : (columns : List Item) → AllByRecursion ItemHas columns → Have (names.column_faults columns)
  unfolding names.column_faults
  at_columns columns h =
      pair (names.duplicate_column_names columns) (flat_map names.unnamed_column columns)
      (at_repeated code.DuplicateColumnName [] (flat_map names.column_names columns) (each ItemHas PN names.column_names item_names columns h))
      (each ItemHas PF names.unnamed_column (λ item k. at_when _ _ item.span k.span) columns h)

  at_graph : (graph : Graph) (tree : QueryTree) → TreeHas tree → Have (names.graph_faults graph tree)
  at_graph graph tree h =
      pair (flat_map (names.unknown_label graph) (flat_map names.path_labels tree.paths)) (flat_map (λ (used : Use). names.unknown_property graph (declarations tree) used.leaf)
      (uses tree))
      (each PN PF (names.unknown_label graph) (λ label k. at_when _ _ label.span k) (flat_map names.path_labels tree.paths)
      (each PathHas PN names.path_labels path_has_labels tree.paths h.paths))
      (each PU PF (λ (used : Use). names.unknown_property graph (declarations tree) used.leaf)
      (λ used k. at_property graph used.leaf k.1 (option_to_list (first_declaration (declarations tree) used.leaf.variable.name))) (uses tree) (all_used tree h))

  at_by_graph : (catalog : Catalog) (tree : QueryTree) (o : Option ℕ) → TreeHas tree → Have (names.faults_by_graph catalog tree o)
  at_by_graph catalog tree None h = (h.graph, tt)
  at_by_graph catalog tree (Some place) h = at_graph (graph_at catalog place) tree h

  at_names : (catalog : Catalog) (tree : QueryTree) → TreeHas tree → Have (name_faults catalog tree)
  unfolding name_faults
  at_names catalog tree h =
      let a = names.faults_by_graph catalog tree (graph_place catalog tree.graph.name) in
      let b = flat_map (λ (used : Use). names.variable_faults (declarations tree) used.around used.leaf.variable) (uses tree) in
      let c = names.declaration_faults_behind [] (declarations tree) in
      let d = flat_map names.union_faults tree.paths in
      let e = names.column_faults tree.columns in
      five a b c d e (at_by_graph catalog tree (graph_place catalog tree.graph.name) h)
      (each PU PF (λ (used : Use). names.variable_faults (declarations tree) used.around used.leaf.variable)
      (λ used k. at_variable (declarations tree) used.around used.leaf.variable k.0) (uses tree) (all_used tree h))
      (at_declarations [] (declarations tree) (all_declared tree h.paths)) (each PathHas PF names.union_faults at_union tree.paths h.paths) (at_columns tree.columns h.columns)

  -- ---- types

  abbrev Finds : Typed → Type 0
  Finds t = (spans : List Span) → Spans spans → Have (t.faults spans)

  first_has : (spans : List Span) → Spans spans → P (own_span spans)
  first_has [] h = nowhere
  first_has (s ∷ spans) h = h.0

  drop_have : (n : ℕ) (spans : List Span) → Spans spans → Spans (drop n spans)
  drop_have zero [] h = tt
  drop_have zero (s ∷ spans) h = h
  drop_have (suc n) [] h = tt
  drop_have (suc n) (s ∷ spans) h = drop_have n spans h.1

  record ChildHas (child : Typed × List Span) : Type 0 where
    finds : Finds child.0
    spans : Spans child.1

  children_have : (spans : List Span) (children : List Typed) → Spans spans → AllByRecursion Finds children → AllByRecursion ChildHas (side_by_side spans children)
  children_have spans [] h f = tt
  children_have spans (t ∷ children) h f = (record { finds = f.0; spans = h }, children_have (drop t.nodes spans) children (drop_have t.nodes spans h) f.1)

  abbrev PO : Operand → Type 0
  PO operand = P operand.span

  operands_have : (children : List (Typed × List Span)) → AllByRecursion ChildHas children → AllByRecursion PO (map types.operand_of children)
  operands_have [] h = tt
  operands_have (c ∷ children) h = (first_has c.1 h.0.spans, operands_have children h.1)

  at_classes : (operands : List Operand) → AllByRecursion PO operands → Have (types.classes_differ operands)
  at_classes [] h = tt
  at_classes (first ∷ operands) h = each PO PF (types.class_differs first) (λ operand k. at_when _ _ operand.span k) operands h.1

  at_truths : (operands : List Operand) → AllByRecursion PO operands → Have (types.not_truths operands)
  at_truths operands h = each PO PF types.not_truth (λ operand k. at_when _ _ operand.span k) operands h

  at_test : (t : Test) (operands : List Operand) → AllByRecursion PO operands → Have (types.test_faults t operands)
  at_test test.Null operands h = tt
  at_test test.True operands h = at_truths operands h
  at_test test.False operands h = at_truths operands h
  at_test test.Unknown operands h = at_truths operands h

  at_node : {A : Type 0} (x : Expr-F PropertyRef A) (operands : List Operand) → AllByRecursion PO operands → Have (types.node_faults x operands)
  at_node (Expr-F.Lit v) operands h = tt
  at_node (Expr-F.Null c) operands h = tt
  at_node (Expr-F.Leaf l) operands h = tt
  at_node (Expr-F.Compare op a b) operands h = at_classes operands h
  at_node (Expr-F.All es) operands h = at_truths operands h
  at_node (Expr-F.Any es) operands h = at_truths operands h
  at_node (Expr-F.Not e) operands h = at_truths operands h
  at_node (Expr-F.Is e t n) operands h = at_test t operands h
  at_node (Expr-F.InList e es n) operands h = at_classes operands h
  at_node (Expr-F.Between a b c n) operands h = at_classes operands h
  at_node (Expr-F.Coalesce es) operands h = at_classes operands h

  children_faults : (children : List (Typed × List Span)) → AllByRecursion ChildHas children → Have (flat_map types.child_faults children)
  children_faults children h = each ChildHas PF types.child_faults (λ child k. k.finds child.1 k.spans) children h

  module _ (leaf : PropertyRef → Class) where
    abbrev Told : Expr PropertyRef → Type 0
    Told e = Finds (typed leaf e)

    abbrev Child : Type 0
    Child = (e : Expr PropertyRef) × Told e

    abbrev bare : Child → Expr PropertyRef
    bare c = c.0

    all_told : (cs : List Child) → AllByRecursion Finds (map (typed leaf) (map bare cs))
    all_told [] = tt
    all_told (c ∷ cs) = (c.1, all_told cs)

    abbrev shown : Expr-F PropertyRef Child → Expr-F PropertyRef Typed
    shown y = map-Expr PropertyRef (Expr PropertyRef) Typed (typed leaf) (map-Expr PropertyRef Child (Expr PropertyRef) bare y)

    inside_find : (y : Expr-F PropertyRef Child) → AllByRecursion Finds (children_of (shown y))
    inside_find (Expr-F.Lit v) = tt
    inside_find (Expr-F.Null c) = tt
    inside_find (Expr-F.Leaf l) = tt
    inside_find (Expr-F.Compare op a b) = all_told (a ∷ b ∷ [])
    inside_find (Expr-F.All es) = all_told es
    inside_find (Expr-F.Any es) = all_told es
    inside_find (Expr-F.Not a) = all_told (a ∷ [])
    inside_find (Expr-F.Is a t n) = all_told (a ∷ [])
    inside_find (Expr-F.InList a es n) = all_told (a ∷ es)
    inside_find (Expr-F.Between a b c n) = all_told (a ∷ b ∷ c ∷ [])
    inside_find (Expr-F.Coalesce es) = all_told es

    abbrev Layer : Expr-F PropertyRef (Expr PropertyRef) → Type 0
    Layer x = Finds (typed_step leaf (map-Expr PropertyRef (Expr PropertyRef) Typed (typed leaf) x))

    layer : (y : Expr-F PropertyRef Child) → Layer (map-Expr PropertyRef Child (Expr PropertyRef) bare y)
    layer y spans h =
        let children = side_by_side (drop 1 spans) (children_of (shown y)) in
        let have = children_have (drop 1 spans) (children_of (shown y)) (drop_have 1 spans h) (inside_find y) in
        pair (types.node_faults (shown y) (map types.operand_of children)) (flat_map types.child_faults children)
        (at_node (shown y) (map types.operand_of children) (operands_have children have)) (children_faults children have)

    told : (e : Expr PropertyRef) → Told e
    told = ind-Expr PropertyRef Told (λ x y is. subst Finds (sym (fold-roll-Expr PropertyRef Typed (typed_step leaf) x)) (subst Layer is (layer y)))

    at_condition : (condition : Condition) → ConditionHas condition → Have (types.condition_faults leaf condition)
    at_condition condition h = told condition.tree condition.spans (first_part P condition.spans (flat_map of_leaf (leaves_in condition.tree)) h)

    at_where : (condition : Condition) → ConditionHas condition → Have (types.where_faults leaf condition)
    at_where condition h =
        pair _ (types.condition_faults leaf condition)
        (at_when _ _ (own_span condition.spans) (first_has condition.spans (first_part P condition.spans (flat_map of_leaf (leaves_in condition.tree)) h)))
        (at_condition condition h)

  -- ---- conditions

  abbrev ConditionsHave : List Condition → Type 0
  ConditionsHave cs = AllByRecursion ConditionHas cs

  rows_conditions : (rows : List (List (List Condition))) → AllByRecursion (AllByRecursion ConditionsHave) rows → ConditionsHave (flat_map row_conditions rows)
  rows_conditions rows h = of_rows ConditionsHave ConditionHas (λ (cs : List Condition). cs) (λ cs k. k) rows h

  path_wheres : (path : PathTree) → PathHas path → ConditionsHave (path_conditions path)
  path_wheres path h =
      rows_conditions (body_given conditions path.body).operands
      (union_given P conditions ConditionsHave (λ filler k. given_one of_condition filler.condition (filler_has filler k).condition)
      (λ direction filler q k l. given_one of_condition filler.condition (filler_has filler k).condition)
      (λ part q own k rows. both ConditionHas (body_conditions part.body) (option_to_list part.condition) (rows_conditions part.body.operands rows)
      (given_one of_condition part.condition own.condition)) path.body h.body)

  all_wheres : (tree : QueryTree) → TreeHas tree → ConditionsHave (wheres tree)
  unfolding wheres
  all_wheres tree h =
      both ConditionHas (flat_map path_conditions tree.paths) (option_to_list tree.condition) (each PathHas ConditionHas path_conditions path_wheres tree.paths h.paths)
      (given_one of_condition tree.condition h.condition)

  at_types : (catalog : Catalog) (graph : Graph) (tree : QueryTree) → TreeHas tree → Have (type_faults catalog graph tree)
  unfolding type_faults
  at_types catalog graph tree h =
      let leaf = types.leaf_class catalog graph in
      pair (flat_map (types.where_faults leaf) (wheres tree)) (flat_map (λ (item : Item). types.condition_faults leaf item.value) tree.columns)
      (each ConditionHas PF (types.where_faults leaf) (at_where leaf) (wheres tree) (all_wheres tree h))
      (each ItemHas PF (λ (item : Item). types.condition_faults leaf item.value) (λ item k. at_condition leaf item.value k.value) tree.columns h.columns)

  -- ---- limits

  at_large : (q : Option Quantifier) → Spans (if_given of_quantifier q) → Have (sizes.large_quantifier q)
  at_large None h = tt
  at_large (Some q) h = at_when _ _ q.span h.0

  at_inner : (rows : List (List (List Fault))) → AllByRecursion (AllByRecursion Have) rows → Have (flat_map sizes.joined rows)
  at_inner rows h = of_rows Have PF (λ (faults : List Fault). faults) (λ faults k. k) rows h

  at_size_path : (path : PathTree) → PathHas path → Have (sizes.path_faults path)
  unfolding sizes.path_faults
  at_size_path path h =
      three (sizes.inner_faults (body_given sizes.large path.body)) (sizes.too_many_choices path) (sizes.path_too_long path)
      (at_inner (body_given sizes.large path.body).operands
      (union_given P sizes.large Have (λ filler k. tt) (λ direction filler q k l. at_large q l)
      (λ part q own k rows. pair (sizes.large_quantifier q) (sizes.inner_faults part.body) (at_large q k) (at_inner part.body.operands rows)) path.body h.body))
      (at_when _ _ path.span h.span) (at_when _ _ path.span h.span)

  at_ninth : (n : ℕ) (paths : List PathTree) → AllByRecursion PathHas paths
      → Have (map (λ (ninth : PathTree). fault code.TooManyPaths ninth.span) (option_to_list (slice_get paths n)))
  at_ninth zero [] h = tt
  at_ninth (suc n) [] h = tt
  at_ninth zero (path ∷ paths) h = (h.0.span, tt)
  at_ninth (suc n) (path ∷ paths) h = at_ninth n paths h.1

  at_sizes : (tree : QueryTree) → TreeHas tree → Have (size_faults tree)
  unfolding size_faults
  at_sizes tree h =
      pair (flat_map sizes.path_faults tree.paths) (sizes.too_many_paths tree.paths) (each PathHas PF sizes.path_faults at_size_path tree.paths h.paths)
      (at_ninth 8 tree.paths h.paths)

  -- ---- the first fault

  abbrev pub Found : Option Fault → Type 0
  Found None = Unit {0}
  Found (Some f) = P f.span

  at_earlier : (first : Option Fault) (f : Fault) → Found first → P f.span → Found (earlier first f)
  unfolding earlier
  at_earlier None f h g = g
  at_earlier (Some e) f h g = go (is_before f e)
    where
      go : (b : Bool) → Found (cond b (Some f) (Some e))
      go true = g
      go false = h

  at_first : (first : Option Fault) (faults : List Fault) → Found first → Have faults → Found (first_of first faults)
  at_first first [] h g = h
  at_first first (f ∷ faults) h g = at_first (earlier first f) faults (at_earlier first f h g.0) g.1

  at_or : (a b : Option Fault) → Found a → Found b → Found (or_then a b)
  at_or None b h g = g
  at_or (Some f) b h g = h

  pub at_first_fault : (catalog : Catalog) (tree : QueryTree) → EachSpanHas P tree → Found (first_fault catalog tree)
  unfolding first_fault
  at_first_fault catalog tree h =
      let all = tree_has tree h in
      let graph = graph_at catalog (unwrap_or (graph_place catalog tree.graph.name) 0) in
      let a = first_of None (form_faults tree) in
      let b = first_of None (name_faults catalog tree) in
      let c = first_of None (type_faults catalog graph tree) in
      let d = first_of None (size_faults tree) in
      let e = first_of None (lowering_too_large catalog tree) in
      at_or a (or_then b (or_then c (or_then d e))) (at_first None (form_faults tree) tt (at_forms tree all.paths))
      (at_or b (or_then c (or_then d e)) (at_first None (name_faults catalog tree) tt (at_names catalog tree all))
      (at_or c (or_then d e) (at_first None (type_faults catalog graph tree) tt (at_types catalog graph tree all))
      (at_or d e (at_first None (size_faults tree) tt (at_sizes tree all)) (at_first None (lowering_too_large catalog tree) tt (at_when _ _ tree.match_span all.match)))))
