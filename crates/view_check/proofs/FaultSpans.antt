-- What holds of each span of a schema's tree holds of the span of each fault.
use Rattle.std.proofs.Common.{◌≡◌, ℕ, zero, suc, ◌+◌, Bool, true, false, not, ◌&&◌, ◌||◌, cond, List, [], ◌∷◌, ◌++◌, map, refl, Option, None, Some, is_some, unwrap_or, slice_get}
use Rattle.std.proofs.Common.{bytes_eq, nat_eq}
use Rattle.std.specs.List.{flat_map, find, AllByRecursion}
use Rattle.pgq_base.specs.declared.refusal.Span.{Span}
use Rattle.pgq_base.specs.declared.code.Code.{Code}
use Rattle.pgq_base.specs.declared.code.Code.TheVariants as code
use Rattle.graph_ast.specs.declared.schema.Named.{Named}
use Rattle.graph_ast.specs.declared.schema.SchemaTree.{SchemaTree}
use Rattle.graph_ast.specs.declared.schema.Statement.{Statement}
use Rattle.graph_ast.specs.declared.schema.Statement.TheVariants as statement
use Rattle.graph_ast.specs.declared.schema.TableDef.{TableDef}
use Rattle.graph_ast.specs.declared.schema.ColumnDef.{ColumnDef}
use Rattle.graph_ast.specs.declared.schema.RuleDef.{RuleDef}
use Rattle.graph_ast.specs.declared.schema.RuleKind.{RuleKind}
use Rattle.graph_ast.specs.declared.schema.RuleKind.TheVariants.{NotNull, Primary, Unique, Foreign, Default, Check}
use Rattle.graph_ast.specs.declared.schema.GraphDef.{GraphDef}
use Rattle.graph_ast.specs.declared.schema.ElementDef.{ElementDef}
use Rattle.graph_ast.specs.declared.schema.KeyDef.{KeyDef}
use Rattle.graph_ast.specs.declared.schema.EdgeDef.{EdgeDef}
use Rattle.graph_ast.specs.declared.schema.EndDef.{EndDef}
use Rattle.graph_ast.specs.declared.schema.EndDef.TheVariants.{Short, Full}
use Rattle.graph_ast.specs.declared.schema.LabelDef.{LabelDef}
use Rattle.graph_ast.specs.declared.schema.PropertiesDef.{PropertiesDef}
use Rattle.graph_ast.specs.declared.schema.PropertiesDef.TheVariants.{Nothing, Listed, AllBut}
use Rattle.graph_ast.specs.declared.schema.PropertyDef.{PropertyDef}
use Rattle.graph_ast.specs.declared.catalog.Table.{Table}
use Rattle.graph_ast.specs.declared.catalog.Column.{Column}
use Rattle.graph_ast.specs.declared.catalog.Reference.{Reference}
use Rattle.graph_ast.specs.Schemas.{tables_among, graphs_among, rules_of, elements}
use Rattle.graph_ast.specs.Spans.{NamesHave, GivenNameHas, KindHas, RuleHas, ColumnHas, TableHas, KeyHas, PropertyHas, PropertiesHave, LabelHas, ElementHas, EndHas, EdgeHas}
use Rattle.graph_ast.specs.Spans.{GraphHas, StatementHas, EachSpanHas}
use Rattle.first_faults.specs.declared.faults.Fault.{Fault}
use Rattle.first_faults.specs.Faults.{when, is_before, earlier, first_of, clash, clashing_behind}
use Rattle.first_faults.specs.Names.{is_among, repeated_behind}
use Rattle.view_check.specs.declared.exposed.Exposed.{Exposed}
use Rattle.view_check.specs.declared.exposed.Shown.{Shown}
use Rattle.view_check.specs.TableRules as tables
use Rattle.view_check.specs.TableRules.{table_faults, faults_of_table, faults_of_rule, second_primary_behind, second_primary_keys, is_primary, in_text_order, duplicates_in_lists}
use Rattle.view_check.specs.TableRules.{unknown_columns, unknown_in_lists, faults_of_reference, reference_faults, shape_fails, target_not_unique, unsupported_type}
use Rattle.view_check.specs.TableRules.{unsupported_constraint, duplicate_columns, table_named, targets_of}
use Rattle.view_check.specs.Catalogs.{tables_of}
use Rattle.view_check.specs.GraphRules as graphs
use Rattle.view_check.specs.GraphRules.{graph_faults, faults_of_graph, faults_of_edge, faults_of_end, faults_of_element, faults_in_table, duplicates_in_key}
use Rattle.view_check.specs.GraphRules.{duplicates_in_properties, duplicates_in_label, duplicates_in_end, unknown_column, unknown_in_key, unknown_in_properties, unknown_in_label}
use Rattle.view_check.specs.GraphRules.{key_not_unique, faults_of_key, duplicate_labels, element_name, label_name, property_name, named_table, key_places, property_at}
use Rattle.view_check.specs.GraphRules.{exposed_by, exposed_but, exposed_in, properties_of, properties_under, properties_in, property_columns_differ, property_classes_differ}
use Rattle.view_check.specs.GraphRules.{is_sound_label, is_sound, shown, shown_of, shown_under, shown_in, shown_from, label_properties_differ, vertex_named, unknown_vertex}
use Rattle.view_check.specs.GraphRules.{faults_of_short, faults_of_full, reference_mismatch, references_to, faults_at_vertex, faults_with_table, faults_with_vertex}
use Rattle.view_check.specs.GraphRules.{faults_with_own, end_vertex, own_columns, duplicate_elements, duplicate_graphs, has_column, column_place}
use Rattle.view_check.specs.Limits.{at_item, past, long_list, long_rule, long_key, large_table, large_element, large_edge, large_graph, size_faults}
use Rattle.view_check.specs.Phases.{or_then, first_fault}
use Rattle.view_check.proofs.ValidTables.{each_in_order}

module _ (P : Span → Type 0) where
  abbrev Have : List Fault → Type 0
  Have faults = AllByRecursion (λ f. P f.span) faults

  -- ---- lists of faults

  both : {X : Type 0} (Q : X → Type 0) (xs ys : List X) → AllByRecursion Q xs → AllByRecursion Q ys → AllByRecursion Q (xs ++ ys)
  both Q [] ys h g = g
  both Q (x ∷ xs) ys h g = (h.0, both Q xs ys h.1 g)

  each : {X Y : Type 0} (Q : X → Type 0) (R : Y → Type 0) (f : X → List Y) → ((x : X) → Q x → AllByRecursion R (f x)) → (xs : List X) → AllByRecursion Q xs
      → AllByRecursion R (flat_map f xs)
  each Q R f step [] h = tt
  each Q R f step (x ∷ xs) h = both R (f x) (flat_map f xs) (step x h.0) (each Q R f step xs h.1)

  mapped : {X Y : Type 0} (Q : X → Type 0) (R : Y → Type 0) (f : X → Y) → ((x : X) → Q x → R (f x)) → (xs : List X) → AllByRecursion Q xs → AllByRecursion R (map f xs)
  mapped Q R f step [] h = tt
  mapped Q R f step (x ∷ xs) h = (step x h.0, mapped Q R f step xs h.1)

  pair : (xs ys : List Fault) → Have xs → Have ys → Have (xs ++ ys)
  pair xs ys h g = both (λ f. P f.span) xs ys h g

  at_when : (b : Bool) (c : Code) (s : Span) → P s → Have (when b c s)
  at_when true c s h = (h, tt)
  at_when false c s h = tt

  at_repeated : (c : Code) (before names : List Named) → NamesHave P names → Have (repeated_behind c before names)
  at_repeated c before [] h = tt
  at_repeated c before (n ∷ names) h =
      pair (when (is_among n.name before) c n.span) (repeated_behind c (before ++ n ∷ []) names) (at_when (is_among n.name before) c n.span h.0)
      (at_repeated c (before ++ n ∷ []) names h.1)

  at_clash : {X : Type 0} (c : Code) (span : X → Span) (agree : X → X → Bool) (o : Option X) (x : X) → P (span x) → Have (clash c span agree o x)
  at_clash c span agree None x h = tt
  at_clash c span agree (Some first) x h = at_when (not (agree first x)) c (span x) h

  at_clashing : {X : Type 0} (c : Code) (span : X → Span) (same agree : X → X → Bool) (before xs : List X) → AllByRecursion (λ x. P (span x)) xs
      → Have (clashing_behind c span same agree before xs)
  at_clashing c span same agree before [] h = tt
  at_clashing c span same agree before (x ∷ xs) h =
      pair (clash c span agree (find (λ y. same y x) before) x) (clashing_behind c span same agree (before ++ x ∷ []) xs)
      (at_clash c span agree (find (λ y. same y x) before) x h.0) (at_clashing c span same agree (before ++ x ∷ []) xs h.1)

  -- ---- the first of them

  abbrev pub Found : Option Fault → Type 0
  Found None = Unit {0}
  Found (Some f) = P f.span

  at_earlier : (first : Option Fault) (f : Fault) → Found first → P f.span → Found (earlier first f)
  unfolding earlier
  at_earlier None f h g = g
  at_earlier (Some e) f h g = go (is_before f e)
    where
      go : (b : Bool) → Found (cond b (Some f) (Some e))
      go true = g
      go false = h

  at_first : (first : Option Fault) (faults : List Fault) → Found first → Have faults → Found (first_of first faults)
  at_first first [] h g = h
  at_first first (f ∷ faults) h g = at_first (earlier first f) faults (at_earlier first f h g.0) g.1

  at_or : (a b : Option Fault) → Found a → Found b → Found (or_then a b)
  at_or None b h g = g
  at_or (Some f) b h g = h

  -- ---- tables

  tables_have : (ss : List Statement) → AllByRecursion (StatementHas P) ss → AllByRecursion (TableHas P) (tables_among ss)
  tables_have [] h = tt
  tables_have (statement.Table t ∷ ss) h = (h.0, tables_have ss h.1)
  tables_have (statement.Graph g ∷ ss) h = tables_have ss h.1

  graphs_have : (ss : List Statement) → AllByRecursion (StatementHas P) ss → AllByRecursion (GraphHas P) (graphs_among ss)
  graphs_have [] h = tt
  graphs_have (statement.Table t ∷ ss) h = graphs_have ss h.1
  graphs_have (statement.Graph g ∷ ss) h = (h.0, graphs_have ss h.1)

  rules_have : (t : TableDef) → TableHas P t → AllByRecursion (RuleHas P) (rules_of t)
  rules_have t h = both (RuleHas P) (flat_map (λ (c : ColumnDef). c.rules) t.columns) t.rules
      (each (ColumnHas P) (RuleHas P) (λ c. c.rules) (λ c g. g.rules) t.columns h.columns) h.rules

  at_lists : (k : RuleKind) → KindHas P k → Have (duplicates_in_lists k)
  at_lists (Primary names) h = at_repeated code.DuplicateColumn [] names h
  at_lists (Unique names) h = at_repeated code.DuplicateColumn [] names h
  at_lists (Foreign own target listed) h = pair _ _ (at_repeated code.DuplicateColumn [] own h.0) (at_repeated code.DuplicateColumn [] listed h.2)
  at_lists NotNull h = tt
  at_lists Default h = tt
  at_lists Check h = tt

  at_unknown : (t : TableDef) (names : List Named) → NamesHave P names → Have (unknown_columns t names)
  at_unknown t names h = each (λ (n : Named). P n.span) (λ f. P f.span) (λ (n : Named). when (not (tables.has_column t n.name)) code.UnknownColumn n.span)
      (λ n g. at_when (not (tables.has_column t n.name)) code.UnknownColumn n.span g) names h

  at_target : (o : Option TableDef) (listed : List Named) → NamesHave P listed → Have (tables.unknown_in_target o listed)
  at_target None listed h = tt
  at_target (Some u) listed h = at_unknown u listed h

  at_unknown_lists : (ts : List TableDef) (t : TableDef) (k : RuleKind) → KindHas P k → Have (unknown_in_lists ts t k)
  at_unknown_lists ts t (Primary names) h = at_unknown t names h
  at_unknown_lists ts t (Unique names) h = at_unknown t names h
  at_unknown_lists ts t (Foreign own target listed) h = pair (unknown_columns t own) (tables.unknown_in_target (table_named ts target.name) listed) (at_unknown t own h.0)
      (at_target (table_named ts target.name) listed h.2)
  at_unknown_lists ts t NotNull h = tt
  at_unknown_lists ts t Default h = tt
  at_unknown_lists ts t Check h = tt

  at_unknown_table : (ts : List TableDef) (k : RuleKind) → KindHas P k → Have (tables.unknown_table ts k)
  at_unknown_table ts (Foreign own target listed) h = at_when (not (is_some (table_named ts target.name))) code.UnknownTable target.span h.1
  at_unknown_table ts (Primary names) h = tt
  at_unknown_table ts (Unique names) h = tt
  at_unknown_table ts NotNull h = tt
  at_unknown_table ts Default h = tt
  at_unknown_table ts Check h = tt

  at_reference : (t : TableDef) (o : Option TableDef) (own : List Named) (target : Named) (listed : List Named) → P target.span → Have (faults_of_reference t o own target listed)
  at_reference t None own target listed h = tt
  at_reference t (Some u) own target listed h =
      pair (when (shape_fails t u own (targets_of u listed)) code.ReferenceShape target.span)
      (when (target_not_unique t u own (targets_of u listed)) code.ReferenceNotUnique target.span)
      (at_when (shape_fails t u own (targets_of u listed)) code.ReferenceShape target.span h)
      (at_when (target_not_unique t u own (targets_of u listed)) code.ReferenceNotUnique target.span h)

  at_references : (ts : List TableDef) (t : TableDef) (k : RuleKind) → KindHas P k → Have (reference_faults ts t k)
  at_references ts t (Foreign own target listed) h = at_reference t (table_named ts target.name) own target listed h.1
  at_references ts t (Primary names) h = tt
  at_references ts t (Unique names) h = tt
  at_references ts t NotNull h = tt
  at_references ts t Default h = tt
  at_references ts t Check h = tt

  at_rule : (ts : List TableDef) (t : TableDef) (r : RuleDef) → RuleHas P r → Have (faults_of_rule ts t r)
  unfolding faults_of_rule
  at_rule ts t r h =
      pair (duplicates_in_lists r.kind ++ unknown_in_lists ts t r.kind ++ tables.unknown_table ts r.kind ++ reference_faults ts t r.kind) (unsupported_constraint r)
      (pair (duplicates_in_lists r.kind ++ unknown_in_lists ts t r.kind ++ tables.unknown_table ts r.kind) (reference_faults ts t r.kind)
      (pair (duplicates_in_lists r.kind ++ unknown_in_lists ts t r.kind) (tables.unknown_table ts r.kind)
      (pair (duplicates_in_lists r.kind) (unknown_in_lists ts t r.kind) (at_lists r.kind h.1) (at_unknown_lists ts t r.kind h.1))
      (at_unknown_table ts r.kind h.1))
      (at_references ts t r.kind h.1))
      (at_when (tables.is_unsupported r.kind) code.UnsupportedConstraint r.span h.0)

  at_second : (seen : Bool) (rules : List RuleDef) → AllByRecursion (RuleHas P) rules → Have (second_primary_behind seen rules)
  at_second seen [] h = tt
  at_second seen (r ∷ rules) h =
      pair (when (seen && is_primary r) code.SecondPrimaryKey r.span) (second_primary_behind (seen || is_primary r) rules)
      (at_when (seen && is_primary r) code.SecondPrimaryKey r.span h.0.0) (at_second (seen || is_primary r) rules h.1)

  at_table : (ts : List TableDef) (t : TableDef) → TableHas P t → Have (faults_of_table ts t)
  unfolding faults_of_table
  at_table ts t h =
      pair (duplicate_columns t ++ second_primary_keys t ++ flat_map unsupported_type t.columns) (flat_map (faults_of_rule ts t) (rules_of t))
      (pair (duplicate_columns t ++ second_primary_keys t) (flat_map unsupported_type t.columns)
      (pair (duplicate_columns t) (second_primary_keys t)
      (at_repeated code.DuplicateColumn [] (map (λ (c : ColumnDef). c.name) t.columns)
      (mapped (ColumnHas P) (λ (n : Named). P n.span) (λ c. c.name) (λ c g. g.name) t.columns h.columns))
      (at_second false (in_text_order t) (each_in_order (RuleHas P) t (rules_have t h))))
      (each (ColumnHas P) (λ f. P f.span) unsupported_type (λ c g. at_when _ code.UnsupportedType c.written.span g.written) t.columns h.columns))
      (each (RuleHas P) (λ f. P f.span) (faults_of_rule ts t) (at_rule ts t) (rules_of t) (rules_have t h))

  at_tables : (tree : SchemaTree) → EachSpanHas P tree → Have (table_faults tree)
  unfolding table_faults
  at_tables tree h =
      let ts : List TableDef = tables_among tree.statements in
      let all : AllByRecursion (TableHas P) ts = tables_have tree.statements h in
      pair (tables.duplicate_tables ts) (flat_map (faults_of_table ts) ts)
      (at_repeated code.DuplicateTable [] (map (λ (t : TableDef). t.name) ts) (mapped (TableHas P) (λ (n : Named). P n.span) (λ t. t.name) (λ t g. g.name) ts all))
      (each (TableHas P) (λ f. P f.span) (faults_of_table ts) (at_table ts) ts all)

  -- ---- elements

  name_has : (e : ElementDef) → ElementHas P e → P (element_name e).span
  name_has e h = go e.alias h.alias
    where
      go : (o : Option Named) → GivenNameHas P o → P (unwrap_or o e.table).span
      go None g = h.table
      go (Some n) g = g

  at_key_list : (o : Option KeyDef) → KeyHas P o → Have (duplicates_in_key o)
  at_key_list None h = tt
  at_key_list (Some key) h = at_repeated code.DuplicateColumn [] key.columns h.1

  at_label_list : (l : LabelDef) → LabelHas P l → Have (duplicates_in_label l)
  unfolding duplicates_in_label
  at_label_list l h = go l.properties h.1
    where
      go : (p : PropertiesDef) → PropertiesHave P p → Have (duplicates_in_properties p)
      go Nothing g = tt
      go (Listed properties) g = tt
      go (AllBut names) g = at_repeated code.DuplicateColumn [] names g

  at_column : (t : Table) (n : Named) → P n.span → Have (unknown_column t n)
  at_column t n h = at_when (not (has_column t n.name)) code.UnknownColumn n.span h

  at_columns : (t : Table) (names : List Named) → NamesHave P names → Have (flat_map (unknown_column t) names)
  at_columns t names h = each (λ (n : Named). P n.span) (λ f. P f.span) (unknown_column t) (at_column t) names h

  at_key_columns : (t : Table) (o : Option KeyDef) → KeyHas P o → Have (unknown_in_key t o)
  at_key_columns t None h = tt
  at_key_columns t (Some key) h = at_columns t key.columns h.1

  at_label_columns : (t : Table) (l : LabelDef) → LabelHas P l → Have (unknown_in_label t l)
  unfolding unknown_in_label
  at_label_columns t l h = go l.properties h.1
    where
      go : (p : PropertiesDef) → PropertiesHave P p → Have (unknown_in_properties t p)
      go Nothing g = tt
      go (Listed properties) g = each (PropertyHas P) (λ f. P f.span) (λ (p : PropertyDef). unknown_column t p.column) (λ p k. at_column t p.column k.0) properties g
      go (AllBut names) g = at_columns t names g

  at_key_kind : (t : Table) (o : Option KeyDef) → KeyHas P o → Have (key_not_unique t o)
  at_key_kind t None h = tt
  at_key_kind t (Some key) h = at_when (graphs.is_not_unique t key.columns) code.KeyNotUnique key.span h.0

  -- ---- properties

  abbrev Exposes : Exposed → Type 0
  Exposes x = P x.span

  property_has : (p : PropertyDef) → PropertyHas P p → P (property_name p).span
  property_has p h = go p.name h.1
    where
      go : (o : Option Named) → GivenNameHas P o → P (unwrap_or o p.column).span
      go None g = h.0
      go (Some n) g = g

  exposed_has : (t : Table) (p : PropertyDef) → PropertyHas P p → AllByRecursion Exposes (exposed_by t p)
  exposed_has t p h = go (has_column t p.column.name)
    where
      go : (b : Bool) → AllByRecursion Exposes (cond b (property_at t (property_name p).name (property_name p).span (column_place t p.column.name) ∷ []) [])
      go true = (property_has p h, tt)
      go false = tt

  columns_have : (t : Table) (names : List Named) (s : Span) (i : ℕ) (cs : List Column) → P s → AllByRecursion Exposes (exposed_but t names s i cs)
  columns_have t names s i [] h = tt
  columns_have t names s i (c ∷ cs) h =
      both Exposes (cond (is_among c.name names) [] (property_at t c.name s i ∷ [])) (exposed_but t names s (1 + i) cs) (go (is_among c.name names))
      (columns_have t names s (1 + i) cs h)
    where
      go : (b : Bool) → AllByRecursion Exposes (cond b [] (property_at t c.name s i ∷ []))
      go true = tt
      go false = (h, tt)

  label_has : (t : Table) (l : LabelDef) → LabelHas P l → AllByRecursion Exposes (exposed_in t l.span l.properties)
  label_has t l h = go l.properties h.1
    where
      but : (names : List Named) (b : Bool) → AllByRecursion Exposes (cond b (exposed_but t names l.span 0 t.columns) [])
      but names true = columns_have t names l.span 0 t.columns h.0
      but names false = tt

      go : (p : PropertiesDef) → PropertiesHave P p → AllByRecursion Exposes (exposed_in t l.span p)
      go Nothing g = tt
      go (Listed properties) g = each (PropertyHas P) Exposes (exposed_by t) (exposed_has t) properties g
      go (AllBut names) g = but names (is_sound t names)

  properties_have : (t : Table) (e : ElementDef) → ElementHas P e → AllByRecursion Exposes (properties_of t e)
  properties_have t e h = each (LabelHas P) Exposes (λ (l : LabelDef). exposed_in t l.span l.properties) (label_has t) e.labels h.labels

  all_properties_have : (ts : List Table) (e : ElementDef) → ElementHas P e → AllByRecursion Exposes (properties_in ts e)
  all_properties_have ts e h = go (named_table ts e.table.name)
    where
      go : (o : Option Table) → AllByRecursion Exposes (properties_under o e)
      go None = tt
      go (Some t) = properties_have t e h

  -- ---- labels

  abbrev Shows : Shown → Type 0
  Shows x = P x.span

  clauses_have : (t : Table) (n : ℕ) (e : ElementDef) (ls : List LabelDef) → AllByRecursion (LabelHas P) ls → AllByRecursion Shows (shown_of t n e ls)
  clauses_have t n e ls h = each (LabelHas P) Shows (λ l. cond (is_sound_label t l.properties) (shown t n e l ∷ []) []) one ls h
    where
      go : (l : LabelDef) → LabelHas P l → (b : Bool) → AllByRecursion Shows (cond b (shown t n e l ∷ []) [])
      go l h true = (h.0, tt)
      go l h false = tt

      one : (l : LabelDef) → LabelHas P l → AllByRecursion Shows (cond (is_sound_label t l.properties) (shown t n e l ∷ []) [])
      one l h = go l h (is_sound_label t l.properties)

  labels_have : (ts : List Table) (n : ℕ) (e : ElementDef) → ElementHas P e → AllByRecursion Shows (shown_in ts n e)
  labels_have ts n e h = go (named_table ts e.table.name)
    where
      go : (o : Option Table) → AllByRecursion Shows (shown_under o n e)
      go None = tt
      go (Some t) = clauses_have t n e e.labels h.labels

  all_labels_have : (ts : List Table) (n : ℕ) (es : List ElementDef) → AllByRecursion (ElementHas P) es → AllByRecursion Shows (shown_from ts n es)
  all_labels_have ts n [] h = tt
  all_labels_have ts n (e ∷ es) h = both Shows (shown_in ts n e) (shown_from ts (1 + n) es) (labels_have ts n e h.0) (all_labels_have ts (1 + n) es h.1)

  -- ---- faults at an element

  at_known : (o : Option Table) (e : ElementDef) → ElementHas P e → Have (faults_in_table o e)
  at_known None e h = tt
  at_known (Some t) e h =
      pair (unknown_in_key t e.key ++ flat_map (unknown_in_label t) e.labels ++ faults_of_key t e) (property_columns_differ (properties_of t e))
      (pair (unknown_in_key t e.key ++ flat_map (unknown_in_label t) e.labels) (faults_of_key t e)
      (pair (unknown_in_key t e.key) (flat_map (unknown_in_label t) e.labels) (at_key_columns t e.key h.key)
      (each (LabelHas P) (λ f. P f.span) (unknown_in_label t) (at_label_columns t) e.labels h.labels))
      (pair (when (graphs.lacks_key t e) code.NoKey (element_name e).span) (key_not_unique t e.key)
      (at_when (graphs.lacks_key t e) code.NoKey (element_name e).span (name_has e h)) (at_key_kind t e.key h.key)))
      (at_clashing code.PropertyColumnsDiffer (λ (p : Exposed). p.span) _ _ [] (properties_of t e) (properties_have t e h))

  at_element : (ts : List Table) (e : ElementDef) → ElementHas P e → Have (faults_of_element ts e)
  unfolding faults_of_element
  at_element ts e h =
      pair (graphs.unknown_table ts e ++ duplicates_in_key e.key ++ flat_map duplicates_in_label e.labels ++ duplicate_labels e) (faults_in_table (named_table ts e.table.name) e)
      (pair (graphs.unknown_table ts e ++ duplicates_in_key e.key ++ flat_map duplicates_in_label e.labels) (duplicate_labels e)
      (pair (graphs.unknown_table ts e ++ duplicates_in_key e.key) (flat_map duplicates_in_label e.labels)
      (pair (graphs.unknown_table ts e) (duplicates_in_key e.key) (at_when (not (is_some (named_table ts e.table.name))) code.UnknownTable e.table.span h.table)
      (at_key_list e.key h.key))
      (each (LabelHas P) (λ f. P f.span) duplicates_in_label at_label_list e.labels h.labels))
      (at_repeated code.DuplicateLabel [] (map (label_name e) e.labels) (mapped (LabelHas P) (λ (n : Named). P n.span) (label_name e) (λ l g. g.0) e.labels h.labels)))
      (at_known (named_table ts e.table.name) e h)

  -- ---- faults at an end

  vertex_has : (end : EndDef) → EndHas P end → P (end_vertex end).span
  vertex_has (Short vertex) h = h
  vertex_has (Full own vertex listed) h = h.1

  own_have : (end : EndDef) → EndHas P end → NamesHave P (own_columns end)
  own_have (Short vertex) h = tt
  own_have (Full own vertex listed) h = h.0

  at_end_lists : (end : EndDef) → EndHas P end → Have (duplicates_in_end end)
  at_end_lists (Short vertex) h = tt
  at_end_lists (Full own vertex listed) h = pair _ _ (at_repeated code.DuplicateColumn [] own h.0) (at_repeated code.DuplicateColumn [] listed h.2)

  at_mismatch : (t u : Table) (key : Option (List ℕ)) (r : Reference) (vertex : Named) → P vertex.span → Have (reference_mismatch t u key r vertex)
  at_mismatch t u None r vertex h = tt
  at_mismatch t u (Some key) r vertex h = at_when (graphs.is_mismatch t u key r.columns r.targets) code.EndKeyMismatch vertex.span h

  at_short : (t u : Table) (key : Option (List ℕ)) (rs : List Reference) (vertex : Named) → P vertex.span → Have (faults_of_short t u key rs vertex)
  at_short t u key [] vertex h = (h, tt)
  at_short t u key (r ∷ []) vertex h = at_mismatch t u key r vertex h
  at_short t u key (r ∷ s ∷ more) vertex h = (h, tt)

  at_full : (t u : Table) (key : Option (List ℕ)) (own : List Named) (vertex : Named) (listed : List Named) → P vertex.span → Have (faults_of_full t u key own vertex listed)
  at_full t u None own vertex listed h = tt
  at_full t u (Some key) own vertex listed h = at_when (graphs.is_full_mismatch t u key own listed) code.EndKeyMismatch vertex.span h

  at_vertex : (ts : List Table) (t : Table) (v : ElementDef) (u : Table) (end : EndDef) → EndHas P end → Have (faults_at_vertex ts t v u end)
  at_vertex ts t v u (Short vertex) h = at_short t u (key_places u v) (references_to t (graphs.table_place ts v.table.name)) vertex h
  at_vertex ts t v u (Full own vertex listed) h =
      pair (flat_map (unknown_column u) listed) (faults_of_full t u (key_places u v) own vertex listed) (at_columns u listed h.2)
      (at_full t u (key_places u v) own vertex listed h.1)

  at_vertex_table : (ts : List Table) (t : Table) (v : ElementDef) (o : Option Table) (end : EndDef) → EndHas P end → Have (faults_with_table ts t v o end)
  at_vertex_table ts t v None end h = tt
  at_vertex_table ts t v (Some u) end h = at_vertex ts t v u end h

  at_named_vertex : (ts : List Table) (t : Table) (o : Option ElementDef) (end : EndDef) → EndHas P end → Have (faults_with_vertex ts t o end)
  at_named_vertex ts t None end h = tt
  at_named_vertex ts t (Some v) end h = at_vertex_table ts t v (named_table ts v.table.name) end h

  at_own : (ts : List Table) (g : GraphDef) (o : Option Table) (end : EndDef) → EndHas P end → Have (faults_with_own ts g o end)
  at_own ts g None end h = tt
  at_own ts g (Some t) end h =
      pair (flat_map (unknown_column t) (own_columns end)) (faults_with_vertex ts t (vertex_named g (end_vertex end).name) end)
      (at_columns t (own_columns end) (own_have end h)) (at_named_vertex ts t (vertex_named g (end_vertex end).name) end h)

  at_end : (ts : List Table) (g : GraphDef) (o : Option Table) (end : EndDef) → EndHas P end → Have (faults_of_end ts g o end)
  unfolding faults_of_end
  at_end ts g o end h =
      pair (duplicates_in_end end ++ unknown_vertex g (end_vertex end)) (faults_with_own ts g o end)
      (pair (duplicates_in_end end) (unknown_vertex g (end_vertex end)) (at_end_lists end h) (at_when (not (is_some (vertex_named g (end_vertex end).name))) code.UnknownVertex
      (end_vertex end).span (vertex_has end h)))
      (at_own ts g o end h)

  at_edge : (ts : List Table) (g : GraphDef) (e : EdgeDef) → EdgeHas P e → Have (faults_of_edge ts g e)
  unfolding faults_of_edge
  at_edge ts g e h =
      pair (faults_of_end ts g (named_table ts e.element.table.name) e.source) (faults_of_end ts g (named_table ts e.element.table.name) e.destination)
      (at_end ts g (named_table ts e.element.table.name) e.source h.source) (at_end ts g (named_table ts e.element.table.name) e.destination h.destination)

  -- ---- graphs

  elements_have : (g : GraphDef) → GraphHas P g → AllByRecursion (ElementHas P) (elements g)
  elements_have g h = both (ElementHas P) g.vertices (map (λ (e : EdgeDef). e.element) g.edges) h.vertices
      (mapped (EdgeHas P) (ElementHas P) (λ e. e.element) (λ e k. k.element) g.edges h.edges)

  at_elements_names : (es : List ElementDef) → AllByRecursion (ElementHas P) es → NamesHave P (map element_name es)
  at_elements_names es h = mapped (ElementHas P) (λ (n : Named). P n.span) element_name name_has es h

  at_graph : (ts : List Table) (g : GraphDef) → GraphHas P g → Have (faults_of_graph ts g)
  unfolding faults_of_graph
  at_graph ts g h =
      let all : AllByRecursion (ElementHas P) (elements g) = elements_have g h in
      pair (duplicate_elements g ++ flat_map (faults_of_element ts) (elements g) ++ flat_map (faults_of_edge ts g) g.edges ++ label_properties_differ
      (shown_from ts 0 (elements g))) (property_classes_differ (flat_map (properties_in ts) (elements g)))
      (pair (duplicate_elements g ++ flat_map (faults_of_element ts) (elements g) ++ flat_map (faults_of_edge ts g) g.edges)
      (label_properties_differ (shown_from ts 0 (elements g)))
      (pair (duplicate_elements g ++ flat_map (faults_of_element ts) (elements g)) (flat_map (faults_of_edge ts g) g.edges)
      (pair (duplicate_elements g) (flat_map (faults_of_element ts) (elements g))
      (at_repeated code.DuplicateElement [] (map element_name (elements g)) (at_elements_names (elements g) all))
      (each (ElementHas P) (λ f. P f.span) (faults_of_element ts) (at_element ts) (elements g) all))
      (each (EdgeHas P) (λ f. P f.span) (faults_of_edge ts g) (at_edge ts g) g.edges h.edges))
      (at_clashing code.LabelPropertiesDiffer (λ (l : Shown). l.span) _ _ [] (shown_from ts 0 (elements g)) (all_labels_have ts 0 (elements g) all)))
      (at_clashing code.PropertyClassesDiffer (λ (p : Exposed). p.span) _ _ [] (flat_map (properties_in ts) (elements g))
      (each (ElementHas P) Exposes (properties_in ts) (all_properties_have ts) (elements g) all))

  at_graphs : (ts : List Table) (ss : List Statement) → AllByRecursion (StatementHas P) ss → Have (graph_faults ts ss)
  unfolding graph_faults
  at_graphs ts ss h =
      let gs : List GraphDef = graphs_among ss in
      let all : AllByRecursion (GraphHas P) gs = graphs_have ss h in
      pair (duplicate_graphs gs) (flat_map (faults_of_graph ts) gs)
      (at_repeated code.DuplicateGraph [] (map (λ (g : GraphDef). g.name) gs) (mapped (GraphHas P) (λ (n : Named). P n.span) (λ g. g.name) (λ g k. k.name) gs all))
      (each (GraphHas P) (λ f. P f.span) (faults_of_graph ts) (at_graph ts) gs all)

  -- ---- limits

  at_past : (limit : ℕ) (names : List Named) → NamesHave P names → Have (past limit names)
  at_past limit [] h = tt
  at_past zero (n ∷ names) h = (h.0, tt)
  at_past (suc limit) (n ∷ names) h = at_past limit names h.1

  at_long : (k : RuleKind) → KindHas P k → Have (long_rule k)
  at_long (Primary names) h = at_past 8 names h
  at_long (Unique names) h = at_past 8 names h
  at_long (Foreign own target listed) h = at_past 8 own h.0
  at_long NotNull h = tt
  at_long Default h = tt
  at_long Check h = tt

  at_long_key : (o : Option KeyDef) → KeyHas P o → Have (long_key o)
  at_long_key None h = tt
  at_long_key (Some key) h = at_past 8 key.columns h.1

  at_large_table : (t : TableDef) → TableHas P t → Have (large_table t)
  unfolding large_table
  at_large_table t h =
      pair (past 256 (map (λ (c : ColumnDef). c.name) t.columns)) (flat_map (λ (r : RuleDef). long_rule r.kind) (rules_of t))
      (at_past 256 (map (λ (c : ColumnDef). c.name) t.columns) (mapped (ColumnHas P) (λ (n : Named). P n.span) (λ c. c.name) (λ c g. g.name) t.columns h.columns))
      (each (RuleHas P) (λ f. P f.span) (λ (r : RuleDef). long_rule r.kind) (λ r g. at_long r.kind g.1) (rules_of t) (rules_have t h))

  at_large_element : (e : ElementDef) → ElementHas P e → Have (large_element e)
  unfolding large_element
  at_large_element e h =
      pair (long_key e.key) (past 16 (map (label_name e) e.labels)) (at_long_key e.key h.key)
      (at_past 16 (map (label_name e) e.labels) (mapped (LabelHas P) (λ (n : Named). P n.span) (label_name e) (λ l g. g.0) e.labels h.labels))

  at_large_edge : (e : EdgeDef) → EdgeHas P e → Have (large_edge e)
  unfolding large_edge
  at_large_edge e h =
      pair (long_list (own_columns e.source)) (long_list (own_columns e.destination)) (at_past 8 (own_columns e.source) (own_have e.source h.source))
      (at_past 8 (own_columns e.destination) (own_have e.destination h.destination))

  at_large_graph : (g : GraphDef) → GraphHas P g → Have (large_graph g)
  unfolding large_graph
  at_large_graph g h =
      let all : AllByRecursion (ElementHas P) (elements g) = elements_have g h in
      pair (past 64 (map element_name (elements g)) ++ flat_map large_element (elements g)) (flat_map large_edge g.edges)
      (pair (past 64 (map element_name (elements g))) (flat_map large_element (elements g))
      (at_past 64 (map element_name (elements g)) (at_elements_names (elements g) all))
      (each (ElementHas P) (λ f. P f.span) large_element at_large_element (elements g) all))
      (each (EdgeHas P) (λ f. P f.span) large_edge at_large_edge g.edges h.edges)

  at_sizes : (ss : List Statement) → AllByRecursion (StatementHas P) ss → Have (size_faults ss)
  unfolding size_faults
  at_sizes ss h =
      let ts : List TableDef = tables_among ss in
      let gs : List GraphDef = graphs_among ss in
      let tables_all : AllByRecursion (TableHas P) ts = tables_have ss h in
      pair (past 256 (map (λ (t : TableDef). t.name) ts) ++ flat_map large_table ts) (flat_map large_graph gs)
      (pair (past 256 (map (λ (t : TableDef). t.name) ts)) (flat_map large_table ts)
      (at_past 256 (map (λ (t : TableDef). t.name) ts) (mapped (TableHas P) (λ (n : Named). P n.span) (λ t. t.name) (λ t g. g.name) ts tables_all))
      (each (TableHas P) (λ f. P f.span) large_table at_large_table ts tables_all))
      (each (GraphHas P) (λ f. P f.span) large_graph at_large_graph gs (graphs_have ss h))

  pub at_first_fault : (tree : SchemaTree) → EachSpanHas P tree → Found (first_fault tree)
  unfolding first_fault
  at_first_fault tree h =
      at_or (first_of None (table_faults tree)) (or_then (first_of None (graph_faults (tables_of tree) tree.statements)) (first_of None (size_faults tree.statements)))
      (at_first None (table_faults tree) tt (at_tables tree h))
      (at_or (first_of None (graph_faults (tables_of tree) tree.statements)) (first_of None (size_faults tree.statements))
      (at_first None (graph_faults (tables_of tree) tree.statements) tt (at_graphs (tables_of tree) tree.statements h))
      (at_first None (size_faults tree.statements) tt (at_sizes tree.statements h)))
