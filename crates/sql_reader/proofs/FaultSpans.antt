-- What holds of each span of an SQL text's tree holds of the span of each fault.
use Rattle.std.proofs.Common.{ℕ, zero, suc, ◌==◌, Bool, true, false, not, cond, List, [], ◌∷◌, ◌++◌, map, drop, length, sym, ap, subst, Option, None, Some, is_some}
use Rattle.std.specs.List.{flat_map, AllByRecursion}
use Rattle.pgq_base.specs.declared.refusal.Span.{Span}
use Rattle.pgq_base.specs.declared.code.Code.{Code}
use Rattle.pgq_base.specs.declared.code.Code.TheVariants as code
use Rattle.pgq_base.specs.declared.value.Class.{Class}
use Rattle.expr_tree.specs.declared.tree.Expr.{Expr, Expr-F, map-Expr, ind-Expr, fold-roll-Expr}
use Rattle.expr_tree.specs.Classes.{same_class}
use Rattle.expr_tree.specs.Leaves.{leaves_in}
use Rattle.expr_tree.proofs.Folds.{parts}
use Rattle.graph_ast.specs.declared.catalog.Catalog.{Catalog}
use Rattle.graph_ast.specs.declared.catalog.Table.{Table}
use Rattle.condition_grammar.specs.declared.spanned.Spanned.{Spanned}
use Rattle.condition_grammar.specs.Spans.{first_span, without_first, span_of}
use Rattle.sql_algebra.specs.declared.text.SqlText.{SqlText}
use Rattle.sql_algebra.specs.declared.text.SelectText.{SelectText, SelectText-F, ind-SelectText, map-SelectText, out-SelectText, fold-roll-SelectText}
use Rattle.sql_algebra.specs.declared.text.ConjunctText.{ConjunctText, ConjunctText-F, map-ConjunctText, fold-roll-ConjunctText}
use Rattle.sql_algebra.specs.declared.text.ColumnText.{ColumnText}
use Rattle.sql_algebra.specs.declared.text.ItemText.{ItemText}
use Rattle.sql_algebra.specs.declared.text.ColumnRef.{ColumnRef}
use Rattle.sql_algebra.specs.Catalogs.{table_named, column_named}
use Rattle.sql_algebra.specs.Soundness.{is_in}
use Rattle.first_faults.specs.declared.faults.Fault.{Fault}
use Rattle.first_faults.specs.Faults.{when, is_before, earlier, first_of}
use Rattle.sql_parser.specs.Spans as tree
use Rattle.sql_parser.specs.Spans.{leaf_spans, condition_spans, column_spans, on_spans, item_spans, all_spans, select_spans, conjunct_spans, text_spans}
use Rattle.sql_reader.specs.declared.types.Demand.{Demand}
use Rattle.sql_reader.specs.declared.phases.Phase.{Phase}
use Rattle.sql_reader.specs.declared.phases.Phase.TheVariants.{Names, Types}
use Rattle.sql_reader.specs.Reaches.{Placed, Reach, placed, item_of, reach_within}
use Rattle.sql_reader.specs.Names.{unknown_column, leaf_at, leaf_names, value_names, unknown_table, repeated_aliases, repeated_columns}
use Rattle.sql_reader.specs.Types.{Typed, leaf_class, mismatch, truth_asked, class_asked, operand_faults, operands_faults, differing, test_asked, typed_step, typed}
use Rattle.sql_reader.specs.Phases as phases
use Rattle.sql_reader.specs.Phases.{first_fault, or_then}
use Rattle.sql_reader.specs.Phases.{value_faults, condition_faults, given_faults, chain_to, members_of, on_faults, select_faults, conjunct_faults, column_class, column_classes}
use Rattle.sql_reader.specs.Phases.{differing_items, later_faults, united_faults, union_faults, faults_in}

-- It holds of what stands for the first of no spans, too.
module _ (P : Span → Type 0) (nowhere : P (first_span [])) where
  abbrev Have : List Fault → Type 0
  Have faults = AllByRecursion (λ f. P f.span) faults

  abbrev All : List Span → Type 0
  All spans = AllByRecursion P spans

  -- ---- lists

  both : (xs ys : List Fault) → Have xs → Have ys → Have (xs ++ ys)
  both [] ys h g = g
  both (x ∷ xs) ys h g = (h.0, both xs ys h.1 g)

  at_when : (b : Bool) (c : Code) (s : Span) → P s → Have (when b c s)
  at_when true c s h = (h, tt)
  at_when false c s h = tt

  each : {X : Type 0} (f : X → List Fault) (spans : X → List Span) → ((x : X) → All (spans x) → Have (f x)) → (xs : List X) → All (flat_map spans xs) → Have (flat_map f xs)
  each f spans step [] h = tt
  each f spans step (x ∷ xs) h = let two = parts P (spans x) (flat_map spans xs) h in both (f x) (flat_map f xs) (step x two.0) (each f spans step xs two.1)

  first_has : (spans : List Span) → All spans → P (first_span spans)
  first_has [] h = nowhere
  first_has (s ∷ spans) h = h.0

  rest_have : (spans : List Span) → All spans → All (without_first spans)
  rest_have [] h = tt
  rest_have (s ∷ spans) h = h.1

  drop_have : (n : ℕ) (spans : List Span) → All spans → All (drop n spans)
  drop_have zero [] h = tt
  drop_have zero (s ∷ spans) h = h
  drop_have (suc n) [] h = tt
  drop_have (suc n) (s ∷ spans) h = drop_have n spans h.1

  -- ---- the names of an expression

  at_column : (l : ColumnRef) (o : Option Table) → All (leaf_spans l) → Have (unknown_column l o)
  at_column l None h = tt
  at_column l (Some table) h = at_when (not (is_some (column_named table l.column.name))) code.UnknownColumn l.column.span h.1.0

  at_place : (l : ColumnRef) (o : Option Placed) → All (leaf_spans l) → Have (leaf_at l o)
  at_place l None h = at_when true code.UnknownColumn l.alias.span h.0
  at_place l (Some item) h = at_column l item.table h

  at_names : (reach : Reach) (v : Spanned ColumnRef) → All (condition_spans v) → Have (value_names reach v)
  at_names reach v h =
      each (leaf_names reach) leaf_spans (λ l k. at_place l (item_of reach l.alias.name) k) (leaves_in v.tree) (parts P v.spans (flat_map leaf_spans (leaves_in v.tree)) h).1

  -- ---- the classes in an expression

  abbrev Finds : Typed → Type 0
  Finds t = (spans : List Span) → All spans → Have (t.faults spans)

  at_mismatch : (d : Option Demand) (c : Class) (s : Span) → P s → Have (mismatch d c s)
  at_mismatch None c s h = tt
  at_mismatch (Some demand) c s h = at_when (not (same_class demand.class c)) demand.code s h

  at_operand : (d : Option Demand) (t : Typed) → Finds t → (spans : List Span) → All spans → Have (operand_faults d t spans)
  at_operand d t f spans h = both (t.faults spans) (mismatch d t.class (first_span spans)) (f spans h) (at_mismatch d t.class (first_span spans) (first_has spans h))

  at_operands : (d : Option Demand) (ts : List Typed) → AllByRecursion Finds ts → (spans : List Span) → All spans → Have (operands_faults d ts spans)
  at_operands d [] f spans h = tt
  at_operands d (t ∷ ts) f spans h =
      both (operand_faults d t spans) (operands_faults d ts (drop t.nodes spans)) (at_operand d t f.0 spans h)
      (at_operands d ts f.1 (drop t.nodes spans) (drop_have t.nodes spans h))

  at_differing : (ts : List Typed) → AllByRecursion Finds ts → (spans : List Span) → All spans → Have (differing ts spans)
  at_differing [] f spans h = tt
  at_differing (t ∷ ts) f spans h =
      both (operand_faults None t spans) (operands_faults (class_asked t.class) ts (drop t.nodes spans)) (at_operand None t f.0 spans h)
      (at_operands (class_asked t.class) ts f.1 (drop t.nodes spans) (drop_have t.nodes spans h))

  module _ (leaf : ColumnRef → Class) where
    abbrev Told : Expr ColumnRef → Type 0
    Told e = Finds (typed leaf e)

    abbrev Child : Type 0
    Child = (e : Expr ColumnRef) × Told e

    abbrev bare : Child → Expr ColumnRef
    bare c = c.0

    abbrev all_typed : List Child → List Typed
    all_typed cs = map (typed leaf) (map bare cs)

    all_told : (cs : List Child) → AllByRecursion Finds (all_typed cs)
    all_told [] = tt
    all_told (c ∷ cs) = (c.1, all_told cs)

    abbrev Layer : Expr-F ColumnRef (Expr ColumnRef) → Type 0
    Layer x = Finds (typed_step leaf (map-Expr ColumnRef (Expr ColumnRef) Typed (typed leaf) x))

    at_node : (y : Expr-F ColumnRef Child) → Layer (map-Expr ColumnRef Child (Expr ColumnRef) bare y)
    at_node (Expr-F.Lit v) spans h = tt
    at_node (Expr-F.Null c) spans h = tt
    at_node (Expr-F.Leaf l) spans h = tt
    at_node (Expr-F.Compare op a b) spans h = at_differing (all_typed (a ∷ b ∷ [])) (all_told (a ∷ b ∷ [])) (without_first spans) (rest_have spans h)
    at_node (Expr-F.All es) spans h = at_operands truth_asked (all_typed es) (all_told es) (without_first spans) (rest_have spans h)
    at_node (Expr-F.Any es) spans h = at_operands truth_asked (all_typed es) (all_told es) (without_first spans) (rest_have spans h)
    at_node (Expr-F.Not a) spans h = at_operands truth_asked (all_typed (a ∷ [])) (all_told (a ∷ [])) (without_first spans) (rest_have spans h)
    at_node (Expr-F.Is a t n) spans h = at_operands (test_asked t) (all_typed (a ∷ [])) (all_told (a ∷ [])) (without_first spans) (rest_have spans h)
    at_node (Expr-F.InList a es n) spans h = at_differing (all_typed (a ∷ es)) (all_told (a ∷ es)) (without_first spans) (rest_have spans h)
    at_node (Expr-F.Between a b c n) spans h = at_differing (all_typed (a ∷ b ∷ c ∷ [])) (all_told (a ∷ b ∷ c ∷ [])) (without_first spans) (rest_have spans h)
    at_node (Expr-F.Coalesce es) spans h = at_differing (all_typed es) (all_told es) (without_first spans) (rest_have spans h)

    told : (e : Expr ColumnRef) → Told e
    told = ind-Expr ColumnRef Told (λ x y is. subst Finds (sym (fold-roll-Expr ColumnRef Typed (typed_step leaf) x)) (subst Layer is (at_node y)))

  at_types : (d : Option Demand) (reach : Reach) (v : Spanned ColumnRef) → All (condition_spans v) → Have (operand_faults d (typed (leaf_class reach) v.tree) v.spans)
  at_types d reach v h = at_operand d (typed (leaf_class reach) v.tree) (told (leaf_class reach) v.tree) v.spans (parts P v.spans (flat_map leaf_spans (leaves_in v.tree)) h).0

  at_value : (phase : Phase) (reach : Reach) (v : Spanned ColumnRef) → All (condition_spans v) → Have (value_faults phase reach v)
  at_value Names reach v h = at_names reach v h
  at_value Types reach v h = at_types None reach v h

  at_condition : (phase : Phase) (reach : Reach) (v : Spanned ColumnRef) → All (condition_spans v) → Have (condition_faults phase reach v)
  at_condition Names reach v h = at_names reach v h
  at_condition Types reach v h = at_types truth_asked reach v h

  -- ---- selects

  at_columns : (before : List (List ℕ)) (columns : List ColumnText) → All (flat_map column_spans columns) → Have (repeated_columns before columns)
  at_columns before [] h = tt
  at_columns before (c ∷ columns) h =
      let two = parts P (column_spans c) (flat_map column_spans columns) h in
      both (when (is_in c.name.name before) code.DuplicateColumnName c.name.span) (repeated_columns (before ++ c.name.name ∷ []) columns)
      (at_when (is_in c.name.name before) code.DuplicateColumnName c.name.span two.0.0) (at_columns (before ++ c.name.name ∷ []) columns two.1)

  module _ (catalog : Catalog) where
    at_table : (i : ItemText) → All (item_spans i) → Have (unknown_table catalog i)
    at_table i h = at_when (not (is_some (table_named catalog i.table.name))) code.UnknownTable i.table.span h.0

    at_aliases : (outer before : Reach) (items : List ItemText) → All (flat_map item_spans items) → Have (repeated_aliases catalog outer before items)
    at_aliases outer before [] h = tt
    at_aliases outer before (i ∷ items) h =
        let two = parts P (item_spans i) (flat_map item_spans items) h in
        both (when (is_some (item_of (before ++ outer) i.alias.name)) code.DuplicateColumnName i.alias.span)
        (repeated_aliases catalog outer (before ++ placed catalog i ∷ []) items)
        (at_when (is_some (item_of (before ++ outer) i.alias.name)) code.DuplicateColumnName i.alias.span two.0.1.0)
        (at_aliases outer (before ++ placed catalog i ∷ []) items two.1)

    at_given : (phase : Phase) (outer : Reach) (columns : List ColumnText) (items : List ItemText) → All (flat_map column_spans columns) → All (flat_map item_spans items)
        → Have (given_faults phase catalog outer columns items)
    at_given Names outer columns items h g =
        both (repeated_columns [] columns) (flat_map (unknown_table catalog) items ++ repeated_aliases catalog outer [] items) (at_columns [] columns h)
        (both (flat_map (unknown_table catalog) items) (repeated_aliases catalog outer [] items)
        (each (unknown_table catalog) item_spans at_table items g) (at_aliases outer [] items g))
    at_given Types outer columns items h g = tt

    at_members : (phase : Phase) (reach : Reach) (o : Option (List (Spanned ColumnRef))) → All (on_spans o) → Have (flat_map (condition_faults phase reach) (members_of o))
    at_members phase reach None h = tt
    at_members phase reach (Some members) h = each (condition_faults phase reach) condition_spans (at_condition phase reach) members h

    at_ons : (phase : Phase) (outer before : Reach) (items : List ItemText) → All (flat_map item_spans items) → Have (on_faults phase catalog outer before items)
    at_ons phase outer before [] h = tt
    at_ons phase outer before (i ∷ items) h =
        let two = parts P (item_spans i) (flat_map item_spans items) h in
        let chain : Reach = chain_to catalog before i i.on in
        both (flat_map (condition_faults phase (chain ++ outer)) (members_of i.on)) (on_faults phase catalog outer chain items)
        (at_members phase (chain ++ outer) i.on two.0.1.1) (at_ons phase outer chain items two.1)

    module _ (phase : Phase) where
      abbrev Layer-Faults : Type 0
      Layer-Faults = Reach → List Fault

      abbrev ConjunctTold : ConjunctText → Type 0
      ConjunctTold c = (reach : Reach) → All (conjunct_spans c) → Have (conjunct_faults phase catalog c reach)

      abbrev SelectTold : SelectText → Type 0
      SelectTold t = (reach : Reach) → All (select_spans t) → Have (select_faults phase catalog t reach)

      abbrev OneConjunct : Type 0
      OneConjunct = (c : ConjunctText) × ConjunctTold c

      abbrev OneSelect : Type 0
      OneSelect = (t : SelectText) × SelectTold t

      abbrev conjunct_of : OneConjunct → ConjunctText
      conjunct_of c = c.0

      abbrev select_of : OneSelect → SelectText
      select_of t = t.0

      abbrev ConjunctLayer : ConjunctText-F ConjunctText SelectText → Type 0
      ConjunctLayer x = (reach : Reach) → All (tree.conjunct_step (map-ConjunctText ConjunctText SelectText (List Span) (List Span) conjunct_spans select_spans x))
          → Have (phases.conjunct_step phase
          (map-ConjunctText ConjunctText SelectText Layer-Faults Layer-Faults (conjunct_faults phase catalog) (select_faults phase catalog) x) reach)

      abbrev SelectLayer : SelectText-F ConjunctText SelectText → Type 0
      SelectLayer x = (reach : Reach) → All (tree.select_step (map-SelectText ConjunctText SelectText (List Span) (List Span) conjunct_spans select_spans x))
          → Have (phases.select_step phase catalog
          (map-SelectText ConjunctText SelectText Layer-Faults Layer-Faults (conjunct_faults phase catalog) (select_faults phase catalog) x) reach)

      conjunct_node : (y : ConjunctText-F OneConjunct OneSelect) → ConjunctLayer (map-ConjunctText OneConjunct OneSelect ConjunctText SelectText conjunct_of select_of y)
      conjunct_node (ConjunctText-F.Plain v) reach h = at_condition phase reach v h
      conjunct_node (ConjunctText-F.NotExists t) reach h = t.1 reach h

      abbrev found_in : Reach → List OneConjunct → List Fault
      found_in reach cs = flat_map (λ (f : Layer-Faults). f reach) (map (conjunct_faults phase catalog) (map conjunct_of cs))

      abbrev spans_of : List OneConjunct → List Span
      spans_of cs = all_spans (map conjunct_spans (map conjunct_of cs))

      conjuncts_told : (reach : Reach) (cs : List OneConjunct) → All (spans_of cs) → Have (found_in reach cs)
      conjuncts_told reach [] h = tt
      conjuncts_told reach (c ∷ cs) h =
          let two = parts P (conjunct_spans c.0) (spans_of cs) h in
          both (conjunct_faults phase catalog c.0 reach) (found_in reach cs) (c.1 reach two.0) (conjuncts_told reach cs two.1)

      select_node : (y : SelectText-F OneConjunct OneSelect) → SelectLayer (map-SelectText OneConjunct OneSelect ConjunctText SelectText conjunct_of select_of y)
      select_node y outer h =
          let reach : Reach = reach_within catalog outer y.from in
          let one = parts P (flat_map column_spans y.columns) (flat_map item_spans y.from ++ spans_of y.conjuncts) h.1 in
          let two = parts P (flat_map item_spans y.from) (spans_of y.conjuncts) one.1 in
          let values : List Fault = flat_map (λ (c : ColumnText). value_faults phase reach c.value) y.columns in
          let ons : List Fault = on_faults phase catalog outer [] y.from in
          both (given_faults phase catalog outer y.columns y.from) (values ++ (ons ++ found_in reach y.conjuncts)) (at_given phase outer y.columns y.from one.0 two.0)
          (both values (ons ++ found_in reach y.conjuncts)
          (each (λ (c : ColumnText). value_faults phase reach c.value) column_spans (λ c k. at_value phase reach c.value k.1) y.columns one.0)
          (both ons (found_in reach y.conjuncts) (at_ons phase outer [] y.from two.0) (conjuncts_told reach y.conjuncts two.1)))

      select_told : (t : SelectText) → SelectTold t
      select_told = ind-SelectText ConjunctTold SelectTold
          (λ x z is reach h.
          subst Have (sym (ap (λ (f : Layer-Faults). f reach) (fold-roll-ConjunctText Layer-Faults Layer-Faults (phases.conjunct_step phase) (phases.select_step phase catalog) x)))
          (subst ConjunctLayer is (conjunct_node z) reach (subst All (fold-roll-ConjunctText (List Span) (List Span) tree.conjunct_step tree.select_step x) h)))
          (λ x z is reach h.
          subst Have (sym (ap (λ (f : Layer-Faults). f reach) (fold-roll-SelectText Layer-Faults Layer-Faults (phases.conjunct_step phase) (phases.select_step phase catalog) x)))
          (subst SelectLayer is (select_node z) reach (subst All (fold-roll-SelectText (List Span) (List Span) tree.conjunct_step tree.select_step x) h)))

    -- ---- the selects of a UNION ALL

    at_items : (select : SelectText) (classes : List Class) (columns : List ColumnText) → All (flat_map column_spans columns)
        → Have (differing_items catalog select classes columns)
    at_items select [] columns h = tt
    at_items select (k ∷ classes) [] h = tt
    at_items select (k ∷ classes) (c ∷ columns) h =
        let two = parts P (column_spans c) (flat_map column_spans columns) h in
        let own = parts P c.value.spans (flat_map leaf_spans (leaves_in c.value.tree)) two.0.1 in
        both (when (not (same_class k (column_class catalog select c))) code.ClassesDiffer (span_of c.value)) (differing_items catalog select classes columns)
        (at_when (not (same_class k (column_class catalog select c))) code.ClassesDiffer (span_of c.value) (first_has c.value.spans own.0)) (at_items select classes columns two.1)

    at_later : (classes : List Class) (select : SelectText) → All (select_spans select) → Have (later_faults catalog classes select)
    at_later classes select h = by (length classes == length select.columns)
      where
        all : All (tree.select_step (record { word = select.word; columns = select.columns; from = select.from; conjuncts = map conjunct_spans select.conjuncts }))
        all = subst All (fold-roll-SelectText (List Span) (List Span) tree.conjunct_step tree.select_step (out-SelectText select)) h

        by : (b : Bool) → Have (cond b (differing_items catalog select classes select.columns) (when true code.ClassesDiffer select.word))
        by true = at_items select classes select.columns
            (parts P (flat_map column_spans select.columns) (flat_map item_spans select.from ++ all_spans (map conjunct_spans select.conjuncts)) all.1).0
        by false = at_when true code.ClassesDiffer select.word all.0

    at_united : (selects : List SelectText) → All (flat_map select_spans selects) → Have (united_faults catalog selects)
    at_united [] h = tt
    at_united (first ∷ later) h =
        each (later_faults catalog (column_classes catalog first)) select_spans (at_later (column_classes catalog first)) later
        (parts P (select_spans first) (flat_map select_spans later) h).1

    at_union : (phase : Phase) (selects : List SelectText) → All (flat_map select_spans selects) → Have (union_faults phase catalog selects)
    at_union Names selects h = tt
    at_union Types selects h = at_united selects h

    at_faults : (phase : Phase) (text : SqlText) → All (text_spans text) → Have (faults_in phase catalog text)
    at_faults phase text h =
        both (flat_map (λ (s : SelectText). select_faults phase catalog s []) text.selects) (union_faults phase catalog text.selects)
        (each (λ (s : SelectText). select_faults phase catalog s []) select_spans (λ s k. select_told phase s [] k) text.selects h) (at_union phase text.selects h)

    -- ---- the first of them

    abbrev pub Found : Option Fault → Type 0
    Found None = Unit {0}
    Found (Some f) = P f.span

    at_earlier : (first : Option Fault) (f : Fault) → Found first → P f.span → Found (earlier first f)
    unfolding earlier
    at_earlier None f h g = g
    at_earlier (Some e) f h g = by (is_before f e)
      where
        by : (b : Bool) → Found (cond b (Some f) (Some e))
        by true = g
        by false = h

    at_first : (first : Option Fault) (faults : List Fault) → Found first → Have faults → Found (first_of first faults)
    at_first first [] h g = h
    at_first first (f ∷ faults) h g = at_first (earlier first f) faults (at_earlier first f h g.0) g.1

    at_or : (a b : Option Fault) → Found a → Found b → Found (or_then a b)
    at_or None b h g = g
    at_or (Some f) b h g = h

    pub at_first_fault : (text : SqlText) → All (text_spans text) → Found (first_fault catalog text)
    at_first_fault text h =
        at_or (first_of None (faults_in Names catalog text)) (first_of None (faults_in Types catalog text))
        (at_first None (faults_in Names catalog text) tt (at_faults Names text h))
        (at_first None (faults_in Types catalog text) tt (at_faults Types text h))
