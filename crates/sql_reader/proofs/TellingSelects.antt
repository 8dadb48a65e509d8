-- The same of selects, and of whole texts.
use Rattle.std.proofs.Common.{◌≡◌, Bool, true, ◌&&◌, List, [], ◌∷◌, ◌++◌, map, refl, ap, ◌∙◌, subst, Option, None, Some, is_some, option_map}
use Rattle.std.specs.List.{list_all, flat_map}
use Rattle.expr_tree.specs.declared.tree.Expr.{Expr}
use Rattle.graph_ast.specs.declared.catalog.Catalog.{Catalog}
use Rattle.condition_grammar.specs.declared.spanned.Spanned.{Spanned}
use Rattle.sql_algebra.specs.declared.tree.ColumnLeaf.{ColumnLeaf}
use Rattle.sql_algebra.specs.declared.tree.FromItem.{FromItem}
use Rattle.sql_algebra.specs.declared.tree.SelectColumn.{SelectColumn}
use Rattle.sql_algebra.specs.declared.tree.Select.{Select}
use Rattle.sql_algebra.specs.declared.tree.Conjunct.{Conjunct}
use Rattle.sql_algebra.specs.declared.text.SelectText.{SelectText, SelectText-F, ind-SelectText, map-SelectText, fold-roll-SelectText}
use Rattle.sql_algebra.specs.declared.text.ConjunctText.{ConjunctText, ConjunctText-F, map-ConjunctText, fold-roll-ConjunctText}
use Rattle.sql_algebra.specs.declared.text.ColumnText.{ColumnText}
use Rattle.sql_algebra.specs.declared.text.ItemText.{ItemText}
use Rattle.sql_algebra.specs.declared.text.ColumnRef.{ColumnRef}
use Rattle.sql_algebra.specs.Catalogs.{table_named}
use Rattle.sql_algebra.specs.Soundness as s
use Rattle.sql_algebra.specs.Soundness.{differ_from}
use Rattle.sql_algebra.proofs.Folds.{select_sound, plain_sound, not_exists_sound}
use Rattle.sql_algebra.proofs.Folds as folds
use Rattle.first_faults.specs.declared.faults.Fault.{Fault}
use Rattle.sql_reader.specs.declared.phases.Phase.{Phase}
use Rattle.sql_reader.specs.declared.phases.Phase.TheVariants.{Names, Types}
use Rattle.sql_reader.specs.Reaches.{Reach, placed, items_placed, reach_within}
use Rattle.sql_reader.specs.Names.{unknown_table, repeated_aliases, repeated_columns}
use Rattle.sql_reader.specs.Phases as p
use Rattle.sql_reader.specs.Phases.{value_faults, condition_faults, given_faults, chain_to, members_of, on_faults, select_faults, conjunct_faults, column_class, column_classes}
use Rattle.sql_reader.specs.Phases.{differing_items, later_faults, united_faults, faults_in, or_then, first_fault}
use Rattle.sql_reader.specs.Queries as q
use Rattle.sql_reader.specs.Queries.{value_made, column_made, item_made, items_made, conjunct_made, select_made, query_of}
use Rattle.sql_reader.specs.Shapes as h
use Rattle.sql_reader.specs.Shapes.{value_is_shaped, item_is_shaped, conjunct_is_shaped, select_is_shaped, HasShape}
use Rattle.sql_reader.proofs.Clean.{no_fault, no_fault_append, no_fault_flat, both, pair, Tells, tells_nothing, tells_both, tells_all, tells_by}
use Rattle.sql_reader.proofs.Places.{reached, reached_append, made_reached, are_known, known_append, aliases, names_of, aliases_differ, columns_differ, tables_known}
use Rattle.sql_reader.proofs.Telling.{value_told, condition_told}

module _ (catalog : Catalog) where
  -- ---- ONs

  members_told : (items : s.Reach) → are_known (reached catalog items) ≡ true → (members : List (Spanned ColumnRef))
      → Tells (no_fault (flat_map (condition_faults Names (reached catalog items)) members)) (no_fault (flat_map (condition_faults Types (reached catalog items)) members))
      (list_all value_is_shaped members)
      (list_all (s.condition_is_sound catalog items) (map (value_made (reached catalog items)) members))
  members_told items known members =
      let reach : Reach = reached catalog items in
      tells_by _ _ _ _ _ _ _ _ (no_fault_flat (condition_faults Names reach) members) (no_fault_flat (condition_faults Types reach) members) refl refl
      (tells_all (λ m. no_fault (condition_faults Names reach m)) (λ m. no_fault (condition_faults Types reach m)) value_is_shaped (s.condition_is_sound catalog items)
      (value_made reach) (condition_told catalog items known) members)

  on_told : (items : s.Reach) → are_known (reached catalog items) ≡ true → (o : Option (List (Spanned ColumnRef)))
      → Tells (no_fault (flat_map (condition_faults Names (reached catalog items)) (members_of o)))
      (no_fault (flat_map (condition_faults Types (reached catalog items)) (members_of o))) (list_all value_is_shaped (members_of o))
      (s.on_is_sound catalog items (option_map (map (value_made (reached catalog items))) o))
  on_told items known None = tells_nothing
  on_told items known (Some members) = members_told items known members

  chain_reached : (before : s.Reach) (reach : Reach) (item : ItemText) (f : Spanned ColumnRef → Expr ColumnLeaf) (o : Option (List (Spanned ColumnRef)))
      → reached catalog (s.chain_to before (item_made reach item) (option_map (map f) o)) ≡ chain_to catalog (reached catalog before) item o
  chain_reached before reach item f None = refl
  chain_reached before reach item f (Some members) = reached_append catalog before (item_made reach item ∷ [])

  chain_known : (before : Reach) (item : ItemText) (o : Option (List (Spanned ColumnRef))) → are_known before ≡ true → is_some (table_named catalog item.table.name) ≡ true
      → are_known (chain_to catalog before item o) ≡ true
  chain_known before item None h g = pair (is_some (table_named catalog item.table.name)) true g refl
  chain_known before item (Some members) h g = known_append before (placed catalog item ∷ []) h (pair (is_some (table_named catalog item.table.name)) true g refl)

  module _ (around : s.Reach) (known_around : are_known (reached catalog around) ≡ true) where
    abbrev outer : Reach
    outer = reached catalog around

    abbrev OnsTold : s.Reach → Reach → List ItemText → Type 0
    OnsTold before chain items =
        Tells (no_fault (on_faults Names catalog outer chain items)) (no_fault (on_faults Types catalog outer chain items)) (list_all item_is_shaped items)
        (s.ons_are_sound catalog around before (items_made catalog outer chain items))

    ons_told : (before : s.Reach) → are_known (reached catalog before) ≡ true → (items : List ItemText) → are_known (items_placed catalog items) ≡ true
        → OnsTold before (reached catalog before) items
    ons_told before known [] all = tells_nothing
    ons_told before known (item ∷ items) all =
        let two = both (is_some (table_named catalog item.table.name)) (are_known (items_placed catalog items)) all in
        let chain : Reach = chain_to catalog (reached catalog before) item item.on in
        let made : FromItem = item_made (chain ++ outer) item in
        let after : s.Reach = s.chain_to before made made.on in
        let same : reached catalog after ≡ chain = chain_reached before (chain ++ outer) item (value_made (chain ++ outer)) item.on in
        let known_chain : are_known (reached catalog after) ≡ true = ap are_known same ∙ chain_known (reached catalog before) item item.on known two.0 in
        let joined : reached catalog (after ++ around) ≡ chain ++ outer = reached_append catalog after around ∙ ap (λ l. l ++ outer) same in
        let known_joined : are_known (reached catalog (after ++ around)) ≡ true = ap are_known (reached_append catalog after around)
        ∙ known_append (reached catalog after) outer known_chain known_around in
        let here = subst (λ r. Tells (no_fault (flat_map (condition_faults Names r) (members_of item.on))) (no_fault (flat_map (condition_faults Types r) (members_of item.on)))
        (item_is_shaped item)
        (s.on_is_sound catalog (after ++ around) (option_map (map (value_made r)) item.on))) joined (on_told (after ++ around) known_joined item.on) in
        let there : OnsTold after chain items = subst (λ r. OnsTold after r items) same (ons_told after known_chain items two.1) in
        tells_by _ _ _ _ _ _ _ _
        (no_fault_append (flat_map (condition_faults Names (chain ++ outer)) (members_of item.on)) (on_faults Names catalog outer chain items))
        (no_fault_append (flat_map (condition_faults Types (chain ++ outer)) (members_of item.on)) (on_faults Types catalog outer chain items))
        refl refl (tells_both _ _ _ _ _ _ _ _ here there)

  -- ---- selects

  abbrev sound_conjunct : Conjunct → s.Reach → Bool
  sound_conjunct = folds.conjunct_is_sound catalog

  abbrev ConjunctTold : ConjunctText → Type 0
  ConjunctTold c = (items : s.Reach) → are_known (reached catalog items) ≡ true →
      Tells (no_fault (conjunct_faults Names catalog c (reached catalog items))) (no_fault (conjunct_faults Types catalog c (reached catalog items))) (conjunct_is_shaped c)
      (sound_conjunct (conjunct_made catalog c (reached catalog items)) items)

  abbrev SelectTold : SelectText → Type 0
  SelectTold t = (around : s.Reach) → are_known (reached catalog around) ≡ true →
      Tells (no_fault (select_faults Names catalog t (reached catalog around))) (no_fault (select_faults Types catalog t (reached catalog around))) (select_is_shaped t)
      (s.select_is_sound catalog (select_made catalog t (reached catalog around)) around)

  abbrev OneConjunct : Type 0
  OneConjunct = (c : ConjunctText) × ConjunctTold c

  abbrev OneSelect : Type 0
  OneSelect = (t : SelectText) × SelectTold t

  abbrev conjunct_of : OneConjunct → ConjunctText
  conjunct_of c = c.0

  abbrev select_of : OneSelect → SelectText
  select_of t = t.0

  abbrev FaultLayer : Type 0
  FaultLayer = Reach → List Fault

  abbrev conjunct_finds : Phase → ConjunctText-F ConjunctText SelectText → Reach → List Fault
  conjunct_finds phase x = p.conjunct_step phase (map-ConjunctText ConjunctText SelectText FaultLayer FaultLayer (conjunct_faults phase catalog) (select_faults phase catalog) x)

  abbrev select_finds : Phase → SelectText-F ConjunctText SelectText → Reach → List Fault
  select_finds phase x = p.select_step phase catalog (map-SelectText ConjunctText SelectText FaultLayer FaultLayer (conjunct_faults phase catalog) (select_faults phase catalog) x)

  abbrev conjunct_makes : ConjunctText-F ConjunctText SelectText → Reach → Conjunct
  conjunct_makes x = q.conjunct_step (map-ConjunctText ConjunctText SelectText (Reach → Conjunct) (Reach → Select) (conjunct_made catalog) (select_made catalog) x)

  abbrev select_makes : SelectText-F ConjunctText SelectText → Reach → Select
  select_makes x = q.select_step catalog (map-SelectText ConjunctText SelectText (Reach → Conjunct) (Reach → Select) (conjunct_made catalog) (select_made catalog) x)

  abbrev conjunct_shape : ConjunctText-F ConjunctText SelectText → Bool
  conjunct_shape x = h.conjunct_step (map-ConjunctText ConjunctText SelectText Bool Bool conjunct_is_shaped select_is_shaped x)

  abbrev select_shape : SelectText-F ConjunctText SelectText → Bool
  select_shape x = h.select_step (map-SelectText ConjunctText SelectText Bool Bool conjunct_is_shaped select_is_shaped x)

  abbrev ConjunctLayer : ConjunctText-F ConjunctText SelectText → Type 0
  ConjunctLayer x = (items : s.Reach) → are_known (reached catalog items) ≡ true →
      Tells (no_fault (conjunct_finds Names x (reached catalog items))) (no_fault (conjunct_finds Types x (reached catalog items))) (conjunct_shape x)
      (sound_conjunct (conjunct_makes x (reached catalog items)) items)

  abbrev SelectLayer : SelectText-F ConjunctText SelectText → Type 0
  SelectLayer x = (around : s.Reach) → are_known (reached catalog around) ≡ true →
      Tells (no_fault (select_finds Names x (reached catalog around))) (no_fault (select_finds Types x (reached catalog around))) (select_shape x)
      (s.select_is_sound catalog (select_makes x (reached catalog around)) around)

  conjunct_node : (y : ConjunctText-F OneConjunct OneSelect) → ConjunctLayer (map-ConjunctText OneConjunct OneSelect ConjunctText SelectText conjunct_of select_of y)
  conjunct_node (ConjunctText-F.Plain v) items known =
      tells_by _ _ _ _ _ _ _ _ refl refl refl (ap (λ (f : s.Reach → Bool). f items) (plain_sound catalog (value_made (reached catalog items) v)))
      (condition_told catalog items known v)
  conjunct_node (ConjunctText-F.NotExists t) items known =
      tells_by _ _ _ _ _ _ _ _ refl refl refl (ap (λ (f : s.Reach → Bool). f items) (not_exists_sound catalog (select_made catalog t.0 (reached catalog items)))) (t.1 items known)

  abbrev AllTold : s.Reach → Reach → List OneConjunct → Type 0
  AllTold items reach cs =
      Tells (no_fault (flat_map (λ (f : FaultLayer). f reach) (map (conjunct_faults Names catalog) (map conjunct_of cs))))
      (no_fault (flat_map (λ (f : FaultLayer). f reach) (map (conjunct_faults Types catalog) (map conjunct_of cs))))
      (list_all (λ b. b) (map conjunct_is_shaped (map conjunct_of cs)))
      (list_all (λ (f : s.Reach → Bool). f items) (map sound_conjunct (map (λ (f : Reach → Conjunct). f reach) (map (conjunct_made catalog) (map conjunct_of cs)))))

  conjuncts_told : (items : s.Reach) → are_known (reached catalog items) ≡ true → (cs : List OneConjunct) → AllTold items (reached catalog items) cs
  conjuncts_told items known [] = tells_nothing
  conjuncts_told items known (c ∷ cs) =
      tells_by _ _ _ _ _ _ _ _ (no_fault_append (conjunct_faults Names catalog c.0 (reached catalog items)) _)
      (no_fault_append (conjunct_faults Types catalog c.0 (reached catalog items)) _) refl refl
      (tells_both _ _ _ _ _ _ _ _ (c.1 items known) (conjuncts_told items known cs))

  columns_told : (items : s.Reach) → are_known (reached catalog items) ≡ true → (columns : List ColumnText)
      → Tells (no_fault (flat_map (λ (c : ColumnText). value_faults Names (reached catalog items) c.value) columns))
      (no_fault (flat_map (λ (c : ColumnText). value_faults Types (reached catalog items) c.value) columns))
      (list_all (λ (c : ColumnText). value_is_shaped c.value) columns)
      (list_all (λ (c : SelectColumn). s.value_is_sound catalog items c.value) (map (column_made (reached catalog items)) columns))
  columns_told items known columns =
      let reach : Reach = reached catalog items in
      tells_by _ _ _ _ _ _ _ _ (no_fault_flat (λ (c : ColumnText). value_faults Names reach c.value) columns)
      (no_fault_flat (λ (c : ColumnText). value_faults Types reach c.value) columns) refl refl
      (tells_all (λ (c : ColumnText). no_fault (value_faults Names reach c.value)) (λ (c : ColumnText). no_fault (value_faults Types reach c.value))
      (λ (c : ColumnText). value_is_shaped c.value)
      (λ (c : SelectColumn). s.value_is_sound catalog items c.value) (column_made reach) (λ c. value_told catalog items known c.value) columns)

  combine : (T A C N Y S V O J : Bool) → (T ≡ true → Tells N Y S (V && (O && J))) → Tells ((C && (T && A)) && N) Y S (((((T && A) && C) && V) && O) && J)
  combine T A C N Y S V O J inner = record {
    there = λ n y sh.
        let a = both (C && (T && A)) N n in
        let b = both C (T && A) a.0 in
        let d = both T A b.1 in
        let g = (inner d.0).there a.1 y sh in
        let v = both V (O && J) g in
        let o = both O J v.1 in
        pair ((((T && A) && C) && V) && O) J (pair (((T && A) && C) && V) O (pair ((T && A) && C) V (pair (T && A) C b.1 b.0) v.0) o.0) o.1;
    names_hold = λ h. let x = parts h in pair (C && (T && A)) N (pair C (T && A) x.0.1 (pair T A x.0.0.0 x.0.0.1)) ((inner x.0.0.0).names_hold x.1);
    types_hold = λ h. let x = parts h in (inner x.0.0.0).types_hold x.1;
    shape_holds = λ h. let x = parts h in (inner x.0.0.0).shape_holds x.1;
  }
    where
      parts : (((((T && A) && C) && V) && O) && J) ≡ true → (((T ≡ true) × (A ≡ true)) × (C ≡ true)) × ((V && (O && J)) ≡ true)
      parts h =
          let a = both ((((T && A) && C) && V) && O) J h in
          let b = both (((T && A) && C) && V) O a.0 in
          let d = both ((T && A) && C) V b.0 in
          let g = both (T && A) C d.0 in
          ((both T A g.0, g.1), pair V (O && J) d.1 (pair O J b.1 a.1))

  made_known : (items : s.Reach) → list_all (λ (i : FromItem). is_some (table_named catalog i.table)) items ≡ are_known (reached catalog items)
  made_known [] = refl
  made_known (x ∷ items) = ap (λ b. is_some (table_named catalog x.table) && b) (made_known items)

  aliases_around : (items : s.Reach) → map (λ (i : FromItem). i.alias) items ≡ aliases (reached catalog items)
  aliases_around [] = refl
  aliases_around (x ∷ items) = ap (λ l. x.alias ∷ l) (aliases_around items)

  aliases_made : (reach before : Reach) (items : List ItemText) → map (λ (i : FromItem). i.alias) (items_made catalog reach before items) ≡ names_of items
  aliases_made reach before [] = refl
  aliases_made reach before (x ∷ items) = ap (λ l. x.alias.name ∷ l) (aliases_made reach (chain_to catalog before x x.on) items)

  columns_named : (reach : Reach) (columns : List ColumnText) → map (λ (c : SelectColumn). c.name) (map (column_made reach) columns) ≡ map (λ (c : ColumnText). c.name.name) columns
  columns_named reach [] = refl
  columns_named reach (c ∷ columns) = ap (λ l. c.name.name ∷ l) (columns_named reach columns)

  given_told : (outer : Reach) (columns : List ColumnText) (items : List ItemText) (rest : List Fault)
      → no_fault (given_faults Names catalog outer columns items ++ rest)
      ≡ ((differ_from [] (map (λ (c : ColumnText). c.name.name) columns) && (are_known (items_placed catalog items) && differ_from (aliases outer) (names_of items)))
      && no_fault rest)
  given_told outer columns items rest =
      no_fault_append (given_faults Names catalog outer columns items) rest
      ∙ ap (λ b. b && no_fault rest) (
      no_fault_append (repeated_columns [] columns) (flat_map (unknown_table catalog) items ++ repeated_aliases catalog outer [] items)
      ∙ ap (λ b. b && no_fault (flat_map (unknown_table catalog) items ++ repeated_aliases catalog outer [] items)) (columns_differ [] columns)
      ∙ ap (λ b. differ_from [] (map (λ (c : ColumnText). c.name.name) columns) && b) (
      no_fault_append (flat_map (unknown_table catalog) items) (repeated_aliases catalog outer [] items)
      ∙ ap (λ b. b && no_fault (repeated_aliases catalog outer [] items)) (no_fault_flat (unknown_table catalog) items ∙ tables_known catalog items)
      ∙ ap (λ b. are_known (items_placed catalog items) && b) (aliases_differ catalog outer [] items)))

  split : (xs ys zs : List Fault) → no_fault (xs ++ (ys ++ zs)) ≡ (no_fault xs && (no_fault ys && no_fault zs))
  split xs ys zs = no_fault_append xs (ys ++ zs) ∙ ap (λ b. no_fault xs && b) (no_fault_append ys zs)

  select_node : (y : SelectText-F OneConjunct OneSelect) → SelectLayer (map-SelectText OneConjunct OneSelect ConjunctText SelectText conjunct_of select_of y)
  select_node y around known =
      let outer : Reach = reached catalog around in
      let reach : Reach = reach_within catalog outer y.from in
      let from : List FromItem = items_made catalog outer [] y.from in
      let items : s.Reach = from ++ around in
      let same : reached catalog items ≡ reach = reached_append catalog from around ∙ ap (λ l. l ++ outer) (made_reached catalog outer [] y.from) in
      let columns : List SelectColumn = map (column_made reach) y.columns in
      let conjuncts : List Conjunct = map (λ (f : Reach → Conjunct). f reach) (map (conjunct_made catalog) (map conjunct_of y.conjuncts)) in
      let select : Select = record { columns = columns; from = from; conjuncts = conjuncts } in
      let V = list_all (λ (c : SelectColumn). s.value_is_sound catalog items c.value) columns in
      let O = s.ons_are_sound catalog around [] from in
      let J = list_all (λ (f : s.Reach → Bool). f items) (map sound_conjunct conjuncts) in
      let tables : list_all (λ (i : FromItem). is_some (table_named catalog i.table)) from ≡ are_known (items_placed catalog y.from) = made_known from
      ∙ ap are_known (made_reached catalog outer [] y.from) in
      let alias : differ_from (map (λ (i : FromItem). i.alias) around) (map (λ (i : FromItem). i.alias) from) ≡ differ_from (aliases outer) (names_of y.from) =
      ap (λ l. differ_from l (map (λ (i : FromItem). i.alias) from)) (aliases_around around) ∙ ap (differ_from (aliases outer)) (aliases_made outer [] y.from) in
      let named : differ_from [] (map (λ (c : SelectColumn). c.name) columns) ≡ differ_from [] (map (λ (c : ColumnText). c.name.name) y.columns)
      = ap (differ_from []) (columns_named reach y.columns) in
      let values : Phase → List Fault = λ phase. flat_map (λ (c : ColumnText). value_faults phase reach c.value) y.columns in
      let ons : Phase → List Fault = λ phase. on_faults phase catalog outer [] y.from in
      let inner : Phase → List Fault = λ phase. flat_map (λ (f : FaultLayer). f reach) (map (conjunct_faults phase catalog) (map conjunct_of y.conjuncts)) in
      tells_by _ _ _ _ _ _ _ _
      (given_told outer y.columns y.from (values Names ++ (ons Names ++ inner Names))
      ∙ ap (λ b. (differ_from [] (map (λ (c : ColumnText). c.name.name) y.columns)
      && (are_known (items_placed catalog y.from) && differ_from (aliases outer) (names_of y.from))) && b) (split (values Names) (ons Names) (inner Names)))
      (split (values Types) (ons Types) (inner Types))
      refl
      (ap (λ (f : s.Reach → Bool). f around) (select_sound catalog select)
      ∙ ap (λ b. ((((b && differ_from (map (λ (i : FromItem). i.alias) around) (map (λ (i : FromItem). i.alias) from))
      && differ_from [] (map (λ (c : SelectColumn). c.name) columns)) && V) && O) && J) tables
      ∙ ap (λ b. ((((are_known (items_placed catalog y.from) && b) && differ_from [] (map (λ (c : SelectColumn). c.name) columns)) && V) && O) && J) alias
      ∙ ap (λ b. ((((are_known (items_placed catalog y.from) && differ_from (aliases outer) (names_of y.from)) && b) && V) && O) && J) named)
      (combine (are_known (items_placed catalog y.from)) (differ_from (aliases outer) (names_of y.from)) (differ_from [] (map (λ (c : ColumnText). c.name.name) y.columns))
      (no_fault (values Names) && (no_fault (ons Names) && no_fault (inner Names))) (no_fault (values Types) && (no_fault (ons Types) && no_fault (inner Types)))
      (select_shape (map-SelectText OneConjunct OneSelect ConjunctText SelectText conjunct_of select_of y)) V O J
      (λ own.
      let all : are_known reach ≡ true = known_append (items_placed catalog y.from) outer own known in
      let known_items : are_known (reached catalog items) ≡ true = ap are_known same ∙ all in
      tells_both _ _ _ _ _ _ _ _
      (subst (λ r. Tells (no_fault (flat_map (λ (c : ColumnText). value_faults Names r c.value) y.columns))
      (no_fault (flat_map (λ (c : ColumnText). value_faults Types r c.value) y.columns))
      (list_all (λ (c : ColumnText). value_is_shaped c.value) y.columns)
      (list_all (λ (c : SelectColumn). s.value_is_sound catalog items c.value) (map (column_made r) y.columns))) same (columns_told items known_items y.columns))
      (tells_both _ _ _ _ _ _ _ _ (ons_told around known [] refl y.from own) (subst (λ r. AllTold items r y.conjuncts) same (conjuncts_told items known_items y.conjuncts)))))

  pub select_told : (t : SelectText) → SelectTold t
  select_told = ind-SelectText ConjunctTold SelectTold
      (λ x z is items known.
      let reach : Reach = reached catalog items in
      tells_by _ _ _ _ _ _ _ _
      (ap (λ (f : FaultLayer). no_fault (f reach)) (fold-roll-ConjunctText FaultLayer FaultLayer (p.conjunct_step Names) (p.select_step Names catalog) x))
      (ap (λ (f : FaultLayer). no_fault (f reach)) (fold-roll-ConjunctText FaultLayer FaultLayer (p.conjunct_step Types) (p.select_step Types catalog) x))
      (fold-roll-ConjunctText Bool Bool h.conjunct_step h.select_step x)
      (ap (λ (f : Reach → Conjunct). sound_conjunct (f reach) items) (fold-roll-ConjunctText (Reach → Conjunct) (Reach → Select) q.conjunct_step (q.select_step catalog) x))
      (subst ConjunctLayer is (conjunct_node z) items known))
      (λ x z is around known.
      let outer : Reach = reached catalog around in
      tells_by _ _ _ _ _ _ _ _
      (ap (λ (f : FaultLayer). no_fault (f outer)) (fold-roll-SelectText FaultLayer FaultLayer (p.conjunct_step Names) (p.select_step Names catalog) x))
      (ap (λ (f : FaultLayer). no_fault (f outer)) (fold-roll-SelectText FaultLayer FaultLayer (p.conjunct_step Types) (p.select_step Types catalog) x))
      (fold-roll-SelectText Bool Bool h.conjunct_step h.select_step x)
      (ap (λ (f : Reach → Select). s.select_is_sound catalog (f outer) around) (fold-roll-SelectText (Reach → Conjunct) (Reach → Select) q.conjunct_step (q.select_step catalog) x))
      (subst SelectLayer is (select_node z) around known))
