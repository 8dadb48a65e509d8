-- The query that is made of a text is the one that the text tells, but for the classes of its leaves.
use Rattle.std.proofs.Common.{◌≡◌, List, [], ◌∷◌, ◌++◌, map, refl, sym, ap, ◌∙◌, subst, Option, None, Some, option_map}
use Rattle.expr_tree.specs.declared.tree.Expr.{Expr, Expr-F, map-Expr}
use Rattle.expr_tree.specs.declared.tree.Expr.TheVariants as e
use Rattle.expr_tree.specs.Mapping.{mapped, map_step}
use Rattle.expr_tree.proofs.Folds.{fused}
use Rattle.expr_tree.proofs.MapLemmas.{mapped-Lit, mapped-Null, mapped-Leaf, mapped-Compare, mapped-All, mapped-Any, mapped-Not, mapped-Is, mapped-InList, mapped-Between}
use Rattle.expr_tree.proofs.MapLemmas.{mapped-Coalesce}
use Rattle.graph_ast.specs.declared.catalog.Catalog.{Catalog}
use Rattle.condition_grammar.specs.declared.spanned.Spanned.{Spanned}
use Rattle.sql_algebra.specs.declared.tree.ColumnLeaf.{ColumnLeaf}
use Rattle.sql_algebra.specs.declared.tree.FromItem.{FromItem}
use Rattle.sql_algebra.specs.declared.tree.SelectColumn.{SelectColumn}
use Rattle.sql_algebra.specs.declared.tree.Select.{Select}
use Rattle.sql_algebra.specs.declared.tree.Conjunct.{Conjunct}
use Rattle.sql_algebra.specs.declared.tree.Conjunct.TheVariants.{Plain, NotExists}
use Rattle.sql_algebra.specs.declared.text.SqlText.{SqlText}
use Rattle.sql_algebra.specs.declared.text.SelectText.{SelectText, SelectText-F, ind-SelectText, map-SelectText, fold-roll-SelectText}
use Rattle.sql_algebra.specs.declared.text.ConjunctText.{ConjunctText, ConjunctText-F, map-ConjunctText, fold-roll-ConjunctText}
use Rattle.sql_algebra.specs.declared.text.ColumnText.{ColumnText}
use Rattle.sql_algebra.specs.declared.text.ItemText.{ItemText}
use Rattle.sql_algebra.specs.declared.text.ColumnRef.{ColumnRef}
use Rattle.sql_algebra.specs.Meant.{bare_leaf, bare_value, bare_column, bare_item, bare_conjunct_step, bare_select_step, bare_conjunct, bare_select, told_value, told_column}
use Rattle.sql_algebra.specs.Meant.{told_item, told_conjunct_step, told_select_step, told_conjunct, told_select}
use Rattle.sql_algebra.proofs.Folds.{at_select, at_plain, at_not_exists}
use Rattle.sql_reader.specs.Reaches.{Reach, reach_within}
use Rattle.sql_reader.specs.Phases.{chain_to}
use Rattle.sql_reader.specs.Queries as queries
use Rattle.sql_reader.specs.Queries.{leaf_made, value_made, column_made, item_made, items_made, conjunct_made, select_made, query_of}

module _ (reach : Reach) where
  abbrev bare : ColumnLeaf → Expr ColumnLeaf
  bare l = bare_leaf l.alias l.column

  abbrev told : ColumnRef → Expr ColumnLeaf
  told l = bare_leaf l.alias.name l.column.name

  each : (x : Expr-F ColumnRef (Expr ColumnLeaf)) → mapped bare (map_step (leaf_made reach) x)
      ≡ map_step told (map-Expr ColumnRef (Expr ColumnLeaf) (Expr ColumnLeaf) (mapped bare) x)
  each (Expr-F.Lit v) = mapped-Lit bare (e.Lit v) v refl
  each (Expr-F.Null c) = mapped-Null bare (e.Null c) c refl
  each (Expr-F.Leaf l) = mapped-Leaf bare (leaf_made reach l) _ refl
  each (Expr-F.Compare o a b) = mapped-Compare bare (e.Compare o a b) o a b refl
  each (Expr-F.All es) = mapped-All bare (e.All es) es refl
  each (Expr-F.Any es) = mapped-Any bare (e.Any es) es refl
  each (Expr-F.Not a) = mapped-Not bare (e.Not a) a refl
  each (Expr-F.Is a t n) = mapped-Is bare (e.Is a t n) a t n refl
  each (Expr-F.InList a es n) = mapped-InList bare (e.InList a es n) a es n refl
  each (Expr-F.Between a b c n) = mapped-Between bare (e.Between a b c n) a b c n refl
  each (Expr-F.Coalesce es) = mapped-Coalesce bare (e.Coalesce es) es refl

  value_spelled : (v : Spanned ColumnRef) → bare_value (value_made reach v) ≡ told_value v
  value_spelled v = fused (mapped bare) (map_step (leaf_made reach)) (map_step told) each v.tree

  values_spelled : (vs : List (Spanned ColumnRef)) → map bare_value (map (value_made reach) vs) ≡ map told_value vs
  values_spelled [] = refl
  values_spelled (v ∷ vs) = ap (λ x. x ∷ map bare_value (map (value_made reach) vs)) (value_spelled v) ∙ ap (λ l. told_value v ∷ l) (values_spelled vs)

  on_spelled : (o : Option (List (Spanned ColumnRef))) → option_map (map bare_value) (option_map (map (value_made reach)) o) ≡ option_map (map told_value) o
  on_spelled None = refl
  on_spelled (Some vs) = ap Some (values_spelled vs)

  item_spelled : (i : ItemText) → bare_item (item_made reach i) ≡ told_item i
  item_spelled i = ap (λ o. let x : FromItem = record { table = i.table.name; alias = i.alias.name; on = o } in x) (on_spelled i.on)

  columns_spelled : (cs : List ColumnText) → map bare_column (map (column_made reach) cs) ≡ map told_column cs
  columns_spelled [] = refl
  columns_spelled (c ∷ cs) =
      ap (λ v. let x : SelectColumn = record { value = v; name = c.name.name } in x ∷ map bare_column (map (column_made reach) cs)) (value_spelled c.value)
      ∙ ap (λ l. told_column c ∷ l) (columns_spelled cs)

module _ (catalog : Catalog) where
  items_spelled : (around before : Reach) (items : List ItemText) → map bare_item (items_made catalog around before items) ≡ map told_item items
  items_spelled around before [] = refl
  items_spelled around before (i ∷ items) =
      let chain : Reach = chain_to catalog before i i.on in
      ap (λ x. x ∷ map bare_item (items_made catalog around chain items)) (item_spelled (chain ++ around) i) ∙ ap (λ l. told_item i ∷ l) (items_spelled around chain items)

  abbrev ConjunctSpelled : ConjunctText → Type 0
  ConjunctSpelled c = (reach : Reach) → bare_conjunct (conjunct_made catalog c reach) ≡ told_conjunct c

  abbrev SelectSpelled : SelectText → Type 0
  SelectSpelled t = (around : Reach) → bare_select (select_made catalog t around) ≡ told_select t

  abbrev OneConjunct : Type 0
  OneConjunct = (c : ConjunctText) × ConjunctSpelled c

  abbrev OneSelect : Type 0
  OneSelect = (t : SelectText) × SelectSpelled t

  abbrev conjunct_of : OneConjunct → ConjunctText
  conjunct_of c = c.0

  abbrev select_of : OneSelect → SelectText
  select_of t = t.0

  abbrev conjunct_makes : ConjunctText-F ConjunctText SelectText → Reach → Conjunct
  conjunct_makes x = queries.conjunct_step (map-ConjunctText ConjunctText SelectText (Reach → Conjunct) (Reach → Select) (conjunct_made catalog) (select_made catalog) x)

  abbrev select_makes : SelectText-F ConjunctText SelectText → Reach → Select
  select_makes x = queries.select_step catalog (map-SelectText ConjunctText SelectText (Reach → Conjunct) (Reach → Select) (conjunct_made catalog) (select_made catalog) x)

  abbrev ConjunctLayer : ConjunctText-F ConjunctText SelectText → Type 0
  ConjunctLayer x = (reach : Reach) → bare_conjunct (conjunct_makes x reach)
      ≡ told_conjunct_step (map-ConjunctText ConjunctText SelectText Conjunct Select told_conjunct told_select x)

  abbrev SelectLayer : SelectText-F ConjunctText SelectText → Type 0
  SelectLayer x = (around : Reach) → bare_select (select_makes x around) ≡ told_select_step (map-SelectText ConjunctText SelectText Conjunct Select told_conjunct told_select x)

  conjunct_node : (y : ConjunctText-F OneConjunct OneSelect) → ConjunctLayer (map-ConjunctText OneConjunct OneSelect ConjunctText SelectText conjunct_of select_of y)
  conjunct_node (ConjunctText-F.Plain v) reach =
      at_plain Conjunct Select bare_conjunct_step bare_select_step (value_made reach v) ∙ ap Plain (value_spelled reach v)
  conjunct_node (ConjunctText-F.NotExists t) reach =
      at_not_exists Conjunct Select bare_conjunct_step bare_select_step (select_made catalog t.0 reach) ∙ ap NotExists (t.1 reach)

  conjuncts_spelled : (reach : Reach) (cs : List OneConjunct) → map bare_conjunct (map (λ (f : Reach → Conjunct). f reach) (map (conjunct_made catalog) (map conjunct_of cs)))
      ≡ map told_conjunct (map conjunct_of cs)
  conjuncts_spelled reach [] = refl
  conjuncts_spelled reach (c ∷ cs) =
      ap (λ x. x ∷ map bare_conjunct (map (λ (f : Reach → Conjunct). f reach) (map (conjunct_made catalog) (map conjunct_of cs)))) (c.1 reach)
      ∙ ap (λ l. told_conjunct c.0 ∷ l) (conjuncts_spelled reach cs)

  abbrev with_parts : List SelectColumn → List FromItem → List Conjunct → Select
  with_parts columns from conjuncts = record { columns = columns; from = from; conjuncts = conjuncts }

  select_node : (y : SelectText-F OneConjunct OneSelect) → SelectLayer (map-SelectText OneConjunct OneSelect ConjunctText SelectText conjunct_of select_of y)
  select_node y around =
      let reach : Reach = reach_within catalog around y.from in
      let made : Select = select_makes (map-SelectText OneConjunct OneSelect ConjunctText SelectText conjunct_of select_of y) around in
      at_select Conjunct Select bare_conjunct_step bare_select_step made
      ∙ ap (λ l. with_parts l (map bare_item made.from) (map bare_conjunct made.conjuncts)) (columns_spelled reach y.columns)
      ∙ ap (λ l. with_parts (map told_column y.columns) l (map bare_conjunct made.conjuncts)) (items_spelled around [] y.from)
      ∙ ap (λ l. with_parts (map told_column y.columns) (map told_item y.from) l) (conjuncts_spelled reach y.conjuncts)

  select_spelled : (t : SelectText) → SelectSpelled t
  select_spelled = ind-SelectText ConjunctSpelled SelectSpelled
      (λ x z is reach.
      ap (λ (f : Reach → Conjunct). bare_conjunct (f reach)) (fold-roll-ConjunctText (Reach → Conjunct) (Reach → Select) queries.conjunct_step (queries.select_step catalog) x)
      ∙ subst ConjunctLayer is (conjunct_node z) reach ∙ sym (fold-roll-ConjunctText Conjunct Select told_conjunct_step told_select_step x))
      (λ x z is around.
      ap (λ (f : Reach → Select). bare_select (f around)) (fold-roll-SelectText (Reach → Conjunct) (Reach → Select) queries.conjunct_step (queries.select_step catalog) x)
      ∙ subst SelectLayer is (select_node z) around ∙ sym (fold-roll-SelectText Conjunct Select told_conjunct_step told_select_step x))

  selects_spelled : (ts : List SelectText) → map told_select ts ≡ map bare_select (map (λ t. select_made catalog t []) ts)
  selects_spelled [] = refl
  selects_spelled (t ∷ ts) = ap (λ x. x ∷ map told_select ts) (sym (select_spelled t [])) ∙ ap (λ l. bare_select (select_made catalog t []) ∷ l) (selects_spelled ts)

  pub query_spelled : (text : SqlText) → map told_select text.selects ≡ map bare_select (query_of catalog text).selects
  query_spelled text = selects_spelled text.selects
