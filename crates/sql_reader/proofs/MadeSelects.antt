-- A select that is judged or made, part by part.
use denote.Ref.{Bor}
use Rattle.std.proofs.Common.{◌≡◌, ◌∙◌, not, List, [], ◌∷◌, ◌++◌, map, sym, ap, Option, None, Some, IfOk, Result, Ok, Err}
use Rattle.std.specs.List.{flat_map}
use Rattle.pgq_base.specs.declared.refusal.Span.{Span}
use Rattle.pgq_base.specs.declared.value.Class.{Class}
use Rattle.pgq_base.specs.declared.code.Code.TheVariants as code
use Rattle.expr_tree.specs.Classes.{same_class}
use Rattle.graph_ast.specs.declared.catalog.Catalog.{Catalog}
use Rattle.condition_grammar.specs.Spans.{span_of}
use Rattle.sql_algebra.specs.declared.tree.Select.{Select, roll-Select}
use Rattle.sql_algebra.specs.declared.tree.SelectColumn.{SelectColumn}
use Rattle.sql_algebra.specs.declared.tree.FromItem.{FromItem}
use Rattle.sql_algebra.specs.declared.tree.Conjunct.{Conjunct}
use Rattle.sql_algebra.specs.declared.text.SqlText.{SqlText}
use Rattle.sql_algebra.specs.declared.text.SelectText.{SelectText, out-SelectText, fold-roll-SelectText}
use Rattle.sql_algebra.specs.declared.text.ColumnText.{ColumnText}
use Rattle.sql_algebra.specs.declared.text.ItemText.{ItemText}
use Rattle.sql_algebra.specs.declared.text.ConjunctText.{ConjunctText}
use Rattle.first_faults.specs.declared.faults.Fault.{Fault}
use Rattle.first_faults.specs.Faults.{first_of, when}
use Rattle.first_faults.proofs.Steps.{first_of_append}
use Rattle.sql_reader.specs.declared.phases.Phase.{Phase}
use Rattle.sql_reader.specs.declared.reach.Scope.{Scope, roll-Scope, fold-roll-Scope}
use Rattle.sql_reader.specs.Levels.{scope_step, reach_of}
use Rattle.sql_reader.specs.Reaches.{Reach, items_placed, reach_within}
use Rattle.sql_reader.specs.Phases as phases
use Rattle.sql_reader.specs.Phases.{value_faults, given_faults, on_faults, select_faults, conjunct_faults, column_class, differing_items, union_faults, faults_in}
use Rattle.sql_reader.specs.Queries as queries
use Rattle.sql_reader.specs.Queries.{column_made, items_made, conjunct_made, select_made}
use Rattle.sql_reader.proofs.PhaseSteps.{four_parts}

pub lifted : {A E : Type 0} (P Q : A → Type 0) → ((a : A) → P a → Q a) → (r : Result A E) → IfOk r P → IfOk r Q
lifted P Q f (Ok a) h = f a h
lifted P Q f (Err e) h = tt

pub made_of_parts : (catalog : Catalog) (t : SelectText) (outer reach : Reach) (columns : List SelectColumn) (from : List FromItem) (conjuncts : List Conjunct)
    → columns ≡ map (column_made reach) t.columns → from ≡ items_made catalog outer [] t.from → conjuncts
    ≡ map (λ conjunct. conjunct reach) (map (conjunct_made catalog) t.conjuncts) → reach ≡ reach_within catalog outer t.from
    → roll-Select (record { columns = columns; from = from; conjuncts = conjuncts }) ≡ select_made catalog t outer
made_of_parts catalog t outer reach columns from conjuncts p q r at =
    ap (λ c. roll-Select (record { columns = c; from = from; conjuncts = conjuncts })) (p ∙ ap (λ l. map (column_made l) t.columns) at)
    ∙ ap (λ f. roll-Select (record { columns = map (column_made (reach_within catalog outer t.from)) t.columns; from = f; conjuncts = conjuncts })) q
    ∙ ap (λ c. roll-Select (record { columns = map (column_made (reach_within catalog outer t.from)) t.columns; from = items_made catalog outer [] t.from; conjuncts = c }))
    (r ∙ ap (λ l. map (λ (conjunct : Reach → Conjunct). conjunct l) (map (conjunct_made catalog) t.conjuncts)) at)
    ∙ sym (ap (λ (f : Reach → Select). f outer) (fold-roll-SelectText (Reach → Conjunct) (Reach → Select) queries.conjunct_step (queries.select_step catalog) (out-SelectText t)))

pub faults_of_parts : (phase : Phase) (catalog : Catalog) (t : SelectText) (outer reach : Reach) (first given columns ons all : Option Fault)
    → given ≡ first_of first (given_faults phase catalog outer t.columns t.from)
    → columns ≡ first_of given (flat_map (λ (c : ColumnText). value_faults phase reach c.value) t.columns)
    → ons ≡ first_of columns (on_faults phase catalog outer [] t.from)
    → all ≡ first_of ons (flat_map (λ (f : Reach → List Fault). f reach) (map (conjunct_faults phase catalog) t.conjuncts))
    → reach ≡ reach_within catalog outer t.from → all ≡ first_of first (select_faults phase catalog t outer)
faults_of_parts phase catalog t outer reach first given columns ons all p q r s at =
    let a = given_faults phase catalog outer t.columns t.from in
    let b : Reach → List Fault = λ l. flat_map (λ (c : ColumnText). value_faults phase l c.value) t.columns in
    let c = on_faults phase catalog outer [] t.from in
    let d : Reach → List Fault = λ l. flat_map (λ (f : Reach → List Fault). f l) (map (conjunct_faults phase catalog) t.conjuncts) in
    s ∙ ap (λ f. first_of f (d reach)) (r ∙ ap (λ f. first_of f c) (q ∙ ap (λ f. first_of f (b reach)) p))
    ∙ ap (λ l. first_of (first_of (first_of (first_of first a) (b l)) c) (d l)) at
    ∙ sym (four_parts first a (b (reach_within catalog outer t.from)) c (d (reach_within catalog outer t.from)))
    ∙ sym (ap (λ (f : Reach → List Fault). first_of first (f outer)) (fold-roll-SelectText (Reach → List Fault) (Reach → List Fault) (phases.conjunct_step phase)
    (phases.select_step phase catalog) (out-SelectText t)))

-- the scope of a select within another
abbrev pub scope_of : Bor Reach → Bor Scope → Scope
scope_of own outer = roll-Scope (record { own = own; outer = Some outer })

scope_reach : (own : Bor Reach) (outer : Bor Scope) → reach_of (scope_of own outer) ≡ own.now ++ reach_of outer.now
scope_reach own outer = fold-roll-Scope Reach scope_step (record { own = own; outer = Some outer })

within : (catalog : Catalog) (own : Bor Reach) (outer : Bor Scope) (items : List ItemText) (fs : List ItemText) → own.now ≡ items_placed catalog fs → fs ≡ items
    → reach_of (scope_of own outer) ≡ reach_within catalog (reach_of outer.now) items
within catalog own outer items fs p q = scope_reach own outer ∙ ap (λ l. l ++ reach_of outer.now) (p ∙ ap (items_placed catalog) q)

pub judged_select : (phase : Phase) (catalog : Catalog) (t : SelectText) (own : Bor Reach) (outer : Bor Scope) (first given columns ons all : Option Fault)
    (cs : List ColumnText) (fs : List ItemText) (js : List ConjunctText)
    → given ≡ first_of first (given_faults phase catalog (reach_of outer.now) t.columns t.from)
    → columns ≡ first_of given (flat_map (λ (c : ColumnText). value_faults phase (reach_of (scope_of own outer)) c.value) cs)
    → ons ≡ first_of columns (on_faults phase catalog (reach_of outer.now) [] fs)
    → all ≡ first_of ons (flat_map (λ (f : Reach → List Fault). f (reach_of (scope_of own outer))) (map (conjunct_faults phase catalog) js))
    → own.now ≡ items_placed catalog fs → cs ≡ t.columns → fs ≡ t.from → js ≡ t.conjuncts → all ≡ first_of first (select_faults phase catalog t (reach_of outer.now))
judged_select phase catalog t own outer first given columns ons all cs fs js p q r s at x y z =
    let reach : Reach = reach_of (scope_of own outer) in
    faults_of_parts phase catalog t (reach_of outer.now) reach first given columns ons all p
    (q ∙ ap (λ l. first_of given (flat_map (λ (k : ColumnText). value_faults phase reach k.value) l)) x)
    (r ∙ ap (λ l. first_of columns (on_faults phase catalog (reach_of outer.now) [] l)) y)
    (s ∙ ap (λ l. first_of ons (flat_map (λ (f : Reach → List Fault). f reach) (map (conjunct_faults phase catalog) l))) z)
    (within catalog own outer t.from fs at y)

pub made_select : (catalog : Catalog) (t : SelectText) (own : Bor Reach) (outer : Bor Scope) (columns : List SelectColumn) (from : List FromItem) (conjuncts : List Conjunct)
    (cs : List ColumnText) (fs : List ItemText) (js : List ConjunctText)
    → columns ≡ map (column_made (reach_of (scope_of own outer))) cs
    → from ≡ items_made catalog (reach_of outer.now) [] fs
    → conjuncts ≡ map (λ (k : Reach → Conjunct). k (reach_of (scope_of own outer))) (map (conjunct_made catalog) js)
    → own.now ≡ items_placed catalog fs → cs ≡ t.columns → fs ≡ t.from → js ≡ t.conjuncts
    → roll-Select (record { columns = columns; from = from; conjuncts = conjuncts }) ≡ select_made catalog t (reach_of outer.now)
made_select catalog t own outer columns from conjuncts cs fs js p q r at x y z =
    let reach : Reach = reach_of (scope_of own outer) in
    made_of_parts catalog t (reach_of outer.now) reach columns from conjuncts (p ∙ ap (map (column_made reach)) x) (q ∙ ap (items_made catalog (reach_of outer.now) []) y)
    (r ∙ ap (λ l. map (λ (k : Reach → Conjunct). k reach) (map (conjunct_made catalog) l)) z) (within catalog own outer t.from fs at y)

pub items_step : (catalog : Catalog) (select : SelectText) (k own : Class) (ks : List Class) (x : ColumnText) (xs : List ColumnText) (span : Span) (found noted : Option Fault)
    → own ≡ column_class catalog select x → span ≡ span_of x.value
    → noted ≡ first_of found (when (not (same_class k own)) code.ClassesDiffer span) → first_of noted (differing_items catalog select ks xs)
    ≡ first_of found (differing_items catalog select (k ∷ ks) (x ∷ xs))
items_step catalog select k own ks x xs span found noted p q r =
    ap (λ f. first_of f (differing_items catalog select ks xs)) (r ∙ ap (λ c. first_of found (when (not (same_class k c)) code.ClassesDiffer span)) p
    ∙ ap (λ s. first_of found (when (not (same_class k (column_class catalog select x))) code.ClassesDiffer s)) q)
    ∙ sym (first_of_append found (when (not (same_class k (column_class catalog select x))) code.ClassesDiffer (span_of x.value)) (differing_items catalog select ks xs))

pub phase_of_parts : (phase : Phase) (catalog : Catalog) (text : SqlText) (selects : List SelectText) (outer : Reach) (found all : Option Fault) → selects ≡ text.selects
    → outer ≡ []
    → found ≡ first_of None (flat_map (λ t. select_faults phase catalog t outer) selects) → all ≡ first_of found (union_faults phase catalog selects) → all
    ≡ first_of None (faults_in phase catalog text)
phase_of_parts phase catalog text selects outer found all p q r s =
    s ∙ ap (λ f. first_of f (union_faults phase catalog selects)) (r ∙ ap (λ o. first_of None (flat_map (λ t. select_faults phase catalog t o) selects)) q)
    ∙ sym (first_of_append None (flat_map (λ t. select_faults phase catalog t []) selects) (union_faults phase catalog selects))
    ∙ ap (λ l. first_of None (flat_map (λ t. select_faults phase catalog t []) l ++ union_faults phase catalog l)) p
