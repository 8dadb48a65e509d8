-- A catalog that meets the conditions of Validity is a valid catalog.
use Rattle.std.proofs.Common.{◌≡◌, ℕ, zero, suc, ◌<◌, ◌≤◌, Bool, true, false, not, ◌&&◌, ◌||◌, List, [], ◌∷◌, ◌++◌, length, map, refl, ap, sym, ◌∙◌, Option, None, Some}
use Rattle.std.proofs.Common.{slice_get, get_or, bytes_eq, nat_eq, arith, subst, All, inl, inr}
use Rattle.std.specs.List.{IsDistinct, flat_map, list_any, list_all, AllByRecursion}
use Rattle.std.proofs.lemmas.Bool.{eqb-true}
use Rattle.std.proofs.lemmas.Cmp.{nat_list_eq_equiv}
use Rattle.std.proofs.lemmas.Option.{get_or_from_slice_get, slice_get-get_or, slice_get_within}
use Rattle.pgq_base.specs.declared.value.Class.{Class}
use Rattle.expr_tree.specs.Classes.{same_class}
use Rattle.expr_tree.proofs.ClassLemmas.{same_from}
use Rattle.multisets.specs.Bags.{IsIn, IsWithoutRepeats}
use Rattle.graph_ast.specs.declared.catalog.Catalog.{Catalog}
use Rattle.graph_ast.specs.declared.catalog.Table.{Table}
use Rattle.graph_ast.specs.declared.catalog.Column.{Column}
use Rattle.graph_ast.specs.declared.catalog.Key.{Key}
use Rattle.graph_ast.specs.declared.catalog.Reference.{Reference}
use Rattle.graph_ast.specs.declared.catalog.Graph.{Graph}
use Rattle.graph_ast.specs.declared.catalog.Element.{Element}
use Rattle.graph_ast.specs.declared.catalog.EdgeElement.{EdgeElement}
use Rattle.graph_ast.specs.declared.catalog.End.{End}
use Rattle.graph_ast.specs.declared.catalog.Property.{Property}
use Rattle.graph_ast.specs.Types.{class_of_type}
use Rattle.graph_ast.specs.Lookups.{table_at, column_at, vertex_element, elements_of, classes_at}
use Rattle.graph_ast.specs.Catalogs.{AreColumnsOf, IsKeyOf, IsValidReference, IsValidTable, IsValidElement, IsValidEnd, HaveOneClassEach, IsValidGraph, IsValidCatalog}
use Rattle.view_check.specs.GraphRules.{are_within, same_places, is_not_null, is_firm, class_of, class_at, are_same_class, pairs_differ}
use Rattle.view_check.proofs.Validity.{ArePlaces, Agree, IsReference, IsTable, is_whole_key, IsElement, IsEnd, IsEdge, class_under, classed, OneClass, HasElements, IsGraph}
use Rattle.view_check.proofs.Validity.{IsCatalog}
use Rattle.view_check.proofs.ValidElements.{each_from_all}

-- ---- members

each_in : {X : Type 0} (P : X → Type 0) (xs : List X) → AllByRecursion P xs → (x : X) → IsIn x xs → P x
each_in P [] h x i = absurd i
each_in P (y ∷ ys) h x (inl e) = subst P e h.0
each_in P (y ∷ ys) h x (inr i) = each_in P ys h.1 x i

all_in : {X : Type 0} (P : X → Type 0) (xs : List X) → All P xs → (x : X) → IsIn x xs → P x
all_in P xs h x i = each_in P xs (each_from_all P xs h) x i

get_in : {X : Type 0} (xs : List X) (i : ℕ) (x : X) → slice_get xs i ≡ Some x → IsIn x xs
get_in [] i x e = cc
get_in (y ∷ ys) zero x e = let same : y ≡ x = cc in inl same
get_in (y ∷ ys) (suc i) x e = inr (get_in ys i x e)

place_in : {X : Type 0} (xs : List X) (x : X) → IsIn x xs → (i : ℕ) × (slice_get xs i ≡ Some x)
place_in [] x h = absurd h
place_in (y ∷ ys) x (inl e) = (zero, ap (λ z. Some z) e)
place_in (y ∷ ys) x (inr h) = let rest = place_in ys x h in (suc rest.0, rest.1)

in_front : {X : Type 0} (xs ys : List X) (x : X) → IsIn x xs → IsIn x (xs ++ ys)
in_front [] ys x h = absurd h
in_front (z ∷ xs) ys x (inl e) = inl e
in_front (z ∷ xs) ys x (inr h) = inr (in_front xs ys x h)

in_back : {X : Type 0} (xs ys : List X) (x : X) → IsIn x ys → IsIn x (xs ++ ys)
in_back [] ys x h = h
in_back (z ∷ xs) ys x h = inr (in_back xs ys x h)

in_map : {X Y : Type 0} (f : X → Y) (xs : List X) (x : X) → IsIn x xs → IsIn (f x) (map f xs)
in_map f [] x h = absurd h
in_map f (z ∷ xs) x (inl e) = inl (ap f e)
in_map f (z ∷ xs) x (inr h) = inr (in_map f xs x h)

in_flat : {X Y : Type 0} (f : X → List Y) (xs : List X) (x : X) (y : Y) → IsIn x xs → IsIn y (f x) → IsIn y (flat_map f xs)
in_flat f [] x y h g = absurd h
in_flat f (z ∷ xs) x y (inl e) g = in_front (f z) (flat_map f xs) y (subst (λ w. IsIn y (f w)) (sym e) g)
in_flat f (z ∷ xs) x y (inr h) g = in_back (f z) (flat_map f xs) y (in_flat f xs x y h g)

any_step : {X : Type 0} (p : X → Bool) (x : X) (xs : List X) (b : Bool) → p x ≡ b → (list_any p xs ≡ true → (y : X) × IsIn y xs × (p y ≡ true)) → (b || list_any p xs) ≡ true →
    (y : X) × IsIn y (x ∷ xs) × (p y ≡ true)
any_step p x xs true e rest h = (x, inl refl, e)
any_step p x xs false e rest h = let found = rest h in (found.0, inr found.1, found.2)

any_in : {X : Type 0} (p : X → Bool) (xs : List X) → list_any p xs ≡ true → (x : X) × IsIn x xs × (p x ≡ true)
any_in p [] h = cc
any_in p (x ∷ xs) h = any_step p x xs (p x) refl (any_in p xs) h

left_true : (a b : Bool) → (a && b) ≡ true → a ≡ true
left_true true b h = refl
left_true false b h = cc

right_true : (a b : Bool) → (a && b) ≡ true → b ≡ true
right_true true b h = h
right_true false b h = cc

all_true : {X : Type 0} (p : X → Bool) (xs : List X) → list_all p xs ≡ true → (x : X) → IsIn x xs → p x ≡ true
all_true p [] h x i = absurd i
all_true p (y ∷ ys) h x (inl e) = ap p (sym e) ∙ left_true (p y) (list_all p ys) h
all_true p (y ∷ ys) h x (inr i) = all_true p ys (right_true (p y) (list_all p ys) h) x i

within_in : (xs ys : List ℕ) → are_within xs ys ≡ true → (n : ℕ) → IsIn n xs → IsIn n ys
within_in xs ys h n i =
    let found = any_in (λ q. nat_eq q n) ys (all_true (λ p. list_any (λ q. nat_eq q p) ys) xs h n i) in
    subst (λ m. IsIn m ys) (eqb-true found.0 n found.2) found.1

distinct : (names : List (List ℕ)) → IsDistinct bytes_eq names → IsWithoutRepeats names
unfolding IsDistinct
distinct [] h = tt
distinct (n ∷ names) h = (
  λ i. let no : bytes_eq n n ≡ false = each_in (λ m. bytes_eq n m ≡ false) names h.0 n i in let never : true ≡ false = sym (nat_list_eq_equiv.refl n) ∙ no in
      cc,
  distinct names h.1,
)

-- ---- tables and columns

table_is : (c : Catalog) (i : ℕ) (t : Table) → slice_get c.tables i ≡ Some t → table_at c i ≡ t
table_is c i t e = get_or_from_slice_get c.tables i t (record { name = []; columns = []; keys = []; references = [] }) e

are_columns : (t : Table) (places : List ℕ) → ArePlaces (length t.columns) places → AreColumnsOf t places
are_columns t places h = record { some = omega (arith, h.some); places = all_in (λ p. p < length t.columns) places h.within }

keyed : (t : Table) (places : List ℕ) (key : Key) → IsIn key t.keys → same_places places key.columns ≡ true → IsKeyOf t places
keyed t places key there same = (
  key,
  there,
  λ column. (
    within_in key.columns places (right_true (are_within places key.columns) (are_within key.columns places) same) column,
    within_in places key.columns (left_true (are_within places key.columns) (are_within key.columns places) same) column,
  ),
)

is_key : (t : Table) (places : List ℕ) → list_any (λ key. same_places places key.columns) t.keys ≡ true → IsKeyOf t places
is_key t places h = let found = any_in (λ (key : Key). same_places places key.columns) t.keys h in keyed t places found.0 found.1 found.2

class_there : (t : Table) (p : ℕ) → p < length t.columns → class_at t p ≡ Some (class_of_type (column_at t p).kind)
class_there t p h = ap class_of (slice_get-get_or t.columns p _ h)

not_false : (b : Bool) → not b ≡ false → b ≡ true
not_false true h = refl
not_false false h = cc

left_false : (a b : Bool) → (a || b) ≡ false → a ≡ false
left_false false b h = refl
left_false true b h = cc

right_false : (a b : Bool) → (a || b) ≡ false → b ≡ false
right_false false b h = h
right_false true b h = cc

one_pair : (a b : Class) (m n : Option Class) → m ≡ Some a → n ≡ Some b → not (are_same_class m n) ≡ false → a ≡ b
one_pair a b m n e f h =
    let same : same_class a b ≡ true = sym (ap (λ o. are_same_class o (Some b)) e ∙ refl) ∙ ap (λ o. are_same_class m o) (sym f) ∙ not_false (are_same_class m n) h in
    same_from a b same

classes_same : (t u : Table) (own targets : List ℕ) → length own ≡ length targets → pairs_differ t u own targets ≡ false →
    AllByRecursion (λ p. p < length t.columns) own → AllByRecursion (λ q. q < length u.columns) targets → classes_at t own ≡ classes_at u targets
classes_same t u [] [] long h a b = refl
classes_same t u [] (q ∷ qs) long h a b = absurd (suc_not_zero (length qs) long)
  where
    suc_not_zero : (n : ℕ) → zero ≡ suc n → ⊥
    suc_not_zero n e = cc
classes_same t u (p ∷ ps) [] long h a b = absurd (zero_not_suc (length ps) long)
  where
    zero_not_suc : (n : ℕ) → suc n ≡ zero → ⊥
    zero_not_suc n e = cc
classes_same t u (p ∷ ps) (q ∷ qs) long h a b =
    let shorter : length ps ≡ length qs = omega (arith, long) in
    let first : class_of_type (column_at t p).kind ≡ class_of_type (column_at u q).kind =
    one_pair _ _ (class_at t p) (class_at u q) (class_there t p a.0) (class_there u q b.0)
    (left_false (not (are_same_class (class_at t p) (class_at u q))) (pairs_differ t u ps qs) h) in
    ap (λ c. c ∷ classes_at t ps) first
    ∙ ap (λ l. class_of_type (column_at u q).kind ∷ l)
    (classes_same t u ps qs shorter (right_false (not (are_same_class (class_at t p) (class_at u q))) (pairs_differ t u ps qs) h) a.1 b.1)

agreeing : (t u : Table) (own targets : List ℕ) → Agree t u own targets → ArePlaces (length t.columns) own → ArePlaces (length u.columns) targets → classes_at t own
    ≡ classes_at u targets
agreeing t u own targets h a b =
    classes_same t u own targets h.long h.classes (each_from_all (λ p. p < length t.columns) own a.within) (each_from_all (λ q. q < length u.columns) targets b.within)

-- ---- references and tables

valid_reference : (c : Catalog) (t : Table) (r : Reference) → IsReference c.tables t r → IsValidReference c t r
valid_reference c t r h =
    let same : h.target ≡ table_at c r.table = sym (table_is c r.table h.target h.found) in
    record {
      columns = are_columns t r.columns h.columns;
      table_there = slice_get_within c.tables r.table h.target h.found;
      targets = subst (λ u. AreColumnsOf u r.targets) same (are_columns h.target r.targets h.targets);
      unique = subst (λ u. IsKeyOf u r.targets) same (is_key h.target r.targets h.key);
      classes = subst (λ u. classes_at t r.columns ≡ classes_at u r.targets) same (agreeing t h.target r.columns r.targets h.agree h.columns h.targets);
    }

valid_table : (c : Catalog) (t : Table) → IsTable c.tables t → IsValidTable c t
valid_table c t h = record {
  few_columns = h.few;
  column_names = distinct _ h.names;
  keys = λ key i. are_columns t key.columns (all_in (λ (k : Key). ArePlaces (length t.columns) k.columns) t.keys h.keys key i);
  references = λ r i. valid_reference c t r (all_in (IsReference c.tables t) t.references h.references r i);
}

-- ---- elements

firm_there : (t : Table) (p : ℕ) → p < length t.columns → is_not_null (slice_get t.columns p) ≡ true → (column_at t p).not_null ≡ true
firm_there t p h e = sym (ap is_not_null (slice_get-get_or t.columns p _ h)) ∙ e

firm_key : (t : Table) (places : List ℕ) → All (λ p. p < length t.columns) places → is_whole_key t places ≡ true →
    IsKeyOf t places × ((p : ℕ) → IsIn p places → (column_at t p).not_null ≡ true)
firm_key t places within h =
    let found = any_in (λ (key : Key). is_firm t key && same_places places key.columns) t.keys h in
    let firm = left_true (is_firm t found.0) (same_places places found.0.columns) found.2 in
    let same = right_true (is_firm t found.0) (same_places places found.0.columns) found.2 in (
      keyed t places found.0 found.1 same,
      λ p i.
          firm_there t p (all_in (λ q. q < length t.columns) places within p i)
          (all_true (λ q. is_not_null (slice_get t.columns q)) found.0.columns firm p
          (within_in places found.0.columns (left_true (are_within places found.0.columns) (are_within found.0.columns places) same) p i)),
    )

valid_element : (c : Catalog) (e : Element) → IsElement c.tables e → IsValidElement c e
valid_element c e h =
    let same : h.table ≡ table_at c e.table = sym (table_is c e.table h.table h.found) in
    let whole = firm_key h.table e.key h.key.within h.whole in
    record {
      table_there = slice_get_within c.tables e.table h.table h.found;
      key = subst (λ t. AreColumnsOf t e.key) same (are_columns h.table e.key h.key);
      unique = subst (λ t. IsKeyOf t e.key) same whole.0;
      not_null = subst (λ t. (p : ℕ) → IsIn p e.key → (column_at t p).not_null ≡ true) same whole.1;
      property_names = distinct _ h.names;
      property_columns = subst (λ (t : Table). (p : Property) → IsIn p e.properties → p.column < length t.columns) same
          (λ p i. all_in (λ (q : Property). q.column < length h.table.columns) e.properties h.properties p i);
    }

-- ---- edges

valid_end : (c : Catalog) (g : Graph) (e : Element) (own : IsElement c.tables e) (end : End) → All (IsElement c.tables) (elements_of g)
    → IsEnd c.tables g.vertices own.table end → IsValidEnd c g e end
valid_end c g e own end all h =
    let same : own.table ≡ table_at c e.table = sym (table_is c e.table own.table own.found) in
    let vertex : h.vertex ≡ vertex_element g end.vertex = sym (get_or_from_slice_get g.vertices end.vertex h.vertex _ h.found) in
    let element : IsElement c.tables h.vertex = all_in (IsElement c.tables) (elements_of g) all h.vertex
    (in_front g.vertices (map (λ (x : EdgeElement). x.element) g.edges) h.vertex (get_in g.vertices end.vertex h.vertex h.found)) in
    let there : h.table ≡ table_at c h.vertex.table = sym (table_is c h.vertex.table h.table h.its) in
    let tables : element.table ≡ h.table = table_once c.tables h.vertex.table element.table h.table element.found h.its in
    let agree : classes_at own.table end.columns ≡ classes_at h.table h.vertex.key =
    agreeing own.table h.table end.columns h.vertex.key h.agree h.columns (subst (λ (t : Table). ArePlaces (length t.columns) h.vertex.key) tables element.key) in
    record {
      columns = subst (λ t. AreColumnsOf t end.columns) same (are_columns own.table end.columns h.columns);
      vertex_there = slice_get_within g.vertices end.vertex h.vertex h.found;
      classes = subst (λ v. classes_at (table_at c e.table) end.columns ≡ classes_at (table_at c v.table) v.key) vertex
          (subst (λ t. classes_at t end.columns ≡ classes_at (table_at c h.vertex.table) h.vertex.key) same
          (subst (λ u. classes_at own.table end.columns ≡ classes_at u h.vertex.key) there agree));
    }
  where
    table_once : (ts : List Table) (i : ℕ) (t u : Table) → slice_get ts i ≡ Some t → slice_get ts i ≡ Some u → t ≡ u
    table_once ts i t u e f = let both : Some t ≡ Some u = sym e ∙ f in cc

-- ---- classes

one_class_of : (a b : Class) (m n : Option Class) → m ≡ Some a → n ≡ Some b → m ≡ n → a ≡ b
one_class_of a b m n e f h = let both : Some a ≡ Some b = sym e ∙ h ∙ f in cc

class_of_property : (c : Catalog) (e : Element) (p : Property) → IsElement c.tables e → IsIn p e.properties →
    class_under (slice_get c.tables e.table) p.column ≡ Some (class_of_type (column_at (table_at c e.table) p.column).kind)
class_of_property c e p h i =
    let within : p.column < length h.table.columns = all_in (λ (q : Property). q.column < length h.table.columns) e.properties h.properties p i in
    ap (λ o. class_under o p.column) h.found
    ∙ class_there h.table p.column within
    ∙ ap (λ t. Some (class_of_type (column_at t p.column).kind)) (sym (table_is c e.table h.table h.found))

one_class_each : (c : Catalog) (es : List Element) → All (IsElement c.tables) es → OneClass (flat_map (classed c.tables) es) → HaveOneClassEach c es
one_class_each c es all one a b p q ia ib ip iq same =
    let left = place_in (flat_map (classed c.tables) es) (p.name, class_under (slice_get c.tables a.table) p.column)
    (in_flat (classed c.tables) es a _ ia (in_map (λ (r : Property). (r.name, class_under (slice_get c.tables a.table) r.column)) a.properties p ip)) in
    let right = place_in (flat_map (classed c.tables) es) (q.name, class_under (slice_get c.tables b.table) q.column)
    (in_flat (classed c.tables) es b _ ib (in_map (λ (r : Property). (r.name, class_under (slice_get c.tables b.table) r.column)) b.properties q iq)) in
    one_class_of _ _ (class_under (slice_get c.tables a.table) p.column) (class_under (slice_get c.tables b.table) q.column)
    (class_of_property c a p (all_in (IsElement c.tables) es all a ia) ip)
    (class_of_property c b q (all_in (IsElement c.tables) es all b ib) iq)
    (one left.0 right.0 _ _ left.1 right.1 same)

-- ---- graphs and catalogs

valid_graph : (c : Catalog) (g : Graph) → IsGraph c.tables g → IsValidGraph c g
valid_graph c g h =
    let edge : (e : EdgeElement) → IsIn e g.edges → IsEdge c.tables g.vertices e = all_in (IsEdge c.tables g.vertices) g.edges h.edges in
    record {
      some_vertex = omega (arith, h.outline.some);
      few_vertices = h.outline.few_vertices;
      few_edges = h.outline.few_edges;
      element_names = distinct _ h.outline.names;
      elements = λ e i. valid_element c e (all_in (IsElement c.tables) (elements_of g) h.outline.elements e i);
      sources = λ e i. valid_end c g e.element (edge e i).element e.source h.outline.elements (edge e i).source;
      destinations = λ e i. valid_end c g e.element (edge e i).element e.destination h.outline.elements (edge e i).destination;
      property_classes = one_class_each c (elements_of g) h.outline.elements h.classes;
    }

pub valid_catalog : (c : Catalog) → IsCatalog c → IsValidCatalog c
valid_catalog c h = record {
  few_tables = h.few_tables;
  few_graphs = h.few_graphs;
  table_names = distinct _ h.table_names;
  graph_names = distinct _ h.graph_names;
  tables = λ t i. valid_table c t (all_in (IsTable c.tables) c.tables h.tables t i);
  graphs = λ g i. valid_graph c g (all_in (IsGraph c.tables) c.graphs h.graphs g i);
}
