-- What a valid catalog and an instance that fits say of the rows of an element's table.
use Rattle.std.proofs.Common.{◌≡◌, ℕ, zero, suc, ◌<◌, Bool, true, false, not, ◌||◌, cond, List, [], ◌∷◌, map, filter, length, get_or, refl, sym, ap, ap₂, subst, ◌∙◌, inl, inr}
use Rattle.std.proofs.Common.{arith, true≢false}
use Rattle.pgq_base.specs.declared.value.Value.TheVariants.{Null}
use Rattle.pgq_base.specs.Instances.{RowValues, TableRows, InstanceRows, value_at, values_at, same_values}
use Rattle.pgq_base.proofs.ValueOrder.{same_values_decides}
use Rattle.multisets.specs.Bags.{IsIn, IsWithoutRepeats}
use Rattle.multisets.proofs.Members.{in_append}
use Rattle.graph_ast.specs.declared.catalog.Catalog.{Catalog}
use Rattle.graph_ast.specs.declared.catalog.Table.{Table}
use Rattle.graph_ast.specs.declared.catalog.Column.{Column}
use Rattle.graph_ast.specs.declared.catalog.ColumnType.TheVariants.{Boolean}
use Rattle.graph_ast.specs.declared.catalog.Graph.{Graph}
use Rattle.graph_ast.specs.declared.catalog.Element.{Element}
use Rattle.graph_ast.specs.Lookups.{table_at, vertex_element, edge_element, no_element}
use Rattle.graph_ast.specs.Catalogs.{IsValidElement, IsValidGraph}
use Rattle.graph_ast.specs.Fits.{is_null, has_null, IsValueOf, IsRowOf, AreRowsOf, Fits}
use Rattle.graph_meaning.specs.View.{rows_of, row_with}
use Rattle.path_lowering.specs.declared.spots.Kind.{Kind}
use Rattle.path_lowering.specs.declared.spots.Kind.TheVariants.{Vertex, Edge}
use Rattle.path_lowering.specs.Spots.{element_of_kind}
use Rattle.path_lowering.specs.Shown.{count_of_kind}

pub in_at : {X : Type 0} (xs : List X) (i : ℕ) (d : X) → i < length xs → IsIn (get_or xs i d) xs
in_at [] i d h = absurd (omega arith)
in_at (x ∷ xs) zero d h = inl refl
in_at (x ∷ xs) (suc i) d h = inr (in_at xs i d (omega arith))

pub in_map : {A B : Type 0} (f : A → B) (x : A) (xs : List A) → IsIn x xs → IsIn (f x) (map f xs)
in_map f x [] h = absurd h
in_map f x (y ∷ ys) (inl e) = inl (ap f e)
in_map f x (y ∷ ys) (inr h) = inr (in_map f x ys h)

in_filter : {A : Type 0} (p : A → Bool) (x : A) (xs : List A) → IsIn x xs → p x ≡ true → IsIn x (filter p xs)
in_filter p x [] h kept = absurd h
in_filter p x (y ∷ ys) (inl e) kept = subst (λ b. IsIn x (cond b (y ∷ filter p ys) (filter p ys))) (sym (ap p e ∙ kept)) (inl e)
in_filter p x (y ∷ ys) (inr h) kept = go (p y) (in_filter p x ys h kept)
  where
    go : (b : Bool) → IsIn x (filter p ys) → IsIn x (cond b (y ∷ filter p ys) (filter p ys))
    go true k = inr k
    go false k = k

-- where a list's kept values do not repeat, a kept value tells its member
pub told_apart : {A B : Type 0} (p : B → Bool) (f : A → B) (xs : List A) → IsWithoutRepeats (filter p (map f xs))
    → (x y : A) → IsIn x xs → IsIn y xs → f x ≡ f y → p (f x) ≡ true → x ≡ y
told_apart p f [] once x y h k e kept = absurd h
told_apart {A} p f (z ∷ zs) once x y h k e kept = go (λ o m n. told_apart p f zs o x y m n e kept) h k
  where
    rest : (b : Bool) → IsWithoutRepeats (cond b (f z ∷ filter p (map f zs)) (filter p (map f zs))) → IsWithoutRepeats (filter p (map f zs))
    rest true o = o.1
    rest false o = o

    none : p (f z) ≡ true → IsIn (f z) (filter p (map f zs)) → ⊥
    none q = (subst (λ b. IsWithoutRepeats (cond b (f z ∷ filter p (map f zs)) (filter p (map f zs)))) q once).0

    there : (w : A) → IsIn w zs → p (f w) ≡ true → IsIn (f w) (filter p (map f zs))
    there w m q = in_filter p (f w) (map f zs) (in_map f w zs m) q

    go : (IsWithoutRepeats (filter p (map f zs)) → IsIn x zs → IsIn y zs → x ≡ y) → IsIn x (z ∷ zs) → IsIn y (z ∷ zs) → x ≡ y
    go more (inl h) (inl k) = sym h ∙ k
    go more (inr h) (inr k) = more (rest (p (f z)) once) h k
    go more (inl h) (inr k) = absurd (none (ap (λ w. p (f w)) h ∙ kept) (subst (λ v. IsIn v (filter p (map f zs))) (sym e ∙ sym (ap f h)) (there y k (ap p (sym e) ∙ kept))))
    go more (inr h) (inl k) = absurd (none (ap (λ w. p (f w)) k ∙ ap p (sym e) ∙ kept) (subst (λ v. IsIn v (filter p (map f zs))) (e ∙ sym (ap f k)) (there x h kept)))

-- a row of a table has a value of each column's type
pub typed_at : (columns : List Column) (row : RowValues) → IsRowOf columns row → (place : ℕ) (d : Column) → place < length columns
    → IsValueOf (get_or columns place d) (get_or row place Null)
typed_at [] [] h place d l = absurd (omega arith)
typed_at [] (v ∷ vs) h place d l = absurd h
typed_at (c ∷ cs) [] h place d l = absurd h
typed_at (c ∷ cs) (v ∷ vs) h zero d l = h.0
typed_at (c ∷ cs) (v ∷ vs) h (suc place) d l = typed_at cs vs h.1 place d (omega arith)

pub without_null : (columns : List ℕ) (row : RowValues) → ((c : ℕ) → IsIn c columns → is_null (value_at row c) ≡ false) → has_null (values_at columns row) ≡ false
without_null [] row h = refl
without_null (c ∷ cs) row h = ap₂ (λ a b. a || b) (h c (inl refl)) (without_null cs row (λ d k. h d (inr k)))

-- rows that agree in some columns agree in columns among these
agree_among : (some all : List ℕ) (x y : RowValues) → ((c : ℕ) → IsIn c some → IsIn c all) → values_at all x ≡ values_at all y → values_at some x ≡ values_at some y
agree_among [] all x y among e = refl
agree_among (c ∷ cs) all x y among e = ap₂ (λ v vs. v ∷ vs) (at all (among c (inl refl)) e) (agree_among cs all x y (λ d k. among d (inr k)) e)
  where
    at : (columns : List ℕ) → IsIn c columns → values_at columns x ≡ values_at columns y → value_at x c ≡ value_at y c
    at [] h e = absurd h
    at (d ∷ ds) (inl h) e = let k : value_at x d ≡ value_at y d = cc in subst (λ n. value_at x n ≡ value_at y n) h k
    at (d ∷ ds) (inr h) e = let k : values_at ds x ≡ values_at ds y = cc in at ds h k

module _ (catalog : Catalog) (instance : InstanceRows) (fits : Fits catalog instance) where
  module _ (element : Element) (valid : IsValidElement catalog element) where
    abbrev table : Table
    table = table_at catalog element.table

    abbrev rows : TableRows
    rows = rows_of instance element

    rows_fit : AreRowsOf instance table rows
    rows_fit = fits.rows element.table valid.table_there

    -- a key column is never Null
    pub key_value : (row : RowValues) → IsIn row rows → (c : ℕ) → IsIn c element.key → is_null (value_at row c) ≡ false
    key_value row m c k =
        (typed_at table.columns row (rows_fit.typed row m) c (record { name = []; kind = Boolean; not_null = false }) (valid.key.places c k)).not_null (valid.not_null c k)

    -- the key values tell the row
    pub key_tells : (x y : RowValues) → IsIn x rows → IsIn y rows → values_at element.key x ≡ values_at element.key y → x ≡ y
    key_tells x y m n e =
        let key = valid.unique.0 in
        let among : (c : ℕ) → IsIn c key.columns → IsIn c element.key = λ c. (valid.unique.2 c).0 in
        told_apart (λ values. not (has_null values)) (values_at key.columns) rows (rows_fit.keys key valid.unique.1) x y m n
        (agree_among key.columns element.key x y among e)
        (ap not (without_null key.columns x (λ c k. key_value x m c (among c k))))

    row_among : (row : RowValues) → IsIn row rows → (some : TableRows) → IsIn row some → ((x : RowValues) → IsIn x some → IsIn x rows)
        → row_with element.key (values_at element.key row) some ≡ row
    row_among row m [] h among = absurd h
    row_among row m (x ∷ xs) h among = pick (same_values (values_at element.key row) (values_at element.key x)) refl h (λ k. row_among row m xs k (λ y p. among y (inr p)))
      where
        pick : (b : Bool) → same_values (values_at element.key row) (values_at element.key x) ≡ b → IsIn row (x ∷ xs)
            → (IsIn row xs → row_with element.key (values_at element.key row) xs ≡ row)
            → cond b x (row_with element.key (values_at element.key row) xs) ≡ row
        pick true e k more = sym (key_tells row x m (among x (inl refl)) ((same_values_decides _ _).0 e))
        pick false e (inl k) more = absurd (true≢false (sym ((same_values_decides (values_at element.key row) (values_at element.key x)).1 (ap (values_at element.key) (sym k)))
            ∙ e))
        pick false e (inr k) more = more k

    -- so the row of its key values is the row itself
    pub row_found : (row : RowValues) → IsIn row rows → row_with element.key (values_at element.key row) rows ≡ row
    row_found row m = row_among row m rows m (λ x k. k)

-- the element of a place is one of the graph's
pub element_valid : (catalog : Catalog) (graph : Graph) → IsValidGraph catalog graph → (kind : Kind) (number : ℕ) → number < count_of_kind graph kind
    → IsValidElement catalog (element_of_kind graph kind number)
element_valid catalog graph valid Vertex number h =
    valid.elements (vertex_element graph number) (in_append _ graph.vertices (map (λ edge. edge.element) graph.edges) (inl (in_at graph.vertices number no_element h)))
element_valid catalog graph valid Edge number h =
    valid.elements (edge_element graph number).element (in_append _ graph.vertices (map (λ edge. edge.element) graph.edges)
    (inr (in_map (λ edge. edge.element) (edge_element graph number) graph.edges
    (in_at graph.edges number (record { element = no_element; source = record { columns = []; vertex = 0 }; destination = record { columns = []; vertex = 0 } }) h))))
