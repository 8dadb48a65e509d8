-- The first property of each name.
use Rattle.std.proofs.Common.{◌≡◌, ◌+◌, ◌<◌, ◌≤◌, ◌++◌, arith, ℕ, suc, Bool, true, false, not, ◌&&◌, ◌||◌, cond, List, [], ◌∷◌, drop, get_or, length, map, refl, ap, sym, ◌∙◌}
use Rattle.std.proofs.Common.{Option, Some, None, IsSome, is_some, unwrap_or, slice_get, bytes_eq, Bor}
use Rattle.std.specs.List.{find, flat_map, list_any, position_or_len}
use Rattle.std.specs.Cmp.Lexicographic.{bytes_decides, nat_list_eq_equiv}
use Rattle.std.proofs.lemmas.List.{drop_more, drop_all}
use Rattle.std.proofs.lemmas.List.Folds.{find_at}
use Rattle.pgq_base.specs.declared.refusal.Span.{Span}
use Rattle.graph_ast.specs.declared.schema.Named.{Named}
use Rattle.graph_ast.specs.declared.schema.ElementDef.{ElementDef}
use Rattle.graph_ast.specs.declared.catalog.Table.{Table}
use Rattle.graph_ast.specs.declared.catalog.Column.{Column}
use Rattle.first_faults.specs.Names.{is_among}
use Rattle.first_faults.specs.Places.{first_place}
use Rattle.view_check.specs.declared.exposed.Exposed.{Exposed}
use Rattle.view_check.specs.GraphRules.{has_column, column_place, table_place, property_at, exposed_but, is_sound, properties_of, properties_under, properties_in}
use Rattle.view_check.specs.Firsts.{first_named, or_first, all_but, exposed_all, IsCovered, AreLeft}
use Rattle.view_check.proofs.KnownLemmas.{any_place, first_position, entry_first}

pub first_at : (name : List ℕ) (ps : List Exposed) → slice_get ps (unwrap_or (first_place name (map (λ p. p.name) ps)) (length ps)) ≡ first_named ps name
first_at name ps = ap (slice_get ps) (first_position (λ (p : Exposed). p.name) name ps) ∙ sym (find_at (λ p. bytes_eq p.name name) ps)

found_any : (name : List ℕ) (ps : List Exposed) → list_any (λ p. bytes_eq p.name name) ps ≡ is_some (first_named ps name)
found_any name [] = refl
found_any name (p ∷ ps) = go (found_any name ps) (bytes_eq p.name name)
  where
    go : list_any (λ q. bytes_eq q.name name) ps ≡ is_some (first_named ps name) → (b : Bool) → (b || list_any (λ q. bytes_eq q.name name) ps)
        ≡ is_some (cond b (Some p) (first_named ps name))
    go rest true = refl
    go rest false = rest

pub first_known : (name : List ℕ) (ps : List Exposed) → is_some (first_place name (map (λ p. p.name) ps)) ≡ is_some (first_named ps name)
first_known name ps = any_place (λ (p : Exposed). p.name) name ps ∙ found_any name ps

-- ---- one after the other

pub or_none : (o : Option Exposed) → or_first o None ≡ o
or_none None = refl
or_none (Some p) = refl

pub or_cond_none : (b : Bool) (o : Option Exposed) → or_first o (cond b None None) ≡ o
or_cond_none true o = or_none o
or_cond_none false o = or_none o

pub or_assoc : (a b c : Option Exposed) → or_first (or_first a b) c ≡ or_first a (or_first b c)
or_assoc None b c = refl
or_assoc (Some p) b c = refl

pub or_found : (a b : Option Exposed) → is_some a ≡ true → a ≡ or_first a b
or_found None b h = cc
or_found (Some p) b h = refl

pub first_append : (ps qs : List Exposed) (name : List ℕ) → first_named (ps ++ qs) name ≡ or_first (first_named ps name) (first_named qs name)
first_append [] qs name = refl
first_append (p ∷ ps) qs name = go (first_append ps qs name) (bytes_eq p.name name)
  where
    go : first_named (ps ++ qs) name ≡ or_first (first_named ps name) (first_named qs name) → (b : Bool) → cond b (Some p) (first_named (ps ++ qs) name)
        ≡ or_first (cond b (Some p) (first_named ps name)) (first_named qs name)
    go rest true = refl
    go rest false = rest

-- ---- a property whose name may be there

-- the name is there already
pub kept : (firsts : List Exposed) (name : List ℕ) (block : List ℕ → Option Exposed) → is_some (first_named firsts name) ≡ true → (q : List ℕ) →
    first_named firsts q ≡ or_first (first_named firsts q) (cond (bytes_eq name q) (block q) None)
kept firsts name block h q = go (bytes_eq name q) refl
  where
    go : (b : Bool) → bytes_eq name q ≡ b → first_named firsts q ≡ or_first (first_named firsts q) (cond b (block q) None)
    go true e = let same : name ≡ q = (bytes_decides name q).0 e in or_found (first_named firsts q) (block q) (ap (λ n. is_some (first_named firsts n)) (sym same) ∙ h)
    go false e = sym (or_none (first_named firsts q))

-- there is none of that name
pub missing : (firsts : List Exposed) (name : List ℕ) (block : List ℕ → Option Exposed) → block name ≡ None → (q : List ℕ) →
    first_named firsts q ≡ or_first (first_named firsts q) (cond (bytes_eq name q) (block q) None)
missing firsts name block h q = go (bytes_eq name q) refl
  where
    go : (b : Bool) → bytes_eq name q ≡ b → first_named firsts q ≡ or_first (first_named firsts q) (cond b (block q) None)
    go true e = let same : name ≡ q = (bytes_decides name q).0 e in
        sym (ap (or_first (first_named firsts q)) (ap block (sym same) ∙ h) ∙ or_none (first_named firsts q))
    go false e = sym (or_none (first_named firsts q))

-- it comes behind the others
pub put : (firsts : List Exposed) (name : List ℕ) (item : Exposed) (block : List ℕ → Option Exposed) → item.name ≡ name → block name ≡ Some item → (q : List ℕ) →
    first_named (firsts ++ item ∷ []) q ≡ or_first (first_named firsts q) (cond (bytes_eq name q) (block q) None)
put firsts name item block named h q = first_append firsts (item ∷ []) q ∙ ap (or_first (first_named firsts q)) (ap (λ n. cond (bytes_eq n q) (Some item) None) named
    ∙ go (bytes_eq name q) refl)
  where
    go : (b : Bool) → bytes_eq name q ≡ b → cond b (Some item) None ≡ cond b (block q) None
    go true e = let same : name ≡ q = (bytes_decides name q).0 e in sym h ∙ ap block same
    go false e = refl

pub all_but_named : (t : Table) (names : List Named) (span : Span) (name : List ℕ) (item : Exposed) → all_but t names span name ≡ Some item → item.name ≡ name
all_but_named t names span name item h = go (has_column t name && not (is_among name names)) h
  where
    go : (b : Bool) → cond b (Some (property_at t name span (column_place t name))) None ≡ Some item → item.name ≡ name
    go true e = sym (ap (λ o. (unwrap_or o item).name) e)
    go false e = cc

-- ---- a loop over names

any_cond : (b c : Bool) (o : Option Exposed) → or_first (cond b o None) (cond c o None) ≡ cond (b || c) o None
any_cond true true None = refl
any_cond true true (Some p) = refl
any_cond true false o = or_none o
any_cond false c o = refl

pub names_step : {X : Type 0} (f : X → List ℕ) (a o : Option Exposed) (q : List ℕ) (xs : List X) (i : ℕ) (x : X) → i < length xs → x ≡ get_or xs i x →
    or_first (or_first a (cond (bytes_eq (f x) q) o None)) (cond (list_any (λ y. bytes_eq (f y) q) (drop (i + 1) xs)) o None) ≡
    or_first a (cond (list_any (λ y. bytes_eq (f y) q) (drop i xs)) o None)
names_step f a o q xs i x within is =
    or_assoc a (cond (bytes_eq (f x) q) o None) (cond (list_any (λ y. bytes_eq (f y) q) (drop (i + 1) xs)) o None)
    ∙ ap (or_first a) (any_cond (bytes_eq (f x) q) (list_any (λ y. bytes_eq (f y) q) (drop (i + 1) xs)) o
    ∙ ap (λ y. cond (bytes_eq (f y) q || list_any (λ z. bytes_eq (f z) q) (drop (i + 1) xs)) o None) is
    ∙ ap (λ l. cond (list_any (λ y. bytes_eq (f y) q) l) o None) (sym (drop_more xs i x within)))

-- a name that is no column's has no property
pub all_columns : (t : Table) (names : List Named) (span : Span) (q : List ℕ) → cond (has_column t q) (all_but t names span q) None ≡ all_but t names span q
all_columns t names span q = go (has_column t q) refl
  where
    go : (b : Bool) → has_column t q ≡ b → cond b (all_but t names span q) None ≡ cond (b && not (is_among q names)) (Some (property_at t q span (column_place t q))) None
    go true e = ap (λ c. cond (c && not (is_among q names)) (Some (property_at t q span (column_place t q))) None) e
    go false e = refl

-- a loop over lists of properties
pub lists_step : {X : Type 0} (f : X → List Exposed) (a : Option Exposed) (q : List ℕ) (xs : List X) (i : ℕ) (x : X) → i < length xs → x ≡ get_or xs i x →
    or_first (or_first a (first_named (f x) q)) (first_named (flat_map f (drop (i + 1) xs)) q) ≡ or_first a (first_named (flat_map f (drop i xs)) q)
lists_step f a q xs i x within is =
    or_assoc a (first_named (f x) q) (first_named (flat_map f (drop (i + 1) xs)) q)
    ∙ ap (or_first a) (sym (first_append (f x) (flat_map f (drop (i + 1) xs)) q)
    ∙ ap (λ y. first_named (f y ++ flat_map f (drop (i + 1) xs)) q) is
    ∙ ap (λ l. first_named (flat_map f l) q) (sym (drop_more xs i x within)))

-- ---- ALL COLUMNS

none_either : (b : Bool) (o : Option Exposed) → cond (b && false) o None ≡ None
none_either true o = refl
none_either false o = refl

-- the first property of that name among all columns but some, from a place on
block_from : (t : Table) (names : List Named) (span : Span) (q : List ℕ) (k : ℕ) (cs : List Column) →
    first_named (exposed_but t names span k cs) q ≡
    cond (list_any (λ c. bytes_eq c.name q) cs && not (is_among q names)) (Some (property_at t q span (k + position_or_len (λ c. bytes_eq c.name q) cs))) None
block_from t names span q k [] = refl
block_from t names span q k (c ∷ cs) =
    let sum : (1 + k) + position_or_len (λ (d : Column). bytes_eq d.name q) cs ≡ k + (1 + position_or_len (λ (d : Column). bytes_eq d.name q) cs) = omega arith in
    go (block_from t names span q (1 + k) cs ∙ ap (λ n. cond (list_any (λ d. bytes_eq d.name q) cs && not (is_among q names)) (Some (property_at t q span n)) None) sum)
    (bytes_eq c.name q) refl (is_among c.name names) refl
  where
    go : first_named (exposed_but t names span (1 + k) cs) q ≡
        cond (list_any (λ d. bytes_eq d.name q) cs && not (is_among q names)) (Some (property_at t q span (k + (1 + position_or_len (λ d. bytes_eq d.name q) cs)))) None →
        (b : Bool) → bytes_eq c.name q ≡ b → (m : Bool) → is_among c.name names ≡ m →
        first_named (cond m [] (property_at t c.name span k ∷ []) ++ exposed_but t names span (1 + k) cs) q ≡
        cond ((b || list_any (λ d. bytes_eq d.name q) cs) && not (is_among q names))
        (Some (property_at t q span (k + cond (not b) (1 + position_or_len (λ d. bytes_eq d.name q) cs) 0))) None
    go later true e true h =
        let same : c.name ≡ q = (bytes_decides c.name q).0 e in
        let among : is_among q names ≡ true = ap (λ n. is_among n names) (sym same) ∙ h in
        later
        ∙ ap (λ w. cond (list_any (λ d. bytes_eq d.name q) cs && not w) (Some (property_at t q span (k + (1 + position_or_len (λ d. bytes_eq d.name q) cs)))) None) among
        ∙ none_either (list_any (λ d. bytes_eq d.name q) cs) (Some (property_at t q span (k + (1 + position_or_len (λ d. bytes_eq d.name q) cs))))
        ∙ ap (λ w. cond (not w) (Some (property_at t q span (k + 0))) None) (sym among)
    go later true e false h =
        let same : c.name ≡ q = (bytes_decides c.name q).0 e in
        let among : is_among q names ≡ false = ap (λ n. is_among n names) (sym same) ∙ h in
        let sum : k ≡ k + 0 = omega arith in
        ap (λ w. cond w (Some (property_at t c.name span k)) (first_named (exposed_but t names span (1 + k) cs) q)) e
        ∙ ap (λ n. Some (property_at t n span k)) same
        ∙ ap (λ n. Some (property_at t q span n)) sum
        ∙ ap (λ w. cond (not w) (Some (property_at t q span (k + 0))) None) (sym among)
    go later false e true h = later
    go later false e false h = ap (λ w. cond w (Some (property_at t c.name span k)) (first_named (exposed_but t names span (1 + k) cs) q)) e ∙ later

pub block_first : (t : Table) (names : List Named) (span : Span) (q : List ℕ) → first_named (exposed_but t names span 0 t.columns) q ≡ all_but t names span q
block_first t names span q =
    let sum : 0 + column_place t q ≡ column_place t q = omega arith in
    block_from t names span q 0 t.columns ∙ ap (λ n. cond (has_column t q && not (is_among q names)) (Some (property_at t q span n)) None) sum

-- ---- what is covered

pub some_first : (a b : Option Exposed) → is_some a ≡ true → is_some (or_first a b) ≡ true
some_first None b h = cc
some_first (Some p) b h = refl

-- where all columns but the rest are covered, it is enough to look at the rest
pub rest_enough : (t : Table) (rest names : List Named) (span : Span) (firsts : List Exposed) → IsCovered t rest firsts → (q : List ℕ) →
    or_first (first_named firsts q) (cond (is_among q rest) (all_but t names span q) None) ≡ or_first (first_named firsts q) (all_but t names span q)
rest_enough t rest names span firsts covered q = go (is_among q rest) refl (has_column t q) refl
  where
    go : (b : Bool) → is_among q rest ≡ b → (h : Bool) → has_column t q ≡ h →
        or_first (first_named firsts q) (cond b (all_but t names span q) None) ≡ or_first (first_named firsts q) (all_but t names span q)
    go true e h f = refl
    go false e true f = let there : is_some (first_named firsts q) ≡ true = covered q f e in
        sym (or_found (first_named firsts q) None there) ∙ or_found (first_named firsts q) (all_but t names span q) there
    go false e false f = ap (or_first (first_named firsts q)) (sym (ap (λ w. cond (w && not (is_among q names)) (Some (property_at t q span (column_place t q))) None) f))

-- after ALL COLUMNS but some, all but these are covered
pub covers : (t : Table) (names : List Named) (span : Span) (firsts all : List Exposed)
    → ((q : List ℕ) → first_named all q ≡ or_first (first_named firsts q) (all_but t names span q)) → IsCovered t names all
covers t names span firsts all is q has out =
    ap is_some (is q)
    ∙ ap (λ w. is_some (or_first (first_named firsts q) (cond (w && not (is_among q names)) (Some (property_at t q span (column_place t q))) None))) has
    ∙ ap (λ w. is_some (or_first (first_named firsts q) (cond (not w) (Some (property_at t q span (column_place t q))) None))) out
    ∙ some_last (first_named firsts q)
  where
    some_last : (a : Option Exposed) → is_some (or_first a (Some (property_at t q span (column_place t q)))) ≡ true
    some_last None = refl
    some_last (Some p) = refl

-- with more properties, what was covered still is
pub still_covered : (tables : List Table) (left : Option (ℕ × Bor (List Named))) (firsts all : List Exposed) (more : List ℕ → Option Exposed) →
    ((q : List ℕ) → first_named all q ≡ or_first (first_named firsts q) (more q)) → AreLeft tables left firsts → AreLeft tables left all
still_covered tables None firsts all more is h = tt
still_covered tables (Some left) firsts all more is h = λ t at q has out. ap is_some (is q) ∙ some_first (first_named firsts q) (more q) (h t at q has out)

-- ---- ends of loops

pub names_end : {X : Type 0} (f : X → List ℕ) (a o : Option Exposed) (q : List ℕ) (xs : List X) (i : ℕ) → length xs ≤ i →
    a ≡ or_first a (cond (list_any (λ y. bytes_eq (f y) q) (drop i xs)) o None)
names_end f a o q xs i end = sym (ap (λ l. or_first a (cond (list_any (λ y. bytes_eq (f y) q) l) o None)) (drop_all i xs end) ∙ or_none a)

pub lists_end : {X : Type 0} (f : X → List Exposed) (a : Option Exposed) (q : List ℕ) (xs : List X) (i : ℕ) → length xs ≤ i →
    a ≡ or_first a (first_named (flat_map f (drop i xs)) q)
lists_end f a q xs i end = sym (ap (λ l. or_first a (first_named (flat_map f l) q)) (drop_all i xs end) ∙ or_none a)

pub refs_step : (tables : List Table) (a : Option Exposed) (q : List ℕ) (xs : List (Bor ElementDef)) (i : ℕ) (x : Bor ElementDef) → i < length xs → x ≡ get_or xs i x →
    or_first (or_first a (first_named (properties_in tables x.now) q)) (first_named (flat_map (properties_in tables) (map (λ e. e.now) (drop (i + 1) xs))) q) ≡
    or_first a (first_named (flat_map (properties_in tables) (map (λ e. e.now) (drop i xs))) q)
refs_step tables a q xs i x within is =
    or_assoc a (first_named (properties_in tables x.now) q) (first_named (flat_map (properties_in tables) (map (λ e. e.now) (drop (i + 1) xs))) q)
    ∙ ap (or_first a) (sym (first_append (properties_in tables x.now) (flat_map (properties_in tables) (map (λ e. e.now) (drop (i + 1) xs))) q)
    ∙ ap (λ (y : Bor ElementDef). first_named (properties_in tables y.now ++ flat_map (properties_in tables) (map (λ e. e.now) (drop (i + 1) xs))) q) is
    ∙ ap (λ l. first_named (flat_map (properties_in tables) (map (λ (e : Bor ElementDef). e.now) l)) q) (sym (drop_more xs i x within)))

-- ---- one clause, one element

pub sound_first : (t : Table) (span : Span) (names : List Named) (q : List ℕ) → is_sound t names ≡ true → all_but t names span q ≡ first_named (exposed_all t span names) q
sound_first t span names q h = sym (ap (λ b. first_named (cond b (exposed_but t names span 0 t.columns) []) q) h ∙ block_first t names span q)

pub known_in : (tables : List Table) (e : ElementDef) (t : Table) → slice_get tables (table_place tables e.table.name) ≡ Some t → properties_of t e ≡ properties_in tables e
known_in tables e t h = ap (λ o. properties_under o e) (sym h ∙ entry_first e.table.name tables)

pub unknown_in : (tables : List Table) (e : ElementDef) → slice_get tables (table_place tables e.table.name) ≡ None → [] ≡ properties_in tables e
unknown_in tables e h = ap (λ o. properties_under o e) (sym h ∙ entry_first e.table.name tables)
