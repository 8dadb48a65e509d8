-- Label clauses and the names of their properties.
use Rattle.std.proofs.Common.{◌≡◌, ◌+◌, ◌<◌, ◌++◌, arith, nat_eq, ℕ, suc, Bool, true, false, not, ◌&&◌, ◌||◌, cond, List, [], ◌∷◌, append_assoc, drop, get_or, length, map, refl}
use Rattle.std.proofs.Common.{ap, sym, ◌∙◌, Option, Some, None, option_map, is_some, slice_get, bytes_eq, Bor}
use Rattle.std.specs.List.{find, flat_map, list_any, list_all}
use Rattle.std.specs.Cmp.Lexicographic.{bytes_decides}
use Rattle.std.proofs.lemmas.List.{drop_more, append-nil}
use Rattle.pgq_base.specs.declared.refusal.Span.{Span}
use Rattle.pgq_base.specs.declared.code.Code.{Code}
use Rattle.pgq_base.specs.declared.code.Code.TheVariants as codes_of
use Rattle.graph_ast.specs.declared.schema.Named.{Named}
use Rattle.graph_ast.specs.declared.schema.PropertyDef.{PropertyDef}
use Rattle.graph_ast.specs.declared.schema.ElementDef.{ElementDef}
use Rattle.graph_ast.specs.declared.schema.LabelDef.{LabelDef}
use Rattle.first_faults.proofs.Steps.{append_step}
use Rattle.graph_ast.specs.declared.catalog.Table.{Table}
use Rattle.graph_ast.specs.declared.catalog.Column.{Column}
use Rattle.first_faults.specs.declared.faults.Fault.{Fault}
use Rattle.first_faults.specs.Faults.{first_of, when, clash, clashing, clashing_behind}
use Rattle.first_faults.specs.Names.{is_among, has_text, same_texts}
use Rattle.first_faults.specs.Places.{first_place}
use Rattle.view_check.specs.declared.exposed.Exposed.{Exposed}
use Rattle.view_check.specs.declared.exposed.Shown.{Shown}
use Rattle.view_check.specs.declared.clauses.Clause.{Clause}
use Rattle.view_check.specs.declared.clauses.Source.{Source}
use Rattle.view_check.specs.GraphRules.{has_column, exposed_by, exposed_but, property_at, is_sound_label, table_place, shown, shown_of, shown_under, shown_in, shown_from}
use Rattle.view_check.specs.GraphRules.{label_properties_differ}
use Rattle.view_check.specs.Clauses.{columns_but, names_in, shown_by}
use Rattle.view_check.proofs.KnownLemmas.{any_place, entry_first}

same_map : (xs : List (List ℕ)) → map (λ x. x) xs ≡ xs
same_map [] = refl
same_map (x ∷ xs) = ap (λ l. x ∷ l) (same_map xs)

pub text_known : (name : List ℕ) (texts : List (List ℕ)) → is_some (first_place name texts) ≡ has_text name texts
text_known name texts = ap (λ l. is_some (first_place name l)) (sym (same_map texts)) ∙ any_place (λ x. x) name texts

map_append : {X Y : Type 0} (f : X → Y) (xs ys : List X) → map f (xs ++ ys) ≡ map f xs ++ map f ys
map_append f [] ys = refl
map_append f (x ∷ xs) ys = ap (λ l. f x ∷ l) (map_append f xs ys)

pub listed_names_step : (t : Table) (done : List (List ℕ)) (xs : List PropertyDef) (i : ℕ) (x : PropertyDef) → i < length xs → x ≡ get_or xs i x →
    done ++ map (λ p. p.name) (flat_map (exposed_by t) (drop i xs)) ≡ (done ++ map (λ p. p.name) (exposed_by t x)) ++ map (λ p. p.name) (flat_map (exposed_by t) (drop (i + 1) xs))
listed_names_step t done xs i x within is =
    let f : Exposed → List ℕ = λ p. p.name in
    ap (λ l. done ++ map f (flat_map (exposed_by t) l)) (drop_more xs i x within)
    ∙ ap (λ y. done ++ map f (exposed_by t y ++ flat_map (exposed_by t) (drop (i + 1) xs))) (sym is)
    ∙ ap (λ l. done ++ l) (map_append f (exposed_by t x) (flat_map (exposed_by t) (drop (i + 1) xs)))
    ∙ sym (append_assoc done (map f (exposed_by t x)) (map f (flat_map (exposed_by t) (drop (i + 1) xs))))

-- the names of ALL COLUMNS but some
names_from : (t : Table) (names : List Named) (span : Span) (k : ℕ) (cs : List Column) → columns_but names cs ≡ map (λ p. p.name) (exposed_but t names span k cs)
names_from t names span k [] = refl
names_from t names span k (c ∷ cs) = go (names_from t names span (1 + k) cs) (is_among c.name names)
  where
    go : columns_but names cs ≡ map (λ p. p.name) (exposed_but t names span (1 + k) cs) → (b : Bool) →
        cond b [] (c.name ∷ []) ++ columns_but names cs ≡ map (λ p. p.name) (cond b [] (property_at t c.name span k ∷ []) ++ exposed_but t names span (1 + k) cs)
    go rest true = rest
    go rest false = ap (λ l. c.name ∷ l) rest

pub all_names : (t : Table) (names : List Named) (span : Span) → columns_but names t.columns ≡ map (λ p. p.name) (exposed_but t names span 0 t.columns)
all_names t names span = names_from t names span 0 t.columns

none_either : (b : Bool) → (b && false) ≡ false
none_either true = refl
none_either false = refl

text_from : (names : List Named) (name : List ℕ) (cs : List Column) → has_text name (columns_but names cs) ≡ (list_any (λ c. bytes_eq c.name name) cs && not (is_among name names))
text_from names name [] = refl
text_from names name (c ∷ cs) = go (text_from names name cs) (bytes_eq c.name name) refl (is_among c.name names) refl
  where
    go : has_text name (columns_but names cs) ≡ (list_any (λ d. bytes_eq d.name name) cs && not (is_among name names)) →
        (b : Bool) → bytes_eq c.name name ≡ b → (m : Bool) → is_among c.name names ≡ m →
        has_text name (cond m [] (c.name ∷ []) ++ columns_but names cs) ≡ ((b || list_any (λ d. bytes_eq d.name name) cs) && not (is_among name names))
    go rest true e true h =
        let same : c.name ≡ name = (bytes_decides c.name name).0 e in
        let among : is_among name names ≡ true = ap (λ n. is_among n names) (sym same) ∙ h in
        rest ∙ ap (λ w. list_any (λ d. bytes_eq d.name name) cs && not w) among ∙ none_either (list_any (λ d. bytes_eq d.name name) cs) ∙ ap not (sym among)
    go rest true e false h =
        let same : c.name ≡ name = (bytes_decides c.name name).0 e in
        let among : is_among name names ≡ false = ap (λ n. is_among n names) (sym same) ∙ h in
        ap (λ w. w || has_text name (columns_but names cs)) e ∙ ap not (sym among)
    go rest false e true h = rest
    go rest false e false h = ap (λ w. w || has_text name (columns_but names cs)) e ∙ rest

pub column_shown : (t : Table) (names : List Named) (name : List ℕ) → (has_column t name && not (is_among name names)) ≡ has_text name (columns_but names t.columns)
column_shown t names name = sym (text_from names name t.columns)

pub columns_within : (p : List ℕ → Bool) (names : List Named) (cs : List Column) → list_all (λ c. is_among c.name names || p c.name) cs ≡ list_all p (columns_but names cs)
columns_within p names [] = refl
columns_within p names (c ∷ cs) = go (columns_within p names cs) (is_among c.name names)
  where
    go : list_all (λ d. is_among d.name names || p d.name) cs ≡ list_all p (columns_but names cs) → (m : Bool) →
        ((m || p c.name) && list_all (λ d. is_among d.name names || p d.name) cs) ≡ list_all p (cond m [] (c.name ∷ []) ++ columns_but names cs)
    go rest true = rest
    go rest false = ap (λ b. p c.name && b) rest

pub columns_within_source : (tables : List Table) (other : Source) (names : List Named) (cs : List Column) →
    list_all (λ c. is_among c.name names || has_text c.name (names_in tables other)) cs ≡ list_all (λ x. has_text x (names_in tables other)) (columns_but names cs)
columns_within_source tables other names cs = columns_within (λ x. has_text x (names_in tables other)) names cs

pub texts_step : (tables : List Table) (other : Source) (xs : List (Bor (List ℕ))) (i : ℕ) (x : Bor (List ℕ)) → i < length xs → x ≡ get_or xs i x →
    list_all (λ n. has_text n (names_in tables other)) (map (λ n. n.now) (drop i xs)) ≡
    (has_text x.now (names_in tables other) && list_all (λ n. has_text n (names_in tables other)) (map (λ n. n.now) (drop (i + 1) xs)))
texts_step tables other xs i x within is =
    ap (λ l. list_all (λ n. has_text n (names_in tables other)) (map (λ (n : Bor (List ℕ)). n.now) l)) (drop_more xs i x within)
    ∙ ap (λ (y : Bor (List ℕ)). has_text y.now (names_in tables other) && list_all (λ n. has_text n (names_in tables other)) (map (λ n. n.now) (drop (i + 1) xs))) (sym is)

-- ---- a list has the same names as itself

there : (x : List ℕ) (done xs : List (List ℕ)) → has_text x (done ++ x ∷ xs) ≡ true
there x [] xs = ap (λ b. b || has_text x xs) ((bytes_decides x x).1 refl)
there x (y ∷ done) xs = go (there x done xs) (bytes_eq y x)
  where
    go : has_text x (done ++ x ∷ xs) ≡ true → (b : Bool) → (b || has_text x (done ++ x ∷ xs)) ≡ true
    go rest true = refl
    go rest false = rest

within_itself : (done xs : List (List ℕ)) → list_all (λ x. has_text x (done ++ xs)) xs ≡ true
within_itself done [] = refl
within_itself done (x ∷ xs) =
    ap (λ b. b && list_all (λ y. has_text y (done ++ x ∷ xs)) xs) (there x done xs)
    ∙ ap (λ l. list_all (λ y. has_text y l) xs) (sym (append_assoc done (x ∷ []) xs))
    ∙ within_itself (done ++ x ∷ []) xs

pub same_list : (xs ys : List (List ℕ)) → xs ≡ ys → true ≡ same_texts xs ys
same_list xs ys is = sym (ap (λ l. same_texts xs l) (sym is) ∙ ap (λ b. b && list_all (λ y. has_text y xs) xs) (within_itself [] xs) ∙ within_itself [] xs)

-- ---- one more clause

pub pushed : (tables : List Table) (done : List Clause) (c : Clause) → map (shown_by tables) (done ++ c ∷ []) ≡ map (shown_by tables) done ++ shown_by tables c ∷ []
pushed tables done c = map_append (shown_by tables) done (c ∷ [])

pub shown_step : (t : Table) (n : ℕ) (e : ElementDef) (done : List Shown) (xs : List LabelDef) (i : ℕ) (x : LabelDef) → i < length xs → x ≡ get_or xs i x →
    done ++ shown_of t n e (drop i xs) ≡ (done ++ cond (is_sound_label t x.properties) (shown t n e x ∷ []) []) ++ shown_of t n e (drop (i + 1) xs)
shown_step t n e done xs i x within is = append_step (λ l. cond (is_sound_label t l.properties) (shown t n e l ∷ []) []) done xs i x within is

pub all_shown_step : (tables : List Table) (done : List Shown) (xs : List (Bor ElementDef)) (i : ℕ) (x : Bor ElementDef) → i < length xs → x ≡ get_or xs i x →
    done ++ shown_from tables i (map (λ e. e.now) (drop i xs)) ≡ (done ++ shown_in tables i x.now) ++ shown_from tables (i + 1) (map (λ e. e.now) (drop (i + 1) xs))
all_shown_step tables done xs i x within is =
    ap (λ l. done ++ shown_from tables i (map (λ e. e.now) l)) (drop_more xs i x within)
    ∙ ap (λ (y : Bor ElementDef). done ++ (shown_in tables i y.now ++ shown_from tables (1 + i) (map (λ e. e.now) (drop (i + 1) xs)))) (sym is)
    ∙ ap (λ n. done ++ (shown_in tables i x.now ++ shown_from tables n (map (λ (e : Bor ElementDef). e.now) (drop (i + 1) xs)))) (omega arith)
    ∙ sym (append_assoc done (shown_in tables i x.now) (shown_from tables (i + 1) (map (λ e. e.now) (drop (i + 1) xs))))

pub shown_known : (tables : List Table) (n : ℕ) (e : ElementDef) (t : Table) → slice_get tables (table_place tables e.table.name) ≡ Some t → shown_of t n e e.labels
    ≡ shown_in tables n e
shown_known tables n e t h = ap (λ o. shown_under o n e) (sym h ∙ entry_first e.table.name tables)

pub shown_unknown : (tables : List Table) (n : ℕ) (e : ElementDef) (done : List Shown) → slice_get tables (table_place tables e.table.name) ≡ None → done
    ≡ done ++ shown_in tables n e
shown_unknown tables n e done h = sym (append-nil done) ∙ ap (λ o. done ++ shown_under o n e) (sym h ∙ entry_first e.table.name tables)

-- ---- clauses clash where what they show does

find_map : {X Y : Type 0} (f : X → Y) (p : Y → Bool) (xs : List X) → option_map f (find (λ x. p (f x)) xs) ≡ find p (map f xs)
find_map f p [] = refl
find_map f p (x ∷ xs) = go (find_map f p xs) (p (f x))
  where
    go : option_map f (find (λ y. p (f y)) xs) ≡ find p (map f xs) → (b : Bool) → option_map f (cond b (Some x) (find (λ y. p (f y)) xs)) ≡ cond b (Some (f x)) (find p (map f xs))
    go rest true = refl
    go rest false = rest

clash_map : {X Y : Type 0} (f : X → Y) (code : Code) (span : Y → Span) (agree : Y → Y → Bool) (o : Option X) (x : X) →
    clash code (λ y. span (f y)) (λ y z. agree (f y) (f z)) o x ≡ clash code span agree (option_map f o) (f x)
clash_map f code span agree None x = refl
clash_map f code span agree (Some y) x = refl

behind_map : {X Y : Type 0} (f : X → Y) (code : Code) (span : Y → Span) (same agree : Y → Y → Bool) (done xs : List X) →
    clashing_behind code (λ x. span (f x)) (λ x y. same (f x) (f y)) (λ x y. agree (f x) (f y)) done xs ≡ clashing_behind code span same agree (map f done) (map f xs)
behind_map f code span same agree done [] = refl
behind_map f code span same agree done (x ∷ xs) =
    ap (λ l. l ++ clashing_behind code (λ y. span (f y)) (λ y z. same (f y) (f z)) (λ y z. agree (f y) (f z)) (done ++ x ∷ []) xs)
    (clash_map f code span agree (find (λ y. same (f y) (f x)) done) x ∙ ap (λ o. clash code span agree o (f x)) (find_map f (λ y. same y (f x)) done))
    ∙ ap (λ l. clash code span agree (find (λ y. same y (f x)) (map f done)) (f x) ++ l)
    (behind_map f code span same agree (done ++ x ∷ []) xs ∙ ap (λ l. clashing_behind code span same agree l (map f xs)) (map_append f done (x ∷ [])))

pub clauses_clash : (tables : List Table) (clauses : List Clause) (shown : List Shown) (found : Option Fault) → map (shown_by tables) clauses ≡ shown →
    first_of found (clashing codes_of.LabelPropertiesDiffer (λ c. c.span) (λ c d. bytes_eq c.label.now d.label.now)
    (λ c d. nat_eq c.element d.element || same_texts (names_in tables c.source) (names_in tables d.source)) clauses) ≡
    first_of found (label_properties_differ shown)
clauses_clash tables clauses shown found is =
    ap (first_of found) (behind_map (shown_by tables) codes_of.LabelPropertiesDiffer (λ l. l.span) (λ l m. bytes_eq l.label m.label)
    (λ l m. nat_eq l.element m.element || same_texts l.names m.names) [] clauses
    ∙ ap (λ l. label_properties_differ l) is)
