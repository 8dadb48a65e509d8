-- Properties against the first ones of their names.
use Rattle.std.proofs.Common.{◌≡◌, ◌+◌, ◌<◌, ◌++◌, arith, ℕ, Bool, true, false, not, ◌&&◌, ◌||◌, cond, List, [], ◌∷◌, append_assoc, drop, get_or, length, map, refl, ap, sym, ◌∙◌}
use Rattle.std.proofs.Common.{Option, Some, None, nat_eq, slice_get, bytes_eq, Bor}
use Rattle.std.specs.List.{find, flat_map, list_any}
use Rattle.std.specs.Cmp.Lexicographic.{bytes_decides}
use Rattle.std.proofs.lemmas.List.{drop_more, append-nil}
use Rattle.std.proofs.lemmas.List.Concat.{flat_map-append}
use Rattle.pgq_base.specs.declared.refusal.Span.{Span}
use Rattle.pgq_base.specs.declared.code.Code.{Code}
use Rattle.pgq_base.specs.declared.value.Class.{Class}
use Rattle.pgq_base.specs.declared.value.Class.TheVariants as classes
use Rattle.graph_ast.specs.declared.schema.Named.{Named}
use Rattle.graph_ast.specs.declared.schema.ElementDef.{ElementDef}
use Rattle.graph_ast.specs.declared.schema.LabelDef.{LabelDef}
use Rattle.graph_ast.specs.declared.schema.PropertyDef.{PropertyDef}
use Rattle.graph_ast.specs.declared.catalog.Table.{Table}
use Rattle.graph_ast.specs.declared.catalog.Column.{Column}
use Rattle.first_faults.specs.declared.faults.Fault.{Fault}
use Rattle.first_faults.specs.Faults.{first_of, earlier, when, clash, clashing, clashing_behind, is_before}
use Rattle.first_faults.specs.Names.{is_among}
use Rattle.first_faults.proofs.Steps.{first_of_append}
use Rattle.view_check.specs.declared.exposed.Exposed.{Exposed}
use Rattle.view_check.specs.declared.exposed.Part.{Part}
use Rattle.view_check.specs.declared.exposed.Part.TheVariants as part
use Rattle.view_check.specs.GraphRules.{class_at, are_same_class, exposed_by, exposed_in, exposed_but, property_at, properties_in, property_classes_differ, property_columns_differ}
use Rattle.view_check.specs.Firsts.{first_named, or_first, agree, code_of, against, is_bad, bad_from, bad_names}
use Rattle.view_check.proofs.FirstLemmas.{first_append}

-- ---- one property

clash_when : (by : Part) (o : Option Exposed) (p : Exposed) → clash (code_of by) (λ q. q.span) (agree by) o p ≡ when (is_bad by o p.column p.class) (code_of by) p.span
clash_when by None p = refl
clash_when by (Some first) p = refl

pub one_against : (by : Part) (firsts : List Exposed) (found : Option Fault) (p : Exposed) →
    first_of found (when (is_bad by (first_named firsts p.name) p.column p.class) (code_of by) p.span) ≡ first_of found (against by firsts (p ∷ []))
one_against by firsts found p = ap (first_of found) (sym (clash_when by (first_named firsts p.name) p)
    ∙ sym (append-nil (clash (code_of by) (λ q. q.span) (agree by) (first_named firsts p.name) p)))

-- ---- loops

pub lists_step : {X : Type 0} (by : Part) (firsts : List Exposed) (f : X → List Exposed) (found : Option Fault) (xs : List X) (i : ℕ) (x : X) → i < length xs → x ≡ get_or xs i x →
    first_of found (against by firsts (flat_map f (drop i xs))) ≡ first_of (first_of found (against by firsts (f x))) (against by firsts (flat_map f (drop (i + 1) xs)))
lists_step by firsts f found xs i x within is =
    ap (λ l. first_of found (against by firsts (flat_map f l))) (drop_more xs i x within)
    ∙ ap (λ y. first_of found (against by firsts (f y ++ flat_map f (drop (i + 1) xs)))) (sym is)
    ∙ ap (first_of found) (flat_map-append (λ p. clash (code_of by) (λ q. q.span) (agree by) (first_named firsts p.name) p) (f x) (flat_map f (drop (i + 1) xs)))
    ∙ first_of_append found (against by firsts (f x)) (against by firsts (flat_map f (drop (i + 1) xs)))

pub listed_step : (by : Part) (firsts : List Exposed) (t : Table) (found : Option Fault) (xs : List PropertyDef) (i : ℕ) (x : PropertyDef) → i < length xs → x ≡ get_or xs i x →
    first_of found (against by firsts (flat_map (exposed_by t) (drop i xs))) ≡ first_of (first_of found (against by firsts (exposed_by t x)))
    (against by firsts (flat_map (exposed_by t) (drop (i + 1) xs)))
listed_step by firsts t found xs i x within is = lists_step by firsts (exposed_by t) found xs i x within is

pub labels_step : (by : Part) (firsts : List Exposed) (t : Table) (found : Option Fault) (xs : List LabelDef) (i : ℕ) (x : LabelDef) → i < length xs → x ≡ get_or xs i x →
    first_of found (against by firsts (flat_map (λ l. exposed_in t l.span l.properties) (drop i xs))) ≡
    first_of (first_of found (against by firsts (exposed_in t x.span x.properties))) (against by firsts (flat_map (λ l. exposed_in t l.span l.properties) (drop (i + 1) xs)))
labels_step by firsts t found xs i x within is = lists_step by firsts (λ l. exposed_in t l.span l.properties) found xs i x within is

pub elements_step : (by : Part) (firsts : List Exposed) (tables : List Table) (found : Option Fault) (xs : List (Bor ElementDef)) (i : ℕ) (x : Bor ElementDef) → i < length xs
    → x ≡ get_or xs i x →
    first_of found (against by firsts (flat_map (properties_in tables) (map (λ e. e.now) (drop i xs)))) ≡
    first_of (first_of found (against by firsts (properties_in tables x.now))) (against by firsts (flat_map (properties_in tables) (map (λ e. e.now) (drop (i + 1) xs))))
elements_step by firsts tables found xs i x within is =
    ap (λ l. first_of found (against by firsts (flat_map (properties_in tables) (map (λ e. e.now) l)))) (drop_more xs i x within)
    ∙ ap (λ (y : Bor ElementDef). first_of found (against by firsts (properties_in tables y.now ++ flat_map (properties_in tables) (map (λ e. e.now) (drop (i + 1) xs))))) (sym is)
    ∙ ap (first_of found) (flat_map-append (λ p. clash (code_of by) (λ q. q.span) (agree by) (first_named firsts p.name) p) (properties_in tables x.now)
    (flat_map (properties_in tables) (map (λ e. e.now) (drop (i + 1) xs))))
    ∙ first_of_append found (against by firsts (properties_in tables x.now)) (against by firsts (flat_map (properties_in tables) (map (λ e. e.now) (drop (i + 1) xs))))

pub bad_step : (by : Part) (firsts : List Exposed) (t : Table) (done : List (List ℕ)) (xs : List Column) (i : ℕ) (x : Column) → i < length xs → x ≡ get_or xs i x →
    done ++ bad_from by firsts t i (drop i xs) ≡
    (done ++ cond (is_bad by (first_named firsts x.name) i (class_at t i)) (x.name ∷ []) []) ++ bad_from by firsts t (i + 1) (drop (i + 1) xs)
bad_step by firsts t done xs i x within is =
    ap (λ l. done ++ bad_from by firsts t i l) (drop_more xs i x within)
    ∙ ap (λ (y : Column). done ++ (cond (is_bad by (first_named firsts y.name) i (class_at t i)) (y.name ∷ []) [] ++ bad_from by firsts t (1 + i) (drop (i + 1) xs))) (sym is)
    ∙ ap (λ n. done ++ (cond (is_bad by (first_named firsts x.name) i (class_at t i)) (x.name ∷ []) [] ++ bad_from by firsts t n (drop (i + 1) xs))) (omega arith)
    ∙ sym (append_assoc done (cond (is_bad by (first_named firsts x.name) i (class_at t i)) (x.name ∷ []) []) (bad_from by firsts t (i + 1) (drop (i + 1) xs)))

pub outside_step : (names : List Named) (xs : List (Bor (List ℕ))) (i : ℕ) (x : Bor (List ℕ)) → i < length xs → x ≡ get_or xs i x →
    list_any (λ n. not (is_among n names)) (map (λ n. n.now) (drop i xs))
    ≡ (not (is_among x.now names) || list_any (λ n. not (is_among n names)) (map (λ n. n.now) (drop (i + 1) xs)))
outside_step names xs i x within is =
    ap (λ l. list_any (λ n. not (is_among n names)) (map (λ (n : Bor (List ℕ)). n.now) l)) (drop_more xs i x within)
    ∙ ap (λ (y : Bor (List ℕ)). not (is_among y.now names) || list_any (λ n. not (is_among n names)) (map (λ n. n.now) (drop (i + 1) xs))) (sym is)

-- ---- ALL COLUMNS

-- a fault that was found is found again
again : (found : Option Fault) (f : Fault) → earlier (earlier found f) f ≡ earlier found f
unfolding earlier
again None f = go (is_before f f)
  where
    go : (b : Bool) → cond b (Some f) (Some f) ≡ Some f
    go true = refl
    go false = refl
again (Some g) f = go (is_before f g) refl
  where
    same : (b : Bool) → cond b (Some f) (Some f) ≡ Some f
    same true = refl
    same false = refl

    go : (b : Bool) → is_before f g ≡ b → earlier (cond b (Some f) (Some g)) f ≡ cond b (Some f) (Some g)
    go true e = same (is_before f f)
    go false e = ap (λ b. cond b (Some f) (Some g)) e

block_from : (by : Part) (firsts : List Exposed) (t : Table) (names : List Named) (span : Span) (found : Option Fault) (k : ℕ) (cs : List Column) →
    first_of found (against by firsts (exposed_but t names span k cs)) ≡
    first_of found (when (list_any (λ n. not (is_among n names)) (bad_from by firsts t k cs)) (code_of by) span)
block_from by firsts t names span found k [] = refl
block_from by firsts t names span found k (c ∷ cs) = go (λ f. block_from by firsts t names span f (1 + k) cs) (is_among c.name names) refl
    (is_bad by (first_named firsts c.name) k (class_at t k)) refl
  where
    once : (f : Fault) (b : Bool) → f ≡ record { code = code_of by; span = span } → first_of (earlier found f) (when b (code_of by) span) ≡ earlier found f
    once f true is = ap (λ g. earlier (earlier found f) g) (sym is) ∙ again found f
    once f false is = refl

    go : ((f : Option Fault) → first_of f (against by firsts (exposed_but t names span (1 + k) cs))
        ≡ first_of f (when (list_any (λ n. not (is_among n names)) (bad_from by firsts t (1 + k) cs)) (code_of by) span)) →
        (m : Bool) → is_among c.name names ≡ m → (b : Bool) → is_bad by (first_named firsts c.name) k (class_at t k) ≡ b →
        first_of found (against by firsts (cond m [] (property_at t c.name span k ∷ []) ++ exposed_but t names span (1 + k) cs)) ≡
        first_of found (when (list_any (λ n. not (is_among n names)) (cond b (c.name ∷ []) [] ++ bad_from by firsts t (1 + k) cs)) (code_of by) span)
    go later true m true b = later found ∙ ap (λ w. first_of found (when (not w || list_any (λ n. not (is_among n names)) (bad_from by firsts t (1 + k) cs)) (code_of by) span))
        (sym m)
    go later true m false b = later found
    go later false m true b =
        ap (λ l. first_of found (l ++ against by firsts (exposed_but t names span (1 + k) cs)))
        (clash_when by (first_named firsts c.name) (property_at t c.name span k) ∙ ap (λ w. when w (code_of by) span) b)
        ∙ later (earlier found (record { code = code_of by; span = span }))
        ∙ once (record { code = code_of by; span = span }) (list_any (λ n. not (is_among n names)) (bad_from by firsts t (1 + k) cs)) refl
        ∙ ap (λ w. first_of found (when (not w || list_any (λ n. not (is_among n names)) (bad_from by firsts t (1 + k) cs)) (code_of by) span)) (sym m)
    go later false m false b =
        ap (λ l. first_of found (l ++ against by firsts (exposed_but t names span (1 + k) cs)))
        (clash_when by (first_named firsts c.name) (property_at t c.name span k) ∙ ap (λ w. when w (code_of by) span) b)
        ∙ later found

pub block_against : (by : Part) (firsts : List Exposed) (t : Table) (names : List Named) (span : Span) (found : Option Fault) →
    first_of found (when (list_any (λ n. not (is_among n names)) (bad_names by firsts t)) (code_of by) span)
    ≡ first_of found (against by firsts (exposed_but t names span 0 t.columns))
block_against by firsts t names span found = sym (block_from by firsts t names span found 0 t.columns)

-- ---- the whole list

same_bytes : (name : List ℕ) → bytes_eq name name ≡ true
same_bytes name = (bytes_decides name name).1 refl

agrees_itself : (by : Part) (p : Exposed) → agree by p p ≡ true
agrees_itself part.Class p = same p.class
  where
    same : (c : Option Class) → are_same_class c c ≡ true
    same None = refl
    same (Some classes.Number) = refl
    same (Some classes.Text) = refl
    same (Some classes.Truth) = refl
    same (Some classes.Date) = refl
agrees_itself part.Column p = equal p.column
  where
    equal : (n : ℕ) → nat_eq n n ≡ true
    equal n = grind (arith)

behind : (by : Part) (firsts before xs : List Exposed) → ((q : List ℕ) → first_named firsts q ≡ first_named (before ++ xs) q) →
    clashing_behind (code_of by) (λ p. p.span) (λ p q. bytes_eq p.name q.name) (agree by) before xs ≡ against by firsts xs
behind by firsts before [] is = refl
behind by firsts before (x ∷ xs) is = ap2 (head (first_named before x.name) refl) (behind by firsts (before ++ x ∷ []) xs later)
  where
    later : (q : List ℕ) → first_named firsts q ≡ first_named ((before ++ x ∷ []) ++ xs) q
    later q = is q ∙ ap (λ l. first_named l q) (sym (append_assoc before (x ∷ []) xs))

    ap2 : {a b c d : List Fault} → a ≡ b → c ≡ d → a ++ c ≡ b ++ d
    ap2 {a = a} {d = d} e f = ap (λ l. a ++ l) f ∙ ap (λ l. l ++ d) e

    itself : clash (code_of by) (λ p. p.span) (agree by) (Some x) x ≡ []
    itself = ap (λ b. when (not b) (code_of by) x.span) (agrees_itself by x)

    head : (o : Option Exposed) → first_named before x.name ≡ o →
        clash (code_of by) (λ p. p.span) (agree by) (first_named before x.name) x ≡ clash (code_of by) (λ p. p.span) (agree by) (first_named firsts x.name) x
    head (Some f) e =
        let at : first_named firsts x.name ≡ Some f = is x.name ∙ first_append before (x ∷ xs) x.name ∙ ap (λ o. or_first o (first_named (x ∷ xs) x.name)) e in
        ap (λ o. clash (code_of by) (λ p. p.span) (agree by) o x) (e ∙ sym at)
    head None e =
        let at : first_named firsts x.name ≡ Some x = is x.name ∙ first_append before (x ∷ xs) x.name ∙ ap (λ o. or_first o (first_named (x ∷ xs) x.name)) e
        ∙ ap (λ b. cond b (Some x) (first_named xs x.name)) (same_bytes x.name) in
        ap (λ o. clash (code_of by) (λ p. p.span) (agree by) o x) e ∙ sym itself ∙ ap (λ o. clash (code_of by) (λ p. p.span) (agree by) o x) (sym at)

-- against the first ones of their names stand those that stand against earlier ones
pub all_against : (by : Part) (firsts xs : List Exposed) → ((q : List ℕ) → first_named firsts q ≡ first_named xs q) →
    against by firsts xs ≡ clashing (code_of by) (λ p. p.span) (λ p q. bytes_eq p.name q.name) (agree by) xs
all_against by firsts xs is = sym (behind by firsts [] xs is)

pub classes_against : (firsts : List Exposed) (tables : List Table) (elements : List ElementDef) (found : Option Fault) →
    ((q : List ℕ) → first_named firsts q ≡ first_named (flat_map (properties_in tables) elements) q) →
    first_of found (against part.Class firsts (flat_map (properties_in tables) elements)) ≡ first_of found (property_classes_differ (flat_map (properties_in tables) elements))
classes_against firsts tables elements found is = ap (first_of found) (all_against part.Class firsts (flat_map (properties_in tables) elements) is)

pub columns_against : (firsts : List Exposed) (tables : List Table) (element : ElementDef) (found : Option Fault) →
    ((q : List ℕ) → first_named firsts q ≡ first_named (flat_map (properties_in tables) (element ∷ [])) q) →
    first_of found (against part.Column firsts (flat_map (properties_in tables) (element ∷ []))) ≡ first_of found (property_columns_differ (properties_in tables element))
columns_against firsts tables element found is =
    ap (first_of found) (all_against part.Column firsts (flat_map (properties_in tables) (element ∷ [])) is)
    ∙ ap (λ l. first_of found (property_columns_differ l)) (append-nil (properties_in tables element))
