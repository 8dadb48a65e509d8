-- A join with its tests.
use Rattle.std.proofs.Common.{map, sum, ◌+◌}
use Rattle.row_eval.specs.Access.{rows_given}
use Rattle.row_eval.specs.Stages.{visits}
use Rattle.std.proofs.Common.{◌≡◌, ℕ, suc, zero, ◌<◌, cond, ◌&&◌, Bool, true, false, List, [], ◌∷◌, ◌++◌, length, refl, sym, ap, subst, ◌∙◌, Some}
use Rattle.std.specs.Prelude.{filter, flat_map, not, slice_get}
use Rattle.pgq_base.specs.Instances.{RowValues, TableRows, InstanceRows, rows_at}
use Rattle.row_eval.specs.declared.frame.Condition.{Condition}
use Rattle.row_eval.specs.declared.access.Access.{Access}
use Rattle.row_eval.specs.declared.access.Key.{Key}
use Rattle.row_eval.specs.declared.index.Index.{Index}
use Rattle.row_eval.specs.declared.stage.Stage.{Stage}
use Rattle.row_eval.specs.declared.stage.Stage.TheVariants as v
use Rattle.row_eval.specs.Slots.{Stack, is_kept}
use Rattle.row_eval.specs.Access.{matches_row, ways_agree}
use Rattle.row_eval.specs.Served.{AllServed, IsServed, IsIndexOf}
use Rattle.row_eval.specs.Stages.{all_kept, found, found_on, visits_on, accesses}
use Rattle.row_eval.specs.Ties.{are_tied, slots_of, tie_holds, ties_hold, untied}
use Rattle.row_eval.specs.Joins.{passed_on, narrowed, tied_rows, visits_passed}
use Rattle.row_eval.proofs.TypedLemmas.{all_both}
use Rattle.row_eval.proofs.StageLemmas.{found-Keep, found-Join, visits-Keep, visits-Join, accesses-Keep, accesses-Join}

no_more : (tied kept : Bool) → cond tied kept true ≡ false → kept ≡ false
no_more true kept h = h
no_more false kept h = absurd cc

both_false : (a b x y : Bool) → (a ≡ false → x ≡ false) → (b ≡ false → y ≡ false) → (a && b) ≡ false → (x && y) ≡ false
both_false false b x y f g h = ap (λ z. z && y) (f refl)
both_false true false true y f g h = g refl
both_false true false false y f g h = refl
both_false true true x y f g h = absurd cc

weaker : (place : ℕ) (s : Stack) (row : RowValues) (tests : List Condition) → ties_hold place s row tests ≡ false → all_kept tests (s ++ row ∷ []) ≡ false
weaker place s row [] h = absurd cc
weaker place s row (t ∷ ts) h =
    both_false (tie_holds place s row t.expr) (ties_hold place s row ts) (is_kept (s ++ row ∷ []) t.expr) (all_kept ts (s ++ row ∷ []))
    (no_more (are_tied place (slots_of t.expr)) (is_kept (s ++ row ∷ []) t.expr)) (weaker place s row ts) h

and_regroup : (x y z : Bool) → ((x && y) && z) ≡ (x && (y && z))
and_regroup true y z = refl
and_regroup false y z = refl

and_passed : (x y z : Bool) → (x && (y && z)) ≡ (y && (x && z))
and_passed true true z = refl
and_passed true false z = refl
and_passed false true z = refl
and_passed false false z = refl

one_left : (whole : Stack) (t : Condition) (kept left : List Condition) (tied held : Bool) → (held && all_kept left whole) ≡ all_kept kept whole
    → ((cond tied (is_kept whole t.expr) true && held) && all_kept (cond (not tied) (t ∷ left) left) whole) ≡ (is_kept whole t.expr && all_kept kept whole)
one_left whole t kept left true held e = and_regroup (is_kept whole t.expr) held (all_kept left whole) ∙ ap (λ b. is_kept whole t.expr && b) e
one_left whole t kept left false held e = and_passed held (is_kept whole t.expr) (all_kept left whole) ∙ ap (λ b. is_kept whole t.expr && b) e

-- where the ties hold of a row, the tests that are no ties are True of it where all are
all_left : (place : ℕ) (s : Stack) (row : RowValues) (tests : List Condition)
    → (ties_hold place s row tests && all_kept (untied place tests) (s ++ row ∷ [])) ≡ all_kept tests (s ++ row ∷ [])
all_left place s row [] = refl
all_left place s row (t ∷ ts) =
    one_left (s ++ row ∷ []) t ts (untied place ts) (are_tied place (slots_of t.expr)) (ties_hold place s row ts) (all_left place s row ts)

left_kept : (place : ℕ) (s : Stack) (row : RowValues) (tests left : List Condition) → left ≡ untied place tests → ties_hold place s row tests ≡ true
    → all_kept left (s ++ row ∷ []) ≡ all_kept tests (s ++ row ∷ [])
left_kept place s row tests left is holds =
    ap (λ l. all_kept l (s ++ row ∷ [])) is ∙ ap (λ b. b && all_kept (untied place tests) (s ++ row ∷ [])) (sym holds) ∙ all_left place s row tests

flat_same : {X Y : Type 0} (p : X → Bool) (f g : X → List Y) → ((x : X) → p x ≡ false → g x ≡ []) → ((x : X) → p x ≡ true → f x ≡ g x) → (xs : List X)
    → flat_map f (filter p xs) ≡ flat_map g xs
flat_same p f g none same [] = refl
flat_same {X} p f g none same (x ∷ xs) = go (p x) refl (flat_same p f g none same xs)
  where
    go : (b : Bool) → p x ≡ b → flat_map f (filter p xs) ≡ flat_map g xs → flat_map f (cond b (x ∷ filter p xs) (filter p xs)) ≡ g x ++ flat_map g xs
    go true e h = ap (λ l. l ++ flat_map f (filter p xs)) (same x e) ∙ ap (λ l. g x ++ l) h
    go false e h = h ∙ ap (λ l. l ++ flat_map g xs) (sym (none x e))

-- ---- the rows of a join

filter_alike : {X : Type 0} (p q : X → Bool) → ((x : X) → p x ≡ q x) → (xs : List X) → filter p xs ≡ filter q xs
filter_alike p q same [] = refl
filter_alike p q same (x ∷ xs) = ap (λ b. cond b (x ∷ filter p xs) (filter p xs)) (same x) ∙ ap (λ l. cond (q x) (x ∷ l) l) (filter_alike p q same xs)

filter_both : {X : Type 0} (p q : X → Bool) (xs : List X) → filter (λ x. p x && q x) xs ≡ filter p (filter q xs)
filter_both p q [] = refl
filter_both {X} p q (x ∷ xs) = by (p x) (q x) refl (filter_both p q xs)
  where
    by : (b c : Bool) → p x ≡ b → filter (λ x. p x && q x) xs ≡ filter p (filter q xs)
        → cond (b && c) (x ∷ filter (λ x. p x && q x) xs) (filter (λ x. p x && q x) xs) ≡ filter p (cond c (x ∷ filter q xs) (filter q xs))
    by true true e h = ap (λ l. x ∷ l) h ∙ ap (λ t. cond t (x ∷ filter p (filter q xs)) (filter p (filter q xs))) (sym e)
    by true false e h = h
    by false true e h = h ∙ ap (λ t. cond t (x ∷ filter p (filter q xs)) (filter p (filter q xs))) (sym e)
    by false false e h = h

-- the rows of the access are those of the ways that the tests tie
given_rows : (instance : InstanceRows) (access : Access) (tests : List Condition) (ways : List Key) (table place : ℕ) (s : Stack) → access.table ≡ table
    → ((row : RowValues) → matches_row access s row ≡ (ties_hold place s row tests && ways_agree s row ways))
    → rows_given instance access s ≡ filter (λ row. ties_hold place s row tests) (narrowed ways s (rows_at instance table))
given_rows instance access tests ways table place s at matches =
    filter_alike (matches_row access s) (λ row. ties_hold place s row tests && ways_agree s row ways) matches (rows_at instance access.table)
    ∙ filter_both (λ row. ties_hold place s row tests) (λ row. ways_agree s row ways) (rows_at instance access.table)
    ∙ ap (λ t. filter (λ row. ties_hold place s row tests) (narrowed ways s (rows_at instance t))) at

pub joined_found : (instance : InstanceRows) (e kept rest : List Stage) (access : Access) (tests left : List Condition) (ways : List Key) (table place : ℕ) (s : Stack)
    → e ≡ kept ++ v.Join access ∷ [] → kept ≡ rest ++ v.Keep left ∷ [] → left ≡ untied place tests → access.table ≡ table
    → ((row : RowValues) → matches_row access s row ≡ (ties_hold place s row tests && ways_agree s row ways))
    → found instance e s ≡ passed_on (found instance rest) tests s (narrowed ways s (rows_at instance table))
joined_found instance e kept rest access tests left ways table place s is then no_ties at matches =
    found-Join instance s e access kept is
    ∙ ap (λ rows. found_on (found instance kept) s rows) (given_rows instance access tests ways table place s at matches)
    ∙ flat_same (λ row. ties_hold place s row tests) (λ row. found instance kept (s ++ row ∷ []))
    (λ row. cond (all_kept tests (s ++ row ∷ [])) (found instance rest (s ++ row ∷ [])) [])
    (λ row no. ap (λ b. cond b (found instance rest (s ++ row ∷ [])) []) (weaker place s row tests no))
    (λ row holds. found-Keep instance (s ++ row ∷ []) kept left rest then
    ∙ ap (λ b. cond b (found instance rest (s ++ row ∷ [])) []) (left_kept place s row tests left no_ties holds))
    (narrowed ways s (rows_at instance table))

get_before : {X : Type 0} (xs : List X) (x y : X) (i : ℕ) → slice_get xs i ≡ Some y → slice_get (xs ++ x ∷ []) i ≡ Some y
get_before [] x y zero h = absurd cc
get_before [] x y (suc i) h = absurd cc
get_before (z ∷ zs) x y zero h = h
get_before (z ∷ zs) x y (suc i) h = get_before zs x y i h

get_last : {X : Type 0} (xs : List X) (x : X) → slice_get (xs ++ x ∷ []) (length xs) ≡ Some x
get_last [] x = refl
get_last (z ∷ zs) x = get_last zs x

pub still_served : (instance : InstanceRows) (indexes : List Index) (new : Index) (all : List Access) → AllServed instance indexes all
    → AllServed instance (indexes ++ new ∷ []) all
still_served instance indexes new [] h = tt
still_served instance indexes new (a ∷ others) h =
    (record { table = h.0.table; index = h.0.index; at = get_before indexes new h.0.index a.index h.0.at; right = h.0.right }, still_served instance indexes new others h.1)

pub joined_served : (instance : InstanceRows) (e kept rest : List Stage) (access : Access) (tests : List Condition) (table : ℕ) (indexes more : List Index) (new : Index)
    → e ≡ kept ++ v.Join access ∷ [] → kept ≡ rest ++ v.Keep tests ∷ [] → access.table ≡ table → access.index ≡ length indexes → table < length instance
    → more ≡ indexes ++ new ∷ [] → IsIndexOf access.keys (rows_at instance table) new
    → AllServed instance indexes (accesses rest) → AllServed instance more (accesses e)
joined_served instance e kept rest access tests table indexes more new is then at number within grown right others =
    subst (λ l. AllServed instance l (accesses e)) (sym grown)
    (subst (AllServed instance (indexes ++ new ∷ [])) (sym (accesses-Join e access kept is ∙ ap (λ l. l ++ access ∷ []) (accesses-Keep kept tests rest then)))
    (all_both (IsServed instance (indexes ++ new ∷ [])) (accesses rest) (access ∷ []) (still_served instance indexes new (accesses rest) others) (
      record {
        table = subst (λ t. t < length instance) (sym at) within;
        index = new;
        at = ap (slice_get (indexes ++ new ∷ [])) number ∙ get_last indexes new;
        right = subst (λ t. IsIndexOf access.keys (rows_at instance t) new) (sym at) right;
      },
      tt,
    )))

-- ---- the reads of a join

map_alike : {X Y : Type 0} (f g : X → Y) → ((x : X) → f x ≡ g x) → (xs : List X) → map f xs ≡ map g xs
map_alike f g same [] = refl
map_alike f g same (x ∷ xs) = ap (λ y. y ∷ map f xs) (same x) ∙ ap (λ l. g x ∷ l) (map_alike f g same xs)

map_where : {X Y : Type 0} (p : X → Bool) (f g : X → Y) → ((x : X) → p x ≡ true → f x ≡ g x) → (xs : List X) → map f (filter p xs) ≡ map g (filter p xs)
map_where p f g same [] = refl
map_where {X} p f g same (x ∷ xs) = go (p x) refl (map_where p f g same xs)
  where
    go : (b : Bool) → p x ≡ b → map f (filter p xs) ≡ map g (filter p xs) → map f (cond b (x ∷ filter p xs) (filter p xs)) ≡ map g (cond b (x ∷ filter p xs) (filter p xs))
    go true e h = ap (λ y. y ∷ map f (filter p xs)) (same x e) ∙ ap (λ l. g x ∷ l) h
    go false e h = h

pub joined_visits : (instance : InstanceRows) (e kept rest : List Stage) (access : Access) (tests left : List Condition) (ways : List Key) (table place : ℕ) (s : Stack)
    → e ≡ kept ++ v.Join access ∷ [] → kept ≡ rest ++ v.Keep left ∷ [] → left ≡ untied place tests → access.table ≡ table → length s ≡ place
    → ((row : RowValues) → matches_row access s row ≡ (ties_hold place s row tests && ways_agree s row ways))
    → visits instance e s ≡ visits_passed (visits instance rest) tests s (tied_rows tests s (narrowed ways s (rows_at instance table)))
joined_visits instance e kept rest access tests left ways table place s is then no_ties at long matches =
    visits-Join instance s e access kept is
    ∙ ap (visits_on (visits instance kept) s) (given_rows instance access tests ways table place s at matches)
    ∙ ap sum (map_where (λ row. ties_hold place s row tests) (λ row. 1 + visits instance kept (s ++ row ∷ []))
    (λ row. 1 + cond (all_kept tests (s ++ row ∷ [])) (visits instance rest (s ++ row ∷ [])) 0)
    (λ row holds. ap (λ n. 1 + n) (visits-Keep instance (s ++ row ∷ []) kept left rest then
    ∙ ap (λ b. cond b (visits instance rest (s ++ row ∷ [])) 0) (left_kept place s row tests left no_ties holds))) (narrowed ways s (rows_at instance table)))
    ∙ ap (λ n. visits_passed (visits instance rest) tests s (filter (λ row. ties_hold n s row tests) (narrowed ways s (rows_at instance table)))) (sym long)

pub visits_alike : (f g : Stack → ℕ) (tests : List Condition) (s : Stack) → ((row : RowValues) → f (s ++ row ∷ []) ≡ g (s ++ row ∷ [])) → (rows : TableRows)
    → visits_passed f tests s rows ≡ visits_passed g tests s rows
visits_alike f g tests s same rows =
    ap sum (map_alike (λ row. 1 + cond (all_kept tests (s ++ row ∷ [])) (f (s ++ row ∷ [])) 0) (λ row. 1 + cond (all_kept tests (s ++ row ∷ [])) (g (s ++ row ∷ [])) 0)
    (λ row. ap (λ n. 1 + cond (all_kept tests (s ++ row ∷ [])) n 0) (same row)) rows)
