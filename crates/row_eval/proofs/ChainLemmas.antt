-- A chain of joins finds what the loops with their tests find, each followed by the end.
use Rattle.std.proofs.Common.{◌≡◌, ℕ, cond, Bool, true, false, List, [], ◌∷◌, ◌++◌, map, length, refl, sym, ap, ◌∙◌}
use Rattle.std.specs.Prelude.{flat_map, filter}
use Rattle.std.proofs.lemmas.List.{append-nil}
use Rattle.std.proofs.lemmas.Grind.{flat_map-append}
use Rattle.pgq_base.specs.Instances.{TableRows, InstanceRows, rows_at}
use Rattle.row_eval.specs.declared.legs.Leg.{Leg}
use Rattle.row_eval.specs.declared.frame.Condition.{Condition}
use Rattle.row_eval.specs.Slots.{Stack, is_kept}
use Rattle.row_eval.specs.Stages.{all_kept}
use Rattle.row_eval.specs.Joins.{passed_on}
use Rattle.row_eval.proofs.PoppedLemmas.{passed_same}
use Rattle.row_eval.proofs.Staged.{Level, staged, choices, kept, all_tests, Decided, staged_is}

abbrev pub condition_holds : Stack → Condition → Bool
condition_holds s c = is_kept s c.expr

abbrev pub chained : List (Level condition_holds) → (Stack → List Stack) → Stack → List Stack
chained [] end s = end s
chained (l ∷ ls) end s = passed_on (chained ls end) l.tests s l.rows

pub chained_is : (levels : List (Level condition_holds)) (end : Stack → List Stack) (s : Stack) → chained levels end s ≡ flat_map end (staged condition_holds levels s)
chained_is [] end s = sym (append-nil (end s))
chained_is (l ∷ ls) end s = all_rows l.rows (λ t. chained_is ls end t)
  where
    one : (b : Bool) (t : Stack) → chained ls end t ≡ flat_map end (staged condition_holds ls t) → cond b (chained ls end t) []
        ≡ flat_map end (cond b (staged condition_holds ls t) [])
    one true t h = h
    one false t h = refl

    all_rows : (rows : TableRows) → ((t : Stack) → chained ls end t ≡ flat_map end (staged condition_holds ls t))
        → passed_on (chained ls end) l.tests s rows
        ≡ flat_map end (flat_map (λ row. cond (kept condition_holds l.tests (s ++ row ∷ [])) (staged condition_holds ls (s ++ row ∷ [])) []) rows)
    all_rows [] h = refl
    all_rows (row ∷ rows) h =
        ap (λ x. x ++ passed_on (chained ls end) l.tests s rows) (one (all_kept l.tests (s ++ row ∷ [])) (s ++ row ∷ []) (h (s ++ row ∷ [])))
        ∙ ap (λ x. flat_map end (cond (kept condition_holds l.tests (s ++ row ∷ [])) (staged condition_holds ls (s ++ row ∷ [])) []) ++ x) (all_rows rows h)
        ∙ sym (flat_map-append end (cond (kept condition_holds l.tests (s ++ row ∷ [])) (staged condition_holds ls (s ++ row ∷ [])) [])
        (flat_map (λ row. cond (kept condition_holds l.tests (s ++ row ∷ [])) (staged condition_holds ls (s ++ row ∷ [])) []) rows))

-- the legs with the rows of their tables
abbrev pub levels_of : InstanceRows → List Leg → List (Level condition_holds)
levels_of instance [] = []
levels_of instance (leg ∷ legs) = record { rows = rows_at instance leg.table; tests = leg.tests } ∷ levels_of instance legs

-- what a chain finds, whatever ways its legs have
abbrev pub chain_plain : InstanceRows → List Leg → (Stack → List Stack) → Stack → List Stack
chain_plain instance [] end stack = end stack
chain_plain instance (leg ∷ legs) end stack = passed_on (chain_plain instance legs end) leg.tests stack (rows_at instance leg.table)

pub chain_is_chained : (instance : InstanceRows) (legs : List Leg) (end : Stack → List Stack) (s : Stack) → chain_plain instance legs end s
    ≡ chained (levels_of instance legs) end s
chain_is_chained instance [] end s = refl
chain_is_chained instance (leg ∷ legs) end s =
    passed_same (chain_plain instance legs end) (chained (levels_of instance legs) end) leg.tests s (λ row. chain_is_chained instance legs end (s ++ row ∷ []))
    (rows_at instance leg.table)

-- A chain of joins finds the choices of one row from each table for which all tests are True, in order, each followed by the end.
pub chain_means : (instance : InstanceRows) (legs : List Leg) (end : Stack → List Stack) (depth : ℕ) (s : Stack) → length s ≡ depth
    → Decided condition_holds depth (levels_of instance legs)
    → chain_plain instance legs end s
    ≡ flat_map end (filter (kept condition_holds (all_tests condition_holds (levels_of instance legs)))
    (map (λ rest. s ++ rest) (choices condition_holds (map (λ (l : Level condition_holds). l.rows) (levels_of instance legs)))))
chain_means instance legs end depth s long decided =
    chain_is_chained instance legs end s ∙ chained_is (levels_of instance legs) end s
    ∙ ap (flat_map end) (staged_is condition_holds (levels_of instance legs) depth s long decided)
