-- Conditions that are tested as soon as their rows are there keep what the same conditions keep at the end.
use Rattle.std.proofs.Common.{◌≡◌, ℕ, suc, cond, ◌&&◌, Bool, true, false, List, [], ◌∷◌, ◌++◌, map, length, refl, sym, ap, ◌∙◌, append_assoc}
use Rattle.std.specs.Prelude.{filter, flat_map}
use Rattle.std.specs.List.{list_all}
use Rattle.std.proofs.lemmas.List.{append-nil}

module _ {R C : Type 0} (holds : List R → C → Bool) where
  -- each choice of one row from each table
  abbrev pub choices : List (List R) → List (List R)
  choices [] = [] ∷ []
  choices (rows ∷ tables) = flat_map (λ row. map (λ rest. row ∷ rest) (choices tables)) rows

  abbrev pub kept : List C → List R → Bool
  kept conditions stack = list_all (holds stack) conditions

  -- a table with the conditions that are tested once its row is there
  pub record Level : Type 0 where
    pub rows : List R
    pub tests : List C

  abbrev pub all_tests : List Level → List C
  all_tests [] = []
  all_tests (level ∷ levels) = level.tests ++ all_tests levels

  -- the loops, with the tests on the way
  abbrev pub staged : List Level → List R → List (List R)
  staged [] stack = stack ∷ []
  staged (level ∷ levels) stack = flat_map (λ row. cond (kept level.tests (stack ++ row ∷ [])) (staged levels (stack ++ row ∷ [])) []) level.rows

  -- the tests of a level are decided by the rows up to it
  abbrev pub Decided : ℕ → List Level → Type 0
  Decided depth [] = Unit {0}
  Decided depth (level ∷ levels) = ((stack more : List R) → length stack ≡ suc depth → kept level.tests (stack ++ more) ≡ kept level.tests stack) × Decided (suc depth) levels

  all_append : (s : List R) (xs ys : List C) → kept (xs ++ ys) s ≡ (kept xs s && kept ys s)
  all_append s [] ys = refl
  all_append s (x ∷ xs) ys = ap (λ b. holds s x && b) (all_append s xs ys) ∙ sym (and_assoc (holds s x) (kept xs s) (kept ys s))
    where
      and_assoc : (a b c : Bool) → ((a && b) && c) ≡ (a && (b && c))
      and_assoc true b c = refl
      and_assoc false b c = refl

  filter_append : (p : List R → Bool) (xs ys : List (List R)) → filter p (xs ++ ys) ≡ filter p xs ++ filter p ys
  filter_append p [] ys = refl
  filter_append p (x ∷ xs) ys = go (p x) (filter_append p xs ys)
    where
      go : (b : Bool) → filter p (xs ++ ys) ≡ filter p xs ++ filter p ys → cond b (x ∷ filter p (xs ++ ys)) (filter p (xs ++ ys))
          ≡ cond b (x ∷ filter p xs) (filter p xs) ++ filter p ys
      go true h = ap (λ l. x ∷ l) h
      go false h = h

  -- one row of a level, before the rows of the later ones
  module _ (tests later : List C) (stack : List R) (row : R) (decided : (more : List R) → kept tests ((stack ++ row ∷ []) ++ more) ≡ kept tests (stack ++ row ∷ [])) where
    abbrev here : List R
    here = stack ++ row ∷ []

    tested : (more : List R) → kept (tests ++ later) (stack ++ row ∷ more) ≡ (kept tests here && kept later (here ++ more))
    tested more =
        ap (kept (tests ++ later)) (sym (append_assoc stack (row ∷ []) more)) ∙ all_append (here ++ more) tests later
        ∙ ap (λ b. b && kept later (here ++ more)) (decided more)

    abbrev kept_of : List (List R) → List (List R)
    kept_of rests = filter (kept (tests ++ later)) (map (λ rest. stack ++ rest) (map (λ rest. row ∷ rest) rests))

    one_row : (rests : List (List R)) → cond (kept tests here) (filter (kept later) (map (λ rest. here ++ rest) rests)) []
        ≡ filter (kept (tests ++ later)) (map (λ rest. stack ++ rest) (map (λ rest. row ∷ rest) rests))
    one_row [] = none (kept tests here) []
      where
        none : (b : Bool) (n : List (List R)) → cond b n n ≡ n
        none true n = refl
        none false n = refl
    one_row (rest ∷ rests) =
        go (kept tests here) (kept later (here ++ rest)) (one_row rests)
        ∙ ap (λ b. cond b ((stack ++ row ∷ rest) ∷ kept_of rests) (kept_of rests)) (sym (tested rest))
      where
        go : (b c : Bool) → cond b (filter (kept later) (map (λ rest. here ++ rest) rests)) [] ≡ kept_of rests
            → cond b (cond c ((here ++ rest) ∷ filter (kept later) (map (λ rest. here ++ rest) rests)) (filter (kept later) (map (λ rest. here ++ rest) rests))) []
            ≡ cond (b && c) ((stack ++ row ∷ rest) ∷ kept_of rests) (kept_of rests)
        go true true h = ap (λ x. x ∷ filter (kept later) (map (λ rest. here ++ rest) rests)) (append_assoc stack (row ∷ []) rest) ∙ ap (λ l. (stack ++ row ∷ rest) ∷ l) h
        go true false h = h
        go false c h = h

  abbrev tables_of : List Level → List (List R)
  tables_of levels = map (λ (l : Level). l.rows) levels

  map_append : (f : List R → List R) (xs ys : List (List R)) → map f (xs ++ ys) ≡ map f xs ++ map f ys
  map_append f [] ys = refl
  map_append f (x ∷ xs) ys = ap (λ l. f x ∷ l) (map_append f xs ys)

  module _ (tests : List C) (levels : List Level) (stack : List R) (decided : (s more : List R) → length s ≡ suc (length stack) → kept tests (s ++ more) ≡ kept tests s)
      (later : (s : List R) → length s ≡ suc (length stack) → staged levels s ≡ filter (kept (all_tests levels)) (map (λ rest. s ++ rest) (choices (tables_of levels)))) where
    longer : (xs : List R) (row : R) → length (xs ++ row ∷ []) ≡ suc (length xs)
    longer [] row = refl
    longer (x ∷ xs) row = ap suc (longer xs row)

    all_rows : (rows : List R) → flat_map (λ row. cond (kept tests (stack ++ row ∷ [])) (staged levels (stack ++ row ∷ [])) []) rows
        ≡ filter (kept (tests ++ all_tests levels)) (map (λ rest. stack ++ rest) (flat_map (λ row. map (λ rest. row ∷ rest) (choices (tables_of levels))) rows))
    all_rows [] = refl
    all_rows (row ∷ rows) =
        let C = choices (tables_of levels) in
        ap (λ l. cond (kept tests (stack ++ row ∷ [])) l [] ++ flat_map (λ row. cond (kept tests (stack ++ row ∷ [])) (staged levels (stack ++ row ∷ [])) []) rows)
        (later (stack ++ row ∷ []) (longer stack row))
        ∙ ap (λ l. l ++ flat_map (λ row. cond (kept tests (stack ++ row ∷ [])) (staged levels (stack ++ row ∷ [])) []) rows)
        (one_row tests (all_tests levels) stack row (λ more. decided (stack ++ row ∷ []) more (longer stack row)) C)
        ∙ ap (λ l. filter (kept (tests ++ all_tests levels)) (map (λ rest. stack ++ rest) (map (λ rest. row ∷ rest) C)) ++ l) (all_rows rows)
        ∙ sym (filter_append (kept (tests ++ all_tests levels)) (map (λ rest. stack ++ rest) (map (λ rest. row ∷ rest) C))
        (map (λ rest. stack ++ rest) (flat_map (λ row. map (λ rest. row ∷ rest) C) rows)))
        ∙ ap (filter (kept (tests ++ all_tests levels))) (sym (map_append (λ rest. stack ++ rest) (map (λ rest. row ∷ rest) C) (flat_map (λ row. map (λ rest. row ∷ rest) C) rows)))

  -- the loops with their tests give the choices of which each condition is True, in order
  pub staged_is : (levels : List Level) (depth : ℕ) (stack : List R) → length stack ≡ depth → Decided depth levels
      → staged levels stack ≡ filter (kept (all_tests levels)) (map (λ rest. stack ++ rest) (choices (tables_of levels)))
  staged_is [] depth stack long decided = ap (λ s. s ∷ []) (sym (append-nil stack))
  staged_is (level ∷ levels) depth stack long decided =
      all_rows level.tests levels stack (λ s more h. decided.0 s more (h ∙ ap suc long)) (λ s h. staged_is levels (suc depth) s (h ∙ ap suc long) decided.1) level.rows
