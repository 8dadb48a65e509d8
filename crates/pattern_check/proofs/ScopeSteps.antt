-- How the loops over operands and factors collect variables and declarations.
use Rattle.std.proofs.Common.{◌≡◌, ℕ, ◌+◌, ◌<◌, Bool, true, false, not, ◌||◌, cond, suc, append_assoc, ap, sym, ◌∙◌, refl, List, [], ◌∷◌, ◌++◌, length, get_or, drop, map, Option}
use Rattle.std.proofs.Common.{None, Some, is_some, option_map, bytes_eq}
use denote.Ref.{Bor}
use Rattle.std.specs.List.{flat_map, list_any}
use Rattle.std.specs.Cmp.Lexicographic.{nat_list_eq_equiv}
use Rattle.std.proofs.lemmas.List.{drop_more, map-append}
use Rattle.first_faults.specs.Names.{has_text}
use Rattle.first_faults.specs.Places.{first_place}
use Rattle.graph_ast.specs.declared.query.Sequence.{Sequence}
use Rattle.graph_ast.specs.declared.query.Factor.{Factor}
use Rattle.graph_ast.specs.Patterns.{given_by, sequence_given}
use Rattle.pattern_check.specs.Scopes.{Uses, Place, Declaration, using, declaring}
use Rattle.pattern_check.specs.Mentions.{row_declares}
use Rattle.pattern_check.specs.Variables.{row_variables}
use Rattle.pattern_check.proofs.FormSteps.{any_step}

-- a loop that appends what each item gives, of what a pattern gives for it
pub given_more : {X Y Z : Type 0} (h : Z → List Y) (f : X → Z) (done : List Y) (xs : List X) (i : ℕ) (x : X) → i < length xs → x ≡ get_or xs i x →
    done ++ flat_map h (map f (drop i xs)) ≡ (done ++ h (f x)) ++ flat_map h (map f (drop (i + 1) xs))
given_more h f done xs i x within is =
    ap (λ l. done ++ flat_map h (map f l)) (drop_more xs i x within)
    ∙ ap (λ y. done ++ (h (f y) ++ flat_map h (map f (drop (i + 1) xs)))) (sym is)
    ∙ sym (append_assoc done (h (f x)) (flat_map h (map f (drop (i + 1) xs))))

pub operand_variables : (done : List (List ℕ)) (xs : List Sequence) (i : ℕ) (x : Sequence) → i < length xs → x ≡ get_or xs i x →
    done ++ flat_map row_variables (map (sequence_given using) (drop i xs)) ≡
    (done ++ row_variables (sequence_given using x)) ++ flat_map row_variables (map (sequence_given using) (drop (i + 1) xs))
operand_variables done xs i x within is = given_more row_variables (sequence_given using) done xs i x within is

pub factor_variables : (done : List (List ℕ)) (xs : List Factor) (i : ℕ) (x : Factor) → i < length xs → x ≡ get_or xs i x →
    done ++ row_variables (map (given_by using) (drop i xs)) ≡ (done ++ (given_by using x).variables) ++ row_variables (map (given_by using) (drop (i + 1) xs))
factor_variables done xs i x within is = given_more (λ (factor : Uses). factor.variables) (given_by using) done xs i x within is

some_next : (o : Option ℕ) → is_some (option_map (λ n. suc n) o) ≡ is_some o
some_next None = refl
some_next (Some n) = refl

-- a name has a place exactly where it is one of the names
pub text_place : (name : List ℕ) (names : List (List ℕ)) → is_some (first_place name names) ≡ has_text name names
text_place name [] = refl
text_place name (n ∷ names) = go (text_place name names) (bytes_eq name n) (nat_list_eq_equiv.symm name n)
  where
    go : is_some (first_place name names) ≡ has_text name names → (b : Bool) → b ≡ bytes_eq n name →
        is_some (cond b (Some 0) (option_map (λ m. suc m) (first_place name names))) ≡ (bytes_eq n name || has_text name names)
    go rest true e = rw (← e) refl
    go rest false e = rw (← e) (some_next (first_place name names) ∙ rest)

-- ---- mentions

pub factor_mentions : (place : Place) (done : List Declaration) (xs : List Factor) (i : ℕ) (x : Factor) → i < length xs → x ≡ get_or xs i x →
    (done ++ (given_by declaring x) place) ++ row_declares place (map (given_by declaring) (drop (i + 1) xs)) ≡ done ++ row_declares place (map (given_by declaring) (drop i xs))
factor_mentions place done xs i x within is = sym (given_more (λ (declared : Place → List Declaration). declared place) (given_by declaring) done xs i x within is)

pub sequence_mentions : (place : Place) (done : List Declaration) (xs : List Sequence) (i : ℕ) (x : Sequence) → i < length xs → x ≡ get_or xs i x →
    (done ++ row_declares place (sequence_given declaring x)) ++ flat_map (row_declares place) (map (sequence_given declaring) (drop (i + 1) xs)) ≡
    done ++ flat_map (row_declares place) (map (sequence_given declaring) (drop i xs))
sequence_mentions place done xs i x within is = sym (given_more (row_declares place) (sequence_given declaring) done xs i x within is)

pub mapped_twice : {A B C : Type 0} (h : B → C) (f : A → B) (xs : List A) → map h (map f xs) ≡ map (λ x. h (f x)) xs
mapped_twice h f [] = refl
mapped_twice h f (x ∷ xs) = ap (λ l. h (f x) ∷ l) (mapped_twice h f xs)

-- one more is pushed
pub pushed : {A B C : Type 0} (f : A → C) (g : B → C) (all : List A) (m : A) (xs : List B) (i : ℕ) (x : B) → i < length xs → x ≡ get_or xs i x → f m ≡ g x →
    map f (all ++ m ∷ []) ++ map g (drop (i + 1) xs) ≡ map f all ++ map g (drop i xs)
pushed f g all m xs i x within is e =
    ap (λ l. l ++ map g (drop (i + 1) xs)) (map-append f all (m ∷ []))
    ∙ ap (λ y. (map f all ++ y ∷ []) ++ map g (drop (i + 1) xs)) e
    ∙ append_assoc (map f all) (g x ∷ []) (map g (drop (i + 1) xs))
    ∙ ap (λ y. map f all ++ g y ∷ map g (drop (i + 1) xs)) is
    ∙ sym (ap (λ l. map f all ++ map g l) (drop_more xs i x within))

-- ---- the lists around a leaf

pub has_step : (name : List ℕ) (some : Bool) (xs : List (Bor (List (List ℕ)))) (i : ℕ) (x : Bor (List (List ℕ))) → i < length xs → x ≡ get_or xs i x →
    (some || list_any (has_text name) (map (λ (names : Bor (List (List ℕ))). names.now) (drop i xs))) ≡
    ((some || has_text name x.now) || list_any (has_text name) (map (λ (names : Bor (List (List ℕ))). names.now) (drop (i + 1) xs)))
has_step name some xs i x within is = any_step (has_text name) (λ (names : Bor (List (List ℕ))). names.now) some xs i x within is

pub lacks_step : (name : List ℕ) (some : Bool) (xs : List (Bor (List (List ℕ)))) (i : ℕ) (x : Bor (List (List ℕ))) → i < length xs → x ≡ get_or xs i x →
    (some || list_any (λ names. not (has_text name names)) (map (λ (names : Bor (List (List ℕ))). names.now) (drop i xs))) ≡
    ((some || not (has_text name x.now)) || list_any (λ names. not (has_text name names)) (map (λ (names : Bor (List (List ℕ))). names.now) (drop (i + 1) xs)))
lacks_step name some xs i x within is = any_step (λ names. not (has_text name names)) (λ (names : Bor (List (List ℕ))). names.now) some xs i x within is
