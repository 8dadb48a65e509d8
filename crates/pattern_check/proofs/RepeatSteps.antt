-- How the loops over path patterns, operands and declarations go on by one.
use Rattle.std.proofs.Common.{◌≡◌, ◌∙◌, ℕ, ◌+◌, ◌<◌, ap, sym, List, [], ◌∷◌, ◌++◌, map, drop, length, get_or, append_assoc, Option}
use Rattle.std.specs.List.{flat_map}
use Rattle.std.proofs.lemmas.List.{drop_more}
use Rattle.std.proofs.lemmas.List.Folds.{flat_map-map}
use Rattle.first_faults.specs.declared.faults.Fault.{Fault}
use Rattle.first_faults.specs.Faults.{first_of}
use Rattle.first_faults.proofs.Steps.{first_of_append}
use Rattle.pattern_check.specs.declared.mentions.Mention.{Mention}
use Rattle.pattern_check.specs.Scopes.{Declaration}
use Rattle.pattern_check.specs.Mentions.{said, row_said, rows_said}
use Rattle.pattern_check.specs.Repeats.{mention_faults, operand_faults, path_faults, said_faults}

pub said_more : (done : List Declaration) (xs : List Mention) (i : ℕ) (x : Mention) → i < length xs → x ≡ get_or xs i x →
    done ++ map said (drop i xs) ≡ (done ++ said x ∷ []) ++ map said (drop (i + 1) xs)
said_more done xs i x within is =
    ap (λ l. done ++ map said l) (drop_more xs i x within)
    ∙ ap (λ y. done ++ said y ∷ map said (drop (i + 1) xs)) (sym is)
    ∙ sym (append_assoc done (said x ∷ []) (map said (drop (i + 1) xs)))

pub operand_step : (settled others here : List Declaration) (found : Option Fault) (xs : List Mention) (i : ℕ) (x : Mention) → i < length xs → x ≡ get_or xs i x →
    first_of found (operand_faults settled others here (map said (drop i xs))) ≡
    first_of (first_of found (mention_faults settled others here (said x))) (operand_faults settled others (here ++ said x ∷ []) (map said (drop (i + 1) xs)))
operand_step settled others here found xs i x within is =
    ap (λ l. first_of found (operand_faults settled others here (map said l))) (drop_more xs i x within)
    ∙ ap (λ y. first_of found (operand_faults settled others here (said y ∷ map said (drop (i + 1) xs)))) (sym is)
    ∙ first_of_append found (mention_faults settled others here (said x)) (operand_faults settled others (here ++ said x ∷ []) (map said (drop (i + 1) xs)))

pub path_step : (settled others : List Declaration) (found : Option Fault) (xs : List (List Mention)) (i : ℕ) (x : List Mention) → i < length xs → x ≡ get_or xs i x →
    first_of found (path_faults settled others (map row_said (drop i xs))) ≡
    first_of (first_of found (operand_faults settled others [] (map said x))) (path_faults settled (others ++ map said x) (map row_said (drop (i + 1) xs)))
path_step settled others found xs i x within is =
    ap (λ l. first_of found (path_faults settled others (map row_said l))) (drop_more xs i x within)
    ∙ ap (λ y. first_of found (path_faults settled others (row_said y ∷ map row_said (drop (i + 1) xs)))) (sym is)
    ∙ first_of_append found (operand_faults settled others [] (row_said x)) (path_faults settled (others ++ row_said x) (map row_said (drop (i + 1) xs)))

pub paths_step : (settled : List Declaration) (found : Option Fault) (xs : List (List (List Mention))) (i : ℕ) (x : List (List Mention)) → i < length xs → x ≡ get_or xs i x →
    first_of found (said_faults settled (map rows_said (drop i xs))) ≡
    first_of (first_of found (path_faults settled [] (map row_said x))) (said_faults (settled ++ flat_map row_said x) (map rows_said (drop (i + 1) xs)))
paths_step settled found xs i x within is =
    let rest = map rows_said (drop (i + 1) xs) in
    ap (λ l. first_of found (said_faults settled (map rows_said l))) (drop_more xs i x within)
    ∙ ap (λ y. first_of found (said_faults settled (rows_said y ∷ rest))) (sym is)
    ∙ first_of_append found (path_faults settled [] (rows_said x)) (said_faults (settled ++ flat_map (λ (operand : List Declaration). operand) (rows_said x)) rest)
    ∙ ap (λ l. first_of (first_of found (path_faults settled [] (rows_said x))) (said_faults (settled ++ l) rest))
    (flat_map-map (λ (operand : List Declaration). operand) row_said x)
