-- The mentions of a query are its declarations, each in its operand of its path pattern.
use Rattle.std.proofs.Common.{◌≡◌, ◌∙◌, ℕ, ◌+◌, false, ap, sym, refl, List, [], ◌∷◌, ◌++◌, map}
use Rattle.std.specs.List.{flat_map, enumerate_from}
use Rattle.std.proofs.lemmas.List.{map-append}
use Rattle.graph_ast.specs.declared.query.PathTree.{PathTree}
use Rattle.graph_ast.specs.declared.query.QueryTree.{QueryTree}
use Rattle.pattern_check.specs.declared.mentions.Mention.{Mention}
use Rattle.graph_ast.specs.Patterns.{body_given}
use Rattle.pattern_check.specs.Scopes.{Place, Declaration, declaring, operand_declares, operands_declare, path_declares, declarations}
use Rattle.pattern_check.specs.Mentions.{at_operand, placed, unplaced, said, row_said, rows_said, row_declares, AreOperands, ArePaths, operands_placed, all_placed}

abbrev tail : {X : Type 0} → List X → List X
tail [] = []
tail (x ∷ xs) = xs

abbrev head_or : {X : Type 0} → X → List X → X
head_or d [] = d
head_or d (x ∷ xs) = x

heads : {X : Type 0} {x y : X} {xs ys : List X} → x ∷ xs ≡ y ∷ ys → x ≡ y
heads {X} {x} e = ap (head_or x) e

tails : {X : Type 0} {x y : X} {xs ys : List X} → x ∷ xs ≡ y ∷ ys → xs ≡ ys
tails e = ap tail e

both : {X : Type 0} {x y : X} {xs ys : List X} → x ≡ y → xs ≡ ys → x ∷ xs ≡ y ∷ ys
both {X} {x} {y} {xs} e f = ap (λ z. z ∷ xs) e ∙ ap (λ l. y ∷ l) f

abbrev pub numbered : ℕ → ℕ → List (List Mention) → List (List Declaration)
numbered path n all = map (λ (each : ℕ × List Mention). map (placed path each.0) each.1) (enumerate_from n all)

operands_numbered : (path n : ℕ) (all : List (List Mention)) (rows : List (List (Place → List Declaration))) →
    ((operand : ℕ) → map (map (placed path operand)) all ≡ map (row_declares (at_operand path operand false)) rows) →
    numbered path n all ≡ map (operand_declares path) (enumerate_from n rows)
operands_numbered path n [] [] e = refl
operands_numbered path n [] (row ∷ rows) e = let h = e 0 in cc
operands_numbered path n (ms ∷ all) [] e = let h = e 0 in cc
operands_numbered path n (ms ∷ all) (row ∷ rows) e = both (heads (e n)) (operands_numbered path (n + 1) all rows (λ operand. tails (e operand)))

pub operands_are : (path : ℕ) (all : List (List Mention)) (rows : List (List (Place → List Declaration))) → AreOperands rows all →
    operands_placed path all ≡ map (operand_declares path) (enumerate_from 0 rows)
operands_are path all rows e = operands_numbered path 0 all rows (e path)

abbrev pub paths_from : ℕ → List (List (List Mention)) → List Declaration
paths_from n all = flat_map (λ (each : ℕ × List (List Mention)). flat_map (λ (operand : List Declaration). operand) (operands_placed each.0 each.1)) (enumerate_from n all)

paths_numbered : (n : ℕ) (all : List (List (List Mention))) (paths : List PathTree) → ArePaths paths all → paths_from n all ≡ flat_map path_declares (enumerate_from n paths)
paths_numbered n [] [] e = refl
paths_numbered n [] (path ∷ paths) e = let h = e 0 0 in cc
paths_numbered n (ops ∷ all) [] e = let h = e 0 0 in cc
paths_numbered n (ops ∷ all) (path ∷ paths) e =
    ap (λ (l : List (List Declaration)). flat_map (λ (operand : List Declaration). operand) l ++ paths_from (n + 1) all)
    (operands_are n ops (body_given declaring path.body).operands (λ p operand. heads (e p operand)))
    ∙ ap (λ l. path_declares (n, path) ++ l) (paths_numbered (n + 1) all paths (λ p operand. tails (e p operand)))

-- all mentions, placed, are the declarations
pub declared_are : (tree : QueryTree) (all : List (List (List Mention))) → ArePaths tree.paths all → all_placed all ≡ declarations tree
unfolding declarations
declared_are tree all e = paths_numbered 0 all tree.paths e

-- ---- without their places

pub row_unplaced : (path operand : ℕ) (ms : List Mention) → map unplaced (map (placed path operand) ms) ≡ row_said ms
row_unplaced path operand [] = refl
row_unplaced path operand (m ∷ ms) = ap (λ l. said m ∷ l) (row_unplaced path operand ms)

abbrev pub joined : List (List Declaration) → List Declaration
joined rows = flat_map (λ (operand : List Declaration). operand) rows

rows_unplaced : (path n : ℕ) (all : List (List Mention)) → map unplaced (joined (numbered path n all)) ≡ flat_map row_said all
rows_unplaced path n [] = refl
rows_unplaced path n (ms ∷ all) =
    map-append unplaced (map (placed path n) ms) (joined (numbered path (n + 1) all))
    ∙ ap (λ l. l ++ map unplaced (joined (numbered path (n + 1) all))) (row_unplaced path n ms)
    ∙ ap (λ l. row_said ms ++ l) (rows_unplaced path (n + 1) all)

paths_unplaced : (n : ℕ) (all : List (List (List Mention))) → map unplaced (paths_from n all) ≡ flat_map (flat_map row_said) all
paths_unplaced n [] = refl
paths_unplaced n (ops ∷ all) =
    map-append unplaced (joined (operands_placed n ops)) (paths_from (n + 1) all)
    ∙ ap (λ l. l ++ map unplaced (paths_from (n + 1) all)) (rows_unplaced n 0 ops)
    ∙ ap (λ l. flat_map row_said ops ++ l) (paths_unplaced (n + 1) all)

pub said_are : (tree : QueryTree) (all : List (List (List Mention))) → ArePaths tree.paths all → flat_map (flat_map row_said) all ≡ map unplaced (declarations tree)
said_are tree all e = sym (paths_unplaced 0 all) ∙ ap (map unplaced) (declared_are tree all e)

operands_said : (path n : ℕ) (all : List (List Mention)) → map (map unplaced) (numbered path n all) ≡ rows_said all
operands_said path n [] = refl
operands_said path n (ms ∷ all) = both (row_unplaced path n ms) (operands_said path (n + 1) all)

-- the operands of a path pattern, without their places
pub operands_said_are : (tree : PathTree) (all : List (List Mention)) → AreOperands (body_given declaring tree.body).operands all →
    rows_said all ≡ map (map unplaced) (operands_declare 0 tree.body)
operands_said_are tree all e = sym (operands_said 0 0 all) ∙ ap (map (map unplaced)) (operands_are 0 all (body_given declaring tree.body).operands e)
