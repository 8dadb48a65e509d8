-- A variable that is declared again: what is asked operand by operand is what is asked of all declarations before.
use Rattle.std.proofs.Common.{◌≡◌, ◌∙◌, ℕ, ◌+◌, ◌<◌, Bool, true, false, ◌||◌, ◌&&◌, not, nat_eq, ap, sym, refl, List, [], ◌∷◌, ◌++◌, map, append_assoc, arith}
use Rattle.std.specs.List.{list_any, AllByRecursion}
use Rattle.std.proofs.lemmas.Bool.Decides.{nat_tests}
use Rattle.std.proofs.lemmas.List.{map-append, append-nil}
use Rattle.pgq_base.specs.declared.code.Code.TheVariants as code
use Rattle.first_faults.specs.Faults.{when}
use Rattle.first_faults.proofs.Steps.{list_any_append}
use Rattle.pattern_check.specs.declared.mentions.Mention.{Mention}
use Rattle.pattern_check.specs.Scopes.{Declaration, declares, same_kind}
use Rattle.pattern_check.specs.NameRules.{may_stand_together, variable_kind, variable_repeated, declaration_faults_behind}
use Rattle.pattern_check.specs.Mentions.{placed, unplaced, said, row_said, rows_said, all_placed}
use Rattle.pattern_check.specs.ByName.{has_other_kind, has_same_kind}
use Rattle.pattern_check.specs.Repeats.{mention_faults, operand_faults, path_faults, said_faults}
use Rattle.pattern_check.proofs.Unplaced.{any_mapped}
use Rattle.pattern_check.proofs.Placing.{joined, numbered, paths_from, row_unplaced}

-- ---- where declarations stand

abbrev IsOnEarlierPath : ℕ → Declaration → Type 0
IsOnEarlierPath path d = d.place.path < path

abbrev IsInEarlierOperand : ℕ → ℕ → Declaration → Type 0
IsInEarlierOperand path operand d = (d.place.path ≡ path) × (d.place.operand < operand)

abbrev IsInOperand : ℕ → ℕ → Declaration → Type 0
IsInOperand path operand d = (d.place.path ≡ path) × (d.place.operand ≡ operand)

each_of_both : {X : Type 0} (P : X → Type 0) (xs ys : List X) → AllByRecursion P xs → AllByRecursion P ys → AllByRecursion P (xs ++ ys)
each_of_both P [] ys a b = b
each_of_both P (x ∷ xs) ys a b = (a.0, each_of_both P xs ys a.1 b)

each_by : {X : Type 0} (P Q : X → Type 0) → ((x : X) → P x → Q x) → (xs : List X) → AllByRecursion P xs → AllByRecursion Q xs
each_by P Q h [] a = a
each_by P Q h (x ∷ xs) a = (h x a.0, each_by P Q h xs a.1)

row_in_operand : (path operand : ℕ) (ms : List Mention) → AllByRecursion (IsInOperand path operand) (map (placed path operand) ms)
row_in_operand path operand [] = tt
row_in_operand path operand (m ∷ ms) = ((refl, refl), row_in_operand path operand ms)

-- ---- tests on a declaration and a later one

any_same : (p q : Declaration → Bool) (xs : List Declaration) → AllByRecursion (λ x. p x ≡ q x) xs → list_any p xs ≡ list_any q xs
any_same p q [] a = refl
any_same p q (x ∷ xs) a = ap (λ b. b || list_any p xs) a.0 ∙ ap (λ b. q x || b) (any_same p q xs a.1)

any_none : (p : Declaration → Bool) (xs : List Declaration) → AllByRecursion (λ x. p x ≡ false) xs → list_any p xs ≡ false
any_none p [] a = refl
any_none p (x ∷ xs) a = ap (λ b. b || list_any p xs) a.0 ∙ any_none p xs a.1

abbrev other : Declaration → Declaration → Bool
other later earlier = declares later.variable.name earlier && not (same_kind earlier.kind later.kind)

abbrev same : Declaration → Declaration → Bool
same later earlier = declares later.variable.name earlier && (same_kind earlier.kind later.kind && (earlier.place.quantified || later.place.quantified))

abbrev together : Declaration → Declaration → Bool
together later earlier =
    declares later.variable.name earlier && same_kind earlier.kind later.kind && may_stand_together earlier later
    && (earlier.place.quantified || later.place.quantified)

shifted : (a b c d : Bool) → c ≡ true → (a && b && c && d) ≡ (a && (b && d))
shifted true true c d e = rw e refl
shifted true false c d e = refl
shifted false b c d e = refl

dropped : (a b c d : Bool) → c ≡ false → (a && b && c && d) ≡ false
dropped true true c d e = rw e refl
dropped true false c d e = refl
dropped false b c d e = refl

paths_apart : (p o q r : ℕ) → q < p → (not (nat_eq q p) || nat_eq r o) ≡ true
paths_apart p o q r h = grind (arith, nat_tests)

operands_apart : (p o q r : ℕ) → q ≡ p → r < o → (not (nat_eq q p) || nat_eq r o) ≡ false
operands_apart p o q r e h = grind (arith, nat_tests)

one_operand : (p o q r : ℕ) → q ≡ p → r ≡ o → (not (nat_eq q p) || nat_eq r o) ≡ true
one_operand p o q r e f = grind (arith, nat_tests)

on_paths : (path operand : ℕ) (m : Mention) (xs : List Declaration) → AllByRecursion (IsOnEarlierPath path) xs →
    list_any (together (placed path operand m)) xs ≡ list_any (same (placed path operand m)) xs
on_paths path operand m xs a =
    let later = placed path operand m in
    any_same (together later) (same later) xs (each_by (IsOnEarlierPath path) (λ e. together later e ≡ same later e)
    (λ e h. shifted (declares later.variable.name e) (same_kind e.kind later.kind) (may_stand_together e later) (e.place.quantified || later.place.quantified)
    (paths_apart path operand e.place.path e.place.operand h)) xs a)

in_operand : (path operand : ℕ) (m : Mention) (xs : List Declaration) → AllByRecursion (IsInOperand path operand) xs →
    list_any (together (placed path operand m)) xs ≡ list_any (same (placed path operand m)) xs
in_operand path operand m xs a =
    let later = placed path operand m in
    any_same (together later) (same later) xs (each_by (IsInOperand path operand) (λ e. together later e ≡ same later e)
    (λ e h. shifted (declares later.variable.name e) (same_kind e.kind later.kind) (may_stand_together e later) (e.place.quantified || later.place.quantified)
    (one_operand path operand e.place.path e.place.operand h.0 h.1)) xs a)

in_others : (path operand : ℕ) (m : Mention) (xs : List Declaration) → AllByRecursion (IsInEarlierOperand path operand) xs →
    list_any (together (placed path operand m)) xs ≡ false
in_others path operand m xs a =
    let later = placed path operand m in
    any_none (together later) xs (each_by (IsInEarlierOperand path operand) (λ e. together later e ≡ false)
    (λ e h. dropped (declares later.variable.name e) (same_kind e.kind later.kind) (may_stand_together e later) (e.place.quantified || later.place.quantified)
    (operands_apart path operand e.place.path e.place.operand h.0 h.1)) xs a)

-- ---- the faults

any_in_parts : (p : Declaration → Bool) (settled others here : List Declaration) →
    list_any p (settled ++ (others ++ here)) ≡ (list_any p settled || (list_any p others || list_any p here))
any_in_parts p settled others here =
    list_any_append p settled (others ++ here) ∙ ap (λ b. list_any p settled || b) (list_any_append p others here)

or_grouped : (a b c : Bool) → (a || (b || c)) ≡ ((a || b) || c)
or_grouped true b c = refl
or_grouped false b c = refl

module _ (path operand : ℕ) (settled others : List Declaration) (on : AllByRecursion (IsOnEarlierPath path) settled)
    (before : AllByRecursion (IsInEarlierOperand path operand) others) where
  kinds_are : (here : List Declaration) (m : Mention) →
      list_any (other (placed path operand m)) (settled ++ (others ++ here)) ≡
      ((has_other_kind (said m) (map unplaced settled) || has_other_kind (said m) (map unplaced others)) || has_other_kind (said m) (map unplaced here))
  kinds_are here m =
      let p = other (placed path operand m) in
      any_in_parts p settled others here
      ∙ or_grouped (list_any p settled) (list_any p others) (list_any p here)
      ∙ ap (λ b. (b || list_any p others) || list_any p here) (sym (any_mapped (other (said m)) unplaced settled))
      ∙ ap (λ b. (has_other_kind (said m) (map unplaced settled) || b) || list_any p here) (sym (any_mapped (other (said m)) unplaced others))
      ∙ ap (λ b. (has_other_kind (said m) (map unplaced settled) || has_other_kind (said m) (map unplaced others)) || b) (sym (any_mapped (other (said m)) unplaced here))

  repeats_are : (here : List Declaration) (m : Mention) → AllByRecursion (IsInOperand path operand) here →
      list_any (together (placed path operand m)) (settled ++ (others ++ here)) ≡ (has_same_kind (said m) (map unplaced settled) || has_same_kind (said m) (map unplaced here))
  repeats_are here m inside =
      let p = together (placed path operand m) in
      any_in_parts p settled others here
      ∙ ap (λ b. list_any p settled || (b || list_any p here)) (in_others path operand m others before)
      ∙ ap (λ b. b || list_any p here) (on_paths path operand m settled on ∙ sym (any_mapped (same (said m)) unplaced settled))
      ∙ ap (λ b. has_same_kind (said m) (map unplaced settled) || b) (in_operand path operand m here inside ∙ sym (any_mapped (same (said m)) unplaced here))

  mention_is : (here : List Declaration) (m : Mention) → AllByRecursion (IsInOperand path operand) here →
      variable_kind (settled ++ (others ++ here)) (placed path operand m) ++ variable_repeated (settled ++ (others ++ here)) (placed path operand m) ≡
      mention_faults (map unplaced settled) (map unplaced others) (map unplaced here) (said m)
  mention_is here m inside =
      ap (λ b. when b code.VariableKind m.variable.now.span ++ variable_repeated (settled ++ (others ++ here)) (placed path operand m)) (kinds_are here m)
      ∙ ap (λ b. when ((has_other_kind (said m) (map unplaced settled) || has_other_kind (said m) (map unplaced others)) || has_other_kind (said m) (map unplaced here))
      code.VariableKind m.variable.now.span ++ when b code.VariableRepeated m.variable.now.span) (repeats_are here m inside)

  -- the rest of the operand, and what stands behind it
  operand_is : (here : List Declaration) (ms : List Mention) (behind : List Declaration) → AllByRecursion (IsInOperand path operand) here →
      declaration_faults_behind (settled ++ (others ++ here)) (map (placed path operand) ms ++ behind) ≡
      operand_faults (map unplaced settled) (map unplaced others) (map unplaced here) (row_said ms)
      ++ declaration_faults_behind (settled ++ (others ++ (here ++ map (placed path operand) ms))) behind
  operand_is here [] behind inside = ap (λ l. declaration_faults_behind (settled ++ (others ++ l)) behind) (sym (append-nil here))
  operand_is here (m ∷ ms) behind inside =
      let later = placed path operand m in
      let whole = settled ++ (others ++ here) in
      let more = here ++ later ∷ [] in
      let rest = operand_faults (map unplaced settled) (map unplaced others) (map unplaced more) (row_said ms) in
      let last = declaration_faults_behind (settled ++ (others ++ (more ++ map (placed path operand) ms))) behind in
      let grown : whole ++ later ∷ [] ≡ settled ++ (others ++ more) =
      append_assoc settled (others ++ here) (later ∷ []) ∙ ap (λ l. settled ++ l) (append_assoc others here (later ∷ [])) in
      let at_m = mention_is here m inside in
      let at_rest = ap (λ l. declaration_faults_behind l (map (placed path operand) ms ++ behind)) grown
      ∙ operand_is more ms behind (each_of_both (IsInOperand path operand) here (later ∷ []) inside ((refl, refl), tt)) in
      let here_grown : map unplaced more ≡ map unplaced here ++ said m ∷ [] = map-append unplaced here (later ∷ []) in
      ap (λ l. l ++ declaration_faults_behind (whole ++ later ∷ []) (map (placed path operand) ms ++ behind)) at_m
      ∙ ap (λ l. mention_faults (map unplaced settled) (map unplaced others) (map unplaced here) (said m) ++ l) at_rest
      ∙ sym (append_assoc (mention_faults (map unplaced settled) (map unplaced others) (map unplaced here) (said m)) rest last)
      ∙ ap (λ l. (mention_faults (map unplaced settled) (map unplaced others) (map unplaced here) (said m)
      ++ operand_faults (map unplaced settled) (map unplaced others) l (row_said ms)) ++ last) here_grown
      ∙ ap (λ l. operand_faults (map unplaced settled) (map unplaced others) (map unplaced here) (row_said (m ∷ ms)) ++ declaration_faults_behind (settled ++ (others ++ l)) behind)
      (append_assoc here (later ∷ []) (map (placed path operand) ms))

in_earlier : (path n : ℕ) (d : Declaration) → IsInOperand path n d → IsInEarlierOperand path (n + 1) d
in_earlier path n d h = (h.0, omega (arith, h.1))

still_earlier : (path n : ℕ) (d : Declaration) → IsInEarlierOperand path n d → IsInEarlierOperand path (n + 1) d
still_earlier path n d h = (h.0, omega (arith, h.1))

-- the rest of a path pattern, and what stands behind it
path_is : (path n : ℕ) (settled others : List Declaration) (all : List (List Mention)) (behind : List Declaration) →
    AllByRecursion (IsOnEarlierPath path) settled → AllByRecursion (IsInEarlierOperand path n) others →
    declaration_faults_behind (settled ++ others) (joined (numbered path n all) ++ behind) ≡
    path_faults (map unplaced settled) (map unplaced others) (rows_said all) ++ declaration_faults_behind (settled ++ (others ++ joined (numbered path n all))) behind
path_is path n settled others [] behind on before = ap (λ l. declaration_faults_behind (settled ++ l) behind) (sym (append-nil others))
path_is path n settled others (ms ∷ all) behind on before =
    let row = map (placed path n) ms in
    let rest = joined (numbered path (n + 1) all) in
    let first = operand_faults (map unplaced settled) (map unplaced others) [] (row_said ms) in
    let now_before : AllByRecursion (IsInEarlierOperand path (n + 1)) (others ++ row) =
    each_of_both (IsInEarlierOperand path (n + 1)) others row (each_by (IsInEarlierOperand path n) (IsInEarlierOperand path (n + 1)) (still_earlier path n) others before)
    (each_by (IsInOperand path n) (IsInEarlierOperand path (n + 1)) (in_earlier path n) row (row_in_operand path n ms)) in
    let grown : map unplaced (others ++ row) ≡ map unplaced others ++ row_said ms = map-append unplaced others row ∙ ap (λ l. map unplaced others ++ l) (row_unplaced path n ms) in
    let last = declaration_faults_behind (settled ++ ((others ++ row) ++ rest)) behind in
    ap (declaration_faults_behind (settled ++ others)) (append_assoc row rest behind)
    ∙ ap (λ l. declaration_faults_behind (settled ++ l) (row ++ (rest ++ behind))) (sym (append-nil others))
    ∙ operand_is path n settled others on before [] ms (rest ++ behind) tt
    ∙ ap (λ l. first ++ l) (path_is path (n + 1) settled (others ++ row) all behind on now_before)
    ∙ ap (λ l. first ++ (path_faults (map unplaced settled) l (rows_said all) ++ last)) grown
    ∙ sym (append_assoc first (path_faults (map unplaced settled) (map unplaced others ++ row_said ms) (rows_said all)) last)
    ∙ ap (λ l. path_faults (map unplaced settled) (map unplaced others) (rows_said (ms ∷ all)) ++ declaration_faults_behind (settled ++ l) behind) (append_assoc others row rest)

on_path : (path n : ℕ) (all : List (List Mention)) → AllByRecursion (IsOnEarlierPath (path + 1)) (joined (numbered path n all))
on_path path n [] = tt
on_path path n (ms ∷ all) =
    each_of_both (IsOnEarlierPath (path + 1)) (map (placed path n) ms) (joined (numbered path (n + 1) all))
    (each_by (IsInOperand path n) (IsOnEarlierPath (path + 1)) (λ d h. omega (arith, h.0)) (map (placed path n) ms) (row_in_operand path n ms)) (on_path path (n + 1) all)

rows_unplaced : (path n : ℕ) (all : List (List Mention)) → map unplaced (joined (numbered path n all)) ≡ joined (rows_said all)
rows_unplaced path n [] = refl
rows_unplaced path n (ms ∷ all) =
    map-append unplaced (map (placed path n) ms) (joined (numbered path (n + 1) all))
    ∙ ap (λ l. l ++ map unplaced (joined (numbered path (n + 1) all))) (row_unplaced path n ms)
    ∙ ap (λ l. row_said ms ++ l) (rows_unplaced path (n + 1) all)

paths_are : (n : ℕ) (settled : List Declaration) (all : List (List (List Mention))) → AllByRecursion (IsOnEarlierPath n) settled →
    declaration_faults_behind settled (paths_from n all) ≡ said_faults (map unplaced settled) (map rows_said all)
paths_are n settled [] on = refl
paths_are n settled (ops ∷ all) on =
    let row = joined (numbered n 0 ops) in
    let first = path_faults (map unplaced settled) [] (rows_said ops) in
    let on_now : AllByRecursion (IsOnEarlierPath (n + 1)) (settled ++ row) =
    each_of_both (IsOnEarlierPath (n + 1)) settled row (each_by (IsOnEarlierPath n) (IsOnEarlierPath (n + 1)) (λ d h. omega (arith, h)) settled on) (on_path n 0 ops) in
    ap (λ l. declaration_faults_behind l (row ++ paths_from (n + 1) all)) (sym (append-nil settled))
    ∙ path_is n 0 settled [] ops (paths_from (n + 1) all) on tt
    ∙ ap (λ l. first ++ l) (paths_are (n + 1) (settled ++ row) all on_now)
    ∙ ap (λ l. first ++ said_faults l (map rows_said all)) (map-append unplaced settled row ∙ ap (λ l. map unplaced settled ++ l) (rows_unplaced n 0 ops))

pub repeats_found : (all : List (List (List Mention))) → declaration_faults_behind [] (all_placed all) ≡ said_faults [] (map rows_said all)
repeats_found all = paths_are 0 [] all tt
