-- How what factors give is put one behind the other.
use Rattle.std.proofs.Common.{◌≡◌, ℕ, ◌+◌, ◌<◌, List, [], ◌∷◌, ◌++◌, length, get_or, drop, map, ap, ap₂, sym, ◌∙◌, append_assoc}
use Rattle.std.specs.List.{flat_map}
use Rattle.std.proofs.lemmas.List.{drop_more, append-nil}
use Rattle.std.proofs.lemmas.Grind.{flat_map-append}
use Rattle.graph_ast.specs.declared.checked.Step.{Step}
use Rattle.pattern_check.specs.Checked.{Leafed, Spliced, splice}
use Rattle.pattern_check.specs.Splicing.{behind}

abbrev pub made_of : List Step → List Leafed → Spliced
made_of steps conditions = record { steps = steps; conditions = conditions }

pub behind_nothing : (done : Spliced) → behind done (record { steps = []; conditions = [] }) ≡ done
behind_nothing done = ap₂ made_of (append-nil done.steps) (append-nil done.conditions)

pub behind_first : (done first : Spliced) (rest : List Spliced) → behind (behind done first) (splice rest) ≡ behind done (splice (first ∷ rest))
behind_first done first rest =
    ap₂ made_of (append_assoc done.steps first.steps (flat_map (λ (s : Spliced). s.steps) rest)) (append_assoc done.conditions first.conditions (flat_map (λ
    (s : Spliced). s.conditions) rest))

pub behind_some : (done : Spliced) (first rest : List Spliced) → behind (behind done (splice first)) (splice rest) ≡ behind done (splice (first ++ rest))
behind_some done first rest =
    ap₂ made_of
    (append_assoc done.steps (flat_map (λ (s : Spliced). s.steps) first) (flat_map (λ (s : Spliced). s.steps) rest) ∙ ap (λ l. done.steps ++ l) (sym (flat_map-append (λ
    (s : Spliced). s.steps) first rest)))
    (append_assoc done.conditions (flat_map (λ (s : Spliced). s.conditions) first) (flat_map (λ (s : Spliced). s.conditions) rest) ∙ ap (λ l. done.conditions ++ l) (sym
    (flat_map-append (λ (s : Spliced). s.conditions) first rest)))

-- the loop over factors goes on by one
pub factor_on : {X : Type 0} (f : X → Spliced) (done : Spliced) (xs : List X) (i : ℕ) (x : X) → i < length xs → x ≡ get_or xs i x →
    behind (behind done (f x)) (splice (map f (drop (i + 1) xs))) ≡ behind done (splice (map f (drop i xs)))
factor_on f done xs i x within is =
    behind_first done (f x) (map f (drop (i + 1) xs))
    ∙ ap (λ y. behind done (splice (f y ∷ map f (drop (i + 1) xs)))) is
    ∙ sym (ap (λ l. behind done (splice (map f l))) (drop_more xs i x within))

-- the loop over operands goes on by one
pub operand_on : {X : Type 0} (f : X → List Spliced) (done : Spliced) (xs : List X) (i : ℕ) (x : X) → i < length xs → x ≡ get_or xs i x →
    behind (behind done (splice (f x))) (splice (flat_map (λ own. own) (map f (drop (i + 1) xs)))) ≡ behind done (splice (flat_map (λ own. own) (map f (drop i xs))))
operand_on f done xs i x within is =
    behind_some done (f x) (flat_map (λ own. own) (map f (drop (i + 1) xs)))
    ∙ ap (λ y. behind done (splice (f y ++ flat_map (λ own. own) (map f (drop (i + 1) xs))))) is
    ∙ sym (ap (λ l. behind done (splice (flat_map (λ own. own) (map f l)))) (drop_more xs i x within))

-- the loop over the operands of a path pattern goes on by one
pub operands_on : {X : Type 0} (f : X → List Spliced) (made : List Spliced) (xs : List X) (i : ℕ) (x : X) → i < length xs → x ≡ get_or xs i x →
    (made ++ splice (f x) ∷ []) ++ map splice (map f (drop (i + 1) xs)) ≡ made ++ map splice (map f (drop i xs))
operands_on f made xs i x within is =
    append_assoc made (splice (f x) ∷ []) (map splice (map f (drop (i + 1) xs)))
    ∙ ap (λ y. made ++ (splice (f y) ∷ map splice (map f (drop (i + 1) xs)))) is
    ∙ sym (ap (λ l. made ++ map splice (map f l)) (drop_more xs i x within))

-- a part's own condition stands behind what is inside
pub part_on : (done body : Spliced) (conditions : List Leafed) →
    made_of (behind done body).steps ((behind done body).conditions ++ conditions) ≡ behind done (splice (body ∷ made_of [] conditions ∷ []))
part_on done body conditions =
    ap₂ made_of (ap (λ l. done.steps ++ l) (sym (append-nil body.steps)))
    (append_assoc done.conditions body.conditions conditions ∙ ap (λ l. done.conditions ++ (body.conditions ++ l)) (sym (append-nil conditions)))
