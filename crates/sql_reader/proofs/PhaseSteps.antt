-- How a phase goes on by one item of a FROM, and through the parts of a select.
use Rattle.std.proofs.Common.{◌≡◌, ◌∙◌, ℕ, ◌+◌, ◌<◌, List, ◌∷◌, ◌++◌, length, get_or, map, drop, sym, ap, Option}
use Rattle.std.specs.List.{flat_map}
use Rattle.std.proofs.lemmas.List.{drop_more}
use Rattle.graph_ast.specs.declared.catalog.Catalog.{Catalog}
use Rattle.sql_algebra.specs.declared.text.ItemText.{ItemText}
use Rattle.first_faults.specs.declared.faults.Fault.{Fault}
use Rattle.first_faults.specs.Faults.{first_of}
use Rattle.first_faults.proofs.Steps.{first_of_append}
use Rattle.sql_reader.specs.declared.phases.Phase.{Phase}
use Rattle.sql_reader.specs.Reaches.{Reach}
use Rattle.sql_reader.specs.Phases.{condition_faults, chain_to, members_of, on_faults}

pub on_step : (phase : Phase) (catalog : Catalog) (outer before : Reach) (first : Option Fault) (items : List ItemText) (i : ℕ) (item : ItemText) → i < length items → item
    ≡ get_or items i item
    → first_of first (on_faults phase catalog outer before (drop i items))
    ≡ first_of (first_of first (flat_map (condition_faults phase (chain_to catalog before item item.on ++ outer)) (members_of item.on)))
    (on_faults phase catalog outer (chain_to catalog before item item.on) (drop (i + 1) items))
on_step phase catalog outer before first items i item within is =
    ap (λ l. first_of first (on_faults phase catalog outer before l)) (drop_more items i item within)
    ∙ ap (λ x. first_of first (on_faults phase catalog outer before (x ∷ drop (i + 1) items))) (sym is)
    ∙ first_of_append first (flat_map (condition_faults phase (chain_to catalog before item item.on ++ outer)) (members_of item.on))
    (on_faults phase catalog outer (chain_to catalog before item item.on) (drop (i + 1) items))

-- a loop over conjuncts, where each gives its faults by the reach
pub conjunct_step : {X : Type 0} (faults : X → Reach → List Fault) (reach : Reach) (first : Option Fault) (xs : List X) (i : ℕ) (x : X) → i < length xs → x ≡ get_or xs i x
    → first_of first (flat_map (λ conjunct. conjunct reach) (map faults (drop i xs)))
    ≡ first_of (first_of first (faults x reach)) (flat_map (λ conjunct. conjunct reach) (map faults (drop (i + 1) xs)))
conjunct_step faults reach first xs i x within is =
    ap (λ l. first_of first (flat_map (λ (conjunct : Reach → List Fault). conjunct reach) (map faults l))) (drop_more xs i x within)
    ∙ ap (λ y. first_of first (faults y reach ++ flat_map (λ (conjunct : Reach → List Fault). conjunct reach) (map faults (drop (i + 1) xs)))) (sym is)
    ∙ first_of_append first (faults x reach) (flat_map (λ (conjunct : Reach → List Fault). conjunct reach) (map faults (drop (i + 1) xs)))

pub three_parts : (first : Option Fault) (a b c : List Fault) → first_of first (a ++ (b ++ c)) ≡ first_of (first_of (first_of first a) b) c
three_parts first a b c = first_of_append first a (b ++ c) ∙ first_of_append (first_of first a) b c

pub four_parts : (first : Option Fault) (a b c d : List Fault) → first_of first (a ++ (b ++ (c ++ d))) ≡ first_of (first_of (first_of (first_of first a) b) c) d
four_parts first a b c d = first_of_append first a (b ++ (c ++ d)) ∙ three_parts (first_of first a) b c d
