-- One step of looking for a condition among some.
use Rattle.std.proofs.Common.{◌≡◌, ℕ, suc, ◌+◌, ◌<◌, ◌↔◌, IsTrue, Bool, true, false, ◌||◌, List, length, get_or, drop, sym, ap, ◌∙◌, add-one}
use Rattle.std.proofs.Math.Seq.{drop-cons}
use Rattle.std.specs.List.{list_any}
use Rattle.path_lowering.specs.Emitted.{SqlCondition}
use Rattle.path_lowering.specs.Sameness.{same_condition}
use Rattle.path_lowering.specs.Apart.{is_among}
use Rattle.path_lowering.proofs.SamenessLemmas.{same_test}

any_step : (p : SqlCondition → Bool) (xs : List SqlCondition) (i : ℕ) (x : SqlCondition) → x ≡ get_or xs i x → i < length xs → list_any p (drop i xs)
    ≡ (p x || list_any p (drop (i + 1) xs))
any_step p xs i x is h = rw (add-one, drop-cons xs i x) (ap (λ z. p z || list_any p (drop (suc i) xs)) (sym is))

pub found_here : (xs : List SqlCondition) (i : ℕ) (x c : SqlCondition) (r : Bool) → x ≡ get_or xs i x → i < length xs → (IsTrue r ↔ (c ≡ x)) → r ≡ true
    → is_among (drop i xs) c ≡ is_among xs c → true ≡ is_among xs c
found_here xs i x c r is h tells found same =
    sym (any_step (same_condition c) xs i x is h ∙ ap (λ b. b || list_any (same_condition c) (drop (i + 1) xs)) (sym (same_test r c x tells) ∙ found)) ∙ same

pub not_here : (xs : List SqlCondition) (i : ℕ) (x c : SqlCondition) (r : Bool) → x ≡ get_or xs i x → i < length xs → (IsTrue r ↔ (c ≡ x)) → r ≡ false
    → is_among (drop i xs) c ≡ is_among xs c → is_among (drop (i + 1) xs) c ≡ is_among xs c
not_here xs i x c r is h tells missed same =
    sym (any_step (same_condition c) xs i x is h ∙ ap (λ b. b || list_any (same_condition c) (drop (i + 1) xs)) (sym (same_test r c x tells) ∙ missed)) ∙ same
