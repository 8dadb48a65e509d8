-- What a look-up by name answers.
use Rattle.std.proofs.Common.{◌≡◌, ℕ, suc, ◌+◌, ◌<◌, Bool, true, false, not, cond, List, [], ◌∷◌, length, map, refl, ap, sym, ◌∙◌, Option, None, Some, option_map, slice_get}
use Rattle.std.proofs.Common.{get_or, nat_lt, bytes_eq, inl, inr, subst, arith}
use Rattle.std.specs.List.{position, position_or_len}
use Rattle.std.specs.Cmp.Lexicographic.{bytes_decides}
use Rattle.std.proofs.lemmas.Bool.{lt-ltb}
use Rattle.std.proofs.lemmas.Cmp.{nat_list_eq_equiv}
use Rattle.std.proofs.lemmas.Option.{slice_get-map, slice_get-get_or}
use Rattle.std.proofs.lemmas.List.Quantifiers.{position-Some}
use Rattle.multisets.specs.Bags.{IsIn}
use Rattle.graph_ast.specs.Finding.{FindsPlaces}

module _ {X : Type 0} (name_of : X → List ℕ) (none : X) where
  is_named : List ℕ → X → Bool
  is_named name x = bytes_eq (name_of x) name

  at : (xs : List X) (name : List ℕ) (i : ℕ) → i < length xs → slice_get (map name_of xs) i ≡ Some (name_of (get_or xs i none))
  at xs name i h = slice_get-map name_of xs i ∙ ap (option_map name_of) (slice_get-get_or xs i none h)

  there_step : (name : List ℕ) (x : X) (xs : List X) → (IsIn name (map name_of xs) → position_or_len (λ y. bytes_eq (name_of y) name) xs < length xs) →
      (b : Bool) → bytes_eq (name_of x) name ≡ b → IsIn name (map name_of (x ∷ xs)) →
      cond (not b) (1 + position_or_len (λ y. bytes_eq (name_of y) name) xs) 0 < suc (length xs)
  there_step name x xs rest true e h = omega arith
  there_step name x xs rest false e (inl same) = let back : bytes_eq (name_of x) name ≡ true = ap (λ n. bytes_eq (name_of x) n) (sym same)
      ∙ nat_list_eq_equiv.refl (name_of x) in let never : true ≡ false = sym back ∙ e in cc
  there_step name x xs rest false e (inr h) = let shorter = rest h in omega (arith, shorter)

  there : (xs : List X) (name : List ℕ) → IsIn name (map name_of xs) → position_or_len (λ x. bytes_eq (name_of x) name) xs < length xs
  there [] name h = absurd h
  there (x ∷ xs) name h = there_step name x xs (there xs name) (bytes_eq (name_of x) name) refl h

  not_none : (b : Bool) (i : ℕ) → b ≡ true → cond b (Some i) None ≡ None → ⊥
  not_none true i h e = cc
  not_none false i h e = cc

  pub finds : (xs : List X) → FindsPlaces (map name_of xs) (λ name. position (λ x. bytes_eq (name_of x) name) xs)
  finds xs = record {
    found = λ name place e.
        let at_place = position-Some (λ x. bytes_eq (name_of x) name) xs place none e in
        at xs name place at_place.0 ∙ ap Some ((bytes_decides (name_of (get_or xs place none)) name).0 at_place.1);
    first = λ name place earlier e h g.
        let at_place = position-Some (λ x. bytes_eq (name_of x) name) xs place none e in
        let within : earlier < length xs = omega (arith, h, at_place.0) in
        let same : Some (name_of (get_or xs earlier none)) ≡ Some name = sym (at xs name earlier within) ∙ g in
        let itself : name_of (get_or xs earlier none) ≡ name = cc in
        let passes : bytes_eq (name_of (get_or xs earlier none)) name ≡ true = ap (λ n. bytes_eq (name_of (get_or xs earlier none)) n) (sym itself)
        ∙ nat_list_eq_equiv.refl (name_of (get_or xs earlier none)) in
        let fails = at_place.2 earlier h in cc;
    missing = λ name e h.
        not_none (nat_lt (position_or_len (λ x. bytes_eq (name_of x) name) xs) (length xs)) (position_or_len (λ x. bytes_eq (name_of x) name) xs)
        (lt-ltb (position_or_len (λ x. bytes_eq (name_of x) name) xs) (length xs) (there xs name h)) e;
  }
