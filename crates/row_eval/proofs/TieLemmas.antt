-- Ties of a row to the rows before it.
use Rattle.std.specs.Prelude.{Result, Ok, Err, OnOk}
use Rattle.std.proofs.Common.{◌≡◌, ℕ, ◌+◌, ◌<◌, cond, ◌&&◌, Bool, true, false, List, [], ◌∷◌, ◌++◌, take, length, get_or, refl, sym, ap, subst, ◌∙◌, arith}
use Rattle.std.specs.List.{list_all}
use Rattle.std.proofs.Math.ListN.{get_or-append}
use Rattle.std.proofs.Math.Seq.{get_or-append_seam}
use Rattle.std.proofs.lemmas.Bool.Decides.{nat_tests}
use Rattle.std.proofs.lemmas.List.{take_more}
use Rattle.std.proofs.lemmas.List.Folds.{list_all-append}
use Rattle.pgq_base.specs.declared.value.Value.{Value}
use Rattle.pgq_base.specs.Instances.{RowValues, value_at}
use Rattle.row_eval.specs.declared.frame.Slot.{Slot}
use Rattle.row_eval.specs.declared.frame.Condition.{Condition}
use Rattle.row_eval.specs.declared.access.Tied.{Tied}
use Rattle.row_eval.specs.declared.access.Pair.{Pair}
use Rattle.row_eval.specs.declared.ties.Equalities.{Equalities}
use Rattle.row_eval.specs.declared.ties.Side.{Side}
use Rattle.row_eval.specs.declared.ties.Side.TheVariants.{Own, Earlier}
use Rattle.row_eval.specs.Slots.{Stack, fitted, slot_value}
use Rattle.row_eval.specs.Access.{agree, column_value}
use Rattle.row_eval.specs.Ties.{side_of, tied_sides, own_of, pair_holds, tie_holds, ties_hold, equalities_hold}
use Rattle.row_eval.proofs.RunLemmas.{agree_equal}

pub own_place : (place : ℕ) (slot : Slot) → side_of place slot ≡ Own → slot.item ≡ place
own_place place slot h = grind (arith, nat_tests)

pub earlier_place : (place : ℕ) (slot : Slot) → side_of place slot ≡ Earlier → slot.item < place
earlier_place place slot h = grind (arith, nat_tests)

module _ (s : Stack) (row : RowValues) where
  own_value : (slot : Slot) → slot.item ≡ length s → slot_value (s ++ row ∷ []) slot ≡ column_value row (own_of slot)
  own_value slot h = ap (λ r. fitted slot.class (value_at r slot.column)) (ap (λ i. get_or (s ++ row ∷ []) i []) h ∙ get_or-append_seam s row [] [])

  earlier_value : (slot : Slot) → slot.item < length s → slot_value (s ++ row ∷ []) slot ≡ slot_value s slot
  earlier_value slot h = ap (λ r. fitted slot.class (value_at r slot.column)) (get_or-append s (row ∷ []) [] slot.item h)

pub agree_turned : (a b : Value) → agree a b ≡ agree b a
agree_turned a b = go (agree a b) (agree b a) refl refl
  where
    go : (x y : Bool) → agree a b ≡ x → agree b a ≡ y → agree a b ≡ agree b a
    go true y e f = let same = agree_equal a b e in ap (λ z. agree z b) same ∙ ap (λ z. agree b z) (sym same)
    go false true e f = let same = agree_equal b a f in ap (λ z. agree a z) same ∙ ap (λ z. agree z a) (sym same)
    go false false e f = e ∙ sym f

and_last : (x y z : Bool) → (x && (y && (z && true))) ≡ ((x && y) && z)
and_last true true true = refl
and_last true true false = refl
and_last true false z = refl
and_last false y z = refl

and_middle : (x y z : Bool) → ((x && (z && true)) && y) ≡ ((x && y) && z)
and_middle true true true = refl
and_middle true true false = refl
and_middle true false true = refl
and_middle true false false = refl
and_middle false y z = refl

held : (place : ℕ) (s : Stack) (row : RowValues) (a b : Slot) (x y : Side) → side_of place a ≡ x → side_of place b ≡ y → tied_sides x y ≡ true
    → pair_holds place s row a b ≡ agree (slot_value (s ++ row ∷ []) a) (slot_value (s ++ row ∷ []) b)
held place s row a b x y e f h =
    ap (λ z. cond (tied_sides z (side_of place b)) (agree (slot_value (s ++ row ∷ []) a) (slot_value (s ++ row ∷ []) b)) true) e
    ∙ ap (λ z. cond (tied_sides x z) (agree (slot_value (s ++ row ∷ []) a) (slot_value (s ++ row ∷ []) b)) true) f
    ∙ ap (λ z. cond z (agree (slot_value (s ++ row ∷ []) a) (slot_value (s ++ row ∷ []) b)) true) h

pub untied : (place : ℕ) (s : Stack) (row : RowValues) (a b : Slot) (x y : Side) → side_of place a ≡ x → side_of place b ≡ y → tied_sides x y ≡ false
    → pair_holds place s row a b ≡ true
untied place s row a b x y e f h =
    ap (λ z. cond (tied_sides z (side_of place b)) (agree (slot_value (s ++ row ∷ []) a) (slot_value (s ++ row ∷ []) b)) true) e
    ∙ ap (λ z. cond (tied_sides x z) (agree (slot_value (s ++ row ∷ []) a) (slot_value (s ++ row ∷ []) b)) true) f
    ∙ ap (λ z. cond z (agree (slot_value (s ++ row ∷ []) a) (slot_value (s ++ row ∷ []) b)) true) h

module _ (made : Equalities) (s : Stack) (row : RowValues) where
  abbrev one : Tied → Bool
  one t = agree (column_value row t.own) (slot_value s t.other)

  abbrev pair : Pair → Bool
  pair p = agree (column_value row p.left) (column_value row p.right)

  pub with_pair : (a b : Slot) (place : ℕ) (pairs : List Pair) → length s ≡ place → side_of place a ≡ Own → side_of place b ≡ Own
      → pairs ≡ made.pairs ++ record { left = own_of a; right = own_of b } ∷ []
      → (list_all one made.tied && list_all pair pairs) ≡ (equalities_hold made s row && pair_holds place s row a b)
  with_pair a b place pairs long left right is =
      let new : Pair = record { left = own_of a; right = own_of b } in
      let values : pair_holds place s row a b ≡ pair new =
      held place s row a b Own Own left right refl
      ∙ ap (λ z. agree z (slot_value (s ++ row ∷ []) b)) (own_value s row a (own_place place a left ∙ sym long))
      ∙ ap (λ z. agree (column_value row (own_of a)) z) (own_value s row b (own_place place b right ∙ sym long)) in
      ap (λ l. list_all one made.tied && list_all pair l) is ∙ ap (λ z. list_all one made.tied && z) (list_all-append pair made.pairs (new ∷ []))
      ∙ and_last (list_all one made.tied) (list_all pair made.pairs) (pair new) ∙ ap (λ z. equalities_hold made s row && z) (sym values)

  pub with_tie : (a b : Slot) (place : ℕ) (tied : List Tied) → length s ≡ place → side_of place a ≡ Own → side_of place b ≡ Earlier
      → tied ≡ made.tied ++ record { own = own_of a; other = b } ∷ []
      → (list_all one tied && list_all pair made.pairs) ≡ (equalities_hold made s row && pair_holds place s row a b)
  with_tie a b place tied long left right is =
      let new : Tied = record { own = own_of a; other = b } in
      let values : pair_holds place s row a b ≡ one new =
      held place s row a b Own Earlier left right refl
      ∙ ap (λ z. agree z (slot_value (s ++ row ∷ []) b)) (own_value s row a (own_place place a left ∙ sym long))
      ∙ ap (λ z. agree (column_value row (own_of a)) z) (earlier_value s row b (subst (λ n. b.item < n) (sym long) (earlier_place place b right))) in
      ap (λ l. list_all one l && list_all pair made.pairs) is ∙ ap (λ z. z && list_all pair made.pairs) (list_all-append one made.tied (new ∷ []))
      ∙ and_middle (list_all one made.tied) (list_all pair made.pairs) (one new) ∙ ap (λ z. equalities_hold made s row && z) (sym values)

  pub with_turned_tie : (a b : Slot) (place : ℕ) (tied : List Tied) → length s ≡ place → side_of place a ≡ Earlier → side_of place b ≡ Own
      → tied ≡ made.tied ++ record { own = own_of b; other = a } ∷ []
      → (list_all one tied && list_all pair made.pairs) ≡ (equalities_hold made s row && pair_holds place s row a b)
  with_turned_tie a b place tied long left right is =
      let new : Tied = record { own = own_of b; other = a } in
      let values : pair_holds place s row a b ≡ one new =
      held place s row a b Earlier Own left right refl ∙ agree_turned (slot_value (s ++ row ∷ []) a) (slot_value (s ++ row ∷ []) b)
      ∙ ap (λ z. agree z (slot_value (s ++ row ∷ []) a)) (own_value s row b (own_place place b right ∙ sym long))
      ∙ ap (λ z. agree (column_value row (own_of b)) z) (earlier_value s row a (subst (λ n. a.item < n) (sym long) (earlier_place place a left))) in
      ap (λ l. list_all one l && list_all pair made.pairs) is ∙ ap (λ z. z && list_all pair made.pairs) (list_all-append one made.tied (new ∷ []))
      ∙ and_middle (list_all one made.tied) (list_all pair made.pairs) (one new) ∙ ap (λ z. equalities_hold made s row && z) (sym values)

and_one : (x y : Bool) → (x && (y && true)) ≡ (x && y)
and_one true true = refl
and_one true false = refl
and_one false y = refl

pub ties_more : (place : ℕ) (s : Stack) (row : RowValues) (tests : List Condition) (i : ℕ) (d : Condition) → i < length tests
    → ties_hold place s row (take (i + 1) tests) ≡ (ties_hold place s row (take i tests) && tie_holds place s row (get_or tests i d).expr)
ties_more place s row tests i d h =
    ap (ties_hold place s row) (take_more tests i d h) ∙ list_all-append (λ (c : Condition). tie_holds place s row c.expr) (take i tests) (get_or tests i d ∷ [])
    ∙ and_one (ties_hold place s row (take i tests)) (tie_holds place s row (get_or tests i d).expr)

pub on_ok : {A E : Type 0} (r : Result A E) (P Q : Type 0) → (P → Q) → OnOk r P → OnOk r Q
on_ok (Ok x) P Q f h = f h
on_ok (Err e) P Q f h = tt
