-- Ways: ties that hold wherever a condition is True.
use Rattle.std.proofs.Common.{◌≡◌, ℕ, ◌+◌, ◌<◌, ◌&&◌, ◌||◌, Bool, true, false, List, [], ◌∷◌, ◌++◌, map, take, length, get_or, refl, sym, ap, subst, ◌∙◌, Some}
use Rattle.std.specs.List.{list_all, list_any}
use Rattle.std.proofs.lemmas.Bool.{and_parts}
use Rattle.std.proofs.lemmas.List.{get_or-take, take_more}
use Rattle.std.proofs.lemmas.List.Folds.{list_all-append, list_any-append, list_any_more}
use Rattle.pgq_base.specs.declared.truth.Truth3.{Truth3}
use Rattle.pgq_base.specs.declared.truth.Truth3.TheVariants as truth
use Rattle.pgq_base.specs.Instances.{value_at}
use Rattle.pgq_base.specs.Kleene.{and3, or3}
use Rattle.expr_tree.specs.declared.tree.Comparison.TheVariants as op
use Rattle.expr_tree.specs.declared.tree.Expr.{Expr, Expr-F}
use Rattle.expr_tree.specs.declared.tree.Expr.TheVariants as v
use Rattle.expr_tree.specs.Meaning.{value_in, value_step, compare_by, and_all, or_all, truth_of_value}
use Rattle.expr_tree.proofs.Folds.{at_layer}
use Rattle.expr_tree.proofs.FormLemmas.{truth_back}
use Rattle.sql_algebra.specs.Tuples.{is_true}
use Rattle.row_eval.specs.declared.access.Key.{Key}
use Rattle.row_eval.specs.declared.access.Tied.{Tied}
use Rattle.row_eval.specs.declared.frame.Slot.{Slot}
use Rattle.row_eval.specs.declared.ties.Side.TheVariants.{Own, Earlier}
use Rattle.row_eval.specs.Access.{agree, column_value}
use Rattle.row_eval.specs.Slots.{Stack, fitted, slot_value, is_kept}
use Rattle.row_eval.specs.Ties.{side_of, slots_of, own_of}
use Rattle.row_eval.specs.Ways.{tied_at, some_at, ways_at, StayTied}
use Rattle.row_eval.proofs.ChainReach.{both_true}
use Rattle.row_eval.proofs.EqualityForms.{slots_alone}
use Rattle.row_eval.proofs.TieLemmas.{own_place, earlier_place, agree_turned}

-- ---- what conditions say of their parts

module _ (t : Stack) where
  slot_alone : (a : Slot) → value_in (slot_value t) (v.Leaf a) ≡ slot_value t a
  slot_alone a = at_layer (value_step (slot_value t)) (Expr-F.Leaf a) (v.Leaf a) (v.rolls-Leaf a)

  -- an equality of two columns is True where they agree
  pub kept_pair : (e : Expr Slot) (pair : Slot × Slot) → slots_of e ≡ Some pair → is_kept t e ≡ agree (slot_value t pair.0) (slot_value t pair.1)
  kept_pair e pair h =
      let a = pair.0 in
      let b = pair.1 in
      ap (is_kept t) (slots_alone e pair h)
      ∙ ap (λ x. is_true (truth_of_value x))
      (at_layer (value_step (slot_value t)) (Expr-F.Compare op.Equal (v.Leaf a) (v.Leaf b)) (v.Compare op.Equal (v.Leaf a) (v.Leaf b))
      (v.rolls-Compare op.Equal (v.Leaf a) (v.Leaf b)))
      ∙ ap is_true (truth_back (compare_by op.Equal (value_in (slot_value t) (v.Leaf a)) (value_in (slot_value t) (v.Leaf b))))
      ∙ ap (λ x. agree x (value_in (slot_value t) (v.Leaf b))) (slot_alone a) ∙ ap (agree (slot_value t a)) (slot_alone b)

  and_true : (x y : Truth3) → is_true (and3 x y) ≡ true → (is_true x ≡ true) × (is_true y ≡ true)
  and_true truth.True truth.True h = (refl, refl)
  and_true truth.True truth.Unknown h = absurd cc
  and_true truth.True truth.False h = absurd cc
  and_true truth.Unknown truth.True h = absurd cc
  and_true truth.Unknown truth.Unknown h = absurd cc
  and_true truth.Unknown truth.False h = absurd cc
  and_true truth.False truth.True h = absurd cc
  and_true truth.False truth.Unknown h = absurd cc
  and_true truth.False truth.False h = absurd cc

  or_true : (x y : Truth3) → is_true (or3 x y) ≡ true → (is_true x || is_true y) ≡ true
  or_true truth.True y h = refl
  or_true truth.Unknown truth.True h = refl
  or_true truth.Unknown truth.Unknown h = absurd cc
  or_true truth.Unknown truth.False h = absurd cc
  or_true truth.False truth.True h = refl
  or_true truth.False truth.Unknown h = absurd cc
  or_true truth.False truth.False h = absurd cc

  all_true : (es : List (Expr Slot)) → is_true (and_all (map truth_of_value (map (value_in (slot_value t)) es))) ≡ true → list_all (is_kept t) es ≡ true
  all_true [] h = refl
  all_true (e ∷ es) h =
      let two = and_true (truth_of_value (value_in (slot_value t) e)) (and_all (map truth_of_value (map (value_in (slot_value t)) es))) h in
      both_true (is_kept t e) (list_all (is_kept t) es) two.0 (all_true es two.1)

  any_true : (es : List (Expr Slot)) → is_true (or_all (map truth_of_value (map (value_in (slot_value t)) es))) ≡ true → list_any (is_kept t) es ≡ true
  any_true [] h = absurd cc
  any_true (e ∷ es) h =
      by (is_kept t e) refl (or_true (truth_of_value (value_in (slot_value t) e)) (or_all (map truth_of_value (map (value_in (slot_value t)) es))) h) (any_true es)
    where
      by : (b : Bool) → is_kept t e ≡ b → (b || is_true (or_all (map truth_of_value (map (value_in (slot_value t)) es)))) ≡ true
          → (is_true (or_all (map truth_of_value (map (value_in (slot_value t)) es))) ≡ true → list_any (is_kept t) es ≡ true) → (is_kept t e || list_any (is_kept t) es) ≡ true
      by true is k later = ap (λ b. b || list_any (is_kept t) es) is
      by false is k later = ap (λ b. b || list_any (is_kept t) es) is ∙ later k

  -- where AND is True, each member is
  pub kept_all : (e : Expr Slot) (es : List (Expr Slot)) → e ≡ v.All es → is_kept t e ≡ true → list_all (is_kept t) es ≡ true
  kept_all e es is h =
      all_true es (sym (ap (is_kept t) is
      ∙ ap (λ x. is_true (truth_of_value x)) (at_layer (value_step (slot_value t)) (Expr-F.All es) (v.All es) (v.rolls-All es))
      ∙ ap is_true (truth_back (and_all (map truth_of_value (map (value_in (slot_value t)) es))))) ∙ h)

  -- where OR is True, one member is
  pub kept_any : (e : Expr Slot) (es : List (Expr Slot)) → e ≡ v.Any es → is_kept t e ≡ true → list_any (is_kept t) es ≡ true
  kept_any e es is h =
      any_true es (sym (ap (is_kept t) is
      ∙ ap (λ x. is_true (truth_of_value x)) (at_layer (value_step (slot_value t)) (Expr-F.Any es) (v.Any es) (v.rolls-Any es))
      ∙ ap is_true (truth_back (or_all (map truth_of_value (map (value_in (slot_value t)) es))))) ∙ h)

-- ---- ties

module _ (place : ℕ) (t : Stack) where
  own_value : (a : Slot) → a.item ≡ place → slot_value t a ≡ column_value (get_or t place []) (own_of a)
  own_value a h = ap (λ n. fitted a.class (value_at (get_or t n []) a.column)) h

  earlier_value : (b : Slot) → b.item < place → slot_value t b ≡ slot_value (take place t) b
  earlier_value b h = ap (λ r. fitted b.class (value_at r b.column)) (sym (get_or-take place t b.item [] h))

  tied_last : (tied : List Tied) (new : Tied) → agree (column_value (get_or t place []) new.own) (slot_value (take place t) new.other) ≡ true → tied_at place t tied ≡ true
      → tied_at place t (tied ++ new ∷ []) ≡ true
  tied_last tied new h old =
      list_all-append (λ (x : Tied). agree (column_value (get_or t place []) x.own) (slot_value (take place t) x.other)) tied (new ∷ [])
      ∙ both_true (tied_at place t tied) (tied_at place t (new ∷ [])) old (both_true _ true h refl)

pub tied_own : (place : ℕ) (a b : Slot) (tied all : List Tied) → side_of place a ≡ Own → side_of place b ≡ Earlier → all ≡ tied ++ record { own = own_of a; other = b } ∷ []
    → StayTied place (λ t. agree (slot_value t a) (slot_value t b)) tied all
tied_own place a b tied all left right is = λ t within test old.
    subst (λ l. tied_at place t l ≡ true) (sym is)
    (tied_last place t tied (record { own = own_of a; other = b })
    (ap (λ x. agree x (slot_value (take place t) b)) (sym (own_value place t a (own_place place a left)))
    ∙ ap (agree (slot_value t a)) (sym (earlier_value place t b (earlier_place place b right))) ∙ test) old)

pub tied_turned : (place : ℕ) (a b : Slot) (tied all : List Tied) → side_of place a ≡ Earlier → side_of place b ≡ Own → all ≡ tied ++ record { own = own_of b; other = a } ∷ []
    → StayTied place (λ t. agree (slot_value t a) (slot_value t b)) tied all
tied_turned place a b tied all left right is = λ t within test old.
    tied_own place b a tied all right left is t within (agree_turned (slot_value t b) (slot_value t a) ∙ test) old

-- one member more
pub tied_next : (place : ℕ) (members : List (Expr Slot)) (i : ℕ) (member : Expr Slot) (tied all : List Tied) → i < length members → member ≡ get_or members i member
    → StayTied place (λ t. list_all (is_kept t) (take i members)) [] tied → StayTied place (λ t. is_kept t member) tied all
    → StayTied place (λ t. list_all (is_kept t) (take (i + 1) members)) [] all
tied_next place members i member tied all h is before one = λ t within test none.
    let two = and_parts (list_all (is_kept t) (take i members)) (is_kept t member && true)
    (sym (ap (list_all (is_kept t)) (take_more members i member h) ∙ list_all-append (is_kept t) (take i members) (get_or members i member ∷ [])
    ∙ ap (λ e. list_all (is_kept t) (take i members) && (is_kept t e && true)) (sym is)) ∙ test) in
    one t within (and_parts (is_kept t member) true two.1).0 (before t within two.0 none)

-- ---- ways

-- one alternative more
pub ways_next : (place : ℕ) (alternatives : List (Expr Slot)) (i : ℕ) (alternative : Expr Slot) (ways : List Key) (key : Key) → i < length alternatives
    → alternative ≡ get_or alternatives i alternative
    → ((t : Stack) → place < length t → list_any (is_kept t) (take i alternatives) ≡ true → some_at place t ways ≡ true)
    → StayTied place (λ t. is_kept t alternative) [] key.tied
    → (t : Stack) → place < length t → list_any (is_kept t) (take (i + 1) alternatives) ≡ true → some_at place t (ways ++ key ∷ []) ≡ true
ways_next place alternatives i alternative ways key h is before one = λ t within test.
    list_any-append (λ (k : Key). tied_at place t k.tied) ways (key ∷ [])
    ∙ by t (list_any (is_kept t) (take i alternatives)) refl
    (ap (λ e. list_any (is_kept t) (take i alternatives) || is_kept t e) is ∙ sym (list_any_more (is_kept t) alternatives i alternative h) ∙ test)
    (before t within) (λ k. one t within k refl)
  where
    or_true : (b : Bool) → (b || true) ≡ true
    or_true true = refl
    or_true false = refl

    by : (t : Stack) (b : Bool) → list_any (is_kept t) (take i alternatives) ≡ b → (list_any (is_kept t) (take i alternatives) || is_kept t alternative) ≡ true
        → (list_any (is_kept t) (take i alternatives) ≡ true → some_at place t ways ≡ true) → (is_kept t alternative ≡ true → tied_at place t key.tied ≡ true)
        → (some_at place t ways || (tied_at place t key.tied || false)) ≡ true
    by t true e test old new = ap (λ b. b || (tied_at place t key.tied || false)) (old e)
    by t false e test old new =
        ap (λ b. some_at place t ways || (b || false)) (new (sym (ap (λ b. b || is_kept t alternative) e) ∙ test)) ∙ or_true (some_at place t ways)

pub ways_whole : (place : ℕ) (t : Stack) (ways : List Key) → some_at place t ways ≡ true → ways_at place t ways ≡ true
ways_whole place t [] h = refl
ways_whole place t (way ∷ ways) h = h
