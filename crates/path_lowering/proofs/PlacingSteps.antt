-- Steps of the loops that put conditions by items.
use Rattle.std.proofs.Common.{◌≡◌, ℕ, zero, suc, ◌+◌, ◌<◌, ◌≤◌, Bool, true, false, cond, List, [], ◌∷◌, ◌++◌, map, length, get_or, set, take, max, refl, sym, ap, ap₂, subst, ◌∙◌}
use Rattle.std.proofs.Common.{nat_eq, arith, append_assoc, None, Some, Result, Ok, Err, IfOk, ◌==◌}
use Rattle.std.proofs.lemmas.List.{take_more}
use Rattle.std.proofs.Math.ListN.{length-map}
use Rattle.std.proofs.lemmas.Bool.{eqb-true, eq-eqb}
use Rattle.expr_tree.specs.declared.tree.Expr.{Expr-F, map-Expr}
use Rattle.expr_tree.specs.Leaves.{joined, leaves_step}
use Rattle.expr_tree.proofs.Folds.{fused}
use Rattle.graph_meaning.specs.Choices.{greatest}
use Rattle.sql_algebra.specs.declared.tree.ColumnLeaf.{ColumnLeaf}
use Rattle.sql_algebra.specs.declared.tree.FromItem.{FromItem}
use Rattle.sql_algebra.specs.declared.tree.Conjunct.{Conjunct}
use Rattle.path_lowering.specs.declared.placing.Source.{Source}
use Rattle.path_lowering.specs.declared.placing.Slot.{Slot}
use Rattle.path_lowering.specs.Emitted.{SqlCondition}
use Rattle.path_lowering.specs.Placed.{item_of, latest_of, latest_step, latest_in, standing_by, or_true, joined_items, chain_of, from_of, where_of, aliases_of, put_into, opened}
use Rattle.path_lowering.specs.Placed.{joined_item, slots_from, slots_where}
use Rattle.path_lowering.proofs.Lists.{append-nil, map-append, map-again, filter-append}
use Rattle.path_lowering.proofs.PlacingLemmas.{latest_within}

greatest-append : (xs ys : List ℕ) → greatest (xs ++ ys) ≡ max (greatest xs) (greatest ys)
greatest-append [] ys = omega arith
greatest-append (x ∷ xs) ys = let e = greatest-append xs ys in omega (arith, e)

pub latest_more : {A : Type 0} (f : A → ℕ) (xs : List A) (i : ℕ) (x : A) (old new v : ℕ) → old ≡ greatest (map f (take i xs)) → x ≡ get_or xs i x → i < length xs → v ≡ f x
    → new ≡ max old v
    → new ≡ greatest (map f (take (i + 1) xs))
latest_more f xs i x old new v e is h g m =
    let k : greatest (map f (take (i + 1) xs)) ≡ greatest (map f (take i xs) ++ f x ∷ []) =
    ap (λ l. greatest (map f l)) (take_more xs i x h ∙ ap (λ y. take i xs ++ y ∷ []) (sym is)) ∙ ap greatest (map-append f (take i xs) (x ∷ [])) in
    let a = greatest-append (map f (take i xs)) (f x ∷ []) in
    omega (arith, k, a, e, g, m)

-- the two ways to say which item is the latest
module _ (aliases : List (List ℕ)) where
  abbrev over : List ColumnLeaf → ℕ
  over leaves = greatest (map (item_of aliases) leaves)

  over-append : (xs ys : List ColumnLeaf) → over (xs ++ ys) ≡ max (over xs) (over ys)
  over-append xs ys = ap greatest (map-append (item_of aliases) xs ys) ∙ greatest-append (map (item_of aliases) xs) (map (item_of aliases) ys)

  over-joined : (xs : List (List ColumnLeaf)) → over (joined xs) ≡ greatest (map over xs)
  over-joined [] = refl
  over-joined (x ∷ xs) = over-append x (joined xs) ∙ ap (max (over x)) (over-joined xs)

  over-each : (x : Expr-F ColumnLeaf (List ColumnLeaf)) → over (leaves_step x) ≡ latest_step aliases (map-Expr ColumnLeaf (List ColumnLeaf) ℕ over x)
  over-each (Expr-F.Lit v) = refl
  over-each (Expr-F.Null c) = refl
  over-each (Expr-F.Leaf l) = omega arith
  over-each (Expr-F.Compare op a b) = over-append a b
  over-each (Expr-F.All xs) = over-joined xs
  over-each (Expr-F.Any xs) = over-joined xs
  over-each (Expr-F.Not a) = refl
  over-each (Expr-F.Is a t n) = refl
  over-each (Expr-F.InList a xs n) = over-append a (joined xs) ∙ ap (max (over a)) (over-joined xs)
  over-each (Expr-F.Between a b c n) = over-append a (b ++ c) ∙ ap (max (over a)) (over-append b c)
  over-each (Expr-F.Coalesce xs) = over-joined xs

  pub latest_is : (e : SqlCondition) → latest_of aliases e ≡ latest_in aliases e
  latest_is e = fused over leaves_step (latest_step aliases) over-each e

pub put_nothing : (aliases : List (List ℕ)) (number : ℕ) (slots : List Slot) → slots ≡ put_into aliases [] number slots
put_nothing aliases number [] = refl
put_nothing aliases number (slot ∷ slots) =
    ap₂ (λ m l. record { source = slot.source; members = m } ∷ l) (sym (append-nil slot.members)) (put_nothing aliases (suc number) slots)

pub put_aliases : (aliases : List (List ℕ)) (conditions : List SqlCondition) (number : ℕ) (slots : List Slot) → aliases_of (put_into aliases conditions number slots)
    ≡ aliases_of slots
put_aliases aliases conditions number [] = refl
put_aliases aliases conditions number (slot ∷ slots) = ap (λ l. slot.source.alias ∷ l) (put_aliases aliases conditions (suc number) slots)

module _ (aliases : List (List ℕ)) (conditions : List SqlCondition) (c : SqlCondition) where
  standing_one : (number : ℕ) (b : Bool) → nat_eq (latest_of aliases c) number ≡ b → standing_by aliases number (conditions ++ c ∷ []) ≡ standing_by aliases number conditions
      ++ cond b (c ∷ []) []
  standing_one number b e =
      filter-append (λ x. nat_eq (latest_of aliases x) number) conditions (c ∷ []) ∙ ap (λ t. standing_by aliases number conditions ++ cond t (c ∷ []) []) e

  differs_from : (number : ℕ) → latest_of aliases c < number → nat_eq (latest_of aliases c) number ≡ false
  differs_from number h = go (nat_eq (latest_of aliases c) number) refl
    where
      go : (b : Bool) → nat_eq (latest_of aliases c) number ≡ b → b ≡ false
      go true e = absurd (let k : latest_of aliases c ≡ number = eqb-true _ _ e in omega (arith, k, h))
      go false e = refl

  differs_to : (number : ℕ) → number < latest_of aliases c → nat_eq (latest_of aliases c) number ≡ false
  differs_to number h = go (nat_eq (latest_of aliases c) number) refl
    where
      go : (b : Bool) → nat_eq (latest_of aliases c) number ≡ b → b ≡ false
      go true e = absurd (let k : latest_of aliases c ≡ number = eqb-true _ _ e in omega (arith, k, h))
      go false e = refl

  -- the later items are left as they are
  put_later : (number : ℕ) (slots : List Slot) → latest_of aliases c < number → put_into aliases conditions number slots ≡ put_into aliases (conditions ++ c ∷ []) number slots
  put_later number [] h = refl
  put_later number (slot ∷ slots) h =
      ap₂ (λ m l. record { source = slot.source; members = slot.members ++ m } ∷ l)
      (sym (standing_one number false (differs_from number h) ∙ append-nil (standing_by aliases number conditions))) (put_later (suc number) slots (omega arith))

  put_here : (number : ℕ) (slots : List Slot) (k : ℕ) → latest_of aliases c ≡ number + k → k < length slots → (d : Slot)
      → set (put_into aliases conditions number slots) k
      (record {
        source = (get_or (put_into aliases conditions number slots) k d).source;
        members = (get_or (put_into aliases conditions number slots) k d).members ++ c
            ∷ [];
      })
      ≡ put_into aliases (conditions ++ c ∷ []) number slots
  put_here number [] k e h d = absurd (omega arith)
  put_here number (slot ∷ slots) zero e h d =
      ap₂ (λ m l. record { source = slot.source; members = m } ∷ l)
      (append_assoc slot.members (standing_by aliases number conditions) (c ∷ []) ∙ ap (λ m. slot.members ++ m) (sym (standing_one number true (eq-eqb _ _ (omega arith)))))
      (put_later (suc number) slots (omega arith))
  put_here number (slot ∷ slots) (suc k) e h d =
      ap₂ (λ m l. record { source = slot.source; members = slot.members ++ m } ∷ l)
      (sym (standing_one number false (differs_to number (omega arith)) ∙ append-nil (standing_by aliases number conditions)))
      (put_here (suc number) slots k (omega arith) (omega arith) d)

  pub put_more : (initial now_slots : List Slot) (k : ℕ) (slot : Slot) (members : List SqlCondition) → now_slots ≡ put_into aliases conditions 0 initial → aliases
      ≡ aliases_of initial → k ≡ latest_in (aliases_of now_slots) c → 1 ≤ length initial
      → slot ≡ get_or now_slots k slot → members ≡ slot.members ++ c ∷ []
      → set now_slots k (record { source = slot.source; members = members }) ≡ put_into aliases (conditions ++ c ∷ []) 0 initial
  put_more initial now_slots k slot members is own latest some at grown =
      let place : k ≡ latest_of aliases c = latest ∙ ap (λ l. latest_in l c) (ap aliases_of is ∙ put_aliases aliases conditions 0 initial ∙ sym own) ∙ sym (latest_is aliases c) in
      let few : length aliases ≡ length initial = ap length own ∙ length-map initial (λ s. s.source.alias) in
      let within = latest_within aliases (omega (arith, few, some)) c in
      let there : slot ≡ get_or (put_into aliases conditions 0 initial) k slot = at ∙ ap (λ l. get_or l k slot) is in
      ap₂ (λ l s. set l k s) is (ap₂ (λ a m. record { source = a; members = m }) (ap (λ s. s.source) there) (grown ∙ ap (λ s. s.members ++ c ∷ []) there))
      ∙ put_here 0 initial k (omega (arith, place)) (omega (arith, place, within, few)) slot

pub within_slots : (aliases : List (List ℕ)) (conditions : List SqlCondition) (initial now_slots : List Slot) (c : SqlCondition) (k : ℕ) → now_slots
    ≡ put_into aliases conditions 0 initial → 1 ≤ length initial → k ≡ latest_in (aliases_of now_slots) c → k < length now_slots
within_slots aliases conditions initial now_slots c k is some latest =
    let same : aliases_of now_slots ≡ aliases_of initial = ap aliases_of is ∙ put_aliases aliases conditions 0 initial in
    let few : length (aliases_of now_slots) ≡ length now_slots = length-map now_slots (λ s. s.source.alias) in
    let first : length (aliases_of now_slots) ≡ length initial = ap length same ∙ length-map initial (λ s. s.source.alias) in
    let within = latest_within (aliases_of now_slots) (omega (arith, first, some)) c in
    let place : k ≡ latest_of (aliases_of now_slots) c = latest ∙ sym (latest_is (aliases_of now_slots) c) in
    omega (arith, few, within, place)

pub from_more : (before : List Slot) (slot : Slot) → 1 ≤ length (slots_from before) → slots_from (before ++ slot ∷ []) ≡ slots_from before ++ joined_item slot ∷ []
from_more [] slot h = absurd (omega arith)
from_more (s ∷ ss) slot h = ap (λ l. record { table = s.source.table; alias = s.source.alias; on = None } ∷ l) (map-append joined_item ss (slot ∷ []))

pub where_more : (before : List Slot) (slot : Slot) → 1 ≤ length (slots_from before) → slots_where (before ++ slot ∷ []) ≡ slots_where before
where_more [] slot h = absurd (omega arith)
where_more (s ∷ ss) slot h = refl

aliases_opened : (sources : List Source) → aliases_of (map opened sources) ≡ map (λ s. s.alias) sources
aliases_opened sources = map-again (λ s. s.source.alias) opened sources

items_filled : (aliases : List (List ℕ)) (conditions : List SqlCondition) (number : ℕ) (sources : List Source)
    → map joined_item (put_into aliases conditions number (map opened sources)) ≡ joined_items aliases conditions number sources
items_filled aliases conditions number [] = refl
items_filled aliases conditions number (s ∷ ss) = ap (λ l. joined_item (record { source = s; members = standing_by aliases number conditions }) ∷ l)
    (items_filled aliases conditions (suc number) ss)

from_filled_at : (aliases : List (List ℕ)) (sources : List Source) (conditions : List SqlCondition) → slots_from (put_into aliases conditions 0 (map opened sources))
    ≡ chain_of aliases conditions sources
from_filled_at aliases [] conditions = refl
from_filled_at aliases (s ∷ ss) conditions = ap (λ l. record { table = s.table; alias = s.alias; on = None } ∷ l) (items_filled aliases conditions 1 ss)

pub from_filled : (sources : List Source) (conditions : List SqlCondition) (slots : List Slot) → slots ≡ put_into (aliases_of (map opened sources)) conditions 0
    (map opened sources) → slots_from slots ≡ from_of sources conditions
from_filled sources conditions slots is =
    ap slots_from is ∙ ap (λ a. slots_from (put_into a conditions 0 (map opened sources))) (aliases_opened sources) ∙ from_filled_at (map (λ s. s.alias) sources) sources conditions

where_filled_at : (aliases : List (List ℕ)) (sources : List Source) (conditions : List SqlCondition) → 1 ≤ length sources
    → slots_where (put_into aliases conditions 0 (map opened sources)) ≡ map Rattle.sql_algebra.specs.declared.tree.Conjunct.TheVariants.Plain (standing_by aliases 0 conditions)
where_filled_at aliases [] conditions h = absurd (omega arith)
where_filled_at aliases (s ∷ ss) conditions h = refl

pub where_filled : (sources : List Source) (conditions : List SqlCondition) (slots : List Slot) → 1 ≤ length sources → slots
    ≡ put_into (aliases_of (map opened sources)) conditions 0 (map opened sources) → slots_where slots ≡ where_of sources conditions
where_filled sources conditions slots some is =
    ap slots_where is ∙ ap (λ a. slots_where (put_into a conditions 0 (map opened sources))) (aliases_opened sources)
    ∙ where_filled_at (map (λ s. s.alias) sources) sources conditions some

pub if_ok : {A E : Type 0} (r : Result A E) (P Q : A → Type 0) → ((x : A) → P x → Q x) → IfOk r P → IfOk r Q
if_ok (Ok x) P Q f h = f x h
if_ok (Err e) P Q f h = h

pub some_there : {A : Type 0} (xs : List A) (b : Bool) → b ≡ (length xs == 0) → b ≡ false → 1 ≤ length xs
some_there [] b e f = let k : true ≡ false = sym e ∙ f in cc
some_there (x ∷ xs) b e f = omega arith

pub chain_more : (before : List Slot) (slot : Slot) (from new : List FromItem) (members : List SqlCondition) → from ≡ slots_from before → 1 ≤ length from → members
    ≡ or_true slot.members
    → new ≡ from ++ record { table = slot.source.table; alias = slot.source.alias; on = Some members } ∷ [] → new ≡ slots_from (before ++ slot ∷ [])
chain_more before slot from new members is some m e =
    e ∙ ap₂ (λ l x. l ++ record { table = slot.source.table; alias = slot.source.alias; on = Some x } ∷ []) is m ∙ sym (from_more before slot (subst (λ l. 1 ≤ length l) is some))

pub where_stays : (before : List Slot) (slot : Slot) (from : List FromItem) (conjuncts : List Conjunct) → from ≡ slots_from before → 1 ≤ length from → conjuncts
    ≡ slots_where before → conjuncts ≡ slots_where (before ++ slot ∷ [])
where_stays before slot from conjuncts is some e = e ∙ sym (where_more before slot (subst (λ l. 1 ≤ length l) is some))

pub if_both : {A E : Type 0} (r : Result A E) (P Q R : A → Type 0) → ((x : A) → P x → Q x → R x) → IfOk r P → IfOk r Q → IfOk r R
if_both (Ok x) P Q R f h k = f x h k
if_both (Err e) P Q R f h k = h
