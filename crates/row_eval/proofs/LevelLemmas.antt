-- What decides an expression: rows behind those of its columns change nothing.
use Rattle.std.proofs.Common.{◌≡◌, ℕ, ◌-◌, ◌<◌, ◌≤◌, ◌^◌, List, [], ◌∷◌, ◌++◌, map, length, sym, ap, subst, arith}
use Rattle.std.specs.List.{AllByRecursion}
use Rattle.std.proofs.Math.ListN.{get_or-append}
use Rattle.pgq_base.specs.Instances.{value_at}
use Rattle.expr_tree.specs.declared.tree.Expr.{Expr, Expr-F, map-Expr, fold-roll-Expr, ind-Expr}
use Rattle.expr_tree.specs.Leaves.{joined, leaves_step, leaves_in, EachLeaf}
use Rattle.expr_tree.specs.Meaning.{truth_of_value}
use Rattle.expr_tree.proofs.LawLemmas.{same_values}
use Rattle.sql_algebra.specs.Tuples.{is_true}
use Rattle.row_eval.specs.declared.frame.Slot.{Slot}
use Rattle.row_eval.specs.Slots.{Stack, fitted, slot_value, is_kept}
use Rattle.row_eval.specs.Levels.{highest, level_step, level_in}

module _ (d : ℕ) where
  abbrev Below : Slot → Type 0
  Below slot = slot.item < d

  together : (xs ys : List Slot) → AllByRecursion Below xs → AllByRecursion Below ys → AllByRecursion Below (xs ++ ys)
  together [] ys h k = k
  together (x ∷ xs) ys h k = (h.0, together xs ys h.1 k)

  abbrev Decides : Expr Slot → Type 0
  Decides e = level_in e ≤ d → EachLeaf Below e

  abbrev bare : ((e : Expr Slot) × Decides e) → Expr Slot
  bare e = e.0

  each : (es : List ((e : Expr Slot) × Decides e)) → highest (map level_in (map bare es)) ≤ d → AllByRecursion Below (joined (map leaves_in (map bare es)))
  each [] h = tt
  each (e ∷ es) h = together (leaves_in e.0) (joined (map leaves_in (map bare es))) (e.1 (omega (arith, h))) (each es (omega (arith, h)))

  module _ (small : d < 2 ^ 64 - 1) where
    layer : (y : Expr-F Slot ((e : Expr Slot) × Decides e)) → level_step (map-Expr Slot (Expr Slot) ℕ level_in (map-Expr Slot ((e : Expr Slot) × Decides e) (Expr Slot) bare y)) ≤ d
        → AllByRecursion Below (leaves_step (map-Expr Slot (Expr Slot) (List Slot) leaves_in (map-Expr Slot ((e : Expr Slot) × Decides e) (Expr Slot) bare y)))
    layer (Expr-F.Lit v) h = tt
    layer (Expr-F.Null c) h = tt
    layer (Expr-F.Leaf slot) h = (omega (arith, h, small), tt)
    layer (Expr-F.Compare op a b) h = together (leaves_in a.0) (leaves_in b.0) (a.1 (omega (arith, h))) (b.1 (omega (arith, h)))
    layer (Expr-F.All es) h = each es h
    layer (Expr-F.Any es) h = each es h
    layer (Expr-F.Not a) h = a.1 h
    layer (Expr-F.Is a t n) h = a.1 h
    layer (Expr-F.InList a es n) h = together (leaves_in a.0) (joined (map leaves_in (map bare es))) (a.1 (omega (arith, h))) (each es (omega (arith, h)))
    layer (Expr-F.Between a b c n) h =
        together (leaves_in a.0) (leaves_in b.0 ++ leaves_in c.0) (a.1 (omega (arith, h)))
        (together (leaves_in b.0) (leaves_in c.0) (b.1 (omega (arith, h))) (c.1 (omega (arith, h))))
    layer (Expr-F.Coalesce es) h = each es h

    pub all_below : (e : Expr Slot) → Decides e
    all_below = ind-Expr Slot Decides (λ x y is h.
        let here : level_step (map-Expr Slot (Expr Slot) ℕ level_in x) ≤ d = subst (λ n. n ≤ d) (fold-roll-Expr Slot ℕ level_step x) h in
        subst (AllByRecursion Below) (sym (fold-roll-Expr Slot (List Slot) leaves_step x))
        (subst (λ z. level_step (map-Expr Slot (Expr Slot) ℕ level_in z) ≤ d → AllByRecursion Below (leaves_step (map-Expr Slot (Expr Slot) (List Slot) leaves_in z))) is
        (layer y) here))

same_slots : (s more : Stack) (slots : List Slot) → AllByRecursion (Below (length s)) slots → AllByRecursion (λ slot. slot_value (s ++ more) slot ≡ slot_value s slot) slots
same_slots s more [] h = tt
same_slots s more (slot ∷ slots) h = (ap (λ r. fitted slot.class (value_at r slot.column)) (get_or-append s more [] slot.item h.0), same_slots s more slots h.1)

-- a condition that the stack decides is kept under each longer stack or under none
pub decided : (s more : Stack) (e : Expr Slot) → length s < 2 ^ 64 - 1 → level_in e ≤ length s → is_kept (s ++ more) e ≡ is_kept s e
decided s more e small h =
    ap (λ v. is_true (truth_of_value v)) (same_values (slot_value (s ++ more)) (slot_value s) e (same_slots s more (leaves_in e) (all_below (length s) small e h)))
