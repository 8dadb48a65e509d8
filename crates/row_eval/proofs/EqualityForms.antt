-- Conditions that compare two columns by `=`.
use Rattle.std.proofs.Common.{◌≡◌, Bool, true, false, refl, sym, ap, ◌∙◌, Option, Some, None}
use Rattle.expr_tree.specs.declared.tree.Comparison.{Comparison}
use Rattle.expr_tree.specs.declared.tree.Comparison.TheVariants as op
use Rattle.expr_tree.specs.declared.tree.Expr.{Expr, Expr-F, out-Expr, roll-Expr, roll-out-Expr, out-roll-Expr}
use Rattle.expr_tree.specs.declared.tree.Expr.TheVariants as v
use Rattle.sql_algebra.specs.declared.tree.ColumnLeaf.{ColumnLeaf}
use Rattle.sql_algebra.specs.RowReads.{leaf_at, is_equal, LeafPair, pair_of, pair_at, equality_of}
use Rattle.row_eval.specs.declared.frame.Slot.{Slot}
use Rattle.row_eval.specs.Ties.{slot_at, both_slots, slots_at, slots_of}

equal_alone : (o : Comparison) → is_equal o ≡ true → o ≡ op.Equal
equal_alone op.Equal h = refl
equal_alone op.NotEqual h = absurd cc
equal_alone op.Less h = absurd cc
equal_alone op.LessOrEqual h = absurd cc
equal_alone op.Greater h = absurd cc
equal_alone op.GreaterOrEqual h = absurd cc

leaf_form : (x : Expr-F ColumnLeaf (Expr ColumnLeaf)) (l : ColumnLeaf) → leaf_at x ≡ Some l → roll-Expr ColumnLeaf x ≡ v.Leaf l
leaf_form (Expr-F.Leaf k) l h = v.rolls-Leaf k ∙ ap v.Leaf (let same : k ≡ l = cc in same)
leaf_form (Expr-F.Lit v) l h = absurd cc
leaf_form (Expr-F.Null c) l h = absurd cc
leaf_form (Expr-F.Compare op a b) l h = absurd cc
leaf_form (Expr-F.All es) l h = absurd cc
leaf_form (Expr-F.Any es) l h = absurd cc
leaf_form (Expr-F.Not a) l h = absurd cc
leaf_form (Expr-F.Is a t n) l h = absurd cc
leaf_form (Expr-F.InList a es n) l h = absurd cc
leaf_form (Expr-F.Between a b c n) l h = absurd cc
leaf_form (Expr-F.Coalesce es) l h = absurd cc

leaf_alone : (e : Expr ColumnLeaf) (l : ColumnLeaf) → leaf_at (out-Expr ColumnLeaf e) ≡ Some l → e ≡ v.Leaf l
leaf_alone e l h = sym (roll-out-Expr ColumnLeaf e) ∙ leaf_form (out-Expr ColumnLeaf e) l h

slot_form : (x : Expr-F Slot (Expr Slot)) (l : Slot) → slot_at x ≡ Some l → roll-Expr Slot x ≡ v.Leaf l
slot_form (Expr-F.Leaf k) l h = v.rolls-Leaf k ∙ ap v.Leaf (let same : k ≡ l = cc in same)
slot_form (Expr-F.Lit v) l h = absurd cc
slot_form (Expr-F.Null c) l h = absurd cc
slot_form (Expr-F.Compare op a b) l h = absurd cc
slot_form (Expr-F.All es) l h = absurd cc
slot_form (Expr-F.Any es) l h = absurd cc
slot_form (Expr-F.Not a) l h = absurd cc
slot_form (Expr-F.Is a t n) l h = absurd cc
slot_form (Expr-F.InList a es n) l h = absurd cc
slot_form (Expr-F.Between a b c n) l h = absurd cc
slot_form (Expr-F.Coalesce es) l h = absurd cc

slot_alone : (e : Expr Slot) (l : Slot) → slot_at (out-Expr Slot e) ≡ Some l → e ≡ v.Leaf l
slot_alone e l h = sym (roll-out-Expr Slot e) ∙ slot_form (out-Expr Slot e) l h

pair_parts : (b : Bool) (x y : Option ColumnLeaf) (pair : LeafPair) → pair_of b x y ≡ Some pair → (b ≡ true) × (x ≡ Some pair.left) × (y ≡ Some pair.right)
pair_parts true (Some l) (Some r) pair h =
    let same : record { left = l; right = r } ≡ pair = cc in
    (refl, ap (λ (p : LeafPair). Some p.left) same, ap (λ (p : LeafPair). Some p.right) same)
pair_parts true None y pair h = absurd cc
pair_parts true (Some l) None pair h = absurd cc
pair_parts false x y pair h = absurd cc

slot_parts : (b : Bool) (x y : Option Slot) (pair : Slot × Slot) → both_slots b x y ≡ Some pair → (b ≡ true) × (x ≡ Some pair.0) × (y ≡ Some pair.1)
slot_parts true (Some l) (Some r) pair h =
    let same : (l, r) ≡ pair = cc in
    (refl, ap (λ (p : Slot × Slot). Some p.0) same, ap (λ (p : Slot × Slot). Some p.1) same)
slot_parts true None y pair h = absurd cc
slot_parts true (Some l) None pair h = absurd cc
slot_parts false x y pair h = absurd cc

equal_form : (x : Expr-F ColumnLeaf (Expr ColumnLeaf)) (pair : LeafPair) → pair_at x ≡ Some pair → roll-Expr ColumnLeaf x
    ≡ v.Compare op.Equal (v.Leaf pair.left) (v.Leaf pair.right)
equal_form (Expr-F.Compare o a b) pair h =
    let three = pair_parts (is_equal o) (leaf_at (out-Expr ColumnLeaf a)) (leaf_at (out-Expr ColumnLeaf b)) pair h in
    v.rolls-Compare o a b ∙ ap (λ c. v.Compare c a b) (equal_alone o three.0) ∙ ap (λ x. v.Compare op.Equal x b) (leaf_alone a pair.left three.1)
    ∙ ap (λ x. v.Compare op.Equal (v.Leaf pair.left) x) (leaf_alone b pair.right three.2)
equal_form (Expr-F.Lit v) pair h = absurd cc
equal_form (Expr-F.Null c) pair h = absurd cc
equal_form (Expr-F.Leaf l) pair h = absurd cc
equal_form (Expr-F.All es) pair h = absurd cc
equal_form (Expr-F.Any es) pair h = absurd cc
equal_form (Expr-F.Not a) pair h = absurd cc
equal_form (Expr-F.Is a t n) pair h = absurd cc
equal_form (Expr-F.InList a es n) pair h = absurd cc
equal_form (Expr-F.Between a b c n) pair h = absurd cc
equal_form (Expr-F.Coalesce es) pair h = absurd cc

-- an equality is the comparison of its two leaves
pub equality_form : (e : Expr ColumnLeaf) (pair : LeafPair) → equality_of e ≡ Some pair → e ≡ v.Compare op.Equal (v.Leaf pair.left) (v.Leaf pair.right)
equality_form e pair h = sym (roll-out-Expr ColumnLeaf e) ∙ equal_form (out-Expr ColumnLeaf e) pair h

slots_form : (x : Expr-F Slot (Expr Slot)) (pair : Slot × Slot) → slots_at x ≡ Some pair → roll-Expr Slot x ≡ v.Compare op.Equal (v.Leaf pair.0) (v.Leaf pair.1)
slots_form (Expr-F.Compare o a b) pair h =
    let three = slot_parts (is_equal o) (slot_at (out-Expr Slot a)) (slot_at (out-Expr Slot b)) pair h in
    v.rolls-Compare o a b ∙ ap (λ c. v.Compare c a b) (equal_alone o three.0) ∙ ap (λ x. v.Compare op.Equal x b) (slot_alone a pair.0 three.1)
    ∙ ap (λ x. v.Compare op.Equal (v.Leaf pair.0) x) (slot_alone b pair.1 three.2)
slots_form (Expr-F.Lit v) pair h = absurd cc
slots_form (Expr-F.Null c) pair h = absurd cc
slots_form (Expr-F.Leaf l) pair h = absurd cc
slots_form (Expr-F.All es) pair h = absurd cc
slots_form (Expr-F.Any es) pair h = absurd cc
slots_form (Expr-F.Not a) pair h = absurd cc
slots_form (Expr-F.Is a t n) pair h = absurd cc
slots_form (Expr-F.InList a es n) pair h = absurd cc
slots_form (Expr-F.Between a b c n) pair h = absurd cc
slots_form (Expr-F.Coalesce es) pair h = absurd cc

pub slots_alone : (e : Expr Slot) (pair : Slot × Slot) → slots_of e ≡ Some pair → e ≡ v.Compare op.Equal (v.Leaf pair.0) (v.Leaf pair.1)
slots_alone e pair h = sym (roll-out-Expr Slot e) ∙ slots_form (out-Expr Slot e) pair h

out_leaf : (s : Slot) → slot_at (out-Expr Slot (v.Leaf s)) ≡ Some s
out_leaf s = ap (λ x. slot_at (out-Expr Slot x)) (sym (v.rolls-Leaf s)) ∙ ap slot_at (out-roll-Expr Slot (Expr-F.Leaf s))

-- the columns of a comparison by `=`
pub slots_compared : (a b : Slot) → slots_of (v.Compare op.Equal (v.Leaf a) (v.Leaf b)) ≡ Some (a, b)
slots_compared a b =
    ap (λ x. slots_at (out-Expr Slot x)) (sym (v.rolls-Compare op.Equal (v.Leaf a) (v.Leaf b))) ∙ ap slots_at (out-roll-Expr Slot (Expr-F.Compare op.Equal (v.Leaf a) (v.Leaf b)))
    ∙ ap (λ x. both_slots true x (slot_at (out-Expr Slot (v.Leaf b)))) (out_leaf a) ∙ ap (λ x. both_slots true (Some a) x) (out_leaf b)
