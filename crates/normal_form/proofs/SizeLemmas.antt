-- Sizes as far as 64 bits hold them.
use Rattle.std.proofs.Common.{◌≡◌, ℕ, zero, suc, ◌+◌, ◌-◌, ◌*◌, ◌^◌, ◌<◌, ◌≤◌, min, Bool, true, false, nat_lt, List, [], ◌∷◌, ◌++◌, flat_map, replicate, take, length, get_or}
use Rattle.std.proofs.Common.{refl, ap, ap₂, sym, ◌∙◌, arith, append_assoc}
use Rattle.std.proofs.Math.Nat.{min_comm, min-eq_left, min-eq_right, min-le_right, min-zero, zero-min, mul-zero, zero-mul, suc-mul, zero-add, le_trans, le-mul_of_pos_right}
use Rattle.std.proofs.Math.Nat.{le-min, mul_comm}
use Rattle.std.proofs.lemmas.Bool.Decides.{nat_tests}
use Rattle.std.specs.List.{sum_by}
use Rattle.std.proofs.lemmas.List.{take_more}
use Rattle.std.proofs.lemmas.List.Sums.{sum_by-cons, sum_by-append, sum_by_more}
use Rattle.std.proofs.lemmas.List.Folds.{sum_by-replicate}
use Rattle.expr_tree.specs.Nodes.{count_of_nodes}
use Rattle.graph_ast.specs.declared.checked.Piece.{Piece}
use Rattle.graph_ast.specs.declared.checked.Piece.TheVariants.{Vertex, Edge}
use Rattle.graph_meaning.specs.Choices.{Condition, Iteration, PlacedPiece, Scoped, edges_in, scoped_by, iterated, placed}
use Rattle.normal_form.specs.Spending.{counted, greatest_number}
use Rattle.normal_form.specs.Sizes.{nodes_in}

again : (m a : ℕ) → min (min a m) m ≡ min a m
again m a = min-eq_left (min-le_right a m)

sum_at : (m a b : ℕ) → min (min a m + min b m) m ≡ min (a + b) m
sum_at m a b = omega arith

sum_left_at : (m a b : ℕ) → min (min a m + b) m ≡ min (a + b) m
sum_left_at m a b = omega arith

sum_right_at : (m a b : ℕ) → min (a + min b m) m ≡ min (a + b) m
sum_right_at m a b = omega arith

-- products, to be shared with what counts the sizes of patterns
above : (m a : ℕ) → nat_lt m a ≡ true → m ≤ a
above m a e = grind (arith, nat_tests)

below : (m a : ℕ) → nat_lt m a ≡ false → a ≤ m
below m a e = grind (arith, nat_tests)

full : (m a b : ℕ) → m ≤ a → min m (a * b) ≡ min m (m * min m b)
full zero a b le = zero-min (a * b) ∙ sym (zero-min (zero * min zero b))
full (suc m) a zero le = ap (min (suc m)) (mul-zero a) ∙ sym (ap (min (suc m)) (ap (λ x. suc m * x) (min-zero (suc m)) ∙ mul-zero (suc m)))
full (suc m) a (suc b) le =
    min-eq_left (le_trans le (le-mul_of_pos_right a (omega arith)))
    ∙ sym (min-eq_left (le-mul_of_pos_right (suc m) (le-min {k = 1} {a = suc m} {b = suc b} (omega arith) (omega arith))))

capped_product : (m a b : ℕ) → min m (a * b) ≡ min m (min m a * min m b)
capped_product m a b = go (nat_lt m a) refl (nat_lt m b) refl
  where
    go : (x : Bool) → nat_lt m a ≡ x → (y : Bool) → nat_lt m b ≡ y → min m (a * b) ≡ min m (min m a * min m b)
    go true e y f = full m a b (above m a e) ∙ ap (λ z. min m (z * min m b)) (sym (min-eq_left (above m a e)))
    go false e true f =
        ap (min m) (mul_comm a b) ∙ full m b a (above m b f) ∙ ap (λ z. min m (z * min m a)) (sym (min-eq_left (above m b f))) ∙ ap (min m) (mul_comm (min m b) (min m a))
    go false e false f =
        ap (λ z. min m (z * b)) (sym (min-eq_right (below m a e))) ∙ ap (λ z. min m (min m a * z)) (sym (min-eq_right (below m b f)))

product_at : (m a b : ℕ) → min (min a m * min b m) m ≡ min (a * b) m
product_at m a b =
    ap₂ (λ x y. min (x * y) m) (min_comm a m) (min_comm b m) ∙ min_comm (min m a * min m b) m ∙ sym (capped_product m a b) ∙ min_comm m (a * b)

product_right_at : (m a b : ℕ) → min (a * min b m) m ≡ min (a * b) m
product_right_at m a b = sym (product_at m a (min b m)) ∙ ap (λ y. min (min a m * y) m) (again m b) ∙ product_at m a b

-- counting a part only as far as 64 bits go makes no difference to the whole
pub counted_again : (a : ℕ) → counted (counted a) ≡ counted a
counted_again a = again greatest_number a

pub sum_counted : (a b : ℕ) → counted (counted a + counted b) ≡ counted (a + b)
sum_counted a b = sum_at greatest_number a b

pub sum_left : (a b : ℕ) → counted (counted a + b) ≡ counted (a + b)
sum_left a b = sum_left_at greatest_number a b

pub sum_right : (a b : ℕ) → counted (a + counted b) ≡ counted (a + b)
sum_right a b = sum_right_at greatest_number a b

pub product_right : (a b : ℕ) → counted (a * counted b) ≡ counted (a * b)
product_right a b = product_right_at greatest_number a b

-- a number of 64 bits is counted as it is
pub within : (a : ℕ) → a < 2 ^ 64 → counted a ≡ a
unfolding greatest_number
within a h = omega arith

pub one_counted : counted 1 ≡ 1
one_counted = within 1 (omega arith)

pub none_counted : counted 0 ≡ 0
none_counted = within 0 (omega arith)

-- how a loop that sums goes on by one item
pub counted_more : {X : Type 0} (f : X → ℕ) (xs : List X) (i : ℕ) (x : X) (total : ℕ) → i < length xs → x ≡ get_or xs i x → total ≡ counted (sum_by f (take i xs))
    → counted (total + counted (f x)) ≡ counted (sum_by f (take (i + 1) xs))
counted_more f xs i x total inside is so_far =
    ap (λ n. counted (n + counted (f x))) so_far
    ∙ sum_counted (sum_by f (take i xs)) (f x)
    ∙ sym (ap counted (sum_by_more f xs i x inside ∙ ap (λ y. sum_by f (take i xs) + f y) (sym is)))

-- ---- conditions

pub nodes_of_part : (n : ℕ) (part : Iteration) (rest : List Iteration) → nodes_in (replicate n part ++ rest) ≡ n * sum_by count_of_nodes part.conditions + nodes_in rest
nodes_of_part n part rest =
    let own : Iteration → ℕ = λ x. sum_by count_of_nodes x.conditions in
    sum_by-append own (replicate n part) rest ∙ ap (λ x. x + nodes_in rest) (sum_by-replicate own n part)

abbrev pub scoped_nodes : Scoped → ℕ
scoped_nodes scoped = count_of_nodes scoped.condition

pub nodes_of_scoped : (scope : List PlacedPiece) (conditions : List Condition) → sum_by scoped_nodes (scoped_by scope conditions) ≡ sum_by count_of_nodes conditions
nodes_of_scoped scope [] = refl
nodes_of_scoped scope (condition ∷ conditions) =
    sum_by-cons scoped_nodes (record { condition = condition; scope = scope }) (scoped_by scope conditions)
    ∙ ap (λ n. count_of_nodes condition + n) (nodes_of_scoped scope conditions)
    ∙ sym (sum_by-cons count_of_nodes condition conditions)

pub nodes_of_iterated : (j : ℕ) (parts : List Iteration) → sum_by scoped_nodes (iterated j parts) ≡ nodes_in parts
nodes_of_iterated j [] = refl
nodes_of_iterated j (part ∷ more) =
    let own : Iteration → ℕ = λ x. sum_by count_of_nodes x.conditions in
    sum_by-append scoped_nodes (scoped_by (placed j part.pieces) part.conditions) (iterated (j + edges_in part.pieces) more)
    ∙ ap₂ (λ x y. x + y) (nodes_of_scoped (placed j part.pieces) part.conditions) (nodes_of_iterated (j + edges_in part.pieces) more)
    ∙ sym (sum_by-cons own part more)

-- ---- edges

pub edges_append : (xs ys : List Piece) → edges_in (xs ++ ys) ≡ edges_in xs + edges_in ys
edges_append [] ys = sym (zero-add (edges_in ys))
edges_append (Vertex pattern ∷ xs) ys = edges_append xs ys
edges_append (Edge direction pattern ∷ xs) ys = ap suc (edges_append xs ys) ∙ one (edges_in xs) (edges_in ys)
  where
    one : (a b : ℕ) → suc (a + b) ≡ suc a + b
    one a b = omega arith

pub edges_often : (n : ℕ) (pieces rest : List Piece) → edges_in (flat_map (λ x. x) (replicate n pieces) ++ rest) ≡ n * edges_in pieces + edges_in rest
edges_often zero pieces rest = sym (ap (λ n. n + edges_in rest) (zero-mul (edges_in pieces)) ∙ zero-add (edges_in rest))
edges_often (suc n) pieces rest =
    ap edges_in (append_assoc pieces (flat_map (λ x. x) (replicate n pieces)) rest)
    ∙ edges_append pieces (flat_map (λ x. x) (replicate n pieces) ++ rest)
    ∙ ap (λ n. edges_in pieces + n) (edges_often n pieces rest)
    ∙ more (edges_in pieces) (n * edges_in pieces) (edges_in rest)
    ∙ sym (ap (λ m. m + edges_in rest) (suc-mul n (edges_in pieces)))
  where
    more : (a b c : ℕ) → a + (b + c) ≡ b + a + c
    more a b c = omega arith

pub edges_more : (xs : List Piece) (i : ℕ) (x : Piece) (total : ℕ) → i < length xs → x ≡ get_or xs i x → total ≡ counted (edges_in (take i xs))
    → counted (total + edges_in (x ∷ [])) ≡ counted (edges_in (take (i + 1) xs))
edges_more xs i x total inside is so_far =
    ap (λ n. counted (n + edges_in (x ∷ []))) so_far
    ∙ sum_left (edges_in (take i xs)) (edges_in (x ∷ []))
    ∙ sym (ap counted (ap edges_in (take_more xs i x inside ∙ ap (λ y. take i xs ++ y ∷ []) (sym is)) ∙ edges_append (take i xs) (x ∷ [])))

pub one_node : (n : ℕ) → n ≡ 1 → 1 ≡ counted n
one_node n e = sym (ap counted e ∙ one_counted)

pub counted_is : (n : ℕ) → counted n ≡ min n (2 ^ 64 - 1)
unfolding greatest_number
counted_is n = refl

part_at : (m x r : ℕ) → min (min x m + min r m) m ≡ min (x + r) m
part_at m x r = omega arith

-- a part, as often as its count says, before what stands behind it
part_counted : (count whole rest own below : ℕ) → own ≡ counted whole → below ≡ counted rest → counted (counted (count * own) + below) ≡ counted (count * whole + rest)
part_counted count whole rest own below o b =
    ap₂ (λ x y. counted (counted (count * x) + y)) o b
    ∙ ap (λ n. counted (n + counted rest)) (product_right count whole)
    ∙ part_at greatest_number (count * whole) rest

pub part_nodes : (count : ℕ) (pieces : List Piece) (conditions : List Condition) (rest : List Iteration) (own below : ℕ)
    → own ≡ counted (sum_by count_of_nodes conditions) → below ≡ counted (nodes_in rest)
    → counted (counted (count * own) + below) ≡ counted (nodes_in (replicate count (record { pieces = pieces; conditions = conditions }) ++ rest))
part_nodes count pieces conditions rest own below o b =
    part_counted count (sum_by count_of_nodes conditions) (nodes_in rest) own below o b
    ∙ sym (ap counted (nodes_of_part count (record { pieces = pieces; conditions = conditions }) rest))

pub part_edges : (count : ℕ) (pieces rest : List Piece) (own below : ℕ) → own ≡ counted (edges_in pieces) → below ≡ counted (edges_in rest)
    → counted (counted (count * own) + below) ≡ counted (edges_in (flat_map (λ x. x) (replicate count pieces) ++ rest))
part_edges count pieces rest own below o b =
    part_counted count (edges_in pieces) (edges_in rest) own below o b ∙ sym (ap counted (edges_often count pieces rest))
