-- The pairs that a mode compares, as far as 64 bits hold them.
use Rattle.std.proofs.Common.{◌≡◌, ℕ, zero, suc, ◌+◌, ◌-◌, ◌*◌, ◌/◌, ◌^◌, ◌<◌, ◌≤◌, min, Bool, true, false, nat_lt, List, [], ◌∷◌, flat_map, length, slice_index_or, refl, ap}
use Rattle.std.proofs.Common.{ap₂, sym, ◌∙◌, arith}
use Rattle.std.proofs.Math.Nat.{mul-le-mul_right, mul_comm}
use Rattle.std.proofs.lemmas.Bool.Decides.{nat_tests}
use Rattle.std.specs.List.{sum_by}
use Rattle.std.proofs.lemmas.List.Sums.{sum_by-append}
use Rattle.expr_tree.specs.Nodes.{count_of_nodes}
use Rattle.graph_ast.specs.declared.checked.Operand.{Operand}
use Rattle.graph_ast.specs.declared.query.Mode.{Mode}
use Rattle.graph_ast.specs.declared.query.Mode.TheVariants as mode
use Rattle.graph_ast.specs.declared.checked.CheckedPath.{CheckedPath}
use Rattle.graph_ast.specs.declared.blocks.Alternative.{Alternative}
use Rattle.graph_meaning.specs.Choices.{Iteration, edges_in, iterations, iterated, placed, scoped_by, expanded, operand_at}
use Rattle.graph_meaning.specs.Weights.{compared_pairs, choice_size}
use Rattle.normal_form.specs.Search.{repeated}
use Rattle.normal_form.specs.Spending.{counted, greatest_number}
use Rattle.normal_form.specs.Sizes.{nodes_in, expansion_size}
use Rattle.normal_form.proofs.Steps.{repeated_is}
use Rattle.normal_form.proofs.SizeLemmas.{one_counted, sum_counted, scoped_nodes, nodes_of_iterated, nodes_of_scoped}

half : (x k : ℕ) → k * 2 ≤ x → k ≤ x / 2
half x k h = omega arith

-- from three edges on there are at least as many pairs as edges
trail_many : (k : ℕ) → 3 ≤ k → k ≤ k * (k - 1) / 2
trail_many k h =
    let le : 2 * k ≤ (k - 1) * k = mul-le-mul_right k (omega arith) in
    let same = mul_comm k (k - 1) in
    let more : k * 2 ≤ k * (k - 1) = omega (arith, le, same) in
    half (k * (k - 1)) k more

acyclic_many : (k : ℕ) → 3 ≤ k → k ≤ (k + 1) * k / 2
acyclic_many k h =
    let le : 2 * k ≤ (k + 1) * k = mul-le-mul_right k (omega arith) in
    let more : k * 2 ≤ (k + 1) * k = omega (arith, le) in
    half ((k + 1) * k) k more

simple_many : (k : ℕ) → 3 ≤ k → k ≤ (k + 1) * k / 2 - 1
simple_many k h =
    let le : 4 * k ≤ (k + 1) * k = mul-le-mul_right k (omega arith) in
    let more : 2 * k * 2 ≤ (k + 1) * k = omega (arith, le) in
    let halved = half ((k + 1) * k) (2 * k) more in omega (arith, halved)

stopped : (m a b : ℕ) → m ≤ a → m ≤ b → min a m ≡ min b m
stopped m a b h k = omega arith

pairs_at : (m : ℕ) → 3 ≤ m → (kind : Mode) (k : ℕ) → min (compared_pairs kind (min k m)) m ≡ min (compared_pairs kind k) m
pairs_at m three kind k = go (nat_lt m k) refl
  where
    many : (kind : Mode) → m < k → min (compared_pairs kind m) m ≡ min (compared_pairs kind k) m
    many mode.Walk over = refl
    many mode.Trail over = stopped m (m * (m - 1) / 2) (k * (k - 1) / 2) (trail_many m three) (let le = trail_many k (omega arith) in omega (arith, le, over))
    many mode.Acyclic over = stopped m ((m + 1) * m / 2) ((k + 1) * k / 2) (acyclic_many m three) (let le = acyclic_many k (omega arith) in omega (arith, le, over))
    many mode.Simple over = stopped m ((m + 1) * m / 2 - 1) ((k + 1) * k / 2 - 1) (simple_many m three) (let le = simple_many k (omega arith) in omega (arith, le, over))

    go : (b : Bool) → nat_lt m k ≡ b → min (compared_pairs kind (min k m)) m ≡ min (compared_pairs kind k) m
    go true e =
        let over : m < k = grind (arith, nat_tests) in
        let is : min k m ≡ m = omega arith in ap (λ n. min (compared_pairs kind n) m) is ∙ many kind over
    go false e = let is : min k m ≡ k = grind (arith, nat_tests) in ap (λ n. min (compared_pairs kind n) m) is

pub pairs_counted : (kind : Mode) (k : ℕ) → counted (compared_pairs kind (counted k)) ≡ counted (compared_pairs kind k)
unfolding greatest_number
pairs_counted kind k = pairs_at (2 ^ 64 - 1) (omega arith) kind k

-- ---- the size of a choice

three_parts : (m p n r : ℕ) → min (min (min p m + min n m) m + min r m) m ≡ min (p + n + r) m
three_parts m p n r = omega arith

places_at : (m k : ℕ) → min (min (2 * min k m) m + 1) m ≡ min (2 * k + 1) m
places_at m k = omega arith

nodes_of_expansion : (operand : Operand) (counts : List ℕ) → sum_by scoped_nodes (expanded operand counts).conditions
    ≡ nodes_in (iterations operand.steps counts) + sum_by count_of_nodes operand.conditions
nodes_of_expansion operand counts =
    let parts = iterations operand.steps counts in
    let at = placed 0 (flat_map (λ (part : Iteration). part.pieces) parts) in
    sum_by-append scoped_nodes (iterated 0 parts) (scoped_by at operand.conditions)
    ∙ ap₂ (λ a b. a + b) (nodes_of_iterated 0 parts) (nodes_of_scoped at operand.conditions)

-- the size of what a choice expands to, of parts that are counted as far as 64 bits go
pub size_is : (kind : Mode) (operand : Operand) (counts : List ℕ) (edges inside outside : ℕ)
    → edges ≡ counted (edges_in (repeated operand.steps counts)) → inside ≡ counted (nodes_in (iterations operand.steps counts))
    → outside ≡ counted (sum_by count_of_nodes operand.conditions)
    → counted (counted (counted (counted (2 * edges) + 1) + counted (inside + outside)) + counted (compared_pairs kind edges))
    ≡ counted (expansion_size kind (expanded operand counts))
size_is kind operand counts edges inside outside e i o =
    let whole = (expanded operand counts).edges in
    let own = nodes_in (iterations operand.steps counts) + sum_by count_of_nodes operand.conditions in
    let k : edges ≡ counted whole = e ∙ ap (λ l. counted (edges_in l)) (repeated_is operand.steps counts) in
    let places : counted (counted (2 * edges) + 1) ≡ counted (2 * whole + 1) = ap (λ n. counted (counted (2 * n) + 1)) k ∙ places_at greatest_number whole in
    let nodes : counted (inside + outside) ≡ counted own =
    ap₂ (λ a b. counted (a + b)) i o ∙ sum_counted (nodes_in (iterations operand.steps counts)) (sum_by count_of_nodes operand.conditions) in
    let compared : counted (compared_pairs kind edges) ≡ counted (compared_pairs kind whole) = ap (λ n. counted (compared_pairs kind n)) k ∙ pairs_counted kind whole in
    ap₂ (λ a b. counted (counted (a + b) + counted (compared_pairs kind edges))) places nodes
    ∙ ap (λ r. counted (counted (counted (2 * whole + 1) + counted own) + r)) compared
    ∙ three_parts greatest_number (2 * whole + 1) own (compared_pairs kind whole)
    ∙ sym (ap (λ n. counted (2 * whole + 1 + n + compared_pairs kind whole)) (nodes_of_expansion operand counts))

no_pairs : (kind : Mode) → compared_pairs kind 0 ≡ 0
no_pairs mode.Walk = refl
no_pairs mode.Trail = refl
no_pairs mode.Acyclic = refl
no_pairs mode.Simple = refl

-- an operand that is not there has one place
pub no_operand : (path : CheckedPath) (choice : Alternative) → false ≡ nat_lt choice.operand (length path.operands) → 1 ≡ counted (choice_size path choice)
no_operand path choice e =
    let none : operand_at path choice.operand ≡ record { steps = []; conditions = [] } =
    missing path.operands choice.operand (record { steps = []; conditions = [] }) (grind (arith, nat_tests)) in
    sym (ap (λ operand. counted (expansion_size path.mode (expanded operand choice.counts))) none ∙ ap (λ n. counted (1 + 0 + n)) (no_pairs path.mode) ∙ one_counted)
  where
    missing : {X : Type 0} (xs : List X) (i : ℕ) (d : X) → length xs ≤ i → slice_index_or xs i d ≡ d
    missing [] i d h = refl
    missing (x ∷ xs) zero d h = absurd (omega arith)
    missing (x ∷ xs) (suc i) d h = missing xs i d (omega arith)
