-- Steps whose parts are repeated.
use Rattle.std.proofs.Common.{◌≡◌, ℕ, zero, suc, ◌+◌, ◌-◌, ◌*◌, ◌<◌, ◌≤◌, List, [], ◌∷◌, ◌++◌, map, flat_map, replicate, refl, sym, ap, ◌∙◌, arith, append_assoc}
use Rattle.std.proofs.Math.Nat.{suc-mul, mul-le-mul_right}
use Rattle.graph_ast.specs.declared.checked.Piece.{Piece}
use Rattle.graph_ast.specs.declared.checked.Piece.TheVariants as form
use Rattle.graph_ast.specs.declared.checked.Step.{Step}
use Rattle.graph_ast.specs.declared.checked.Step.TheVariants.{One, Part}
use Rattle.graph_meaning.specs.Choices.{Condition, Iteration, iterations, edges_in, placed, Scoped, scoped_by, iterated}
use Rattle.path_lowering.specs.Unrolled.{repeated, edges_of, scoped_in}
use Rattle.path_lowering.proofs.Lists.{map-append}

pub replicate_step : {X : Type 0} (x : X) (n i : ℕ) → i < n → replicate (n - i) x ≡ x ∷ replicate (n - (i + 1)) x
replicate_step x n i h = let e : n - i ≡ suc (n - (i + 1)) = omega arith in ap (λ k. replicate k x) e

pub often_on : {A : Type 0} (piece done whole : List A) (n i : ℕ) → i < n → done ++ flat_map (λ x. x) (replicate (n - i) piece) ≡ whole
    → (done ++ piece) ++ flat_map (λ x. x) (replicate (n - (i + 1)) piece) ≡ whole
often_on piece done whole n i h is =
    append_assoc done piece (flat_map (λ x. x) (replicate (n - (i + 1)) piece))
    ∙ ap (λ l. done ++ l) (sym (ap (flat_map (λ x. x)) (replicate_step piece n i h)))
    ∙ is

part_step : (n : ℕ) (pieces : List Piece) (conditions : List Condition) (rest : List Iteration)
    → flat_map (λ part. part.pieces) (replicate n (record { pieces = pieces; conditions = conditions }) ++ rest)
    ≡ flat_map (λ x. x) (replicate n pieces) ++ flat_map (λ part. part.pieces) rest
part_step zero pieces conditions rest = refl
part_step (suc n) pieces conditions rest = ap (λ l. pieces ++ l) (part_step n pieces conditions rest) ∙ sym
    (append_assoc pieces (flat_map (λ x. x) (replicate n pieces)) (flat_map (λ part. part.pieces) rest))

pub repeated_is : (steps : List Step) (counts : List ℕ) → repeated steps counts ≡ flat_map (λ part. part.pieces) (iterations steps counts)
repeated_is [] counts = refl
repeated_is (One piece ∷ steps) counts = ap (λ l. piece ∷ l) (repeated_is steps counts)
repeated_is (Part lower upper pieces conditions ∷ steps) [] = refl
repeated_is (Part lower upper pieces conditions ∷ steps) (count ∷ counts) =
    ap (λ l. flat_map (λ x. x) (replicate count pieces) ++ l) (repeated_is steps counts) ∙ sym (part_step count pieces conditions (iterations steps counts))

edges-append : (xs ys : List Piece) → edges_in (xs ++ ys) ≡ edges_in xs + edges_in ys
edges-append [] ys = omega arith
edges-append (form.Vertex pattern ∷ xs) ys = edges-append xs ys
edges-append (form.Edge direction pattern ∷ xs) ys = let a = edges-append xs ys in omega (arith, a)

-- the edge patterns of a repeated part and of what follows
pub edges_often : (n : ℕ) (part : Iteration) (rest : List Iteration)
    → edges_in (flat_map (λ part. part.pieces) (replicate n part ++ rest)) ≡ n * edges_in part.pieces + edges_in (flat_map (λ part. part.pieces) rest)
edges_often zero part rest = omega arith
edges_often (suc n) part rest =
    let a = edges-append part.pieces (flat_map (λ part. part.pieces) (replicate n part ++ rest)) in
    let b = edges_often n part rest in
    let c = suc-mul n (edges_in part.pieces) in
    omega (arith, a, b, c)

pub product_step : (n i e : ℕ) → i < n → i * e + e ≤ n * e
product_step n i e h = let a = suc-mul i e in let b = mul-le-mul_right {m = suc i} {n = n} e (omega arith) in omega (arith, a, b)

pub product_next : (i e : ℕ) → (i + 1) * e ≡ i * e + e
product_next i e = let h : i + 1 ≡ suc i = omega arith in ap (λ n. n * e) h ∙ suc-mul i e

-- the conditions of a repeated part and of what follows
pub iterated_often : (n j : ℕ) (part : Iteration) (rest : List Iteration)
    → iterated j (replicate n part ++ rest) ≡ iterated j (replicate n part) ++ iterated (j + n * edges_in part.pieces) rest
iterated_often zero j part rest = let h : j ≡ j + 0 * edges_in part.pieces = omega arith in ap (λ k. iterated k rest) h
iterated_often (suc n) j part rest =
    let h : j + edges_in part.pieces + n * edges_in part.pieces ≡ j + suc n * edges_in part.pieces = omega (arith, suc-mul n (edges_in part.pieces)) in
    ap (λ l. scoped_by (placed j part.pieces) part.conditions ++ l) (iterated_often n (j + edges_in part.pieces) part rest
    ∙ ap (λ k. iterated (j + edges_in part.pieces) (replicate n part) ++ iterated k rest) h)
    ∙ sym (append_assoc (scoped_by (placed j part.pieces) part.conditions) (iterated (j + edges_in part.pieces) (replicate n part))
    (iterated (j + suc n * edges_in part.pieces) rest))

module _ {B : Type 0} (f : Scoped → B) where
  -- one iteration more
  pub iterated_on : (made whole : List B) (n i j : ℕ) (part : Iteration) → i < n → made ++ map f (iterated j (replicate (n - i) part)) ≡ whole
      → (made ++ map f (scoped_by (placed j part.pieces) part.conditions)) ++ map f (iterated (j + edges_in part.pieces) (replicate (n - (i + 1)) part)) ≡ whole
  iterated_on made whole n i j part h is =
      append_assoc made (map f (scoped_by (placed j part.pieces) part.conditions)) (map f (iterated (j + edges_in part.pieces) (replicate (n - (i + 1)) part)))
      ∙ ap (λ l. made ++ l) (sym (map-append f (scoped_by (placed j part.pieces) part.conditions) (iterated (j + edges_in part.pieces) (replicate (n - (i + 1)) part))))
      ∙ ap (λ l. made ++ map f (iterated j l)) (sym (replicate_step part n i h))
      ∙ is

  -- the same, in the words of a loop
  pub part_on : (made all whole own : List B) (n i j e : ℕ) (pieces : List Piece) (conditions : List Condition) → i < n → e ≡ edges_in pieces
      → own ≡ map f (scoped_by (placed j pieces) conditions) → all ≡ made ++ own
      → made ++ map f (iterated j (replicate (n - i) (record { pieces = pieces; conditions = conditions }))) ≡ whole
      → all ++ map f (iterated (j + e) (replicate (n - (i + 1)) (record { pieces = pieces; conditions = conditions }))) ≡ whole
  part_on made all whole own n i j e pieces conditions h many is joined due =
      ap (λ k. all ++ map f (iterated (j + k) (replicate (n - (i + 1)) (record { pieces = pieces; conditions = conditions })))) many
      ∙ ap (λ l. l ++ map f (iterated (j + edges_in pieces) (replicate (n - (i + 1)) (record { pieces = pieces; conditions = conditions })))) (joined ∙ ap (λ l. made ++ l) is)
      ∙ iterated_on made whole n i j (record { pieces = pieces; conditions = conditions }) h due

pub edges_are : (steps : List Step) (counts : List ℕ) → edges_of steps counts ≡ edges_in (flat_map (λ part. part.pieces) (iterations steps counts))
edges_are [] counts = refl
edges_are (One (form.Vertex pattern) ∷ steps) counts = edges_are steps counts
edges_are (One (form.Edge direction pattern) ∷ steps) counts = let a = edges_are steps counts in omega (arith, a)
edges_are (Part lower upper pieces conditions ∷ steps) [] = refl
edges_are (Part lower upper pieces conditions ∷ steps) (count ∷ counts) =
    let a = edges_are steps counts in
    let b = edges_often count (record { pieces = pieces; conditions = conditions }) (iterations steps counts) in
    omega (arith, a, b)

pub scoped_are : (j : ℕ) (steps : List Step) (counts : List ℕ) → scoped_in j steps counts ≡ iterated j (iterations steps counts)
scoped_are j [] counts = refl
scoped_are j (One (form.Vertex pattern) ∷ steps) counts = scoped_are j steps counts ∙ (let h : j ≡ j + 0 = omega arith in ap (λ k. iterated k (iterations steps counts)) h)
scoped_are j (One (form.Edge direction pattern) ∷ steps) counts = scoped_are (j + 1) steps counts
scoped_are j (Part lower upper pieces conditions ∷ steps) [] = refl
scoped_are j (Part lower upper pieces conditions ∷ steps) (count ∷ counts) =
    ap (λ l. iterated j (replicate count (record { pieces = pieces; conditions = conditions })) ++ l) (scoped_are (j + count * edges_in pieces) steps counts)
    ∙ sym (iterated_often count j (record { pieces = pieces; conditions = conditions }) (iterations steps counts))
