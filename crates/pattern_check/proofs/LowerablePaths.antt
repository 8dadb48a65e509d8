-- The path patterns of a query without faults of forms and limits have bounds in order, few choices and short ones.
use Rattle.std.proofs.Common.{◌≡◌, ℕ, zero, suc, ◌+◌, ◌-◌, ◌*◌, ◌<◌, ◌≤◌, max, Bool, true, false, not, ◌&&◌, ◌||◌, List, [], ◌∷◌, ◌++◌, length, map, replicate, get_or, refl, sym}
use Rattle.std.proofs.Common.{ap, ap₂, subst, ◌∙◌, Option, None, Some, arith, inl, inr, nat_lt, nat_eq}
use Rattle.std.specs.List.{AllByRecursion, flat_map, list_all, range_with_len, sum_by}
use Rattle.std.proofs.lemmas.Bool.Decides.{nat_tests}
use Rattle.std.proofs.lemmas.List.{append-nil, length-append, length-map}
use Rattle.std.proofs.lemmas.List.Sums.{sum_by-cons}
use Rattle.std.proofs.lemmas.List.FromFn.{length-range_with_len}
use Rattle.std.proofs.lemmas.Grind.{flat_map-append}
use Rattle.multisets.specs.Bags.{IsIn}
use Rattle.graph_ast.specs.declared.query.PathTree.{PathTree}
use Rattle.graph_ast.specs.declared.query.PartTree.{PartTree, out-PartTree}
use Rattle.graph_ast.specs.declared.query.Filler.{Filler}
use Rattle.graph_ast.specs.declared.query.Joint.{Joint}
use Rattle.graph_ast.specs.declared.query.Direction.{Direction}
use Rattle.graph_ast.specs.declared.query.Quantifier.{Quantifier}
use Rattle.graph_ast.specs.declared.query.QuantifierKind.{QuantifierKind}
use Rattle.graph_ast.specs.declared.query.QuantifierKind.TheVariants.{Between, AtLeast, Optional}
use Rattle.graph_ast.specs.declared.query.Factor.{Factor}
use Rattle.graph_ast.specs.declared.query.Factor.TheVariants as v
use Rattle.graph_ast.specs.declared.catalog.Catalog.{Catalog}
use Rattle.graph_ast.specs.declared.catalog.Graph.{Graph}
use Rattle.graph_ast.specs.declared.checked.CheckedPath.{CheckedPath}
use Rattle.graph_ast.specs.declared.checked.Operand.{Operand}
use Rattle.graph_ast.specs.declared.checked.Step.{Step}
use Rattle.graph_ast.specs.declared.checked.Step.TheVariants as step
use Rattle.graph_ast.specs.declared.checked.Piece.{Piece}
use Rattle.graph_ast.specs.declared.checked.Piece.TheVariants as piece
use Rattle.graph_ast.specs.declared.blocks.Alternative.{Alternative}
use Rattle.graph_meaning.specs.Lists.{numbers_below, numbers_between}
use Rattle.graph_meaning.specs.Choices.{Condition, Iteration, operand_at, counts_of, choices, iterations, edges_in, expansion_of, greatest, longest}
use Rattle.graph_meaning.proofs.Members.{from_range, from_below, from_map, from_flat, in_at, both_parts}
use Rattle.first_faults.specs.declared.faults.Fault.{Fault}
use Rattle.pattern_check.specs.declared.measures.Measure.{Measure}
use Rattle.graph_ast.specs.Patterns.{Body, Part, given_by, body_given, part_given, is_optional, is_repeated, is_joined, joining}
use Rattle.pattern_check.specs.FormRules as rules
use Rattle.pattern_check.specs.SizeRules as limits
use Rattle.pattern_check.specs.FormRules.{path_variable, any_selector, is_unbounded, is_reversed, Form, forms, row_faults, body_faults, own_faults, part_faults, has_edge}
use Rattle.pattern_check.specs.FormRules.{inner_union, inner_mode, part_without_edge, unbounded_quantifier, optional_part, nested_part, quantifier_order, quantifier_faults_of}
use Rattle.pattern_check.specs.FormRules.{quantifier_faults, undirected_edge, top_faults, multiset_union}
use Rattle.pattern_check.specs.SizeRules.{too_many_choices, path_too_long, product, counts_allowed, greatest_count, sequence_measure, union_measure, body_measure}
use Rattle.pattern_check.specs.SizeRules.{repeated_measure, measuring, path_measure, is_too_large, large_quantifier, joined, inner_faults, large}
use Rattle.pattern_check.specs.Checked.{Spliced, splice, pieces_of, lower_bound, upper_bound, quantified, element, pattern_for, body_spliced, part_spliced, splicing, checked_path}
use Rattle.pattern_check.specs.Lowerable.{IsBounded, IsShortPath}
use Rattle.pattern_check.proofs.Factors.{together, given_vertex, given_edge, given_part, part_operands, operands_given, rows_of, rows_in, Each, each_union}
use Rattle.pattern_check.proofs.Opened.{joints_inside, body_inside}
use Rattle.pattern_check.proofs.Faultless.{left_none, right_none, not_when, or_right}

-- ---- numbers

nat_is : (a b : ℕ) → nat_eq a b ≡ true → a ≡ b
nat_is a b h = grind (arith, nat_tests, h)

pub at_most : (a b : ℕ) → nat_lt a b ≡ false → b ≤ a
at_most a b h = grind (arith, nat_tests, h)

no_product : (n : ℕ) → 0 ≡ 0 * n
no_product n = omega arith

one_more : (a b : ℕ) → b + a * b ≡ suc a * b
one_more a b = grind arith

none_more : (n : ℕ) → n ≡ 0 + n
none_more n = omega arith

repeated_length : {X Y : Type 0} (f : ℕ → List X → List Y) (n : ℕ) (xs : List X) → ((i : ℕ) → length (f i xs) ≡ length xs) → (ns : List ℕ) →
    length (flat_map (λ i. f i xs) ns) ≡ length ns * length xs
repeated_length f n xs same [] = no_product (length xs)
repeated_length f n xs same (i ∷ ns) =
    length-append (f i xs) (flat_map (λ i. f i xs) ns) ∙ ap₂ (λ a b. a + b) (same i) (repeated_length f n xs same ns) ∙ one_more (length ns) (length xs)

-- ---- steps

abbrev AreOnes : List Step → Type 0
AreOnes [] = Unit {0}
AreOnes (step.One own ∷ steps) = AreOnes steps
AreOnes (step.Part lower upper pieces conditions ∷ steps) = ⊥

ones_together : (xs ys : List Step) → AreOnes xs → AreOnes ys → AreOnes (xs ++ ys)
ones_together [] ys a b = b
ones_together (step.One own ∷ xs) ys a b = ones_together xs ys a b
ones_together (step.Part lower upper pieces conditions ∷ xs) ys a b = absurd a

-- the edges of the longest choice
abbrev pub most : List Step → ℕ
most [] = 0
most (step.One own ∷ steps) = edges_in (own ∷ []) + most steps
most (step.Part lower upper pieces conditions ∷ steps) = upper * edges_in pieces + most steps

edges_together : (xs ys : List Piece) → edges_in (xs ++ ys) ≡ edges_in xs + edges_in ys
edges_together [] ys = none_more (edges_in ys)
edges_together (piece.Vertex pattern ∷ xs) ys = edges_together xs ys
edges_together (piece.Edge direction pattern ∷ xs) ys = let more = edges_together xs ys in omega (arith, more)

sum_moved : (a b c : ℕ) → a + (b + c) ≡ a + b + c
sum_moved a b c = omega arith

most_together : (xs ys : List Step) → most (xs ++ ys) ≡ most xs + most ys
most_together [] ys = none_more (most ys)
most_together (step.One own ∷ xs) ys = ap (λ n. edges_in (own ∷ []) + n) (most_together xs ys) ∙ sum_moved (edges_in (own ∷ [])) (most xs) (most ys)
most_together (step.Part lower upper pieces conditions ∷ xs) ys =
    ap (λ n. upper * edges_in pieces + n) (most_together xs ys) ∙ sum_moved (upper * edges_in pieces) (most xs) (most ys)

most_ones : (steps : List Step) → AreOnes steps → edges_in (flat_map pieces_of steps) ≡ most steps
most_ones [] h = refl
most_ones (step.One own ∷ steps) h = edges_together (own ∷ []) (flat_map pieces_of steps) ∙ ap (λ n. edges_in (own ∷ []) + n) (most_ones steps h)
most_ones (step.Part lower upper pieces conditions ∷ steps) h = absurd h

-- the number of counts
abbrev pub many : List Step → ℕ
many steps = length (counts_of steps)

abbrev with_count : ℕ → List (List ℕ) → List (List ℕ)
with_count count lists = map (λ counts. count ∷ counts) lists

many_part : (lower upper : ℕ) (pieces : List Piece) (conditions : List Condition) (steps : List Step) →
    many (step.Part lower upper pieces conditions ∷ steps) ≡ (suc upper - lower) * many steps
many_part lower upper pieces conditions steps =
    repeated_length with_count 0 (counts_of steps) (λ count. length-map (counts_of steps) (λ counts. count ∷ counts)) (numbers_between lower upper)
    ∙ ap (λ n. n * many steps) (length-range_with_len lower (suc upper - lower))

product_moved : (a b c : ℕ) → a * (b * c) ≡ a * b * c
product_moved a b c = grind arith

one_product : (a : ℕ) → a ≡ 1 * a
one_product a = grind arith

many_together : (xs ys : List Step) → many (xs ++ ys) ≡ many xs * many ys
many_together [] ys = one_product (many ys)
many_together (step.One own ∷ xs) ys = many_together xs ys
many_together (step.Part lower upper pieces conditions ∷ xs) ys =
    many_part lower upper pieces conditions (xs ++ ys)
    ∙ ap (λ n. (suc upper - lower) * n) (many_together xs ys)
    ∙ product_moved (suc upper - lower) (many xs) (many ys)
    ∙ sym (ap (λ n. n * many ys) (many_part lower upper pieces conditions xs))

many_ones : (steps : List Step) → AreOnes steps → many steps ≡ 1
many_ones [] h = refl
many_ones (step.One own ∷ steps) h = many_ones steps h
many_ones (step.Part lower upper pieces conditions ∷ steps) h = absurd h

-- ---- each choice is at most so long

often : (count : ℕ) (part : Iteration) → edges_in (flat_map (λ (own : Iteration). own.pieces) (replicate count part)) ≡ count * edges_in part.pieces
often zero part = no_product (edges_in part.pieces)
often (suc count) part =
    edges_together part.pieces (flat_map (λ (own : Iteration). own.pieces) (replicate count part))
    ∙ ap (λ n. edges_in part.pieces + n) (often count part) ∙ one_more count (edges_in part.pieces)

no_longer : (count upper edges rest bound : ℕ) → count ≤ upper → rest ≤ bound → count * edges + rest ≤ upper * edges + bound
no_longer count upper edges rest bound a b = grind (arith, mul_le count upper edges a, b)
  where
    mul_le : (x y z : ℕ) → x ≤ y → x * z ≤ y * z
    mul_le zero y z h = grind arith
    mul_le (suc x) zero z h = absurd (omega (arith, h))
    mul_le (suc x) (suc y) z h = let less : x ≤ y = omega (arith, h) in let more = mul_le x y z less in omega (arith, more)

between_upper : (lower upper count : ℕ) → IsIn count (numbers_between lower upper) → count ≤ upper
between_upper lower upper count h = let r = from_range lower (suc upper - lower) count h in omega (arith, r.0, r.1)

at_most_most : (steps : List Step) (counts : List ℕ) → IsIn counts (counts_of steps) → edges_in (flat_map (λ (own : Iteration). own.pieces)
    (iterations steps counts)) ≤ most steps
at_most_most [] counts h = omega arith
at_most_most (step.One own ∷ steps) counts h =
    let more = at_most_most steps counts h in
    let apart = edges_together (own ∷ []) (flat_map (λ (own : Iteration). own.pieces) (iterations steps counts)) in
    omega (arith, more, apart)
at_most_most (step.Part lower upper pieces conditions ∷ steps) counts h =
    let one = from_flat (λ count. map (λ counts. count ∷ counts) (counts_of steps)) counts (numbers_between lower upper) h in
    let two = from_map (λ counts. one.0 ∷ counts) counts (counts_of steps) one.2 in
    let part : Iteration = record { pieces = pieces; conditions = conditions } in
    let rest : List Iteration = iterations steps two.0 in
    let apart : edges_in (flat_map (λ (own : Iteration). own.pieces) (replicate one.0 part ++ rest)) ≡ one.0 * edges_in pieces + edges_in (flat_map (λ
    (own : Iteration). own.pieces) rest) =
    ap edges_in (flat_map-append (λ (own : Iteration). own.pieces) (replicate one.0 part) rest)
    ∙ edges_together (flat_map (λ (own : Iteration). own.pieces) (replicate one.0 part)) (flat_map (λ (own : Iteration). own.pieces) rest)
    ∙ ap (λ n. n + edges_in (flat_map (λ (own : Iteration). own.pieces) rest)) (often one.0 part) in
    subst (λ (c : List ℕ). edges_in (flat_map (λ (own : Iteration). own.pieces) (iterations (step.Part lower upper pieces conditions ∷ steps) c)) ≤ most
    (step.Part lower upper pieces conditions ∷ steps)) two.2
    (subst (λ n. n ≤ upper * edges_in pieces + most steps) (sym apart)
    (no_longer one.0 upper (edges_in pieces) (edges_in (flat_map (λ (own : Iteration). own.pieces) rest)) (most steps) (between_upper lower upper one.0 one.1)
    (at_most_most steps two.0 two.1)))

-- ---- quantifiers

-- what a quantifier without faults of forms is
pub record IsPlainly (inside : Bool) (kind : QuantifierKind) : Type 0 where
  pub lower : ℕ
  pub upper : ℕ
  pub outside : inside ≡ false
  pub kind_is : Between lower upper ≡ kind
  pub ordered : nat_lt upper lower ≡ false

not_inside : (inside : Bool) → (inside && not false) ≡ false → inside ≡ false
not_inside true h = cc
not_inside false h = refl

plainly : (inside : Bool) (quantifier : Quantifier) → quantifier_faults_of inside quantifier ≡ [] → IsPlainly inside quantifier.kind
plainly inside quantifier h = by quantifier.kind refl
  where
    three : List Fault
    three = unbounded_quantifier quantifier ++ optional_part quantifier ++ nested_part inside quantifier

    two : List Fault
    two = unbounded_quantifier quantifier ++ optional_part quantifier

    unbounded : unbounded_quantifier quantifier ≡ []
    unbounded = left_none (unbounded_quantifier quantifier) (optional_part quantifier) (left_none two (nested_part inside quantifier) (left_none three
        (quantifier_order quantifier) h))

    optional : optional_part quantifier ≡ []
    optional = right_none (unbounded_quantifier quantifier) (optional_part quantifier) (left_none two (nested_part inside quantifier) (left_none three
        (quantifier_order quantifier) h))

    nested : nested_part inside quantifier ≡ []
    nested = right_none two (nested_part inside quantifier) (left_none three (quantifier_order quantifier) h)

    order : quantifier_order quantifier ≡ []
    order = right_none three (quantifier_order quantifier) h

    by : (kind : QuantifierKind) → kind ≡ quantifier.kind → IsPlainly inside quantifier.kind
    by (Between lower upper) is = record {
      lower = lower;
      upper = upper;
      outside = not_inside inside (ap (λ k. inside && not (is_optional k)) is ∙ not_when (inside && not (is_optional quantifier.kind)) _ _ nested);
      kind_is = is;
      ordered = ap is_reversed is ∙ not_when (is_reversed quantifier.kind) _ _ order;
    }
    by (AtLeast lower) is = let clash : true ≡ false = ap is_unbounded is ∙ not_when (is_unbounded quantifier.kind) _ _ unbounded in cc
    by Optional is = let clash : true ≡ false = ap is_optional is ∙ not_when (is_optional quantifier.kind) _ _ optional in cc

-- ---- factors

module _ (catalog : Catalog) (graph : Graph) where
  abbrev S : Factor → Spliced
  S = given_by (splicing catalog graph)

  abbrev F : Factor → Form
  F = given_by forms

  abbrev J : Factor → Bool
  J = given_by joining

  abbrev M : Factor → Measure
  M = given_by measuring

  abbrev B : Factor → List Fault
  B = given_by large

  abbrev steps_of : Spliced → List Step
  steps_of own = own.steps

  -- ---- under a quantifier there is no other

  abbrev PO : Factor → Type 0
  PO factor = (F factor).faults true ≡ [] → AreOnes (S factor).steps

  row_ones : (row : List Factor) → AllByRecursion PO row → row_faults true (map F row) ≡ [] → AreOnes (splice (map S row)).steps
  row_ones [] all h = tt
  row_ones (factor ∷ row) all h =
      ones_together (S factor).steps (splice (map S row)).steps (all.0 (left_none ((F factor).faults true) (row_faults true (map F row)) h))
      (row_ones row all.1 (right_none ((F factor).faults true) (row_faults true (map F row)) h))

  rows_ones : (rows : List (List Factor)) → Each PO rows → flat_map (row_faults true) (map (map F) rows) ≡ [] → AreOnes (splice (flat_map (λ (row : List Spliced). row) (map
      (map S) rows))).steps
  rows_ones [] all h = tt
  rows_ones (row ∷ rows) all h =
      let first : List Spliced = map S row in
      let rest : List Spliced = flat_map (λ (row : List Spliced). row) (map (map S) rows) in
      subst AreOnes (sym (flat_map-append steps_of first rest))
      (ones_together (splice first).steps (splice rest).steps (row_ones row all.0 (left_none (row_faults true (map F row)) (flat_map (row_faults true) (map (map F) rows)) h))
      (rows_ones rows all.1 (right_none (row_faults true (map F row)) (flat_map (row_faults true) (map (map F) rows)) h)))

  -- a quantifier there would be a fault
  none_inside : (quantifier : Option Quantifier) (own : Spliced) → quantifier_faults true quantifier ≡ [] → AreOnes own.steps → AreOnes (quantified quantifier own).steps
  none_inside None own h ones = ones
  none_inside (Some quantifier) own h ones = let clash = (plainly true quantifier h).outside in cc

  vertex_ones : (filler : Filler) → PO (v.Vertex filler)
  vertex_ones filler h = subst (λ (own : Spliced). AreOnes own.steps) (sym (given_vertex (splicing catalog graph) filler)) tt

  edge_ones : (direction : Direction) (filler : Filler) (quantifier : Option Quantifier) → PO (v.Edge direction filler quantifier)
  edge_ones direction filler quantifier h =
      subst (λ (own : Spliced). AreOnes own.steps) (sym (given_edge (splicing catalog graph) direction filler quantifier))
      (none_inside quantifier (element catalog graph (piece.Edge direction (pattern_for filler)) filler)
      (right_none (undirected_edge direction filler) (quantifier_faults true quantifier) (sym (ap (λ (form : Form). form.faults true)
      (given_edge forms direction filler quantifier)) ∙ h)) tt)

  -- the faults of a part: at its quantifier, at its joints and inside
  pub record AtPart (inside : Bool) (part : Part Form) (quantifier : Option Quantifier) : Type 0 where
    pub at_quantifier : quantifier_faults inside quantifier ≡ []
    pub at_joints : flat_map inner_union part.body.joints ≡ []
    pub within : body_faults (inside || is_repeated quantifier) part.body ≡ []

  at_part : (inside : Bool) (part : Part Form) (quantifier : Option Quantifier) → part_faults inside part quantifier ≡ [] → AtPart inside part quantifier
  at_part inside part quantifier h =
      let q : List Fault = quantifier_faults inside quantifier in
      let m : List Fault = inner_mode part.mode in
      let e : List Fault = part_without_edge (has_edge part.body) part quantifier in
      let j : List Fault = flat_map inner_union part.body.joints in
      let own : own_faults inside part quantifier ≡ [] = left_none (own_faults inside part quantifier) (body_faults (inside || is_repeated quantifier) part.body) h in record {
        at_quantifier = left_none q m (left_none (q ++ m) e (left_none (q ++ m ++ e) j own));
        at_joints = right_none (q ++ m ++ e) j own;
        within = right_none (own_faults inside part quantifier) (body_faults (inside || is_repeated quantifier) part.body) h;
      }

  no_faults_at : (inside : Bool) (part : PartTree) (quantifier : Option Quantifier) → (F (v.Part part quantifier)).faults inside ≡ [] → AtPart inside
      (part_given forms part) quantifier
  no_faults_at inside part quantifier h =
      at_part inside (part_given forms part) quantifier (sym (ap (λ (form : Form). form.faults inside) (given_part forms part quantifier)) ∙ h)

  inside_rows : (inside : Bool) (part : PartTree) → body_faults inside (part_given forms part).body ≡ [] → flat_map (row_faults inside) (map (map F) (rows_of part)) ≡ []
  inside_rows inside part h = sym (ap (flat_map (row_faults inside)) (part_operands forms part)) ∙ h

  body_ones : (part : PartTree) → Each PO (rows_of part) → body_faults true (part_given forms part).body ≡ [] → AreOnes (body_spliced (part_given
      (splicing catalog graph) part).body).steps
  body_ones part all h =
      subst (λ (rows : List (List Spliced)). AreOnes (splice (flat_map (λ (row : List Spliced). row) rows)).steps) (sym (part_operands (splicing catalog graph) part))
      (rows_ones (rows_of part) all (inside_rows true part h))

  part_steps : (given : Part Spliced) → (part_spliced catalog graph given).steps ≡ (body_spliced given.body).steps
  part_steps given = append-nil (body_spliced given.body).steps

  part_ones : (part : PartTree) (quantifier : Option Quantifier) → Each PO (rows_of part) → PO (v.Part part quantifier)
  part_ones part quantifier all h =
      let given : Part Spliced = part_given (splicing catalog graph) part in
      let at = no_faults_at true part quantifier h in
      subst (λ (own : Spliced). AreOnes own.steps) (sym (given_part (splicing catalog graph) part quantifier))
      (none_inside quantifier (part_spliced catalog graph given) at.at_quantifier (subst AreOnes (sym (part_steps given)) (body_ones part all at.within)))

  all_ones : (rows : List (List Factor)) → Each PO rows
  all_ones = each_union PO vertex_ones edge_ones part_ones

  -- ---- the measure of the text is that of the steps

  pub record IsMeasured (own : Spliced) (measure : Measure) : Type 0 where
    pub choices : many own.steps ≡ measure.choices
    pub edges : most own.steps ≡ measure.edges

  abbrev PM : Factor → Type 0
  PM factor = (inside : Bool) → (F factor).faults inside ≡ [] → J factor ≡ true → IsMeasured (S factor) (M factor)

  row_measured : (row : List Factor) → AllByRecursion PM row → (inside : Bool) → row_faults inside (map F row) ≡ [] → list_all (λ b. b) (map J row) ≡ true →
      IsMeasured (splice (map S row)) (sequence_measure (map M row))
  row_measured [] all inside h j = record { choices = refl; edges = refl }
  row_measured (factor ∷ row) all inside h j =
      let two = both_parts (J factor) (list_all (λ b. b) (map J row)) j in
      let own = all.0 inside (left_none ((F factor).faults inside) (row_faults inside (map F row)) h) two.0 in
      let more = row_measured row all.1 inside (right_none ((F factor).faults inside) (row_faults inside (map F row)) h) two.1 in record {
        choices = many_together (S factor).steps (splice (map S row)).steps ∙ ap₂ (λ a b. a * b) own.choices more.choices;
        edges = most_together (S factor).steps (splice (map S row)).steps ∙ ap₂ (λ a b. a + b) own.edges more.edges ∙ sym (sum_by-cons (λ (own : Measure). own.edges)
            (M factor) (map M row));
      }

  one_of : (a : ℕ) → 1 * a ≡ a
  one_of a = grind arith

  with_nothing : (a : ℕ) → a * 1 ≡ a
  with_nothing a = grind arith

  ends_zero : (a : ℕ) → a + 0 ≡ a
  ends_zero a = omega arith

  turned : (a b : ℕ) → a * b ≡ b * a
  turned a b = grind arith

  quantified_measured : (inside : Bool) (quantifier : Option Quantifier) (own : Spliced) (measure : Measure) → quantifier_faults inside quantifier ≡ [] →
      (is_repeated quantifier ≡ true → AreOnes own.steps) → IsMeasured own measure → IsMeasured (quantified quantifier own) (repeated_measure quantifier measure)
  quantified_measured inside None own measure h ones is = is
  quantified_measured inside (Some quantifier) own measure h ones is =
      let plain = plainly inside quantifier h in
      let are : AreOnes own.steps = ones (sym (ap (λ k. not (is_optional k)) plain.kind_is)) in
      let pieces : List Piece = flat_map pieces_of own.steps in
      let Many : QuantifierKind → Type 0 = λ kind. many (step.Part (lower_bound kind) (upper_bound kind) pieces own.conditions ∷ []) ≡ measure.choices * counts_allowed kind in
      let Most : QuantifierKind → Type 0 = λ kind. upper_bound kind * edges_in pieces + 0 ≡ measure.edges * greatest_count kind in record {
        choices = subst Many plain.kind_is
            (many_part plain.lower plain.upper pieces own.conditions [] ∙ with_nothing (suc plain.upper - plain.lower)
            ∙ sym (one_of (suc plain.upper - plain.lower)) ∙ ap (λ n. n * (suc plain.upper - plain.lower)) (sym (many_ones own.steps are) ∙ is.choices));
        edges = subst Most plain.kind_is
            (ends_zero (plain.upper * edges_in pieces) ∙ turned plain.upper (edges_in pieces) ∙ ap (λ n. n * plain.upper) (most_ones own.steps are ∙ is.edges));
      }

  vertex_measured : (filler : Filler) → PM (v.Vertex filler)
  vertex_measured filler inside h j =
      subst (λ (own : Spliced). IsMeasured own (M (v.Vertex filler))) (sym (given_vertex (splicing catalog graph) filler))
      (subst (λ (measure : Measure). IsMeasured (element catalog graph (piece.Vertex (pattern_for filler)) filler) measure) (sym (given_vertex measuring filler))
      (record { choices = refl; edges = refl }))

  edge_measured : (direction : Direction) (filler : Filler) (quantifier : Option Quantifier) → PM (v.Edge direction filler quantifier)
  edge_measured direction filler quantifier inside h j =
      let own : Spliced = element catalog graph (piece.Edge direction (pattern_for filler)) filler in
      let one : Measure = record { choices = 1; edges = 1 } in
      let at : quantifier_faults inside quantifier ≡ [] =
      right_none (undirected_edge direction filler) (quantifier_faults inside quantifier) (sym (ap (λ (form : Form). form.faults inside)
      (given_edge forms direction filler quantifier)) ∙ h) in
      subst (λ (own : Spliced). IsMeasured own (M (v.Edge direction filler quantifier))) (sym (given_edge (splicing catalog graph) direction filler quantifier))
      (subst (λ (measure : Measure). IsMeasured (quantified quantifier own) measure) (sym (given_edge measuring direction filler quantifier))
      (quantified_measured inside quantifier own one at (λ repeated. tt) (record { choices = refl; edges = refl })))

  -- ---- a part has one sequence

  no_joints : (joints : List Joint) → flat_map inner_union joints ≡ [] → joints ≡ []
  no_joints [] h = refl
  no_joints (joint ∷ joints) h = cc

  abbrev rows_spliced : List (List Factor) → Spliced
  rows_spliced rows = splice (flat_map (λ (row : List Spliced). row) (map (map S) rows))

  abbrev rows_measure : List (List Factor) → Measure
  rows_measure rows = union_measure (map sequence_measure (map (map M) rows))

  single_measured : (row : List Factor) → IsMeasured (splice (map S row)) (sequence_measure (map M row)) → IsMeasured (rows_spliced (row ∷ [])) (rows_measure (row ∷ []))
  single_measured row is =
      let same : flat_map (λ (row : List Spliced). row) (map (map S) (row ∷ [])) ≡ map S row = append-nil (map S row) in
      subst (λ (owns : List Spliced). IsMeasured (splice owns) (rows_measure (row ∷ []))) (sym same)
      (record { choices = is.choices ∙ none_more (sequence_measure (map M row)).choices; edges = is.edges ∙ top (sequence_measure (map M row)).edges })
    where
      top : (n : ℕ) → n ≡ max n 0
      top n = omega arith

  rows_measured : (rows : List (List Factor)) → Each PM rows → (inside : Bool) → flat_map (row_faults inside) (map (map F) rows) ≡ [] →
      nat_eq (length (map (map J) rows)) 1 ≡ true → list_all (list_all (λ b. b)) (map (map J) rows) ≡ true → IsMeasured (rows_spliced rows) (rows_measure rows)
  rows_measured [] all inside h one j = cc
  rows_measured (row ∷ []) all inside h one j =
      single_measured row (row_measured row all.0 inside (left_none (row_faults inside (map F row)) [] h) (both_parts (list_all (λ b. b) (map J row)) true j).0)
  rows_measured (row ∷ other ∷ rows) all inside h one j = let two = nat_is (length (map (map J) (row ∷ other ∷ rows))) 1 one in absurd (omega (arith, two))

  same_joints : (part : PartTree) → (part_given joining part).body.joints ≡ (part_given forms part).body.joints
  same_joints part =
      ap (λ (b : Body Bool). b.joints) (sym (body_inside joining part)) ∙ sym (joints_inside joining (out-PartTree part).body)
      ∙ joints_inside forms (out-PartTree part).body ∙ ap (λ (b : Body Form). b.joints) (body_inside forms part)

  or_true : (a b : Bool) → b ≡ true → (a || b) ≡ true
  or_true true b h = refl
  or_true false b h = h

  joined_once : (part : PartTree) → flat_map inner_union (part_given forms part).body.joints ≡ [] → is_joined (part_given joining part).body ≡ true →
      (nat_eq (length (map (map J) (rows_of part))) 1 ≡ true) × (list_all (list_all (λ b. b)) (map (map J) (rows_of part)) ≡ true)
  joined_once part none j =
      let body : Body Bool = (part_given joining part).body in
      let two = both_parts (nat_eq (length body.operands) (suc (length body.joints))) (list_all (list_all (λ b. b)) body.operands) j in
      let joints : body.joints ≡ [] = same_joints part ∙ no_joints (part_given forms part).body.joints none in (
        subst (λ (rows : List (List Bool)). nat_eq (length rows) 1 ≡ true) (part_operands joining part) (subst (λ (js : List Joint). nat_eq (length body.operands) (suc
            (length js)) ≡ true) joints two.0),
        subst (λ (rows : List (List Bool)). list_all (list_all (λ b. b)) rows ≡ true) (part_operands joining part) two.1,
      )

  part_measured : (part : PartTree) (quantifier : Option Quantifier) → Each PM (rows_of part) → PM (v.Part part quantifier)
  part_measured part quantifier all inside h j =
      let given : Part Spliced = part_given (splicing catalog graph) part in
      let at = no_faults_at inside part quantifier h in
      let once = joined_once part at.at_joints (sym (given_part joining part quantifier) ∙ j) in
      let body : IsMeasured (body_spliced given.body) (body_measure (part_given measuring part).body) =
      subst (λ (rows : List (List Spliced)). IsMeasured (splice (flat_map (λ (row : List Spliced). row) rows)) (body_measure (part_given measuring part).body)) (sym
      (part_operands (splicing catalog graph) part))
      (subst (λ (rows : List (List Measure)). IsMeasured (rows_spliced (rows_of part)) (union_measure (map sequence_measure rows))) (sym (part_operands measuring part))
      (rows_measured (rows_of part) all (inside || is_repeated quantifier) (inside_rows (inside || is_repeated quantifier) part at.within) once.0 once.1)) in
      let own : IsMeasured (part_spliced catalog graph given) (body_measure (part_given measuring part).body) =
      record { choices = ap many (part_steps given) ∙ body.choices; edges = ap most (part_steps given) ∙ body.edges } in
      let ones : is_repeated quantifier ≡ true → AreOnes (part_spliced catalog graph given).steps =
      λ repeated. subst AreOnes (sym (part_steps given)) (body_ones part (all_ones (rows_of part)) (subst (λ b. body_faults b (part_given forms part).body ≡ [])
      (or_true inside (is_repeated quantifier) repeated) at.within)) in
      subst (λ (own : Spliced). IsMeasured own (M (v.Part part quantifier))) (sym (given_part (splicing catalog graph) part quantifier))
      (subst (λ (measure : Measure). IsMeasured (quantified quantifier (part_spliced catalog graph given)) measure) (sym (given_part measuring part quantifier))
      (quantified_measured inside quantifier (part_spliced catalog graph given) (body_measure (part_given measuring part).body) at.at_quantifier ones own))

  -- ---- bounds

  abbrev Bounded : List Step → Type 0
  Bounded = AllByRecursion IsBounded

  abbrev PB : Factor → Type 0
  PB factor = (inside : Bool) → (F factor).faults inside ≡ [] → B factor ≡ [] → Bounded (S factor).steps

  quantified_bounded : (inside : Bool) (quantifier : Option Quantifier) (own : Spliced) → quantifier_faults inside quantifier ≡ [] → large_quantifier quantifier ≡ [] →
      Bounded own.steps → Bounded (quantified quantifier own).steps
  quantified_bounded inside None own h small b = b
  quantified_bounded inside (Some quantifier) own h small b =
      let plain = plainly inside quantifier h in
      let within : (nat_lt 32 plain.lower || nat_lt 32 plain.upper) ≡ false = ap is_too_large plain.kind_is ∙ not_when (is_too_large quantifier.kind) _ _ small in (
        subst (λ kind. (lower_bound kind ≤ upper_bound kind) × (upper_bound kind ≤ 32)) plain.kind_is
            (at_most plain.upper plain.lower plain.ordered, at_most 32 plain.upper (or_right (nat_lt 32 plain.lower) (nat_lt 32 plain.upper) within)),
        tt,
      )

  row_bounded : (row : List Factor) → AllByRecursion PB row → (inside : Bool) → row_faults inside (map F row) ≡ [] → joined (map B row) ≡ [] → Bounded (splice (map S row)).steps
  row_bounded [] all inside h small = tt
  row_bounded (factor ∷ row) all inside h small =
      together IsBounded (S factor).steps (splice (map S row)).steps
      (all.0 inside (left_none ((F factor).faults inside) (row_faults inside (map F row)) h) (left_none (B factor) (joined (map B row)) small))
      (row_bounded row all.1 inside (right_none ((F factor).faults inside) (row_faults inside (map F row)) h) (right_none (B factor) (joined (map B row)) small))

  rows_bounded : (rows : List (List Factor)) → Each PB rows → (inside : Bool) → flat_map (row_faults inside) (map (map F) rows) ≡ [] → flat_map joined (map (map B) rows) ≡ [] →
      Bounded (rows_spliced rows).steps
  rows_bounded [] all inside h small = tt
  rows_bounded (row ∷ rows) all inside h small =
      let first : List Spliced = map S row in
      let rest : List Spliced = flat_map (λ (row : List Spliced). row) (map (map S) rows) in
      subst Bounded (sym (flat_map-append steps_of first rest))
      (together IsBounded (splice first).steps (splice rest).steps
      (row_bounded row all.0 inside (left_none (row_faults inside (map F row)) (flat_map (row_faults inside) (map (map F) rows)) h) (left_none (joined (map B row))
      (flat_map joined (map (map B) rows)) small))
      (rows_bounded rows all.1 inside (right_none (row_faults inside (map F row)) (flat_map (row_faults inside) (map (map F) rows)) h) (right_none (joined (map B row))
      (flat_map joined (map (map B) rows)) small)))

  vertex_bounded : (filler : Filler) → PB (v.Vertex filler)
  vertex_bounded filler inside h small = subst (λ (own : Spliced). Bounded own.steps) (sym (given_vertex (splicing catalog graph) filler)) (tt, tt)

  edge_bounded : (direction : Direction) (filler : Filler) (quantifier : Option Quantifier) → PB (v.Edge direction filler quantifier)
  edge_bounded direction filler quantifier inside h small =
      subst (λ (own : Spliced). Bounded own.steps) (sym (given_edge (splicing catalog graph) direction filler quantifier))
      (quantified_bounded inside quantifier (element catalog graph (piece.Edge direction (pattern_for filler)) filler)
      (right_none (undirected_edge direction filler) (quantifier_faults inside quantifier) (sym (ap (λ (form : Form). form.faults inside)
      (given_edge forms direction filler quantifier)) ∙ h))
      (sym (given_edge large direction filler quantifier) ∙ small) (tt, tt))

  part_bounded : (part : PartTree) (quantifier : Option Quantifier) → Each PB (rows_of part) → PB (v.Part part quantifier)
  part_bounded part quantifier all inside h small =
      let given : Part Spliced = part_given (splicing catalog graph) part in
      let at = no_faults_at inside part quantifier h in
      let limits : (large_quantifier quantifier ++ inner_faults (part_given large part).body) ≡ [] = sym (given_part large part quantifier) ∙ small in
      let inner : flat_map joined (map (map B) (rows_of part)) ≡ [] =
      sym (ap (flat_map joined) (part_operands large part)) ∙ right_none (large_quantifier quantifier) (inner_faults (part_given large part).body) limits in
      let body : Bounded (body_spliced given.body).steps =
      subst (λ (rows : List (List Spliced)). Bounded (splice (flat_map (λ (row : List Spliced). row) rows)).steps) (sym (part_operands (splicing catalog graph) part))
      (rows_bounded (rows_of part) all (inside || is_repeated quantifier) (inside_rows (inside || is_repeated quantifier) part at.within) inner) in
      subst (λ (own : Spliced). Bounded own.steps) (sym (given_part (splicing catalog graph) part quantifier))
      (quantified_bounded inside quantifier (part_spliced catalog graph given) at.at_quantifier
      (left_none (large_quantifier quantifier) (inner_faults (part_given large part).body) limits) (subst Bounded (sym (part_steps given)) body))

  -- ---- path patterns

  abbrev of_rows : List (List Factor) → List Operand
  of_rows rows = map splice (map (map S) rows)

  operands_bounded : (rows : List (List Factor)) → Each PB rows → flat_map (row_faults false) (map (map F) rows) ≡ [] → flat_map joined (map (map B) rows) ≡ [] →
      AllByRecursion (λ (operand : Operand). Bounded operand.steps) (of_rows rows)
  operands_bounded [] all h small = tt
  operands_bounded (row ∷ rows) all h small = (
    row_bounded row all.0 false (left_none (row_faults false (map F row)) (flat_map (row_faults false) (map (map F) rows)) h) (left_none (joined (map B row)) (flat_map joined
        (map (map B) rows)) small),
    operands_bounded rows all.1 (right_none (row_faults false (map F row)) (flat_map (row_faults false) (map (map F) rows)) h) (right_none (joined (map B row))
        (flat_map joined (map (map B) rows)) small),
  )

  abbrev many_of : Operand → ℕ
  many_of operand = many operand.steps

  operands_many : (rows : List (List Factor)) → Each PM rows → flat_map (row_faults false) (map (map F) rows) ≡ [] → list_all (list_all (λ b. b)) (map (map J) rows) ≡ true →
      sum_by many_of (of_rows rows) ≡ (rows_measure rows).choices
  operands_many [] all h j = refl
  operands_many (row ∷ rows) all h j =
      let two = both_parts (list_all (λ b. b) (map J row)) (list_all (list_all (λ b. b)) (map (map J) rows)) j in
      sum_by-cons many_of (splice (map S row)) (of_rows rows)
      ∙ ap₂ (λ a b. a + b)
      (row_measured row all.0 false (left_none (row_faults false (map F row)) (flat_map (row_faults false) (map (map F) rows)) h) two.0).choices
      (operands_many rows all.1 (right_none (row_faults false (map F row)) (flat_map (row_faults false) (map (map F) rows)) h) two.1)
      ∙ sym (sum_by-cons (λ (own : Measure). own.choices) (sequence_measure (map M row)) (map sequence_measure (map (map M) rows)))

  left_max : (a n m : ℕ) → a ≡ n → a ≤ max n m
  left_max a n m h = omega (arith, h)

  right_max : (a n m : ℕ) → a ≤ m → a ≤ max n m
  right_max a n m h = omega (arith, h)

  operands_most : (rows : List (List Factor)) → Each PM rows → flat_map (row_faults false) (map (map F) rows) ≡ [] → list_all (list_all (λ b. b)) (map (map J) rows) ≡ true →
      (operand : Operand) → IsIn operand (of_rows rows) → most operand.steps ≤ (rows_measure rows).edges
  operands_most [] all h j operand there = absurd there
  operands_most (row ∷ rows) all h j operand (inl is) =
      let two = both_parts (list_all (λ b. b) (map J row)) (list_all (list_all (λ b. b)) (map (map J) rows)) j in
      let own = row_measured row all.0 false (left_none (row_faults false (map F row)) (flat_map (row_faults false) (map (map F) rows)) h) two.0 in
      left_max (most operand.steps) (sequence_measure (map M row)).edges (rows_measure rows).edges (ap (λ (o : Operand). most o.steps) (sym is) ∙ own.edges)
  operands_most (row ∷ rows) all h j operand (inr more) =
      let two = both_parts (list_all (λ b. b) (map J row)) (list_all (list_all (λ b. b)) (map (map J) rows)) j in
      right_max (most operand.steps) (sequence_measure (map M row)).edges (rows_measure rows).edges
      (operands_most rows all.1 (right_none (row_faults false (map F row)) (flat_map (row_faults false) (map (map F) rows)) h) two.1 operand more)

-- ---- choices

sum_flat : {X : Type 0} (f : ℕ → List X) (ns : List ℕ) → length (flat_map f ns) ≡ sum_by (λ n. length (f n)) ns
sum_flat f [] = refl
sum_flat f (n ∷ ns) = length-append (f n) (flat_map f ns) ∙ ap (λ m. length (f n) + m) (sum_flat f ns) ∙ sym (sum_by-cons (λ n. length (f n)) n ns)

sum_numbered : {X : Type 0} (h : X → ℕ) (f : ℕ → ℕ) (none : X) (xs : List X) (a : ℕ) → ((i : ℕ) → i < length xs → f (a + i) ≡ h (get_or xs i none)) →
    sum_by f (range_with_len a (length xs)) ≡ sum_by h xs
sum_numbered h f none [] a same = refl
sum_numbered h f none (x ∷ xs) a same =
    let here : a + 0 ≡ a = omega arith in
    sum_by-cons f a (range_with_len (a + 1) (length xs))
    ∙ ap₂ (λ m n. m + n) (ap f (sym here) ∙ same 0 (omega arith))
    (sum_numbered h f none xs (a + 1) (λ i within. let next : a + 1 + i ≡ a + suc i = omega arith in ap f next ∙ same (suc i) (omega (arith, within))))
    ∙ sym (sum_by-cons h x xs)

many_choices : (path : CheckedPath) → length (choices path) ≡ sum_by (λ (operand : Operand). many operand.steps) path.operands
many_choices path =
    let at : ℕ → List Alternative = λ place. map (λ counts. record { operand = place; counts = counts }) (counts_of (operand_at path place).steps) in
    sum_flat at (numbers_below (length path.operands))
    ∙ sum_numbered (λ (operand : Operand). many operand.steps) (λ place. length (at place)) (record { steps = []; conditions = [] }) path.operands 0
    (λ i within. let here : 0 + i ≡ i = omega arith in
    ap (λ k. length (at k)) here ∙ length-map (counts_of (operand_at path i).steps) (λ counts. record { operand = i; counts = counts }))

greatest_at_most : (ns : List ℕ) (bound : ℕ) → ((n : ℕ) → IsIn n ns → n ≤ bound) → greatest ns ≤ bound
greatest_at_most [] bound h = omega arith
greatest_at_most (n ∷ ns) bound h = let first = h n (inl refl) in let rest = greatest_at_most ns bound (λ m there. h m (inr there)) in omega (arith, first, rest)

longest_at_most : (path : CheckedPath) (bound : ℕ) → ((operand : Operand) → IsIn operand path.operands → most operand.steps ≤ bound) → longest path ≤ bound
longest_at_most path bound h =
    greatest_at_most (map (λ (choice : Alternative). (expansion_of path choice).edges) (choices path)) bound (λ n there.
    let choice = from_map (λ (choice : Alternative). (expansion_of path choice).edges) n (choices path) there in
    let at : ℕ → List Alternative = λ place. map (λ counts. record { operand = place; counts = counts }) (counts_of (operand_at path place).steps) in
    let placed = from_flat at choice.0 (numbers_below (length path.operands)) choice.1 in
    let counted = from_map (λ counts. record { operand = placed.0; counts = counts }) choice.0 (counts_of (operand_at path placed.0).steps) placed.2 in
    let within = from_below (length path.operands) placed.0 placed.1 in
    let there : IsIn (operand_at path placed.0) path.operands = in_at path.operands placed.0 (record { steps = []; conditions = [] }) within in
    let long : edges_in (flat_map (λ (own : Iteration). own.pieces) (iterations (operand_at path placed.0).steps counted.0)) ≤ most (operand_at path placed.0).steps =
    at_most_most (operand_at path placed.0).steps counted.0 counted.1 in
    let whole : most (operand_at path placed.0).steps ≤ bound = h (operand_at path placed.0) there in
    let same : edges_in (flat_map (λ (own : Iteration). own.pieces) (iterations (operand_at path placed.0).steps counted.0)) ≡ n =
    ap (λ (c : Alternative). (expansion_of path c).edges) counted.2 ∙ choice.2 in
    omega (arith, long, whole, same))

pub short_path : (catalog : Catalog) (graph : Graph) (path : PathTree) → rules.path_faults path ≡ [] → limits.path_faults path ≡ [] →
    list_all (list_all (λ b. b)) (body_given joining path.body).operands ≡ true → IsShortPath (checked_path catalog graph path)
unfolding rules.path_faults limits.path_faults
short_path catalog graph path h small j =
    let rows : List (List Factor) = rows_in path.body in
    let top : top_faults (body_given forms path.body) ≡ [] = right_none (path_variable path.variable ++ any_selector path.selector) (top_faults (body_given forms path.body)) h in
    let forms_none : flat_map (row_faults false) (map (map (given_by forms)) rows) ≡ [] =
    sym (ap (flat_map (row_faults false)) (operands_given forms path.body))
    ∙ right_none (flat_map multiset_union (body_given forms path.body).joints) (body_faults false (body_given forms path.body)) top in
    let inner : inner_faults (body_given large path.body) ≡ [] =
    left_none (inner_faults (body_given large path.body)) (too_many_choices path) (left_none (inner_faults (body_given large path.body) ++ too_many_choices path)
    (path_too_long path) small) in
    let choices_none : too_many_choices path ≡ [] =
    right_none (inner_faults (body_given large path.body)) (too_many_choices path) (left_none (inner_faults (body_given large path.body) ++ too_many_choices path)
    (path_too_long path) small) in
    let long_none : path_too_long path ≡ [] = right_none (inner_faults (body_given large path.body) ++ too_many_choices path) (path_too_long path) small in
    let limits_none : flat_map joined (map (map (given_by large)) rows) ≡ [] = sym (ap (flat_map joined) (operands_given large path.body)) ∙ inner in
    let once : list_all (list_all (λ b. b)) (map (map (given_by joining)) rows) ≡ true =
    subst (λ (all : List (List Bool)). list_all (list_all (λ b. b)) all ≡ true) (operands_given joining path.body) j in
    let same : (checked_path catalog graph path).operands ≡ map splice (map (map (given_by (splicing catalog graph))) rows) =
    ap (map splice) (operands_given (splicing catalog graph) path.body) in
    let measure : union_measure (map sequence_measure (map (map (given_by measuring)) rows)) ≡ path_measure path =
    ap (λ (all : List (List Measure)). union_measure (map sequence_measure all)) (sym (operands_given measuring path.body)) in
    let measured = each_union (PM catalog graph) (vertex_measured catalog graph) (edge_measured catalog graph) (part_measured catalog graph) rows in
    let few : length (choices (checked_path catalog graph path)) ≡ (path_measure path).choices =
    many_choices (checked_path catalog graph path)
    ∙ ap (sum_by (λ (operand : Operand). many operand.steps)) same
    ∙ operands_many catalog graph rows measured forms_none once
    ∙ ap (λ (m : Measure). m.choices) measure in record {
      bounded = subst (AllByRecursion (λ (operand : Operand). AllByRecursion IsBounded operand.steps)) (sym same)
          (operands_bounded catalog graph rows (each_union (PB catalog graph) (vertex_bounded catalog graph) (edge_bounded catalog graph)
          (part_bounded catalog graph) rows) forms_none limits_none);
      few = subst (λ n. n ≤ 4096) (sym few) (at_most 4096 (path_measure path).choices (not_when (nat_lt 4096 (path_measure path).choices) _ _ choices_none));
      short = longest_at_most (checked_path catalog graph path) 64 (λ operand there.
          let inside : most operand.steps ≤ (path_measure path).edges =
          subst (λ (m : Measure). most operand.steps ≤ m.edges) measure
          (operands_most catalog graph rows measured forms_none once operand (subst (λ (all : List Operand). IsIn operand all) same there)) in
          let most_allowed : (path_measure path).edges ≤ 64 = at_most 64 (path_measure path).edges (not_when (nat_lt 64 (path_measure path).edges) _ _ long_none) in
          omega (arith, inside, most_allowed));
    }

-- ---- operands

some_product : (a b : ℕ) → 1 ≤ a → 1 ≤ b → 1 ≤ a * b
some_product zero b h g = absurd (omega (arith, h))
some_product (suc a) b h g = let more = one_more a b in let some : b ≤ b + a * b = omega arith in omega (arith, more, some, g)

many_some : (steps : List Step) → AllByRecursion IsBounded steps → 1 ≤ many steps
many_some [] h = omega arith
many_some (step.One own ∷ steps) h = many_some steps h.1
many_some (step.Part lower upper pieces conditions ∷ steps) h =
    let some : 1 ≤ suc upper - lower = omega (arith, h.0.0) in
    subst (λ n. 1 ≤ n) (sym (many_part lower upper pieces conditions steps)) (some_product (suc upper - lower) (many steps) some (many_some steps h.1))

operands_counted : (operands : List Operand) → AllByRecursion (λ (operand : Operand). AllByRecursion IsBounded operand.steps) operands →
    length operands ≤ sum_by (λ (operand : Operand). many operand.steps) operands
operands_counted [] h = omega arith
operands_counted (operand ∷ operands) h =
    let own = many_some operand.steps h.0 in
    let more = operands_counted operands h.1 in
    let sum = sum_by-cons (λ (operand : Operand). many operand.steps) operand operands in
    omega (arith, own, more, sum)

-- each operand has a choice
pub few_operands : (path : CheckedPath) → IsShortPath path → length path.operands ≤ 4096
few_operands path short =
    let some = operands_counted path.operands short.bounded in
    let all = many_choices path in
    let few = short.few in
    omega (arith, some, all, few)
