-- The spans of a pattern, part by part, and what follows from them for what is given for its patterns.
use Rattle.std.proofs.Common.{◌≡◌, refl, sym, ap, ap₂, subst, ◌∙◌, List, [], ◌∷◌, ◌++◌, map, Option, None, Some}
use Rattle.std.specs.List.{flat_map, AllByRecursion}
use Rattle.pgq_base.specs.declared.refusal.Span.{Span}
use Rattle.expr_tree.specs.Leaves.{joined}
use Rattle.graph_ast.specs.declared.query.Filler.{Filler}
use Rattle.graph_ast.specs.declared.query.Direction.{Direction}
use Rattle.graph_ast.specs.declared.query.Joint.{Joint}
use Rattle.graph_ast.specs.declared.query.Quantifier.{Quantifier}
use Rattle.graph_ast.specs.declared.query.Union.{Union, out-Union}
use Rattle.graph_ast.specs.declared.query.PartTree.{PartTree, out-PartTree}
use Rattle.graph_ast.specs.declared.query.Sequence.{Sequence, out-Sequence}
use Rattle.graph_ast.specs.declared.query.Factor.{Factor}
use Rattle.graph_ast.specs.declared.query.Factor.TheVariants as v
use Rattle.graph_ast.specs.declared.query.Factor.TheOpen.{Factor-F}
use Rattle.graph_ast.specs.declared.query.Factor.TheFolds.{fold-roll-Factor, fold_out-PartTree, fold_out-Sequence, fold_out-Union}
use Rattle.graph_ast.specs.Patterns.{Giving, Part, Body, given_by, part_given, body_given, factor_step as giving_step, part_step as part_giving, sequence_step as sequence_giving}
use Rattle.graph_ast.specs.Patterns.{body_step as body_giving}
use Rattle.graph_ast.specs.QuerySpans.{if_given, of_mode, of_quantifier, of_filler, of_condition, of_factor, of_part, of_sequence, of_union, factor_step, part_step}
use Rattle.graph_ast.specs.QuerySpans.{sequence_step, union_step}
use Rattle.pattern_check.proofs.Factors.{given_vertex, given_edge, given_part, part_operands, operands_given, rows_in, rows_of, Each, each_factor}
use Rattle.pattern_check.proofs.Opened.{joints_inside}

abbrev S : Type 0
S = List Span

-- ---- the spans of each form

vertex_spans : (filler : Filler) → of_factor (v.Vertex filler) ≡ of_filler filler
vertex_spans filler = ap of_factor (sym (v.rolls-Vertex filler)) ∙ fold-roll-Factor S S S S factor_step part_step sequence_step union_step (Factor-F.Vertex filler)

edge_spans : (direction : Direction) (filler : Filler) (q : Option Quantifier) → of_factor (v.Edge direction filler q) ≡ of_filler filler ++ if_given of_quantifier q
edge_spans direction filler q =
    ap of_factor (sym (v.rolls-Edge direction filler q)) ∙ fold-roll-Factor S S S S factor_step part_step sequence_step union_step (Factor-F.Edge direction filler q)

part_spans : (part : PartTree) (q : Option Quantifier) → of_factor (v.Part part q) ≡ of_part part ++ if_given of_quantifier q
part_spans part q = ap of_factor (sym (v.rolls-Part part q)) ∙ fold-roll-Factor S S S S factor_step part_step sequence_step union_step (Factor-F.Part part q)

inside_spans : (part : PartTree) → of_part part ≡ (out-PartTree part).span
    ∷ (if_given of_mode (out-PartTree part).mode ++ (of_union (out-PartTree part).body ++ if_given of_condition (out-PartTree part).condition))
inside_spans part = fold_out-PartTree S S S S factor_step part_step sequence_step union_step part

union_spans : (union : Union) → of_union union ≡ joined (map of_sequence (out-Union union).operands) ++ map (λ (j : Joint). j.span) (out-Union union).joints
union_spans union = fold_out-Union S S S S factor_step part_step sequence_step union_step union

sequence_spans : (sequence : Sequence) → of_sequence sequence ≡ joined (map of_factor (out-Sequence sequence).factors)
sequence_spans sequence = fold_out-Sequence S S S S factor_step part_step sequence_step union_step sequence

module _ (P : Span → Type 0) where
  abbrev pub All : List Span → Type 0
  All spans = AllByRecursion P spans

  pub first_part : (xs ys : List Span) → All (xs ++ ys) → All xs
  first_part [] ys h = tt
  first_part (x ∷ xs) ys h = (h.0, first_part xs ys h.1)

  pub other_part : (xs ys : List Span) → All (xs ++ ys) → All ys
  other_part [] ys h = h
  other_part (x ∷ xs) ys h = other_part xs ys h.1

  abbrev pub HasSpans : Factor → Type 0
  HasSpans factor = All (of_factor factor)

  factors_have : (factors : List Factor) → All (joined (map of_factor factors)) → AllByRecursion HasSpans factors
  factors_have [] h = tt
  factors_have (f ∷ factors) h = (first_part (of_factor f) (joined (map of_factor factors)) h, factors_have factors (other_part (of_factor f) (joined (map of_factor factors)) h))

  operands_have : (operands : List Sequence) → All (joined (map of_sequence operands)) → Each HasSpans (map (λ (s : Sequence). (out-Sequence s).factors) operands)
  operands_have [] h = tt
  operands_have (s ∷ operands) h = (
    factors_have (out-Sequence s).factors (subst All (sequence_spans s) (first_part (of_sequence s) (joined (map of_sequence operands)) h)),
    operands_have operands (other_part (of_sequence s) (joined (map of_sequence operands)) h),
  )

  rows_have : (union : Union) → All (of_union union) → Each HasSpans (rows_in union)
  rows_have union h =
      operands_have (out-Union union).operands
      (first_part (joined (map of_sequence (out-Union union).operands)) (map (λ (j : Joint). j.span) (out-Union union).joints) (subst All (union_spans union) h))

  -- the joints of a union
  pub joints_have : {A : Type 0} (giving : Giving A) (union : Union) → All (of_union union) → All (map (λ (j : Joint). j.span) (body_given giving union).joints)
  joints_have giving union h =
      subst (λ (js : List Joint). All (map (λ (j : Joint). j.span) js)) (joints_inside giving union)
      (other_part (joined (map of_sequence (out-Union union).operands)) (map (λ (j : Joint). j.span) (out-Union union).joints) (subst All (union_spans union) h))

  -- what is a part's own
  pub record HasOwn {A : Type 0} (part : Part A) : Type 0 where
    pub span : P part.span
    pub mode : All (if_given of_mode part.mode)
    pub condition : All (if_given of_condition part.condition)
    pub joints : All (map (λ (j : Joint). j.span) part.body.joints)

  own_have : {A : Type 0} (giving : Giving A) (part : PartTree) → All (of_part part) → HasOwn (part_given giving part)
  own_have {A} giving part h =
      let raw = out-PartTree part in
      let is = fold_out-PartTree A (Part A) (List A) (Body A) (giving_step giving) part_giving sequence_giving body_giving part in
      let all : All (raw.span ∷ (if_given of_mode raw.mode ++ (of_union raw.body ++ if_given of_condition raw.condition))) = subst All (inside_spans part) h in
      let behind : All (of_union raw.body ++ if_given of_condition raw.condition) = other_part (if_given of_mode raw.mode)
      (of_union raw.body ++ if_given of_condition raw.condition) all.1 in
      subst HasOwn (sym is) (record {
        span = all.0;
        mode = first_part (if_given of_mode raw.mode) (of_union raw.body ++ if_given of_condition raw.condition) all.1;
        condition = other_part (of_union raw.body) (if_given of_condition raw.condition) behind;
        joints = joints_have giving raw.body (first_part (of_union raw.body) (if_given of_condition raw.condition) behind);
      })

  inside_have : (part : PartTree) → All (of_part part) → Each HasSpans (rows_of part)
  inside_have part h =
      let raw = out-PartTree part in
      let all : All (raw.span ∷ (if_given of_mode raw.mode ++ (of_union raw.body ++ if_given of_condition raw.condition))) = subst All (inside_spans part) h in
      rows_have raw.body
      (first_part (of_union raw.body) (if_given of_condition raw.condition)
      (other_part (if_given of_mode raw.mode) (of_union raw.body ++ if_given of_condition raw.condition) all.1))

  -- ---- what is given for each factor

  module _ {A : Type 0} (giving : Giving A) (Q : A → Type 0)
      (vertex : (filler : Filler) → All (of_filler filler) → Q (giving.vertex filler))
      (edge : (direction : Direction) (filler : Filler) (q : Option Quantifier) → All (of_filler filler) → All (if_given of_quantifier q) → Q (giving.edge direction filler q))
      (part : (part : Part A) (q : Option Quantifier) → HasOwn part → All (if_given of_quantifier q) → AllByRecursion (AllByRecursion Q) part.body.operands
      → Q (giving.part part q))
    where
      abbrev IsGiven : Factor → Type 0
      IsGiven factor = HasSpans factor → Q (given_by giving factor)

      given_row : (factors : List Factor) → AllByRecursion IsGiven factors → AllByRecursion HasSpans factors → AllByRecursion Q (map (given_by giving) factors)
      given_row [] g h = tt
      given_row (f ∷ factors) g h = (g.0 h.0, given_row factors g.1 h.1)

      given_rows : (rows : List (List Factor)) → Each IsGiven rows → Each HasSpans rows → AllByRecursion (AllByRecursion Q) (map (map (given_by giving)) rows)
      given_rows [] g h = tt
      given_rows (row ∷ rows) g h = (given_row row g.0 h.0, given_rows rows g.1 h.1)

      at_vertex : (filler : Filler) → IsGiven (v.Vertex filler)
      at_vertex filler h = subst Q (sym (given_vertex giving filler)) (vertex filler (subst All (vertex_spans filler) h))

      at_edge : (direction : Direction) (filler : Filler) (q : Option Quantifier) → IsGiven (v.Edge direction filler q)
      at_edge direction filler q h =
          let all : All (of_filler filler ++ if_given of_quantifier q) = subst All (edge_spans direction filler q) h in
          subst Q (sym (given_edge giving direction filler q))
          (edge direction filler q (first_part (of_filler filler) (if_given of_quantifier q) all) (other_part (of_filler filler) (if_given of_quantifier q) all))

      at_part : (p : PartTree) (q : Option Quantifier) → Each IsGiven (rows_of p) → IsGiven (v.Part p q)
      at_part p q g h =
          let all : All (of_part p ++ if_given of_quantifier q) = subst All (part_spans p q) h in
          let own : All (of_part p) = first_part (of_part p) (if_given of_quantifier q) all in
          subst Q (sym (given_part giving p q))
          (part (part_given giving p) q (own_have giving p own) (other_part (of_part p) (if_given of_quantifier q) all)
          (subst (AllByRecursion (AllByRecursion Q)) (sym (part_operands giving p)) (given_rows (rows_of p) g (inside_have p own))))

      each_given : (factor : Factor) → IsGiven factor
      each_given = each_factor IsGiven at_vertex at_edge at_part

      row_given : (factors : List Factor) → AllByRecursion IsGiven factors
      row_given [] = tt
      row_given (f ∷ factors) = (each_given f, row_given factors)

      all_given : (rows : List (List Factor)) → Each IsGiven rows
      all_given [] = tt
      all_given (row ∷ rows) = (row_given row, all_given rows)

      -- and so for each factor of each sequence of a union
      pub union_given : (union : Union) → All (of_union union) → AllByRecursion (AllByRecursion Q) (body_given giving union).operands
      union_given union h =
          subst (AllByRecursion (AllByRecursion Q)) (sym (operands_given giving union)) (given_rows (rows_in union) (all_given (rows_in union)) (rows_have union h))
