-- The conditions inside the patterns of the grammar are spelled.
use Rattle.std.proofs.Common.{◌≡◌, sym, ap, subst, ◌∙◌, Bool, true, false, Option, Some, None, option_to_list, List, [], ◌∷◌, map}
use Rattle.std.specs.List.{AllByRecursion, flat_map}
use Rattle.pgq_base.specs.declared.refusal.Span.{Span}
use Rattle.graph_ast.specs.declared.query.Condition.{Condition}
use Rattle.graph_ast.specs.declared.query.Joint.{Joint}
use Rattle.graph_ast.specs.declared.query.PathTree.{PathTree}
use Rattle.graph_ast.specs.declared.query.Quantifier.{Quantifier}
use Rattle.graph_ast.specs.declared.query.Factor.{Factor}
use Rattle.graph_ast.specs.declared.query.PartTree.{rolls-PartTree', fold-roll-PartTree}
use Rattle.graph_ast.specs.declared.query.Sequence.{Sequence, fold-roll-Sequence}
use Rattle.graph_ast.specs.declared.query.Union.{Union, roll-Union, fold-roll-Union}
use Rattle.graph_ast.specs.Patterns.{Body, Part, Giving, factor_step, part_step, sequence_step, body_step, given_by, part_given, sequence_given, body_given}
use Rattle.condition_grammar.specs.Conditions.{Inside}
use Rattle.pattern_check.specs.Scopes.{row_conditions, body_conditions, part_conditions, conditions, path_conditions}
use Rattle.pattern_check.proofs.Factors.{together, given_vertex, given_edge, given_part}
use Rattle.pattern_parser.specs.Insides.{Own, HeldOwn, Production}
use Rattle.pattern_parser.specs.Patterns.{in_square, pointed, edge_end, wave_end, dashed, waved, left_edge, edge, node_of, placed, reach_over, part_of, part_at, vertex_at}
use Rattle.pattern_parser.specs.Patterns.{edge_at, part_or_vertex, factor, sequence_of, sequence, Joined, joint_in, operand_in, sequence_in, union_of, union, path}
use Rattle.token_marks.specs.declared.mark.Mark.{Mark}
use Rattle.plain_queries.proofs.SpelledTrees.{is_spelled}
use Rattle.plain_queries.proofs.RuleValues.{Parts, Of, Given, Gives, Any, Pair, IfGiven, Each, any_gives, mapped_gives, seq_gives, either_gives, opt_gives, many_gives}
use Rattle.plain_queries.proofs.RuleValues.{nest_gives, fork_gives}

-- ---- what the parser has in its hands, which other crates name by the rules that give it

abbrev ValueOf : {V : Type 0} → Production V → Type 0
ValueOf {V} rule = V

abbrev pub Content : Type 0
Content = HeldOwn Own.filler

abbrev pub PartContent : Type 0
PartContent = HeldOwn Own.part

abbrev EdgeEnd : Type 0
EdgeEnd = ValueOf wave_end

abbrev EdgePattern : Type 0
EdgePattern = ValueOf edge

abbrev PlacedFactor : Type 0
PlacedFactor = ValueOf factor

abbrev PlacedSequence : Type 0
PlacedSequence = ValueOf sequence

abbrev pub PlacedUnion : Type 0
PlacedUnion = ValueOf union

-- ---- conditions

abbrev pub IsSpelled : Of Condition
IsSpelled condition = is_spelled condition.tree ≡ true

abbrev pub AreSpelled : List Condition → Type 0
AreSpelled = AllByRecursion IsSpelled

pub option_spelled : (condition : Option Condition) → IfGiven IsSpelled condition → AreSpelled (option_to_list condition)
option_spelled None h = tt
option_spelled (Some condition) h = (h, tt)

-- ---- what is given for each form of pattern

module _ {A : Type 0} (giving : Giving A) where
  part_is : (c : PartContent) (span : Span) → part_given giving (part_of c span) ≡ record { mode = c.mode; body = body_given giving c.body; condition = c.condition; span = span }
  part_is c span =
      ap (part_given giving) (sym (rolls-PartTree' (record { mode = c.mode; body = c.body; condition = c.condition; span = span })))
      ∙ fold-roll-PartTree A (Part A) (List A) (Body A) (factor_step giving) part_step sequence_step body_step
      (record { mode = c.mode; body = c.body; condition = c.condition; span = span })

  sequence_is : (factors : List Factor) → sequence_given giving (sequence_of factors) ≡ map (given_by giving) factors
  sequence_is factors = fold-roll-Sequence A (Part A) (List A) (Body A) (factor_step giving) part_step sequence_step body_step (record { factors = factors })

  union_is : (operands : List Sequence) (joints : List Joint)
      → body_given giving (roll-Union (record { operands = operands; joints = joints })) ≡ record { operands = map (sequence_given giving) operands; joints = joints }
  union_is operands joints =
      fold-roll-Union A (Part A) (List A) (Body A) (factor_step giving) part_step sequence_step body_step (record { operands = operands; joints = joints })

abbrev in_factor : Factor → List Condition
in_factor = given_by conditions

abbrev in_sequence : Sequence → List Condition
in_sequence sequence = row_conditions (sequence_given conditions sequence)

abbrev in_union : Union → List Condition
in_union union = body_conditions (body_given conditions union)

-- ---- what holds of each

abbrev pub ContentSpelled : Of Content
ContentSpelled c = IfGiven IsSpelled c.condition

abbrev EndSpelled : Of EdgeEnd
EndSpelled e = ContentSpelled e.content

abbrev EdgeSpelled : Of EdgePattern
EdgeSpelled e = IfGiven IsSpelled e.filler.condition

abbrev pub PartSpelled : Of PartContent
PartSpelled c = AreSpelled (in_union c.body) × IfGiven IsSpelled c.condition

abbrev FactorSpelled : Of PlacedFactor
FactorSpelled x = AreSpelled (in_factor x.node)

abbrev SequenceSpelled : Of PlacedSequence
SequenceSpelled x = AreSpelled (in_sequence x.node)

abbrev pub UnionSpelled : Of PlacedUnion
UnionSpelled x = AreSpelled (in_union x.node)

abbrev pub PathSpelled : Of PathTree
PathSpelled path = AreSpelled (path_conditions path)

vertex_spelled : (first last : Span) (c : Content) → ContentSpelled c → FactorSpelled (vertex_at first last c)
vertex_spelled first last c h = subst AreSpelled (sym (given_vertex conditions _)) (option_spelled c.condition h)

edge_factor_spelled : (e : EdgePattern) (q : Option Quantifier) → EdgeSpelled e → FactorSpelled (edge_at e q)
edge_factor_spelled e q h = subst AreSpelled (sym (given_edge conditions e.direction e.filler q)) (option_spelled e.filler.condition h)

part_spelled : (first last : Span) (c : PartContent) (q : Option Quantifier) → PartSpelled c → FactorSpelled (part_at first last c q)
part_spelled first last c q h =
    subst AreSpelled (sym (given_part conditions (part_of c _) q ∙ ap part_conditions (part_is conditions c _)))
    (together IsSpelled (in_union c.body) (option_to_list c.condition) h.0 (option_spelled c.condition h.1))

factors_spelled : (xs : List PlacedFactor) → Each FactorSpelled xs → AreSpelled (row_conditions (map in_factor (map node_of xs)))
factors_spelled [] h = tt
factors_spelled (x ∷ xs) h = together IsSpelled (in_factor x.node) (row_conditions (map in_factor (map node_of xs))) h.0 (factors_spelled xs h.1)

sequence_spelled : (d : PlacedFactor × List PlacedFactor) (span : Span) → FactorSpelled d.0 → Each FactorSpelled d.1
    → SequenceSpelled (placed (sequence_of (d.0.node ∷ map node_of d.1)) span)
sequence_spelled d span first rest =
    subst (λ row. AreSpelled (row_conditions row)) (sym (sequence_is conditions (d.0.node ∷ map node_of d.1))) (factors_spelled (d.0 ∷ d.1) (first, rest))

abbrev BehindJoint : Of Joined
BehindJoint = Pair Any SequenceSpelled

operands_spelled : (more : List Joined) → Each BehindJoint more → AreSpelled (flat_map row_conditions (map (sequence_given conditions) (map sequence_in more)))
operands_spelled [] h = tt
operands_spelled (d ∷ more) h =
    together IsSpelled (in_sequence d.1.node) (flat_map row_conditions (map (sequence_given conditions) (map sequence_in more))) h.0.1 (operands_spelled more h.1)

union_spelled : (d : PlacedSequence × List Joined) (span : Span) → SequenceSpelled d.0 → Each BehindJoint d.1 → UnionSpelled (placed (union_of d.0.node d.1) span)
union_spelled d span first rest =
    subst (λ body. AreSpelled (body_conditions body)) (sym (union_is conditions (d.0.node ∷ map sequence_in d.1) (map joint_in d.1)))
    (together IsSpelled (in_sequence d.0.node) (flat_map row_conditions (map (sequence_given conditions) (map sequence_in d.1))) first (operands_spelled d.1 rest))

-- ---- edges

pointed_spelled : (c : Content) (last : Span) (arrow : Option Span) → ContentSpelled c → EndSpelled (pointed c last arrow)
pointed_spelled c last None h = h
pointed_spelled c last (Some arrow) h = h

dashed_spelled : (left : Bool) (first line : Span) (e : Option EdgeEnd) → IfGiven EndSpelled e → EdgeSpelled (dashed left first line e)
dashed_spelled left first line None h = tt
dashed_spelled left first line (Some e) h = h

waved_spelled : (first line : Span) (e : Option EdgeEnd) → IfGiven EndSpelled e → EdgeSpelled (waved first line e)
waved_spelled first line None h = tt
waved_spelled first line (Some e) h = h

abbrev EdgeBehind : Of (Span → EdgePattern)
EdgeBehind f = (first : Span) → EdgeSpelled (f first)

-- ---- the productions

module _ {b : Parts} (filler : Given (b (Inside.own Own.filler)) ContentSpelled) where
  square_spelled : Gives b in_square ContentSpelled
  square_spelled = mapped_gives (nest_gives (Inside.own Own.filler) ContentSpelled filler) (λ d h. h)

  end_spelled : (line : Mark) → Gives b (edge_end line) EndSpelled
  unfolding edge_end
  end_spelled line = either_gives (mapped_gives any_gives (λ s h. tt)) (mapped_gives (seq_gives square_spelled any_gives) (λ d h. pointed_spelled d.0 d.1.0 d.1.1 h.0))

  wave_spelled : Gives b wave_end EndSpelled
  unfolding wave_end
  wave_spelled = mapped_gives (seq_gives square_spelled any_gives) (λ d h. h.0)

  left_spelled : Gives b left_edge EdgeBehind
  unfolding left_edge
  left_spelled = either_gives (mapped_gives (seq_gives any_gives (opt_gives (end_spelled _))) (λ d h first. dashed_spelled true first d.0 d.1 h.1))
      (mapped_gives (seq_gives any_gives (opt_gives wave_spelled)) (λ d h first. waved_spelled first d.0 d.1 h.1))

  edge_spelled : Gives b edge EdgeSpelled
  unfolding edge
  edge_spelled = either_gives (mapped_gives (seq_gives any_gives (opt_gives (end_spelled _))) (λ d h. dashed_spelled false d.0 d.0 d.1 h.1))
      (either_gives (mapped_gives (seq_gives any_gives (opt_gives (end_spelled _))) (λ d h. waved_spelled d.0 d.0 d.1 h.1))
      (mapped_gives (seq_gives any_gives left_spelled) (λ d h. h.1 d.0)))

module _ {b : Parts} (filler : Given (b (Inside.own Own.filler)) ContentSpelled) (part : Given (b (Inside.own Own.part)) PartSpelled) where
  part_or_vertex_spelled : Gives b part_or_vertex FactorSpelled
  unfolding part_or_vertex
  part_or_vertex_spelled = fork_gives PartSpelled ContentSpelled part filler (λ first d h. part_spelled first d.1.0 d.0 d.1.1 h) (λ first d h. vertex_spelled first d.1 d.0 h)

  factor_spelled : Gives b factor FactorSpelled
  unfolding factor
  factor_spelled = either_gives part_or_vertex_spelled (mapped_gives (seq_gives (edge_spelled filler) any_gives) (λ d h. edge_factor_spelled d.0 d.1 h.0))

  in_order_spelled : Gives b sequence SequenceSpelled
  unfolding sequence
  in_order_spelled = mapped_gives (seq_gives factor_spelled (many_gives factor_spelled)) (λ d h. sequence_spelled d (reach_over d.0 d.1) h.0 h.1)

  pub joined_spelled : Gives b union UnionSpelled
  unfolding union
  joined_spelled = mapped_gives (seq_gives in_order_spelled (many_gives (seq_gives any_gives in_order_spelled)))
      (λ d h. union_spelled d (reach_over d.0 (map operand_in d.1)) h.0 h.1)

  pub path_spelled : Gives b path PathSpelled
  unfolding path
  path_spelled = mapped_gives (seq_gives any_gives (seq_gives any_gives joined_spelled)) (λ d h. h.1.1)
