-- The spans of parts, sequences, unions and paths stand between the places of their tokens.
use Rattle.std.proofs.Common.{◌≡◌, sym, ap, subst, ◌∙◌, ℕ, ◌≤◌, Option, Some, None, List, [], ◌∷◌, ◌++◌, append_assoc, map, arith}
use Rattle.pgq_base.specs.declared.refusal.Span.{Span}
use Rattle.expr_tree.specs.Leaves.{joined}
use Rattle.graph_ast.specs.declared.schema.Named.{Named}
use Rattle.graph_ast.specs.declared.query.Joint.{Joint}
use Rattle.graph_ast.specs.declared.query.ModeWord.{ModeWord}
use Rattle.graph_ast.specs.declared.query.Selector.{Selector}
use Rattle.graph_ast.specs.declared.query.SelectorKind.{SelectorKind}
use Rattle.graph_ast.specs.declared.query.Quantifier.{Quantifier}
use Rattle.graph_ast.specs.declared.query.Factor.{Factor, Factor-F, fold-roll-Factor}
use Rattle.graph_ast.specs.declared.query.Factor.TheVariants as factor_is
use Rattle.graph_ast.specs.declared.query.PartTree.{PartTree, rolls-PartTree', fold-roll-PartTree}
use Rattle.graph_ast.specs.declared.query.Sequence.{Sequence, fold-roll-Sequence}
use Rattle.graph_ast.specs.declared.query.Union.{Union, roll-Union, fold-roll-Union}
use Rattle.token_grammar.specs.Rules.{within}
use Rattle.token_marks.specs.declared.mark.Mark.TheVariants as m
use Rattle.token_reading.specs.Tokens.{class}
use Rattle.condition_grammar.specs.Spans.{reach}
use Rattle.condition_grammar.specs.Conditions.{Inside}
use Rattle.pattern_parser.specs.declared.pieces.Content.{Content}
use Rattle.pattern_parser.specs.declared.pieces.PartContent.{PartContent}
use Rattle.pattern_parser.specs.declared.pieces.EdgePattern.{EdgePattern}
use Rattle.pattern_parser.specs.declared.pieces.Placed.{Placed}
use Rattle.pattern_parser.specs.declared.pieces.Prefix.{Prefix}
use Rattle.pattern_parser.specs.Insides.{Own, number}
use Rattle.pattern_parser.specs.Patterns.{placed, node_of, last_place, reach_over, reach_with, part_of, part_at, vertex_at, edge_at, part_or_vertex, factor, sequence_of}
use Rattle.pattern_parser.specs.Patterns.{sequence, joint_of, joint, Joined, joint_in, operand_in, sequence_in, union_of, union, prefix_of, mode_and_noun, kind_of_any, any_of}
use Rattle.pattern_parser.specs.Patterns.{shortest_of, all_prefix, any_prefix, shortest_prefix, prefix, selector_in, mode_in as mode_of, path_from, path_of, path}
use Rattle.pattern_parser.specs.Queries.{inside}
use Rattle.graph_ast.specs.QuerySpans.{if_given, of_name, of_mode, of_quantifier, of_filler, of_condition, of_factor, of_part, of_sequence, of_union, of_selector, of_path}
use Rattle.graph_ast.specs.QuerySpans.{factor_step, part_step, sequence_step, union_step}
use Rattle.pattern_parser.proofs.Ranges.{In, AllIn, Holds, Both, IfGiven, Chain, Given, Gives, any_gives, one_gives, mapped_gives, seq_gives, either_gives, opt_gives, many_gives}
use Rattle.pattern_parser.proofs.Ranges.{fork_gives}
use Rattle.pattern_parser.proofs.SpanLists.{wider, reaches, all_wider, all_append, Spans, left_all, given_all}
use Rattle.pattern_parser.proofs.PatternSpans.{the_in, name_in, mode_in, mode_part_in, quantifier_in, of_content, EdgeIn, edge_in}

-- ---- the spans of each form of pattern

abbrev S : Type 0
S = List Span

vertex_spans : (c : Content) (span : Span) → of_factor (factor_is.Vertex (record { variable = c.variable; label = c.label; condition = c.condition; span = span })) ≡ span
    ∷ of_content c
vertex_spans c span = ap of_factor (sym (factor_is.rolls-Vertex _)) ∙ fold-roll-Factor S S S S factor_step part_step sequence_step union_step (Factor-F.Vertex _)

edge_spans : (e : EdgePattern) (q : Option Quantifier) → of_factor (factor_is.Edge e.direction e.filler q) ≡ of_filler e.filler ++ if_given of_quantifier q
edge_spans e q = ap of_factor (sym (factor_is.rolls-Edge e.direction e.filler q)) ∙ fold-roll-Factor S S S S factor_step part_step sequence_step union_step
    (Factor-F.Edge e.direction e.filler q)

part_factor_spans : (p : PartTree) (q : Option Quantifier) → of_factor (factor_is.Part p q) ≡ of_part p ++ if_given of_quantifier q
part_factor_spans p q = ap of_factor (sym (factor_is.rolls-Part p q)) ∙ fold-roll-Factor S S S S factor_step part_step sequence_step union_step (Factor-F.Part p q)

part_spans : (c : PartContent) (span : Span) → of_part (part_of c span) ≡ span ∷ (if_given of_mode c.mode ++ (of_union c.body ++ if_given of_condition c.condition))
part_spans c span = ap of_part (sym (rolls-PartTree' (record { mode = c.mode; body = c.body; condition = c.condition; span = span })))
    ∙ fold-roll-PartTree S S S S factor_step part_step sequence_step union_step (record { mode = c.mode; body = c.body; condition = c.condition; span = span })

sequence_spans : (factors : List Factor) → of_sequence (sequence_of factors) ≡ joined (map of_factor factors)
sequence_spans factors = fold-roll-Sequence S S S S factor_step part_step sequence_step union_step (record { factors = factors })

union_spans : (operands : List Sequence) (joints : List Joint) → of_union (roll-Union (record { operands = operands; joints = joints })) ≡ joined
    (map of_sequence operands) ++ map (λ (j : Joint). j.span) joints
union_spans operands joints = fold-roll-Union S S S S factor_step part_step sequence_step union_step (record { operands = operands; joints = joints })

-- ---- parts and vertices

abbrev pub of_placed : {A : Type 0} → (A → List Span) → Placed A → List Span
of_placed f x = x.span ∷ f x.node

abbrev pub of_part_content : PartContent → List Span
of_part_content c = if_given of_mode c.mode ++ (of_union c.body ++ if_given of_condition c.condition)

abbrev JointIn : Holds Joint
JointIn = Spans (λ j. j.span ∷ [])

reach_with_in : (at middle end : ℕ) (own : Span) (q : Option Quantifier) → middle ≤ end → In at middle own → IfGiven (Spans of_quantifier) middle end q →
    In at end (reach_with own q)
reach_with_in at middle end own None u h i = wider (omega arith) u h
reach_with_in at middle end own (Some q) u h i = reaches h i.0

part_at_in : (at x y z end : ℕ) (first : Span) (d : PartContent × (Span × Option Quantifier)) → In at x first → x ≤ y → AllIn x y (of_part_content d.0) → In y z d.1.0 → z ≤ end →
    IfGiven (Spans of_quantifier) z end d.1.1 → AllIn at end (of_placed of_factor (part_at first d.1.0 d.0 d.1.1))
part_at_in at x y z end first d h l i j u k =
    let own : In at z (reach first d.1.0) = reaches (wider (omega arith) l h) j in
    let spans = part_factor_spans (part_of d.0 (reach first d.1.0)) d.1.1 ∙ ap (λ s. s ++ if_given of_quantifier d.1.1) (part_spans d.0 (reach first d.1.0)) in (
      reach_with_in at z end (reach first d.1.0) d.1.1 u own k,
      subst (AllIn at end) (sym spans) (all_append at end (reach first d.1.0 ∷ of_part_content d.0) (if_given of_quantifier d.1.1)
          (wider (omega arith) u own, all_wider (omega (arith, h.from, h.ordered, h.to)) (omega (arith, j.from, j.ordered, j.to, u)) (of_part_content d.0) i)
          (all_wider (omega (arith, h.from, h.ordered, h.to, l, j.from, j.ordered, j.to)) (omega arith) (if_given of_quantifier d.1.1) (given_all of_quantifier z end d.1.1 k))),
    )

vertex_at_in : (at x y end : ℕ) (first : Span) (d : Content × Span) → In at x first → x ≤ y → AllIn x y (of_content d.0) → In y end d.1 →
    AllIn at end (of_placed of_factor (vertex_at first d.1 d.0))
vertex_at_in at x y end first d h l i j =
    let own : In at end (reach first d.1) = reaches (wider (omega arith) l h) j in (
      own,
      subst (AllIn at end) (sym (vertex_spans d.0 (reach first d.1)))
          (own, all_wider (omega (arith, h.from, h.ordered, h.to)) (omega (arith, j.from, j.ordered, j.to)) (of_content d.0) i),
    )

edge_at_in : (at middle end : ℕ) (e : EdgePattern) (q : Option Quantifier) → at ≤ middle → middle ≤ end → EdgeIn at middle e → IfGiven (Spans of_quantifier) middle end q →
    AllIn at end (of_placed of_factor (edge_at e q))
edge_at_in at middle end e q l u h i = (
  reach_with_in at middle end e.filler.span q u h.1 i,
  subst (AllIn at end) (sym (edge_spans e q)) (all_append at end (of_filler e.filler) (if_given of_quantifier q) (all_wider (omega arith) u (of_filler e.filler) h.0)
      (all_wider l (omega arith) (if_given of_quantifier q) (given_all of_quantifier middle end q i))),
)

-- ---- one behind the other

module _ {A : Type 0} (f : A → List Span) where
  last_reaches : (x : Placed A) (xs : List (Placed A)) (start middle end : ℕ) → start ≤ x.span.to → x.span.to ≤ middle → middle ≤ end → Chain (Spans (of_placed f)) middle end xs →
      (start ≤ (last_place x xs).to) × ((last_place x xs).to ≤ end)
  last_reaches x [] start middle end s t u h = (s, omega (arith, t, u))
  last_reaches x (y ∷ ys) start middle end s t u (next, l, v, first, rest) =
      last_reaches y ys start next end (omega (arith, s, t, first.0.from, first.0.ordered)) first.0.to v rest

  over_in : (at middle end : ℕ) (x : Placed A) (xs : List (Placed A)) → middle ≤ end → In at middle x.span → Chain (Spans (of_placed f)) middle end xs → In at end (reach_over x xs)
  over_in at middle end x xs u h i =
      let r = last_reaches x xs x.span.from middle end h.ordered h.to u i in
      record { from = h.from; ordered = r.0; to = r.1 }

  nodes_all : (at end : ℕ) (xs : List (Placed A)) → Chain (Spans (of_placed f)) at end xs → AllIn at end (joined (map f (map node_of xs)))
  nodes_all at end [] h = tt
  nodes_all at end (x ∷ xs) (middle, l, u, first, rest) =
      all_append at end (f x.node) (joined (map f (map node_of xs))) (all_wider (omega arith) u (f x.node) first.1)
      (all_wider l (omega arith) (joined (map f (map node_of xs))) (nodes_all middle end xs rest))

sequence_all : (at end : ℕ) (d : Placed Factor × List (Placed Factor)) → Both (Spans (of_placed of_factor)) (Chain (Spans (of_placed of_factor))) at end d →
    AllIn at end (of_placed of_sequence (placed (sequence_of (d.0.node ∷ map node_of d.1)) (reach_over d.0 d.1)))
sequence_all at end d h = (
  over_in of_factor at h.middle end d.0 d.1 h.upper h.first.0 h.second,
  subst (AllIn at end) (sym (sequence_spans (d.0.node ∷ map node_of d.1))) (all_append at end (of_factor d.0.node) (joined (map of_factor (map node_of d.1)))
      (all_wider (omega arith) h.upper (of_factor d.0.node) h.first.1) (all_wider h.lower (omega arith) (joined (map of_factor (map node_of d.1)))
      (nodes_all of_factor h.middle end d.1 h.second))),
)

joint_all : (at middle end : ℕ) (bar : Span) (last : Option Span) → middle ≤ end → In at middle bar → IfGiven In middle end last → JointIn at end (joint_of bar last)
joint_all at middle end bar None u h i = (wider (omega arith) u h, tt)
joint_all at middle end bar (Some last) u h i = (reaches h i, tt)

abbrev JoinedIn : Holds Joined
JoinedIn = Both JointIn (Spans (of_placed of_sequence))

operands_chain : (at end : ℕ) (more : List Joined) → Chain JoinedIn at end more → Chain (Spans (of_placed of_sequence)) at end (map operand_in more)
operands_chain at end [] h = tt
operands_chain at end (d ∷ more) (middle, l, u, first, rest) = (
  middle,
  l,
  u,
  all_wider first.lower (omega arith)
      (of_placed of_sequence d.1) first.second,
  operands_chain middle end more rest,
)

operands_all : (at end : ℕ) (more : List Joined) → Chain JoinedIn at end more → AllIn at end (joined (map of_sequence (map sequence_in more)))
operands_all at end [] h = tt
operands_all at end (d ∷ more) (middle, l, u, first, rest) =
    all_append at end (of_sequence d.1.node) (joined (map of_sequence (map sequence_in more))) (all_wider first.lower u (of_sequence d.1.node) first.second.1)
    (all_wider l (omega arith) (joined (map of_sequence (map sequence_in more))) (operands_all middle end more rest))

joints_all : (at end : ℕ) (more : List Joined) → Chain JoinedIn at end more → AllIn at end (map (λ (j : Joint). j.span) (map joint_in more))
joints_all at end [] h = tt
joints_all at end (d ∷ more) (middle, l, u, first, rest) = (
  wider (omega arith) (omega (arith, first.upper, u)) first.first.0,
  all_wider l (omega arith) (map (λ (j : Joint). j.span) (map joint_in more))
      (joints_all middle end more rest),
)

union_all : (at end : ℕ) (d : Placed Sequence × List Joined) → Both (Spans (of_placed of_sequence)) (Chain JoinedIn) at end d →
    AllIn at end (of_placed of_union (placed (union_of d.0.node d.1) (reach_over d.0 (map operand_in d.1))))
union_all at end d h = (
  over_in of_sequence at h.middle end d.0 (map operand_in d.1) h.upper h.first.0 (operands_chain h.middle end d.1 h.second),
  subst (AllIn at end) (sym (union_spans (d.0.node ∷ map sequence_in d.1) (map joint_in d.1)))
      (all_append at end (of_sequence d.0.node ++ joined (map of_sequence (map sequence_in d.1))) (map (λ (j : Joint). j.span) (map joint_in d.1))
      (all_append at end (of_sequence d.0.node) (joined (map of_sequence (map sequence_in d.1))) (all_wider (omega arith) h.upper (of_sequence d.0.node) h.first.1)
      (all_wider h.lower (omega arith) (joined (map of_sequence (map sequence_in d.1))) (operands_all h.middle end d.1 h.second)))
      (all_wider h.lower (omega arith) (map (λ (j : Joint). j.span) (map joint_in d.1)) (joints_all h.middle end d.1 h.second))),
)

-- ---- prefixes

record PrefixIn (at end : ℕ) (p : Prefix) : Type 0 where
  spans : AllIn at end (if_given of_selector p.selector ++ if_given of_mode p.mode)
  lower : at ≤ p.from
  upper : p.from ≤ end

-- a selector's words, and the mode behind them
prefix_of_in : (at middle end : ℕ) (kind : SelectorKind) (span : Span) (mode : Option ModeWord) → at ≤ middle → middle ≤ end → In at middle span →
    IfGiven (Spans of_mode) middle end mode → PrefixIn at end (prefix_of kind span mode)
prefix_of_in at middle end kind span mode l u h i = record {
  spans = (wider (omega arith) u h, all_wider l (omega arith) (if_given of_mode mode) (given_all of_mode middle end mode i));
  lower = h.from;
  upper = omega (arith, h.ordered, h.to, u);
}

any_of_in : (at x y end : ℕ) (word : Span) (s : Option Selector) (mode : Option ModeWord) → at ≤ x → x ≤ y → y ≤ end → In at x word → IfGiven (Spans of_selector) x y s →
    IfGiven (Spans of_mode) y end mode → PrefixIn at end (any_of word s mode)
any_of_in at x y end word None mode l v u h i j = prefix_of_in at y end _ word mode (omega (arith, l, v)) u (wider (omega arith) v h) j
any_of_in at x y end word (Some s) mode l v u h i j = prefix_of_in at y end _ (reach word s.span) mode (omega (arith, l, v)) u (reaches h i.0) j

-- the mode may stand between the number and GROUP
shortest_of_in : (at x y z end : ℕ) (word : Span) (count : ℕ × Span) (mode : Option ModeWord) (group : Option Span) → at ≤ x → x ≤ y → y ≤ z → z ≤ end → In at x word →
    In x y count.1 → IfGiven (Spans of_mode) y z mode →
    IfGiven In z end group → PrefixIn at end (shortest_of word count mode group)
shortest_of_in at x y z end word count mode None l v w u h i j k = prefix_of_in at y end _ (reach word count.1) mode (omega (arith, l, v)) (omega (arith, w, u))
    (reaches h i) (mode_wider mode j) where
      mode_wider : (o : Option ModeWord) → IfGiven (Spans of_mode) y z o → IfGiven (Spans of_mode) y end o
      mode_wider None q = tt
      mode_wider (Some o) q = all_wider (omega arith) u (of_mode o) q
shortest_of_in at x y z end word count mode (Some group) l v w u h i j k = record {
  spans = (reaches (wider (omega arith) (omega (arith, v, w)) h) k, all_wider (omega (arith, l, v)) u (if_given of_mode mode) (given_all of_mode y z mode j));
  lower = h.from;
  upper = omega (arith, h.ordered, h.to, v, w, u);
}

module _ (n : ℕ) where
  mode_and_noun_in : Gives n mode_and_noun (IfGiven (Spans of_mode))
  unfolding mode_and_noun
  mode_and_noun_in = mapped_gives n (seq_gives n (opt_gives n (mode_in n)) (any_gives n)) (λ at end le d h. by at h.middle end d.0 h.upper h.first) where
    by : (at middle end : ℕ) (o : Option ModeWord) → middle ≤ end → IfGiven (Spans of_mode) at middle o → IfGiven (Spans of_mode) at end o
    by at middle end None u h = tt
    by at middle end (Some o) u h = all_wider (omega arith) u (of_mode o) h

  number_in : Gives n number (λ at end d. In at end d.1)
  number_in = one_gives n (λ t at end h. h)

  kind_of_any_in : Gives n kind_of_any (Spans of_selector)
  unfolding kind_of_any
  kind_of_any_in = either_gives n (mapped_gives n (the_in n m.Shortest) (λ at end le s h. (h, tt))) (mapped_gives n number_in (λ at end le d h. (h, tt)))

  all_prefix_in : Gives n all_prefix PrefixIn
  unfolding all_prefix
  all_prefix_in = mapped_gives n (seq_gives n (the_in n m.All) (seq_gives n (the_in n m.Shortest) mode_and_noun_in))
      (λ at end le d h. prefix_of_in at h.second.middle end _ (reach d.0 d.1.0) d.1.1 (omega (arith, h.lower, h.second.lower)) h.second.upper
      (reaches h.first h.second.first) h.second.second)

  any_prefix_in : Gives n any_prefix PrefixIn
  unfolding any_prefix
  any_prefix_in = mapped_gives n (seq_gives n (the_in n m.Any) (seq_gives n (opt_gives n kind_of_any_in) mode_and_noun_in))
      (λ at end le d h. any_of_in at h.middle h.second.middle end d.0 d.1.0 d.1.1 h.lower h.second.lower h.second.upper h.first h.second.first h.second.second)

  shortest_prefix_in : Gives n shortest_prefix PrefixIn
  unfolding shortest_prefix
  shortest_prefix_in = mapped_gives n
      (seq_gives n (the_in n m.Shortest) (seq_gives n number_in (seq_gives n mode_and_noun_in (opt_gives n (either_gives n (the_in n m.Group) (the_in n m.Groups))))))
      (λ at end le d h. shortest_of_in at h.middle h.second.middle h.second.second.middle end d.0 d.1.0 d.1.1.0 d.1.1.1
      h.lower h.second.lower h.second.second.lower h.second.second.upper h.first h.second.first h.second.second.first h.second.second.second)

  prefix_in : Gives n prefix PrefixIn
  unfolding prefix
  prefix_in = either_gives n (mapped_gives n (mode_part_in n) (λ at end le mode h. record { spans = h; lower = h.0.from; upper = omega (arith, h.0.ordered, h.0.to) }))
      (either_gives n all_prefix_in (either_gives n any_prefix_in shortest_prefix_in))

-- ---- paths

path_span : (at x y end : ℕ) (v : Option Named) (p : Option Prefix) (body : Span) → at ≤ x → x ≤ y → y ≤ end → IfGiven (Spans of_name) at x v → IfGiven PrefixIn x y p →
    In y end body →
    In at end (record { from = path_from v p body; to = body.to })
path_span at x y end (Some v) p body l w u h i j = record { from = h.0.from; ordered = omega (arith, h.0.ordered, h.0.to, w, j.from, j.ordered); to = j.to }
path_span at x y end None (Some p) body l w u h i j = record { from = omega (arith, l, i.lower); ordered = omega (arith, i.upper, j.from, j.ordered); to = j.to }
path_span at x y end None None body l w u h i j = record { from = omega (arith, l, w, j.from); ordered = j.ordered; to = j.to }

prefix_spans : (at end : ℕ) (p : Option Prefix) → IfGiven PrefixIn at end p → AllIn at end (if_given of_selector (selector_in p) ++ if_given of_mode (mode_of p))
prefix_spans at end None h = tt
prefix_spans at end (Some p) h = h.spans

path_all : (at end : ℕ) (d : Option Named × (Option Prefix × Placed Union)) → Both (IfGiven (Spans of_name))
    (Both (IfGiven PrefixIn) (Spans (of_placed of_union))) at end d → AllIn at end (of_path (path_of d.0 d.1.0 d.1.1))
path_all at end d h =
    let s = if_given of_selector (selector_in d.1.0) in
    let o = if_given of_mode (mode_of d.1.0) in
    let b = of_union d.1.1.node in
    let rest : AllIn at end ((s ++ o) ++ b) = all_append at end (s ++ o) b (all_wider h.lower h.second.upper (s ++ o) (prefix_spans h.middle h.second.middle d.1.0 h.second.first))
    (all_wider (omega (arith, h.lower, h.second.lower)) (omega arith) b h.second.second.1) in (
      path_span at h.middle h.second.middle end d.0 d.1.0 d.1.1.span h.lower h.second.lower h.second.upper h.first h.second.first h.second.second.0,
      all_append at end (if_given of_name d.0) (s ++ (o ++ b)) (all_wider (omega arith) h.upper (if_given of_name d.0) (given_all of_name at h.middle d.0 h.first))
          (subst (AllIn at end) (append_assoc s o b) rest),
    )

module _ (n : ℕ) (part_inner : Given (within class inside n (Inside.own Own.part)) (Spans of_part_content))
    (filler_inner : Given (within class inside n (Inside.own Own.filler)) (Spans of_content)) where
  part_or_vertex_in : Gives n part_or_vertex (Spans (of_placed of_factor))
  unfolding part_or_vertex
  part_or_vertex_in = fork_gives n (Spans of_part_content) (Spans of_content) part_inner (opt_gives n (quantifier_in n)) filler_inner part_at_in vertex_at_in

  factor_in : Gives n factor (Spans (of_placed of_factor))
  unfolding factor
  factor_in = either_gives n part_or_vertex_in (mapped_gives n (seq_gives n (edge_in n filler_inner) (opt_gives n (quantifier_in n)))
      (λ at end le d h. edge_at_in at h.middle end d.0 d.1 h.lower h.upper h.first h.second))

  sequence_in_order : Gives n sequence (Spans (of_placed of_sequence))
  unfolding sequence
  sequence_in_order = mapped_gives n (seq_gives n factor_in (many_gives n factor_in)) (λ at end le d h. sequence_all at end d h)

  joint_in_order : Gives n joint JointIn
  unfolding joint
  joint_in_order = mapped_gives n
      (seq_gives n (the_in n m.VerticalBar)
      (opt_gives n (mapped_gives n (seq_gives n (any_gives n) (the_in n m.VerticalBar)) (λ at end le d h. wider h.lower (omega arith) h.second))))
      (λ at end le d h. joint_all at h.middle end d.0 d.1 h.upper h.first h.second)

  pub union_in : Gives n union (Spans (of_placed of_union))
  unfolding union
  union_in = mapped_gives n (seq_gives n sequence_in_order (many_gives n (seq_gives n joint_in_order sequence_in_order))) (λ at end le d h. union_all at end d h)

  pub path_in : Gives n path (Spans of_path)
  unfolding path
  path_in = mapped_gives n (seq_gives n (opt_gives n (mapped_gives n (seq_gives n (name_in n) (any_gives n)) (λ at end le d h. left_all of_name (λ a b i. i) h)))
      (seq_gives n (opt_gives n (prefix_in n)) union_in))
      (λ at end le d h. path_all at end d h)
