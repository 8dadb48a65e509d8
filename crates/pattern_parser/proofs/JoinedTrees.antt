-- The unions of a tree that is spelled have one joint less than operands.
use Rattle.std.proofs.Common.{◌≡◌, refl, sym, ap, subst, ◌∙◌, ℕ, zero, suc, nat_eq, ◌≤◌, Bool, true, false, ◌&&◌, Option, Some, None, List, [], ◌∷◌, map, length}
use Rattle.std.specs.List.{AllByRecursion, list_all}
use Rattle.std.specs.Cmp.{nat_eq_equiv}
use Rattle.pgq_base.specs.declared.refusal.Span.{Span}
use Rattle.sql_lexer.specs.declared.token.Token.{Token}
use Rattle.sql_lexer.specs.Texts.{AreInOrder}
use Rattle.graph_ast.specs.declared.query.Filler.{Filler}
use Rattle.graph_ast.specs.declared.query.Direction.{Direction}
use Rattle.graph_ast.specs.declared.query.Joint.{Joint}
use Rattle.graph_ast.specs.declared.query.PathTree.{PathTree}
use Rattle.graph_ast.specs.declared.query.QueryTree.{QueryTree}
use Rattle.graph_ast.specs.declared.query.Quantifier.{Quantifier}
use Rattle.graph_ast.specs.declared.query.Factor.{Factor, Factor-F, fold-roll-Factor}
use Rattle.graph_ast.specs.declared.query.Factor.TheVariants as factor_is
use Rattle.graph_ast.specs.declared.query.PartTree.{PartTree, rolls-PartTree', fold-roll-PartTree}
use Rattle.graph_ast.specs.declared.query.Sequence.{Sequence, fold-roll-Sequence}
use Rattle.graph_ast.specs.declared.query.Union.{Union, roll-Union, fold-roll-Union}
use Rattle.graph_ast.specs.Patterns.{Body, Part, factor_step, part_step, sequence_step, body_step, given_by, part_given, sequence_given, body_given, is_joined, joining, IsJoined}
use Rattle.token_grammar.specs.Rules.{within}
use Rattle.token_reading.specs.Tokens.{class}
use Rattle.condition_grammar.specs.Conditions.{Inside}
use Rattle.pattern_parser.specs.declared.pieces.Content.{Content}
use Rattle.pattern_parser.specs.declared.pieces.EdgePattern.{EdgePattern}
use Rattle.pattern_parser.specs.declared.pieces.PartContent.{PartContent}
use Rattle.pattern_parser.specs.declared.pieces.Placed.{Placed}
use Rattle.pattern_parser.specs.Insides.{Own, HeldInside, Production, list, after, parens}
use Rattle.pattern_parser.specs.Patterns.{node_of, placed, reach_over, part_of, part_at, part_or_vertex, factor, sequence_of, sequence, Joined, joint_in, operand_in, sequence_in}
use Rattle.pattern_parser.specs.Patterns.{union_of, union, path}
use Rattle.pattern_parser.specs.Queries.{part, table, query, inside}
use Rattle.pattern_parser.specs.Outcomes.{SpellsQuery}
use Rattle.pattern_parser.proofs.Ranges.{Holds, Anything, Both, Chain, Given, Gives, Bracketed, any_gives, mapped_gives, seq_gives, either_gives, many_gives, nest_gives}
use Rattle.pattern_parser.proofs.Ranges.{fork_gives}

-- ---- each form of pattern

vertex_joined : (filler : Filler) → given_by joining (factor_is.Vertex filler) ≡ true
vertex_joined filler =
    ap (given_by joining) (sym (factor_is.rolls-Vertex filler)) ∙ fold-roll-Factor Bool (Part Bool) (List Bool) (Body Bool) (factor_step joining) part_step sequence_step
    body_step (Factor-F.Vertex filler)

edge_joined : (direction : Direction) (filler : Filler) (q : Option Quantifier) → given_by joining (factor_is.Edge direction filler q) ≡ true
edge_joined direction filler q =
    ap (given_by joining) (sym (factor_is.rolls-Edge direction filler q))
    ∙ fold-roll-Factor Bool (Part Bool) (List Bool) (Body Bool) (factor_step joining) part_step sequence_step body_step (Factor-F.Edge direction filler q)

part_joined : (p : PartTree) (q : Option Quantifier) → given_by joining (factor_is.Part p q) ≡ is_joined (part_given joining p).body
part_joined p q =
    ap (given_by joining) (sym (factor_is.rolls-Part p q)) ∙ fold-roll-Factor Bool (Part Bool) (List Bool) (Body Bool) (factor_step joining) part_step sequence_step body_step
    (Factor-F.Part p q)

part_body : (c : PartContent) (span : Span) → (part_given joining (part_of c span)).body ≡ body_given joining c.body
part_body c span =
    ap (λ (p : PartTree). (part_given joining p).body) (sym (rolls-PartTree' (record { mode = c.mode; body = c.body; condition = c.condition; span = span })))
    ∙ ap (λ (p : Part Bool). p.body) (fold-roll-PartTree Bool (Part Bool) (List Bool) (Body Bool) (factor_step joining) part_step sequence_step body_step
    (record { mode = c.mode; body = c.body; condition = c.condition; span = span }))

sequence_is : (factors : List Factor) → sequence_given joining (sequence_of factors) ≡ map (given_by joining) factors
sequence_is factors = fold-roll-Sequence Bool (Part Bool) (List Bool) (Body Bool) (factor_step joining) part_step sequence_step body_step (record { factors = factors })

union_is : (operands : List Sequence) (joints : List Joint) → body_given joining (roll-Union (record { operands = operands; joints = joints }))
    ≡ record { operands = map (sequence_given joining) operands; joints = joints }
union_is operands joints = fold-roll-Union Bool (Part Bool) (List Bool) (Body Bool) (factor_step joining) part_step sequence_step body_step
    (record { operands = operands; joints = joints })

-- ---- what holds of each

abbrev FactorJoined : Holds (Placed Factor)
FactorJoined at end x = given_by joining x.node ≡ true

abbrev AllTrue : List Bool → Type 0
AllTrue bs = list_all (λ b. b) bs ≡ true

abbrev SequenceJoined : Holds (Placed Sequence)
SequenceJoined at end x = AllTrue (sequence_given joining x.node)

abbrev UnionJoined : Holds (Placed Union)
UnionJoined at end x = is_joined (body_given joining x.node) ≡ true

abbrev ContentJoined : Holds PartContent
ContentJoined at end c = is_joined (body_given joining c.body) ≡ true

abbrev PathJoined : Holds PathTree
PathJoined at end p = IsJoined p

abbrev TreeJoined : Holds QueryTree
TreeJoined at end tree = AllByRecursion IsJoined tree.paths

both_true : (a b : Bool) → a ≡ true → b ≡ true → (a && b) ≡ true
both_true true b h i = i
both_true false b h i = absurd cc

factors_joined : (at end : ℕ) (xs : List (Placed Factor)) → Chain FactorJoined at end xs → AllTrue (map (given_by joining) (map node_of xs))
factors_joined at end [] h = refl
factors_joined at end (x ∷ xs) (middle, l, u, first, rest) =
    both_true (given_by joining x.node) (list_all (λ b. b) (map (given_by joining) (map node_of xs))) first (factors_joined middle end xs rest)

sequence_joined : (at end : ℕ) (d : Placed Factor × List (Placed Factor)) (span : Span) → Both FactorJoined (Chain FactorJoined) at end d →
    SequenceJoined at end (placed (sequence_of (d.0.node ∷ map node_of d.1)) span)
sequence_joined at end d span h =
    ap (list_all (λ b. b)) (sequence_is (d.0.node ∷ map node_of d.1))
    ∙ both_true (given_by joining d.0.node) (list_all (λ b. b) (map (given_by joining) (map node_of d.1))) h.first (factors_joined h.middle end d.1 h.second)

abbrev BehindJoint : Holds Joined
BehindJoint = Both Anything SequenceJoined

operands_joined : (at end : ℕ) (more : List Joined) → Chain BehindJoint at end more → list_all (list_all (λ b. b)) (map (sequence_given joining) (map sequence_in more)) ≡ true
operands_joined at end [] h = refl
operands_joined at end (d ∷ more) (middle, l, u, first, rest) =
    both_true (list_all (λ b. b) (sequence_given joining d.1.node)) (list_all (list_all (λ b. b)) (map (sequence_given joining) (map sequence_in more))) first.second
    (operands_joined middle end more rest)

nat_eq_refl : (n : ℕ) → nat_eq n n ≡ true
nat_eq_refl n = nat_eq_equiv.refl n

as_long : (more : List Joined) → length (map (sequence_given joining) (map sequence_in more)) ≡ length (map joint_in more)
as_long [] = refl
as_long (d ∷ more) = ap suc (as_long more)

as_many : (more : List Joined) → nat_eq (suc (length (map (sequence_given joining) (map sequence_in more)))) (suc (length (map joint_in more))) ≡ true
as_many more = subst (λ n. nat_eq (suc (length (map (sequence_given joining) (map sequence_in more)))) (suc n) ≡ true) (as_long more)
    (nat_eq_refl (suc (length (map (sequence_given joining) (map sequence_in more)))))

union_joined : (at end : ℕ) (d : Placed Sequence × List Joined) (span : Span) → Both SequenceJoined (Chain BehindJoint) at end d
    → UnionJoined at end (placed (union_of d.0.node d.1) span)
union_joined at end d span h =
    let own = sequence_given joining d.0.node in
    let others = map (sequence_given joining) (map sequence_in d.1) in
    ap is_joined (union_is (d.0.node ∷ map sequence_in d.1) (map joint_in d.1))
    ∙ both_true (nat_eq (length (own ∷ others)) (suc (length (map joint_in d.1)))) (list_all (list_all (λ b. b)) (own ∷ others)) (as_many d.1)
    (both_true (list_all (λ b. b) own) (list_all (list_all (λ b. b)) others) h.first (operands_joined h.middle end d.1 h.second))

part_at_joined : (first last : Span) (c : PartContent) (q : Option Quantifier) → is_joined (body_given joining c.body) ≡ true → given_by joining (part_at first last c q).node
    ≡ true
part_at_joined first last c q h = part_joined (part_of c _) q ∙ ap is_joined (part_body c _) ∙ h

paths_joined : (at end : ℕ) (paths : List PathTree) → Chain PathJoined at end paths → AllByRecursion IsJoined paths
paths_joined at end [] h = tt
paths_joined at end (p ∷ paths) (middle, l, u, first, rest) = (first, paths_joined middle end paths rest)

abbrev HeldJoined : (k : Inside Own) → Holds (HeldInside k)
HeldJoined Inside.condition = Anything
HeldJoined Inside.operands = Anything
HeldJoined Inside.members = Anything
HeldJoined (Inside.own Own.filler) = Anything
HeldJoined (Inside.own Own.part) = ContentJoined
HeldJoined (Inside.own Own.label_group) = Anything
HeldJoined (Inside.own Own.variables) = Anything
HeldJoined (Inside.own Own.counted) = Anything
HeldJoined (Inside.own Own.property) = Anything
HeldJoined (Inside.own Own.items) = Anything
HeldJoined (Inside.own Own.table) = TreeJoined

module _ (n : ℕ) (inner : (k : Inside Own) → Given (within class inside n k) (HeldJoined k)) where
  part_or_vertex_joined : Gives n part_or_vertex FactorJoined
  unfolding part_or_vertex
  part_or_vertex_joined = fork_gives n ContentJoined Anything (inner (Inside.own Own.part)) (any_gives n) (inner (Inside.own Own.filler))
      (λ at x y z end first d h l i j u k. part_at_joined first d.1.0 d.0 d.1.1 i) (λ at x y end first d h l i j. vertex_joined _)

  factor_joined : Gives n factor FactorJoined
  unfolding factor
  factor_joined = either_gives n part_or_vertex_joined (mapped_gives n (any_gives n) (λ at end le d h. edge_joined d.0.direction d.0.filler d.1))

  in_sequence : Gives n sequence SequenceJoined
  unfolding sequence
  in_sequence = mapped_gives n (seq_gives n factor_joined (many_gives n factor_joined)) (λ at end le d h. sequence_joined at end d (reach_over d.0 d.1) h)

  in_union : Gives n union UnionJoined
  unfolding union
  in_union = mapped_gives n (seq_gives n in_sequence (many_gives n (seq_gives n (any_gives n) in_sequence)))
      (λ at end le d h. union_joined at end d (reach_over d.0 (map operand_in d.1)) h)

  in_path : Gives n path PathJoined
  unfolding path
  in_path = mapped_gives n (seq_gives n (any_gives n) (seq_gives n (any_gives n) in_union)) (λ at end le d h. h.second.second)

  in_part : Gives n part ContentJoined
  unfolding part
  in_part = mapped_gives n (seq_gives n (any_gives n) (seq_gives n in_union (any_gives n))) (λ at end le d h. h.second.first)

  in_list : Gives n (list path) (λ at end paths. AllByRecursion IsJoined paths)
  in_list = mapped_gives n (seq_gives n in_path (many_gives n (mapped_gives n (seq_gives n (any_gives n) in_path) (λ at end le d h. h.second))))
      (λ at end le d h. (h.first, paths_joined h.middle end d.1 h.second))

  in_table : Gives n table TreeJoined
  unfolding table
  in_table = mapped_gives n (seq_gives n (any_gives n) (seq_gives n (any_gives n) (seq_gives n in_list (seq_gives n (any_gives n) (any_gives n)))))
      (λ at end le d h. h.second.second.first)

  inside_joined : (k : Inside Own) → Gives n (inside k) (HeldJoined k)
  inside_joined Inside.condition = any_gives n
  inside_joined Inside.operands = any_gives n
  inside_joined Inside.members = any_gives n
  inside_joined (Inside.own Own.filler) = any_gives n
  inside_joined (Inside.own Own.part) = in_part
  inside_joined (Inside.own Own.label_group) = any_gives n
  inside_joined (Inside.own Own.variables) = any_gives n
  inside_joined (Inside.own Own.counted) = any_gives n
  inside_joined (Inside.own Own.property) = any_gives n
  inside_joined (Inside.own Own.items) = any_gives n
  inside_joined (Inside.own Own.table) = in_table

  behind : {V W : Type 0} (Q : V → Type 0) {x : Production W} {r : Production V} → Gives n r (λ at end v. Q v) → Gives n (after x r) (λ at end v. Q v)
  behind Q g = mapped_gives n (seq_gives n (any_gives n) g) (λ at end le d h. h.second)

  abbrev AreJoined : QueryTree → Type 0
  AreJoined tree = AllByRecursion IsJoined tree.paths

  in_parens : Gives n (parens Own.table) (λ at end tree. AreJoined tree)
  in_parens = mapped_gives n (nest_gives n {P = TreeJoined} (inner (Inside.own Own.table))) (λ at end le d h. h.held)

  in_query : Gives n query (λ at end tree. AreJoined tree)
  unfolding query
  in_query = behind AreJoined (behind AreJoined (behind AreJoined (behind AreJoined
      (mapped_gives n (seq_gives n {P = λ at end tree. AreJoined tree} in_parens (any_gives n)) (λ at end le d h. h.first)))))

-- what stands between brackets, however deep
inner_joined : (n : ℕ) (k : Inside Own) → Given (within class inside n k) (HeldJoined k)
unfolding within
inner_joined zero k = λ d at end i. absurd d
inner_joined (suc n) k = (inside_joined n (inner_joined n) k).holds

pub paths_are_joined : (end : ℕ) (ts : List Token) (tree : QueryTree) → AreInOrder 0 end ts → SpellsQuery ts tree → AllByRecursion IsJoined tree.paths
paths_are_joined end ts tree order (n, (d, is, means)) =
    subst (λ (t : QueryTree). AllByRecursion IsJoined t.paths) means ((in_query n (inner_joined n)).holds d 0 end (subst (AreInOrder 0 end) is order))
