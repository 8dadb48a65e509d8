-- The spans of conditions stand between the places of their tokens: the productions.
use Rattle.std.proofs.Common.{ℕ, ◌≤◌, Bool, true, false, cond, bytes_eq, codes, Option, Some, List, [], ◌∷◌, flat_map, arith}
use Rattle.pgq_base.specs.declared.refusal.Span.{Span}
use Rattle.sql_lexer.specs.declared.token.Token.{Token}
use Rattle.expr_tree.specs.declared.tree.Test.{Test}
use Rattle.expr_tree.specs.declared.tree.Test.TheVariants as test_is
use Rattle.graph_ast.specs.declared.schema.Named.{Named}
use Rattle.graph_ast.specs.declared.query.PropertyRef.{PropertyRef}
use Rattle.graph_ast.specs.declared.query.ElementTest.{ElementTest}
use Rattle.graph_ast.specs.declared.query.ElementTest.TheVariants.{Same, AllDifferent, SourceOf, DestinationOf}
use Rattle.token_grammar.specs.Rules.{within}
use Rattle.token_grammar.specs.Rules.Rule.{one}
use Rattle.token_marks.specs.declared.mark.Mark.{Mark}
use Rattle.token_marks.specs.declared.mark.Mark.TheVariants as m
use Rattle.token_reading.specs.Tokens.{class, named}
use Rattle.condition_grammar.specs.Spans.{reach, Tail, unless_none, tested, ranged, listed, all_of}
use Rattle.condition_grammar.specs.Conditions as g
use Rattle.condition_grammar.specs.Conditions.{Inside}
use Rattle.pattern_parser.specs.Insides.{Own, HeldOwn, HeldInside, Production, list, after}
use Rattle.pattern_parser.specs.Tests.{Tree, OfName, is_plain, put_name, leaf_of, dotted, date_text, own_operand, test_tail, truth_test, with_tail, predicate, not_when, related}
use Rattle.pattern_parser.specs.Tests.{end_of_edge, relation, after_name, first_of, group_test, grouped, after_group_word, unnamed_operand, test_from, negation, conjunction}
use Rattle.pattern_parser.specs.Tests.{condition, more_members}
use Rattle.pattern_parser.specs.Queries.{inside}
use Rattle.pattern_parser.specs.declared.pieces.Counted.{Counted}
use Rattle.graph_ast.specs.QuerySpans.{if_given, of_name, of_names, of_test, of_label, of_item, of_tree}
use Rattle.pattern_parser.proofs.Ranges.{In, AllIn, Holds, Both, IfGiven, Chain, Given, Gives, Bracketed, any_gives, one_gives, mapped_gives, seq_gives, either_gives, opt_gives}
use Rattle.pattern_parser.proofs.Ranges.{many_gives, nest_gives}
use Rattle.pattern_parser.proofs.SpanLists.{wider, reaches, all_wider, Spans}
use Rattle.pattern_parser.proofs.PatternSpans.{the_in, name_in, after_in, of_content}
use Rattle.pattern_parser.proofs.PathSpans.{of_part_content}
use Rattle.pattern_parser.proofs.TreeIn.{TreeIn, tree_wider, literal_in, leaf_in, ListIn, list_wider, consed, chain_list, all_of_in, any_of_in, negated_in, not_if_in}
use Rattle.pattern_parser.proofs.TreeIn.{enclosed_in, TailIn, unless_none_in, compared_in, ranged_in, listed_in, tested_in, coalesced_in}

-- what is made of a name that stands before
abbrev pub NamesTree : Holds OfName
NamesTree at end f = (start : ℕ) (name : Named) → In start at name.span → TreeIn start end (f name)

-- a tail, for NOT or without it
abbrev pub SignedTail : Holds (Bool → Tail PropertyRef)
SignedTail at end f = (b : Bool) → TailIn at end (f b)

abbrev TokenIn : Holds Token
TokenIn at end t = In at end t.span

abbrev WordIn : Holds (Test × Span)
WordIn at end d = In at end d.1

-- a name that was read, and what is made of it
pub put_in : (at end : ℕ) (d : Named × OfName) → Both (Spans of_name) NamesTree at end d → TreeIn at end (put_name d)
put_in at end d h = h.second at d.0 h.first.0

unless_tree : (at end : ℕ) (d : Tree × Option (Tail PropertyRef)) → Both TreeIn (IfGiven TailIn) at end d → TreeIn at end (unless_none d.1 d.0)
unless_tree at end d h = unless_none_in h.middle h.middle end at d.1 d.0 (omega arith) h.upper h.first h.second

module _ (n : ℕ) where
  -- ---- literals and leaves

  literals_in : Gives n (g.literals PropertyRef Own HeldOwn) TreeIn
  unfolding g.literals
  literals_in = either_gives n (one_gives n (λ t at end h. literal_in at end t.span _ h))
      (either_gives n (mapped_gives n (seq_gives n (the_in n m.Minus) (one_gives n {P = TokenIn} (λ t at end h. h)))
      (λ at end le d h. literal_in at end (reach d.0 d.1.span) _ (reaches h.first h.second)))
      (either_gives n (one_gives n (λ t at end h. literal_in at end t.span _ h))
      (either_gives n (mapped_gives n (the_in n m.True) (λ at end le s h. literal_in at end s _ h))
      (mapped_gives n (the_in n m.False) (λ at end le s h. literal_in at end s _ h)))))

  dotted_in : Gives n dotted NamesTree
  unfolding g.dotted
  dotted_in = mapped_gives n (seq_gives n (the_in n m.Period) (name_in n)) (λ at end le d h start name i.
      let p : In at end d.1.span = wider h.lower (omega arith) h.second.0 in
      leaf_in start end (reach name.span d.1.span) (leaf_of name d.1) (reaches i p) (
        wider
            (omega arith) le i,
        (wider (omega (arith, i.from, i.ordered, i.to)) (omega arith) p, tt),
      ))

  date_text_in : Gives n date_text NamesTree
  unfolding g.date_text
  date_text_in = one_gives n (λ t at end h start name i. literal_in start end (reach name.span t.span) _ (reaches i h))

  pub named_in : {f : ℕ → Bool} → Gives n (one f named) (Spans of_name)
  named_in = one_gives n (λ t at end h. (h, tt))

  own_operand_in : Gives n own_operand TreeIn
  unfolding g.leaf_or_date
  own_operand_in = either_gives n (mapped_gives n (seq_gives n named_in dotted_in) (λ at end le d h. put_in at end d h))
      (mapped_gives n (seq_gives n named_in (either_gives n dotted_in date_text_in)) (λ at end le d h. put_in at end d h))

  -- ---- tests of truth

  word_in : (mark : Mark) (t : Test) → Gives n (g.word_for PropertyRef Own HeldOwn mark t) WordIn
  word_in mark t = mapped_gives n (the_in n mark) (λ at end le s h. h)

  truth_word_in : Gives n (g.truth_word PropertyRef Own HeldOwn) WordIn
  unfolding g.truth_word
  truth_word_in = either_gives n (word_in m.True test_is.True) (either_gives n (word_in m.False test_is.False) (word_in m.Unknown test_is.Unknown))

  truth_test_in : Gives n truth_test TailIn
  unfolding g.truth_test
  truth_test_in = mapped_gives n (seq_gives n (any_gives n) (seq_gives n (any_gives n) truth_word_in))
      (λ at end le d h start c i. tested_in start h.second.middle end d.1.1.0 d.1.0 d.1.1.1 c
      (omega (arith, h.lower, h.second.lower, i.own.from, i.own.ordered, i.own.to)) h.second.upper
      (tree_wider (omega arith) (omega (arith, h.lower, h.second.lower)) c i) h.second.second)

-- ---- predicates on elements

predicate_in : (at end : ℕ) (span : Span) (first w : Named) (t : ElementTest) → In at end span → In at end first.span → In at end w.span → AllIn at end (of_test t) →
    TreeIn at end (predicate span first w t)
predicate_in at end span first w t h i j k = leaf_in at end span (record { variable = first; property = w; test = Some t }) h (i, (j, k))

not_when_in : (at end : ℕ) (negated : Bool) (span : Span) (c : Tree) → In at end span → TreeIn at end c → TreeIn at end (not_when negated span c)
not_when_in at end false span c h i = i
not_when_in at end true span c h i = negated_in at end span c h i

-- of a vertex that stands before
abbrev RelatedIn : Holds (Bool → OfName)
RelatedIn at end f = (b : Bool) → NamesTree at end (f b)

source_in : (at end start : ℕ) (w edge vertex : Named) (b : Bool) → at ≤ end → In at end w.span → In at end edge.span → In start at vertex.span →
    TreeIn start end (related SourceOf w edge b vertex)
source_in at end start w edge vertex b le h i j =
    let l : start ≤ at = omega (arith, j.from, j.ordered, j.to) in
    let own = reaches j i in
    not_when_in start end b (reach vertex.span edge.span) _ own (predicate_in start end (reach vertex.span edge.span) vertex w (SourceOf vertex edge) own
    (wider (omega arith) le j) (wider l (omega arith) h)
    (wider (omega arith) le j, (wider l (omega arith) i, tt)))

destination_in : (at end start : ℕ) (w edge vertex : Named) (b : Bool) → at ≤ end → In at end w.span → In at end edge.span → In start at vertex.span →
    TreeIn start end (related DestinationOf w edge b vertex)
destination_in at end start w edge vertex b le h i j =
    let l : start ≤ at = omega (arith, j.from, j.ordered, j.to) in
    let own = reaches j i in
    not_when_in start end b (reach vertex.span edge.span) _ own (predicate_in start end (reach vertex.span edge.span) vertex w (DestinationOf vertex edge) own
    (wider (omega arith) le j) (wider l (omega arith) h)
    (wider (omega arith) le j, (wider l (omega arith) i, tt)))

names_all : (at end : ℕ) (names : List Named) → Chain (Spans of_name) at end names → AllIn at end (of_names names)
names_all at end [] h = tt
names_all at end (x ∷ names) (middle, l, u, first, rest) = (wider (omega arith) u first.0, all_wider l (omega arith) (of_names names) (names_all middle end names rest))

abbrev pub NamesIn : Holds (List Named)
NamesIn = Spans of_names

group_test_in : (at end : ℕ) (bytes : List ℕ) (names : List Named) → AllIn at end (of_names names) → AllIn at end (of_test (group_test bytes names))
group_test_in at end bytes names h = by (bytes_eq bytes (codes "SAME")) where
  by : (b : Bool) → AllIn at end (of_test (cond b (Same names) (AllDifferent names)))
  by true = h
  by false = h

first_of_in : (at end : ℕ) (w : Named) (names : List Named) → In at end w.span → AllIn at end (of_names names) → In at end (first_of w names).span
first_of_in at end w [] h i = h
first_of_in at end w (x ∷ names) h i = i.0

grouped_in : (at end start : ℕ) (d : Span × List Named × Span) (w : Named) → Bracketed NamesIn at end d → In start at w.span → TreeIn start end (grouped d.1 d.2 w)
grouped_in at end start d w h i =
    let l : start ≤ h.left = omega (arith, i.from, i.ordered, i.to, h.opening.from, h.opening.ordered, h.opening.to) in
    let u : h.right ≤ end = omega (arith, h.closing.from, h.closing.ordered, h.closing.to) in
    let own : In start end
    (reach w.span d.2) = record {
      from = i.from;
      ordered = omega (arith, i.ordered, i.to, h.opening.from, h.opening.ordered, h.opening.to, h.between, h.closing.from, h.closing.ordered);
      to = h.closing.to;
    } in
    let names = all_wider l u (of_names d.1) h.held in
    let own_word : In start end w.span = wider (omega arith) (omega (arith, h.opening.from, h.opening.ordered, h.opening.to, h.between, u)) i in
    predicate_in start end (reach w.span d.2) (first_of w d.1) w (group_test w.name d.1) own (first_of_in start end w d.1 own_word names) own_word
    (group_test_in start end w.name d.1 names)

-- what may follow in a test, behind what was made of a name
with_tail_in : (n : ℕ) {tail : Production (Tail PropertyRef)} {x : Production OfName} → Gives n tail TailIn → Gives n x NamesTree → Gives n (with_tail tail x) NamesTree
with_tail_in n h i = mapped_gives n (seq_gives n i (opt_gives n h)) (λ at end le d k start name j.
    unless_none_in k.middle k.middle end start d.1 (d.0 name) (omega arith) k.upper (k.first start name j) k.second)

-- ---- what stands between brackets

abbrev pub of_counted : Counted → List Span
of_counted c = c.variable.span ∷ if_given of_name c.property

abbrev pub HeldIn : (k : Inside Own) → Holds (HeldInside k)
HeldIn Inside.condition = TreeIn
HeldIn Inside.operands = ListIn
HeldIn Inside.members = ListIn
HeldIn (Inside.own Own.filler) = Spans of_content
HeldIn (Inside.own Own.part) = Spans of_part_content
HeldIn (Inside.own Own.label_group) = Spans of_label
HeldIn (Inside.own Own.variables) = NamesIn
HeldIn (Inside.own Own.counted) = Spans of_counted
HeldIn (Inside.own Own.property) = Spans of_counted
HeldIn (Inside.own Own.items) = Spans (flat_map of_item)
HeldIn (Inside.own Own.table) = Spans of_tree

module _ (n : ℕ) (inner : (k : Inside Own) → Given (within class inside n k) (HeldIn k)) where
  coalesce_in : Gives n (g.coalesce PropertyRef Own HeldOwn) TreeIn
  unfolding g.coalesce
  coalesce_in = mapped_gives n (seq_gives n (the_in n m.Coalesce) (nest_gives n (inner Inside.members)))
      (λ at end le d h. coalesced_in at h.middle end d.0 d.1 h.lower h.upper h.first h.second)

  parens_in : Gives n (g.parens PropertyRef Own HeldOwn) TreeIn
  unfolding g.parens
  parens_in = mapped_gives n (nest_gives n (inner Inside.condition)) (λ at end le d h. enclosed_in at end d h)

  operand_in : Gives n (g.operand PropertyRef Own HeldOwn own_operand) TreeIn
  unfolding g.operand
  operand_in = either_gives n (literals_in n) (either_gives n (own_operand_in n) (either_gives n coalesce_in parens_in))

  comparing_in : Gives n (g.comparing PropertyRef Own HeldOwn own_operand) TailIn
  unfolding g.comparing
  comparing_in = mapped_gives n (seq_gives n (any_gives n) operand_in)
      (λ at end le d h start c i. compared_in start h.middle end d.0 c d.1 (omega (arith, h.lower, i.own.from, i.own.ordered, i.own.to)) h.upper
      (tree_wider (omega arith) h.lower c i) h.second)

  between_in : (at end : ℕ) (d : Span × (Tree × (Span × Tree))) → Both In (Both TreeIn (Both In TreeIn)) at end d → SignedTail at end (λ negated. ranged negated d.1.0 d.1.1.1)
  between_in at end d h negated start c i = ranged_in start h.middle h.second.middle end negated c d.1.0 d.1.1.1
      (omega (arith, h.lower, i.own.from, i.own.ordered, i.own.to)) h.second.lower h.second.upper
      (tree_wider (omega arith) h.lower c i) h.second.first (tree_wider h.second.second.lower (omega arith) d.1.1.1 h.second.second.second)

  within_in : (at end : ℕ) (d : Span × (Span × List Tree × Span)) → Both In (Bracketed ListIn) at end d → SignedTail at end (λ negated. listed negated d.1.1 d.1.2)
  within_in at end d h negated start c i =
      let e = h.second in
      let l : at ≤ e.left = omega (arith, h.lower, e.opening.from, e.opening.ordered, e.opening.to) in
      listed_in start at e.left e.right end negated c d.1.1 d.1.2 (omega (arith, i.own.from, i.own.ordered, i.own.to)) l e.between
      (omega (arith, e.closing.from, e.closing.ordered, e.closing.to)) i e.held e.closing

  including_in : Gives n (g.including PropertyRef Own HeldOwn own_operand) SignedTail
  unfolding g.including
  including_in = either_gives n (mapped_gives n (seq_gives n (the_in n m.Between) (seq_gives n operand_in (seq_gives n (the_in n m.And) operand_in)))
      (λ at end le d h. between_in at end d h))
      (mapped_gives n (seq_gives n (the_in n m.In) (nest_gives n (inner Inside.operands))) (λ at end le d h. within_in at end d h))

  predicate_tail_in : Gives n (g.predicate_tail PropertyRef Own HeldOwn own_operand) TailIn
  unfolding g.predicate_tail
  predicate_tail_in = either_gives n comparing_in (either_gives n (mapped_gives n including_in (λ at end le f h. h false))
      (mapped_gives n (seq_gives n (any_gives n) including_in) (λ at end le d h start c i. h.second true start c (tree_wider (omega arith) h.lower c i))))

  null_in : (at end : ℕ) (d : Span × Option (Tail PropertyRef)) → Both In (IfGiven TailIn) at end d →
      SignedTail at end (λ negated c. unless_none d.1 (tested test_is.Null negated d.0 c))
  null_in at end d h negated start c i = unless_none_in h.middle h.middle end start d.1 (tested test_is.Null negated d.0 c) (omega arith) h.upper
      (tested_in start at h.middle test_is.Null negated d.0 c (omega (arith, i.own.from, i.own.ordered, i.own.to)) h.lower i h.first) h.second

  after_is_in : Gives n (g.after_is PropertyRef Own HeldOwn own_operand) SignedTail
  unfolding g.after_is
  after_is_in = either_gives n (mapped_gives n (seq_gives n (the_in n m.Null) (opt_gives n (truth_test_in n))) (λ at end le d h. null_in at end d h))
      (mapped_gives n (truth_word_in n) (λ at end le d h negated start c i. tested_in start at end d.0 negated d.1 c (omega (arith, i.own.from, i.own.ordered, i.own.to)) le i h))

  test_tail_in : Gives n test_tail TailIn
  unfolding g.test_tail
  test_tail_in = either_gives n
      (mapped_gives n (seq_gives n predicate_tail_in (opt_gives n (truth_test_in n)))
      (λ at end le d h start c i. unless_none_in h.middle h.middle end start d.1 (d.0 c) (omega arith) h.upper (h.first start c i) h.second))
      (mapped_gives n (seq_gives n (any_gives n) (seq_gives n (any_gives n) after_is_in))
      (λ at end le d h start c i. h.second.second d.1.0 start c (tree_wider (omega arith) (omega (arith, h.lower, h.second.lower)) c i)))

  -- ---- tests by what they begin with

  end_of_edge_in : Gives n end_of_edge RelatedIn
  unfolding end_of_edge
  end_of_edge_in = either_gives n
      (mapped_gives n (seq_gives n (named_in n) (after_in n of_name (name_in n))) (λ at end le d h b start v i. source_in at end start d.0 d.1 v b le
      (wider (omega arith) h.upper h.first.0) (wider h.lower (omega arith) h.second.0) i))
      (mapped_gives n (seq_gives n (named_in n) (after_in n of_name (name_in n))) (λ at end le d h b start v i. destination_in at end start d.0 d.1 v b le
      (wider (omega arith) h.upper h.first.0) (wider h.lower (omega arith) h.second.0) i))

  relation_in : Gives n relation NamesTree
  unfolding relation
  relation_in = mapped_gives n {P = λ at end d. RelatedIn at end d.1} (mapped_gives n (seq_gives n (any_gives n) (seq_gives n (any_gives n) end_of_edge_in))
      (λ at end le d h b start v i. h.second.second b start v (wider (omega arith) (omega (arith, h.lower, h.second.lower)) i)))
      (λ at end le d h. h d.0)

  pub after_name_in : Gives n after_name NamesTree
  unfolding after_name
  after_name_in = either_gives n (with_tail_in n test_tail_in (dotted_in n)) (with_tail_in n (truth_test_in n) relation_in)

  after_group_word_in : Gives n after_group_word NamesTree
  unfolding after_group_word
  after_group_word_in = with_tail_in n (truth_test_in n) (mapped_gives n (nest_gives n (inner (Inside.own Own.variables)))
      (λ at end le d h start w i. grouped_in at end start d w h i))

  unnamed_operand_in : Gives n unnamed_operand TreeIn
  unfolding unnamed_operand
  unnamed_operand_in = either_gives n (literals_in n) (either_gives n coalesce_in parens_in)

  pub test_from_in : (plain : ℕ → Bool) → Gives n (test_from plain) TreeIn
  unfolding test_from
  test_from_in plain = either_gives n (mapped_gives n (seq_gives n unnamed_operand_in (opt_gives n test_tail_in)) (λ at end le d h. unless_tree at end d h))
      (either_gives n (mapped_gives n (seq_gives n (named_in n) after_name_in) (λ at end le d h. put_in at end d h))
      (either_gives n (mapped_gives n (seq_gives n (named_in n) (either_gives n after_name_in (with_tail_in n test_tail_in (date_text_in n)))) (λ at end le d h. put_in at end d h))
      (mapped_gives n (seq_gives n (named_in n) (either_gives n after_name_in after_group_word_in)) (λ at end le d h. put_in at end d h))))

  after_tree : {x : Production Span} {y : Production Tree} → Gives n y TreeIn → Gives n (after x y) TreeIn
  after_tree h = mapped_gives n (seq_gives n (any_gives n) h) (λ at end le d i. tree_wider i.lower (omega arith) d.1 i.second)

  pub negation_in : Gives n negation TreeIn
  unfolding g.negation
  negation_in = mapped_gives n (seq_gives n (opt_gives n (the_in n m.Not)) (test_from_in is_plain))
      (λ at end le d h. not_if_in at h.middle end d.0 d.1 h.lower h.upper h.first h.second)

  conjunction_in : Gives n conjunction TreeIn
  unfolding g.conjunction
  conjunction_in = mapped_gives n (seq_gives n negation_in (many_gives n (after_tree negation_in)))
      (λ at end le d h. all_of_in at h.middle end d.0 d.1 h.lower h.upper h.first h.second)

  pub condition_in : Gives n condition TreeIn
  unfolding g.search_condition
  condition_in = mapped_gives n (seq_gives n conjunction_in (many_gives n (after_tree conjunction_in)))
      (λ at end le d h. any_of_in at h.middle end d.0 d.1 h.lower h.upper h.first h.second)

  -- what follows the first member of a condition that stands before
  pub more_members_in : Gives n more_members TailIn
  unfolding more_members
  more_members_in = mapped_gives n (seq_gives n (many_gives n (after_tree negation_in)) (many_gives n (after_tree conjunction_in)))
      (λ at end le d h start c i. any_of_in start h.middle end (all_of c d.0) d.1 (omega (arith, h.lower, i.own.from, i.own.ordered, i.own.to)) h.upper
      (all_of_in start at h.middle c d.0 (omega (arith, i.own.from, i.own.ordered, i.own.to)) h.lower i h.first) h.second)

  -- lists of operands
  pub operands_in : Gives n (list (g.operand PropertyRef Own HeldOwn own_operand)) ListIn
  operands_in = mapped_gives n (seq_gives n operand_in (many_gives n (after_tree operand_in)))
      (λ at end le d h. consed at h.middle end d.0 d.1 h.lower h.upper h.first (chain_list h.middle end d.1 h.second))

  pub members_in : Gives n (g.two_or_more PropertyRef Own HeldOwn (g.operand PropertyRef Own HeldOwn own_operand)) ListIn
  members_in = mapped_gives n (seq_gives n operand_in (mapped_gives n (seq_gives n (any_gives n) operands_in) (λ at end le d h. list_wider h.lower (omega arith) d.1 h.second)))
      (λ at end le d h. consed at h.middle end d.0 d.1 h.lower h.upper h.first h.second)
