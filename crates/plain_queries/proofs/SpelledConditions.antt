-- The conditions of the grammar are spelled: their literals have a text, and their lists are as long as they have to be.
use Rattle.std.proofs.Common.{refl, ℕ, Bool, true, false}
use Rattle.pgq_base.specs.declared.refusal.Span.{Span}
use Rattle.sql_lexer.specs.declared.token.Token.{Token}
use Rattle.expr_tree.specs.declared.tree.Test.TheVariants as test_is
use Rattle.graph_ast.specs.declared.schema.Named.{Named}
use Rattle.graph_ast.specs.declared.query.PropertyRef.{PropertyRef}
use Rattle.graph_ast.specs.declared.query.ElementTest.{ElementTest}
use Rattle.graph_ast.specs.declared.query.ElementTest.TheVariants.{SourceOf, DestinationOf}
use Rattle.condition_grammar.specs.Dates.{date_value}
use Rattle.condition_grammar.specs.Spans.{reach, Tail, tested}
use Rattle.condition_grammar.specs.Conditions as g
use Rattle.condition_grammar.specs.Conditions.{Inside}
use Rattle.pattern_parser.specs.Insides.{Own, HeldOwn, Production, list}
use Rattle.pattern_parser.specs.Tests.{Tree, OfName, dotted, date_text, own_operand, test_tail, truth_test, with_tail, not_when, predicate, related, end_of_edge, relation}
use Rattle.pattern_parser.specs.Tests.{after_name, after_group_word, unnamed_operand, test_from, test, negation, conjunction, condition, more_members}
use Rattle.plain_queries.proofs.SpelledLiterals.{HasText, plain_token, negated_token, text_token, date_token}
use Rattle.plain_queries.proofs.RuleValues.{Parts, Of, Given, Gives, any_gives, one_gives, mapped_gives, seq_gives, either_gives, opt_gives, many_gives, after_gives, nest_gives}
use Rattle.plain_queries.proofs.SpelledNodes.{Spelled, SomeSpelled, TwoSpelled, one_of, one_more, literal_spelled, leaf_spelled, compared_spelled, ranged_spelled, listed_spelled}
use Rattle.plain_queries.proofs.SpelledNodes.{tested_spelled, negated_spelled, not_spelled, all_of_spelled, any_of_spelled, coalesced_spelled, Tailed, unless_spelled}

abbrev Flagged : Of (Bool → Tail PropertyRef)
Flagged f = (b : Bool) → Tailed (f b)

-- what a name is made into
abbrev pub Behind : Of OfName
Behind f = (w : Named) → Spelled (f w)

-- what the first member of a condition is made into
abbrev pub Led : Of (Tree → Tree)
Led f = (c : Tree) → Spelled c → Spelled (f c)

abbrev FlaggedBehind : Of (Bool → OfName)
FlaggedBehind f = (b : Bool) → Behind (f b)

when_spelled : (b : Bool) (span : Span) (c : Tree) → Spelled c → Spelled (not_when b span c)
when_spelled false span c p = p
when_spelled true span c p = negated_spelled c p

related_spelled : (made : Named → Named → ElementTest) (word edge : Named) → FlaggedBehind (related made word edge)
related_spelled made word edge b vertex =
    when_spelled b (reach vertex.span edge.span) (predicate (reach vertex.span edge.span) vertex word (made vertex edge)) (leaf_spelled _)

-- what stands between the parentheses of conditions
pub record Inner (b : Parts) : Type 0 where
  pub condition : Given (b Inside.condition) Spelled
  pub operands : Given (b Inside.operands) SomeSpelled
  pub members : Given (b Inside.members) TwoSpelled

module _ {b : Parts} (inner : Inner b) where
  literals_spelled : Gives b (g.literals PropertyRef Own HeldOwn) Spelled
  unfolding g.literals
  literals_spelled =
      either_gives (one_gives (λ t e w. literal_spelled t.span _ (plain_token t e w)))
      (either_gives (mapped_gives (seq_gives any_gives (one_gives {P = λ (t : Token). HasText (g.literal_of true t.kind)} (λ t e w. negated_token t e w)))
      (λ d h. literal_spelled (reach d.0 d.1.span) (g.literal_of true d.1.kind) h.1))
      (either_gives (one_gives (λ t e w. literal_spelled t.span _ (text_token t e w)))
      (either_gives (mapped_gives any_gives (λ s h. literal_spelled s _ refl)) (mapped_gives any_gives (λ s h. literal_spelled s _ refl)))))

  dotted_spelled : Gives b dotted Behind
  unfolding g.dotted
  dotted_spelled = mapped_gives any_gives (λ d h w. leaf_spelled _)

  date_spelled : Gives b date_text Behind
  unfolding g.date_text
  date_spelled = one_gives (λ t e s w. literal_spelled (reach w.span t.span) (date_value (g.text_in t.kind)) (date_token t e))

  own_spelled : Gives b own_operand Spelled
  unfolding g.leaf_or_date
  own_spelled = either_gives (mapped_gives (seq_gives any_gives dotted_spelled) (λ d h. h.1 d.0))
      (mapped_gives (seq_gives any_gives (either_gives dotted_spelled date_spelled)) (λ d h. h.1 d.0))

  coalesce_spelled : Gives b (g.coalesce PropertyRef Own HeldOwn) Spelled
  unfolding g.coalesce
  coalesce_spelled = mapped_gives (seq_gives any_gives (nest_gives Inside.members TwoSpelled inner.members)) (λ d h. coalesced_spelled d.0 d.1.1 d.1.2 h.1)

  parens_spelled : Gives b (g.parens PropertyRef Own HeldOwn) Spelled
  unfolding g.parens
  parens_spelled = mapped_gives (nest_gives Inside.condition Spelled inner.condition) (λ d h. h)

  pub operand_spelled : Gives b (g.operand PropertyRef Own HeldOwn own_operand) Spelled
  unfolding g.operand
  operand_spelled = either_gives literals_spelled (either_gives own_spelled (either_gives coalesce_spelled parens_spelled))

  comparing_spelled : Gives b (g.comparing PropertyRef Own HeldOwn own_operand) Tailed
  unfolding g.comparing
  comparing_spelled = mapped_gives (seq_gives any_gives operand_spelled) (λ d h c p. compared_spelled d.0 c d.1 p h.1)

  including_spelled : Gives b (g.including PropertyRef Own HeldOwn own_operand) Flagged
  unfolding g.including
  including_spelled =
      either_gives (mapped_gives (seq_gives any_gives (seq_gives operand_spelled (seq_gives any_gives operand_spelled)))
      (λ d h n c p. ranged_spelled n c d.1.0 d.1.1.1 p h.1.0 h.1.1.1))
      (mapped_gives (seq_gives any_gives (nest_gives Inside.operands SomeSpelled inner.operands)) (λ d h n c p. listed_spelled n c d.1.1 d.1.2 p h.1))

  predicate_spelled : Gives b (g.predicate_tail PropertyRef Own HeldOwn own_operand) Tailed
  unfolding g.predicate_tail
  predicate_spelled = either_gives comparing_spelled (either_gives (mapped_gives including_spelled (λ f h. h false))
      (mapped_gives (seq_gives any_gives including_spelled) (λ d h. h.1 true)))

  truth_spelled : Gives b truth_test Tailed
  unfolding g.truth_test
  truth_spelled = mapped_gives any_gives (λ d h c p. tested_spelled d.1.1.0 d.1.0 d.1.1.1 c p)

  after_is_spelled : Gives b (g.after_is PropertyRef Own HeldOwn own_operand) Flagged
  unfolding g.after_is
  after_is_spelled =
      either_gives (mapped_gives (seq_gives any_gives (opt_gives truth_spelled))
      (λ d h n c p. unless_spelled d.1 h.1 (tested test_is.Null n d.0 c) (tested_spelled test_is.Null n d.0 c p)))
      (mapped_gives any_gives (λ d h n c p. tested_spelled d.0 n d.1 c p))

  test_tail_spelled : Gives b test_tail Tailed
  unfolding g.test_tail
  test_tail_spelled =
      either_gives (mapped_gives (seq_gives predicate_spelled (opt_gives truth_spelled)) (λ d h c p. unless_spelled d.1 h.1 (d.0 c) (h.0 c p)))
      (mapped_gives (seq_gives any_gives (seq_gives any_gives after_is_spelled)) (λ d h c p. h.1.1 d.1.0 c p))

  -- ---- tests, by what they begin with

  with_tail_spelled : {tail : Production (Tail PropertyRef)} {x : Production OfName} → Gives b tail Tailed → Gives b x Behind → Gives b (with_tail tail x) Behind
  with_tail_spelled t u = mapped_gives (seq_gives u (opt_gives t)) (λ d h w. unless_spelled d.1 h.1 (d.0 w) (h.0 w))

  end_of_edge_spelled : Gives b end_of_edge FlaggedBehind
  unfolding end_of_edge
  end_of_edge_spelled = either_gives (mapped_gives any_gives (λ d h. related_spelled SourceOf d.0 d.1)) (mapped_gives any_gives (λ d h. related_spelled DestinationOf d.0 d.1))

  relation_spelled : Gives b relation Behind
  unfolding relation
  relation_spelled = mapped_gives (after_gives (seq_gives any_gives end_of_edge_spelled)) (λ d h. h.1 d.0)

  pub after_name_spelled : Gives b after_name Behind
  unfolding after_name
  after_name_spelled = either_gives (with_tail_spelled test_tail_spelled dotted_spelled) (with_tail_spelled truth_spelled relation_spelled)

  after_group_word_spelled : Gives b after_group_word Behind
  unfolding after_group_word
  after_group_word_spelled = with_tail_spelled truth_spelled (mapped_gives any_gives (λ d h w. leaf_spelled _))

  unnamed_spelled : Gives b unnamed_operand Spelled
  unfolding unnamed_operand
  unnamed_spelled = either_gives literals_spelled (either_gives coalesce_spelled parens_spelled)

  pub test_from_spelled : (plain : ℕ → Bool) → Gives b (test_from plain) Spelled
  unfolding test_from
  test_from_spelled plain =
      either_gives (mapped_gives (seq_gives unnamed_spelled (opt_gives test_tail_spelled)) (λ d h. unless_spelled d.1 h.1 d.0 h.0))
      (either_gives (mapped_gives (seq_gives any_gives after_name_spelled) (λ d h. h.1 d.0))
      (either_gives (mapped_gives (seq_gives any_gives (either_gives after_name_spelled (with_tail_spelled test_tail_spelled date_spelled))) (λ d h. h.1 d.0))
      (mapped_gives (seq_gives any_gives (either_gives after_name_spelled after_group_word_spelled)) (λ d h. h.1 d.0))))

  pub test_spelled : Gives b test Spelled
  test_spelled = test_from_spelled _

  negation_spelled : Gives b negation Spelled
  unfolding g.negation
  negation_spelled = mapped_gives (seq_gives any_gives test_spelled) (λ d h. not_spelled d.0 d.1 h.1)

  conjunction_spelled : Gives b conjunction Spelled
  unfolding g.conjunction
  conjunction_spelled = mapped_gives (seq_gives negation_spelled (many_gives (after_gives negation_spelled))) (λ d h. all_of_spelled d.0 d.1 h.0 h.1)

  pub condition_spelled : Gives b condition Spelled
  unfolding g.search_condition
  condition_spelled = mapped_gives (seq_gives conjunction_spelled (many_gives (after_gives conjunction_spelled))) (λ d h. any_of_spelled d.0 d.1 h.0 h.1)

  pub more_members_spelled : Gives b more_members Led
  unfolding more_members
  more_members_spelled = mapped_gives (seq_gives (many_gives (after_gives negation_spelled)) (many_gives (after_gives conjunction_spelled)))
      (λ d h c p. any_of_spelled _ d.1 (all_of_spelled c d.0 p h.0) h.1)

  -- ---- lists

  pub operands_spelled : Gives b (list (g.operand PropertyRef Own HeldOwn own_operand)) SomeSpelled
  operands_spelled = mapped_gives (seq_gives operand_spelled (many_gives (after_gives operand_spelled))) (λ d h. (one_of d.0 d.1, h))

  pub members_spelled : Gives b (g.two_or_more PropertyRef Own HeldOwn (g.operand PropertyRef Own HeldOwn own_operand)) TwoSpelled
  members_spelled = mapped_gives (seq_gives operand_spelled (after_gives operands_spelled)) (λ d h. one_more d.0 d.1 h.0 h.1)
