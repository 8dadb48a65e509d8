-- What makes a test of an operand, kept as what it is made of.
use Rattle.std.specs.Prelude.{Bool, ◌∷◌, ◌++◌, option_map}
use Rattle.pgq_base.specs.declared.refusal.Span.{Span}
use Rattle.expr_tree.specs.declared.tree.Comparison.{Comparison}
use Rattle.expr_tree.specs.declared.tree.Expr.TheVariants.{InList}
use Rattle.condition_grammar.specs.Spans.{Tail, tested, compared, ranged, unless_none, reach, span_of}
use Rattle.condition_grammar.specs.Conditions as g
use Rattle.condition_nodes.specs.declared.gathered.Gathered.{Gathered}
use Rattle.condition_nodes.specs.declared.tails.TruthTail.{TruthTail}
use Rattle.condition_nodes.specs.declared.tails.Predicate.{Predicate}
use Rattle.condition_nodes.specs.declared.tails.Predicate.TheVariants as p
use Rattle.condition_nodes.specs.declared.tails.Inclusion.{Inclusion}
use Rattle.condition_nodes.specs.declared.tails.Inclusion.TheVariants as i
use Rattle.condition_nodes.specs.declared.tails.IsTail.{IsTail}
use Rattle.condition_nodes.specs.declared.tails.TestTail.{TestTail}
use Rattle.condition_nodes.specs.Reading.{Alone, HeldAlone, Production}

-- productions of `condition_grammar` that nest nothing
abbrev pub comparison : (L : Type 0) → Production L Comparison
comparison L = g.comparison L Alone HeldAlone

abbrev pub negated : (L : Type 0) → Production L Bool
negated L = g.negated L Alone HeldAlone

abbrev pub truth_test : (L : Type 0) → Production L (Tail L)
truth_test L = g.truth_test L Alone HeldAlone

abbrev pub after_is : (L : Type 0) → Production L (Bool → Tail L)
after_is L = g.after_is L Alone HeldAlone (g.literals L Alone HeldAlone)

module _ {L : Type 0} where
  -- IS [ NOT ] TRUE | FALSE | UNKNOWN, for any operand
  abbrev pub truth_tail : TruthTail → Tail L
  truth_tail t = tested t.test t.negated t.word

  -- the list of IN, gathered
  abbrev pub listed_by : Bool → Gathered L → Span → Tail L
  listed_by negated all closing a = record { tree = InList a.tree all.trees negated; spans = reach (span_of a) closing ∷ (a.spans ++ all.spans) }

  -- what a tail makes of an operand
  abbrev pub including_of : Inclusion L → Bool → Tail L
  including_of (i.Between b c) negated = ranged negated b c
  including_of (i.Among all closing) negated = listed_by negated all closing

  abbrev pub predicate_of : Predicate L → Tail L
  predicate_of (p.Compare op b) = compared op b
  predicate_of (p.Include negated x) = including_of x negated
  predicate_of (p.Is x) = truth_tail x

  abbrev pub after_is_of : IsTail → Bool → Tail L
  after_is_of x negated c = unless_none (option_map truth_tail x.truth) (tested x.test negated x.word c)

  abbrev pub tail_of : TestTail L → Tail L
  tail_of t c = unless_none (option_map truth_tail t.truth) (predicate_of t.predicate c)
