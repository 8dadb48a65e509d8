-- The conditions of the grammar have its shape.
use Rattle.std.proofs.Common.{◌≡◌, refl, ◌∙◌, Bool, true, false, Option, Some, None, List, [], ◌∷◌, map}
use Rattle.std.specs.List.{list_all}
use Rattle.pgq_base.specs.declared.refusal.Span.{Span}
use Rattle.pgq_base.specs.declared.value.Value.{Value}
use Rattle.sql_lexer.specs.declared.token.Token.{Token}
use Rattle.token_marks.specs.declared.mark.Mark.TheVariants as m
use Rattle.expr_tree.specs.declared.tree.Comparison.{Comparison}
use Rattle.expr_tree.specs.declared.tree.Test.{Test}
use Rattle.expr_tree.specs.declared.tree.Test.TheVariants as test
use Rattle.expr_tree.specs.declared.tree.Expr.{Expr, Expr-F, roll-Expr, map-Expr}
use Rattle.expr_tree.specs.declared.tree.Expr.TheVariants as v
use Rattle.expr_tree.specs.Classes.{children_of, is_filled}
use Rattle.expr_tree.proofs.Folds.{at_layer}
use Rattle.graph_ast.specs.declared.schema.Named.{Named}
use Rattle.condition_grammar.specs.declared.spanned.Spanned.{Spanned}
use Rattle.condition_grammar.specs.Dates.{date_value}
use Rattle.condition_grammar.specs.Spans.{reach, tree_of, Tail, unless_none, compared, ranged, listed, tested, all_of, any_of, not_if, literal}
use Rattle.condition_grammar.specs.Conditions as g
use Rattle.condition_grammar.specs.Conditions.{Inside}
use Rattle.sql_algebra.specs.declared.text.ColumnRef.{ColumnRef}
use Rattle.sql_algebra.specs.declared.text.SelectText.{SelectText}
use Rattle.sql_algebra.specs.Grammar.{Nested, HeldNested, HeldInside, leaf, cast, own_operand, operand, test as test_rule, member, condition, list}
use Rattle.sql_parser.specs.Operands.{dotted}
use Rattle.sql_reader.specs.Shapes.{node_is_shaped, shape_step, is_shaped, value_is_shaped, select_is_shaped, AreSized}
use Rattle.sql_reader.proofs.Clean.{pair}
use Rattle.sql_reader.proofs.ShapedLiterals.{HasClass, literal_some, date_token}
use Rattle.sql_reader.proofs.RuleValues.{Parts, Of, Gives, Any, IfGiven, Each, any_gives, one_gives, mapped_gives, seq_gives, either_gives, opt_gives, many_gives, behind_gives}
use Rattle.sql_reader.proofs.RuleValues.{nest_gives}

abbrev pub Condition : Type 0
Condition = Spanned ColumnRef

abbrev pub Shaped : Of Condition
Shaped c = value_is_shaped c ≡ true

abbrev pub SelectShaped : Of SelectText
SelectShaped s = select_is_shaped s ≡ true

-- one or more
abbrev pub Filled : Of (List Condition)
Filled cs = (is_filled cs ≡ true) × Each Shaped cs

-- ---- the forms of expressions

-- an expression has the shape, where its children and its node have
abbrev told_of : Expr-F ColumnRef (Expr ColumnRef) → Expr-F ColumnRef Bool
told_of x = map-Expr ColumnRef (Expr ColumnRef) Bool is_shaped x

formed : (x : Expr-F ColumnRef (Expr ColumnRef)) (e : Expr ColumnRef) → roll-Expr ColumnRef x ≡ e → list_all (λ b. b) (children_of (told_of x)) ≡ true
    → node_is_shaped (told_of x) ≡ true → is_shaped e ≡ true
formed x e is children node = at_layer shape_step x e is ∙ pair (list_all (λ b. b) (children_of (told_of x))) (node_is_shaped (told_of x)) children node

all_shaped : (cs : List Condition) → Each Shaped cs → list_all (λ b. b) (map is_shaped (map tree_of cs)) ≡ true
all_shaped [] h = refl
all_shaped (c ∷ cs) h = pair (is_shaped c.tree) (list_all (λ b. b) (map is_shaped (map tree_of cs))) h.0 (all_shaped cs h.1)

some_shaped : (cs : List Condition) → is_filled cs ≡ true → is_filled (map is_shaped (map tree_of cs)) ≡ true
some_shaped [] h = h
some_shaped (c ∷ cs) h = refl

literal_shaped : (span : Span) (x : Value) → HasClass x → Shaped (literal span x)
literal_shaped span x h = formed (Expr-F.Lit x) (v.Lit x) (v.rolls-Lit x) refl h

compared_shaped : (op : Comparison) (a b : Condition) → Shaped a → Shaped b → Shaped (compared op b a)
compared_shaped op a b p q = formed (Expr-F.Compare op a.tree b.tree) (v.Compare op a.tree b.tree) (v.rolls-Compare op a.tree b.tree) (all_shaped (a ∷ b ∷ []) (p, (q, tt))) refl

ranged_shaped : (n : Bool) (a b c : Condition) → Shaped a → Shaped b → Shaped c → Shaped (ranged n b c a)
ranged_shaped n a b c p q r =
    formed (Expr-F.Between a.tree b.tree c.tree n) (v.Between a.tree b.tree c.tree n) (v.rolls-Between a.tree b.tree c.tree n) (all_shaped (a ∷ b ∷ c ∷ []) (p, (q, (r, tt)))) refl

listed_shaped : (n : Bool) (a : Condition) (bs : List Condition) (closing : Span) → Shaped a → Filled bs → Shaped (listed n bs closing a)
listed_shaped n a bs closing p q =
    formed (Expr-F.InList a.tree (map tree_of bs) n) (v.InList a.tree (map tree_of bs) n) (v.rolls-InList a.tree (map tree_of bs) n)
    (all_shaped (a ∷ bs) (p, q.1)) (some_shaped bs q.0)

tested_shaped : (t : Test) (n : Bool) (word : Span) (a : Condition) → Shaped a → Shaped (tested t n word a)
tested_shaped t n word a p = formed (Expr-F.Is a.tree t n) (v.Is a.tree t n) (v.rolls-Is a.tree t n) (all_shaped (a ∷ []) (p, tt)) refl

pub not_shaped : (o : Option Span) (a : Condition) → Shaped a → Shaped (not_if o a)
not_shaped None a p = p
not_shaped (Some word) a p = formed (Expr-F.Not a.tree) (v.Not a.tree) (v.rolls-Not a.tree) (all_shaped (a ∷ []) (p, tt)) refl

all_of_shaped : (c : Condition) (ds : List Condition) → Shaped c → Each Shaped ds → Shaped (all_of c ds)
all_of_shaped c [] p h = p
all_of_shaped c (d ∷ ds) p h =
    let es : List (Expr ColumnRef) = c.tree ∷ d.tree ∷ map tree_of ds in
    formed (Expr-F.All es) (v.All es) (v.rolls-All es) (all_shaped (c ∷ d ∷ ds) (p, h)) refl

any_of_shaped : (c : Condition) (ds : List Condition) → Shaped c → Each Shaped ds → Shaped (any_of c ds)
any_of_shaped c [] p h = p
any_of_shaped c (d ∷ ds) p h =
    let es : List (Expr ColumnRef) = c.tree ∷ d.tree ∷ map tree_of ds in
    formed (Expr-F.Any es) (v.Any es) (v.rolls-Any es) (all_shaped (c ∷ d ∷ ds) (p, h)) refl

-- ---- what is made of an operand, or of a name

abbrev Tailed : Of (Tail ColumnRef)
Tailed tail = (c : Condition) → Shaped c → Shaped (tail c)

abbrev Flagged : Of (Bool → Tail ColumnRef)
Flagged f = (b : Bool) → Tailed (f b)

abbrev Behind : Of (Named → Condition)
Behind f = (w : Named) → Shaped (f w)

unless_shaped : (o : Option (Tail ColumnRef)) → IfGiven Tailed o → Tailed (unless_none o)
unless_shaped None h c p = p
unless_shaped (Some tail) h c p = h c p

-- ---- the productions

abbrev pub InsideHas : (k : Inside Nested) → Of (HeldInside k)
InsideHas Inside.condition = Shaped
InsideHas Inside.operands = Filled
InsideHas Inside.members = Filled
InsideHas (Inside.own Nested.null_type) = Any
InsideHas (Inside.own Nested.length_part) = Any
InsideHas (Inside.own Nested.inner_select) = SelectShaped

-- it holds of what stands between parentheses
pub record Inner (b : Parts) : Type 0 where
  pub told : (k : Inside Nested) (d : (b k).Phrase) → AreSized ((b k).tokens d) → InsideHas k ((b k).value d)

module _ {b : Parts} (inner : Inner b) where
  literals_shaped : Gives b (g.literals ColumnRef Nested HeldNested) Shaped
  unfolding g.literals
  literals_shaped =
      either_gives (one_gives (λ t e s. literal_shaped t.span _ (literal_some false t.kind s)))
      (either_gives (mapped_gives (seq_gives any_gives (one_gives {P = λ (t : Token). HasClass (g.literal_of true t.kind)} (λ t e s. literal_some true t.kind s)))
      (λ d h. literal_shaped (reach d.0 d.1.span) (g.literal_of true d.1.kind) h.1))
      (either_gives (one_gives (λ t e s. literal_shaped t.span _ refl))
      (either_gives (mapped_gives any_gives (λ s h. literal_shaped s _ refl)) (mapped_gives any_gives (λ s h. literal_shaped s _ refl)))))

  dotted_shaped : Gives b dotted Behind
  unfolding g.dotted
  dotted_shaped = mapped_gives any_gives (λ d h w. formed (Expr-F.Leaf _) (v.Leaf _) (v.rolls-Leaf _) refl refl)

  date_shaped : Gives b (g.date_text ColumnRef Nested HeldNested) Behind
  unfolding g.date_text
  date_shaped = one_gives (λ t e s w. literal_shaped (reach w.span t.span) (date_value (g.text_in t.kind)) (date_token t e))

  leaf_shaped : Gives b leaf Shaped
  unfolding g.leaf_or_date
  leaf_shaped = either_gives (mapped_gives (seq_gives any_gives dotted_shaped) (λ d h. h.1 d.0))
      (mapped_gives (seq_gives any_gives (either_gives dotted_shaped date_shaped)) (λ d h. h.1 d.0))

  cast_shaped : Gives b cast Shaped
  unfolding cast
  cast_shaped = mapped_gives any_gives (λ d h. formed (Expr-F.Null _) (v.Null _) (v.rolls-Null _) refl refl)

  own_shaped : Gives b own_operand Shaped
  unfolding own_operand
  own_shaped = either_gives leaf_shaped cast_shaped

  coalesce_shaped : Gives b (g.coalesce ColumnRef Nested HeldNested) Shaped
  unfolding g.coalesce
  coalesce_shaped = mapped_gives (seq_gives any_gives (nest_gives Inside.members Filled (inner.told Inside.members))) (λ d h.
      let es : List (Expr ColumnRef) = map tree_of d.1.1 in
      formed (Expr-F.Coalesce es) (v.Coalesce es) (v.rolls-Coalesce es) (all_shaped d.1.1 h.1.1) (some_shaped d.1.1 h.1.0))

  parens_shaped : Gives b (g.parens ColumnRef Nested HeldNested) Shaped
  unfolding g.parens
  parens_shaped = mapped_gives (nest_gives Inside.condition Shaped (inner.told Inside.condition)) (λ d h. h)

  operand_shaped : Gives b operand Shaped
  unfolding g.operand
  operand_shaped = either_gives literals_shaped (either_gives own_shaped (either_gives coalesce_shaped parens_shaped))

  comparing_shaped : Gives b (g.comparing ColumnRef Nested HeldNested own_operand) Tailed
  unfolding g.comparing
  comparing_shaped = mapped_gives (seq_gives any_gives operand_shaped) (λ d h c p. compared_shaped d.0 c d.1 p h.1)

  including_shaped : Gives b (g.including ColumnRef Nested HeldNested own_operand) Flagged
  unfolding g.including
  including_shaped =
      either_gives (mapped_gives (seq_gives any_gives (seq_gives operand_shaped (seq_gives any_gives operand_shaped)))
      (λ d h n c p. ranged_shaped n c d.1.0 d.1.1.1 p h.1.0 h.1.1.1))
      (mapped_gives (seq_gives any_gives (nest_gives Inside.operands Filled (inner.told Inside.operands))) (λ d h n c p. listed_shaped n c d.1.1 d.1.2 p h.1))

  predicate_shaped : Gives b (g.predicate_tail ColumnRef Nested HeldNested own_operand) Tailed
  unfolding g.predicate_tail
  predicate_shaped = either_gives comparing_shaped (either_gives (mapped_gives including_shaped (λ f h. h false))
      (mapped_gives (seq_gives any_gives including_shaped) (λ d h. h.1 true)))

  truth_shaped : Gives b (g.truth_test ColumnRef Nested HeldNested) Tailed
  unfolding g.truth_test
  truth_shaped = mapped_gives any_gives (λ d h c p. tested_shaped d.1.1.0 d.1.0 d.1.1.1 c p)

  after_is_shaped : Gives b (g.after_is ColumnRef Nested HeldNested own_operand) Flagged
  unfolding g.after_is
  after_is_shaped =
      either_gives (mapped_gives (seq_gives any_gives (opt_gives truth_shaped)) (λ d h n c p. unless_shaped d.1 h.1 (tested test.Null n d.0 c) (tested_shaped test.Null n d.0 c p)))
      (mapped_gives any_gives (λ d h n c p. tested_shaped d.0 n d.1 c p))

  test_tail_shaped : Gives b (g.test_tail ColumnRef Nested HeldNested own_operand) Tailed
  unfolding g.test_tail
  test_tail_shaped =
      either_gives (mapped_gives (seq_gives predicate_shaped (opt_gives truth_shaped)) (λ d h c p. unless_shaped d.1 h.1 (d.0 c) (h.0 c p)))
      (mapped_gives (seq_gives any_gives (seq_gives any_gives after_is_shaped)) (λ d h c p. h.1.1 d.1.0 c p))

  pub test_shaped : Gives b test_rule Shaped
  unfolding g.tests
  test_shaped = mapped_gives (seq_gives operand_shaped (opt_gives test_tail_shaped)) (λ d h. unless_shaped d.1 h.1 d.0 h.0)

  pub member_shaped : Gives b member Shaped
  unfolding g.negation
  member_shaped = mapped_gives (seq_gives any_gives test_shaped) (λ d h. not_shaped d.0 d.1 h.1)

  conjunction_shaped : Gives b (g.conjunction ColumnRef Nested HeldNested test_rule) Shaped
  unfolding g.conjunction
  conjunction_shaped = mapped_gives (seq_gives member_shaped (many_gives (behind_gives m.And member_shaped))) (λ d h. all_of_shaped d.0 d.1 h.0 h.1)

  pub condition_shaped : Gives b condition Shaped
  unfolding g.search_condition
  condition_shaped = mapped_gives (seq_gives conjunction_shaped (many_gives (behind_gives m.Or conjunction_shaped))) (λ d h. any_of_shaped d.0 d.1 h.0 h.1)

  pub operands_shaped : Gives b (list operand) Filled
  operands_shaped = mapped_gives (seq_gives operand_shaped (many_gives (behind_gives m.Comma operand_shaped))) (λ d h. (refl, h))

  pub members_shaped : Gives b (g.two_or_more ColumnRef Nested HeldNested operand) Filled
  members_shaped = mapped_gives (seq_gives operand_shaped (behind_gives m.Comma operands_shaped)) (λ d h. (refl, (h.0, h.1.1)))
