-- What nests in query texts, and the words that their grammar shares.
use Rattle.std.specs.Prelude.{ℕ, ◌==◌, List}
use Rattle.pgq_base.specs.declared.refusal.Span.{Span}
use Rattle.sql_lexer.specs.declared.token.Token.{Token}
use Rattle.graph_ast.specs.declared.schema.Named.{Named}
use Rattle.graph_ast.specs.declared.query.QueryTree.{QueryTree}
use Rattle.graph_ast.specs.declared.query.PropertyRef.{PropertyRef}
use Rattle.graph_ast.specs.declared.query.Condition.{Condition}
use Rattle.graph_ast.specs.declared.query.Item.{Item}
use Rattle.graph_ast.specs.declared.query.LabelExpr.{LabelExpr}
use Rattle.token_grammar.specs.Rules.{Rule}
use Rattle.token_grammar.specs.Rules.Rule.{one, mapped, seq, nest}
use Rattle.token_marks.specs.declared.mark.Mark.{Mark}
use Rattle.token_marks.specs.declared.mark.Mark.TheVariants as m
use Rattle.token_marks.specs.Marks.{number_of}
use Rattle.token_reading.specs.Tokens.{span_of, named, number_at}
use Rattle.condition_grammar.specs.declared.spanned.Spanned.{Spanned}
use Rattle.condition_grammar.specs.Classes.{left_parenthesis, right_parenthesis}
use Rattle.condition_grammar.specs.Conditions as g
use Rattle.condition_grammar.specs.Conditions.{Inside, Held}
use Rattle.pattern_parser.specs.declared.pieces.Content.{Content}
use Rattle.pattern_parser.specs.declared.pieces.PartContent.{PartContent}
use Rattle.pattern_parser.specs.declared.pieces.Counted.{Counted}

-- `[` and `]`
abbrev pub left_bracket : ℕ
left_bracket = number_of m.LeftBracket

abbrev pub right_bracket : ℕ
right_bracket = number_of m.RightBracket

-- what stands between parentheses or square brackets, beside what conditions have
pub data Own : Type 0 where
  -- the rest of an element pattern, a part, and a label expression in parentheses
  filler : Own
  part : Own
  label_group : Own
  -- the variables of SAME and ALL_DIFFERENT, and what aggregates gather
  variables : Own
  counted : Own
  property : Own
  -- the items of COLUMNS, and all of GRAPH_TABLE
  items : Own
  table : Own

abbrev pub HeldOwn : Own → Type 0
HeldOwn Own.filler = Content
HeldOwn Own.part = PartContent
HeldOwn Own.label_group = LabelExpr
HeldOwn Own.variables = List Named
HeldOwn Own.counted = Counted
HeldOwn Own.property = Counted
HeldOwn Own.items = List Item
HeldOwn Own.table = QueryTree

abbrev pub HeldInside : Inside Own → Type 0
HeldInside = Held PropertyRef Own HeldOwn

-- A production spells values, here by the tokens' marks. `seq` is one after the other, `opt` is `[ ]`, `many` is `{ }`.
abbrev pub Production : Type 0 → Type 1
Production V = Rule Token (Inside Own) HeldInside V

-- the word or symbol of that mark: where it stands
abbrev pub the : Mark → Production Span
the = g.the PropertyRef Own HeldOwn

abbrev pub means : {V : Type 0} → Mark → V → Production V
means = g.means PropertyRef Own HeldOwn

-- a bare word or a delimited name
abbrev pub name : Production Named
name = g.name PropertyRef Own HeldOwn

-- the bare word of that mark, as a name
abbrev pub word : Mark → Production Named
word mark = one (λ c. c == number_of mark) named

-- x { , x }
abbrev pub list : {V : Type 0} → Production V → Production (List V)
list = g.list PropertyRef Own HeldOwn

-- ( what is named )
abbrev pub parens : (k : Own) → Production (HeldOwn k)
parens k = mapped (λ d. d.1) (nest span_of left_parenthesis right_parenthesis (Inside.own k))

-- x y, for y
abbrev pub after : {U V : Type 0} → Production U → Production V → Production V
after x y = mapped (λ d. d.1) (seq x y)

-- x y, for x
abbrev pub before : {U V : Type 0} → Production U → Production V → Production U
before x y = mapped (λ d. d.0) (seq x y)

-- a number below 2^63, and where it stands
abbrev pub number : Production (ℕ × Span)
number = one (λ c. c == number_of m.Number) number_at

abbrev pub condition_of : Spanned PropertyRef → Condition
condition_of c = record { tree = c.tree; spans = c.spans }
