-- The productions of conditions in this grammar, and what their loops gather.
use Rattle.std.specs.Prelude.{Bool, List, length}
use Rattle.sql_lexer.specs.declared.token.Token.{Token}
use Rattle.token_marks.specs.declared.mark.Mark.{Mark}
use Rattle.token_grammar.specs.Parser.{Parser}
use Rattle.token_grammar.specs.Code.{gathered, after_p}
use Rattle.token_reading.specs.Tokens.{is_mark, span_of}
use Rattle.condition_grammar.specs.declared.spanned.Spanned.{Spanned}
use Rattle.condition_grammar.specs.Spans.{Tail}
use Rattle.condition_grammar.specs.Conditions as g
use Rattle.condition_nodes.specs.declared.gathered.Gathered.{Gathered}
use Rattle.condition_nodes.specs.Gathered.{with_one}
use Rattle.sql_algebra.specs.declared.text.ColumnRef.{ColumnRef}
use Rattle.sql_algebra.specs.Grammar.{Nested, HeldNested, Production, own_operand, test}

-- What stands at the leaves. The other names below stand for the productions of `condition_grammar` over it.
abbrev pub Leaf : Type 0
Leaf = ColumnRef

abbrev pub Condition : Type 0
Condition = Spanned Leaf

abbrev pub coalesce : Production Condition
coalesce = g.coalesce Leaf Nested HeldNested

abbrev pub parens : Production Condition
parens = g.parens Leaf Nested HeldNested

abbrev pub operand : Production Condition
operand = g.operand Leaf Nested HeldNested own_operand

abbrev pub list : {V : Type 0} → Production V → Production (List V)
list = g.list Leaf Nested HeldNested

abbrev pub two_or_more : {V : Type 0} → Production V → Production (List V)
two_or_more = g.two_or_more Leaf Nested HeldNested

abbrev pub including : Production (Bool → Tail Leaf)
including = g.including Leaf Nested HeldNested own_operand

abbrev pub predicate_tail : Production (Tail Leaf)
predicate_tail = g.predicate_tail Leaf Nested HeldNested own_operand

abbrev pub test_tail : Production (Tail Leaf)
test_tail = g.test_tail Leaf Nested HeldNested own_operand

abbrev pub negation : Production Condition
negation = g.negation Leaf Nested HeldNested test

abbrev pub conjunction : Production Condition
conjunction = g.conjunction Leaf Nested HeldNested test

abbrev pub condition : Production Condition
condition = g.search_condition Leaf Nested HeldNested test

-- what is read, each behind the mark, is gathered behind what is there
abbrev pub gathers : Mark → Parser Token Condition → Gathered Leaf → Parser Token (Gathered Leaf)
gathers mark P all ts = gathered (is_mark mark) (after_p (is_mark mark) span_of P) with_one (length ts) all ts
