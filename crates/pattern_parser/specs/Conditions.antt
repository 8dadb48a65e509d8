-- The productions of conditions in this grammar, what their loops gather, and predicates kept as what they are made of.
use Rattle.std.specs.Prelude.{Bool, List, length}
use Rattle.sql_lexer.specs.declared.token.Token.{Token}
use Rattle.graph_ast.specs.declared.schema.Named.{Named}
use Rattle.graph_ast.specs.declared.query.PropertyRef.{PropertyRef}
use Rattle.graph_ast.specs.declared.query.ElementTest.{ElementTest}
use Rattle.graph_ast.specs.declared.query.ElementTest.TheVariants.{SourceOf, DestinationOf}
use Rattle.token_marks.specs.declared.mark.Mark.{Mark}
use Rattle.token_marks.specs.declared.mark.Mark.TheVariants as m
use Rattle.token_grammar.specs.Parser.{Parser, mapped_p}
use Rattle.token_grammar.specs.Code.{gathered, after_p}
use Rattle.token_grammar.specs.Rules.Rule.{one, mapped, seq, either, many}
use Rattle.token_reading.specs.Tokens.{is_mark, span_of, named}
use Rattle.condition_grammar.specs.Spans.{Tail}
use Rattle.condition_grammar.specs.Conditions as g
use Rattle.condition_nodes.specs.declared.gathered.Gathered.{Gathered}
use Rattle.condition_nodes.specs.Gathered.{with_one}
use Rattle.pattern_parser.specs.declared.predicates.RelationTail.{RelationTail}
use Rattle.pattern_parser.specs.declared.predicates.EdgeRole.{EdgeRole}
use Rattle.pattern_parser.specs.declared.predicates.EdgeRole.TheVariants.{Source, Destination}
use Rattle.pattern_parser.specs.Insides.{Own, HeldOwn, Production, the, name, word, after}
use Rattle.pattern_parser.specs.Tests.{Tree, OfName, put_name, leaf_of, own_operand, date_text, test_tail, with_tail, is_group_word, after_name, after_group_word, negation}
use Rattle.pattern_parser.specs.Tests.{conjunction, related}

-- The names below stand for the productions of `condition_grammar` over the leaves and the nests of query texts.
abbrev pub coalesce : Production Tree
coalesce = g.coalesce PropertyRef Own HeldOwn

abbrev pub parentheses : Production Tree
parentheses = g.parens PropertyRef Own HeldOwn

abbrev pub operand : Production Tree
operand = g.operand PropertyRef Own HeldOwn own_operand

abbrev pub two_or_more : {V : Type 0} → Production V → Production (List V)
two_or_more = g.two_or_more PropertyRef Own HeldOwn

abbrev pub including : Production (Bool → Tail PropertyRef)
including = g.including PropertyRef Own HeldOwn own_operand

abbrev pub predicate_tail : Production (Tail PropertyRef)
predicate_tail = g.predicate_tail PropertyRef Own HeldOwn own_operand

-- { AND notCond }, and { OR andCond }
abbrev pub more_negations : Production (List Tree)
more_negations = many (after (the m.And) negation)

abbrev pub more_conjunctions : Production (List Tree)
more_conjunctions = many (after (the m.Or) conjunction)

-- the variables of SAME and ALL_DIFFERENT
abbrev pub variables : Production (List Named)
variables = two_or_more name

-- the tests that begin with DATE, and with SAME or ALL_DIFFERENT
abbrev pub date_test : Production Tree
date_test = mapped put_name (seq (word m.Date) (either after_name (with_tail test_tail date_text)))

abbrev pub group_word_test : Production Tree
group_word_test = mapped put_name (seq (one is_group_word named) (either after_name after_group_word))

abbrev pub leaf_node : Named → Named → Tree
leaf_node = g.leaf_node PropertyRef Own HeldOwn leaf_of

-- the leaf of a property, behind the name of its variable
abbrev pub dotted_of : Named → OfName
dotted_of property variable = leaf_node variable property

-- what is read is put to the value
abbrev pub put_p : {A V : Type 0} → A → Parser Token (A → V) → Parser Token V
put_p a P = mapped_p (λ f. f a) P

-- what is read, each behind the mark, is gathered behind what is there
abbrev pub gathers : Mark → Parser Token Tree → Gathered PropertyRef → Parser Token (Gathered PropertyRef)
gathers mark P all ts = gathered (is_mark mark) (after_p (is_mark mark) span_of P) with_one (length ts) all ts

-- IS [ NOT ] SOURCE OF name, or DESTINATION, by what it is made of
abbrev pub test_for : EdgeRole → Named → Named → ElementTest
test_for Source = SourceOf
test_for Destination = DestinationOf

abbrev pub related_by : RelationTail → OfName
related_by r = related (test_for r.role) r.word r.edge r.negated
