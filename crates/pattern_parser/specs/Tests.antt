-- The grammar of conditions in query texts. What they share with those of SQL texts stands in `condition_grammar`; here are
-- the leaves and the element predicates, each of which begins with a name or with a word that may be one.
use Rattle.std.specs.Prelude.{ℕ, Bool, true, false, not, ◌&&◌, ◌||◌, ◌==◌, List, [], ◌∷◌, cond, bytes_eq, codes, None, Some}
use Rattle.pgq_base.specs.declared.refusal.Span.{Span}
use Rattle.expr_tree.specs.declared.tree.Expr.TheVariants as expr
use Rattle.graph_ast.specs.declared.schema.Named.{Named}
use Rattle.graph_ast.specs.declared.query.PropertyRef.{PropertyRef}
use Rattle.graph_ast.specs.declared.query.ElementTest.{ElementTest}
use Rattle.graph_ast.specs.declared.query.ElementTest.TheVariants.{Same, AllDifferent, SourceOf, DestinationOf}
use Rattle.token_grammar.specs.Rules.Rule.{one, mapped, seq, either, opt, many, nest}
use Rattle.token_marks.specs.declared.mark.Mark.TheVariants as m
use Rattle.token_marks.specs.Marks.{number_of}
use Rattle.token_reading.specs.Tokens.{span_of, named}
use Rattle.condition_grammar.specs.declared.spanned.Spanned.{Spanned}
use Rattle.condition_grammar.specs.Classes.{left_parenthesis, right_parenthesis, is_undated}
use Rattle.condition_grammar.specs.Spans.{node, reach, Tail, unless_none, all_of, any_of}
use Rattle.condition_grammar.specs.Conditions as g
use Rattle.condition_grammar.specs.Conditions.{Inside}
use Rattle.pattern_parser.specs.Insides.{Own, HeldOwn, Production, the, name, word, after}

abbrev pub Tree : Type 0
Tree = Spanned PropertyRef

-- what a name that was read is made into
abbrev pub OfName : Type 0
OfName = g.OfName PropertyRef Own HeldOwn

abbrev pub put_name : Named × OfName → Tree
put_name = g.put_name PropertyRef Own HeldOwn

abbrev pub leaf_of : Named → Named → PropertyRef
leaf_of variable property = record { variable = variable; property = property; test = None }

-- the . name of a leaf
abbrev pub dotted : Production OfName
dotted = g.dotted PropertyRef Own HeldOwn leaf_of

-- the character literal of DATE '2020-02-29', whose content is a date's text
abbrev pub date_text : Production OfName
date_text = g.date_text PropertyRef Own HeldOwn

-- leaf: name . name, and the literal DATE '..'
abbrev pub own_operand : Production Tree
own_operand = g.leaf_or_date PropertyRef Own HeldOwn leaf_of

abbrev pub test_tail : Production (Tail PropertyRef)
test_tail = g.test_tail PropertyRef Own HeldOwn own_operand

abbrev pub truth_test : Production (Tail PropertyRef)
truth_test = g.truth_test PropertyRef Own HeldOwn

-- x, and what may follow it in a test
abbrev pub with_tail : Production (Tail PropertyRef) → Production OfName → Production OfName
with_tail tail x = mapped (λ d name. unless_none d.1 (d.0 name)) (seq x (opt tail))

abbrev pub predicate : Span → Named → Named → ElementTest → Tree
predicate span first word test = node span (expr.Leaf (record { variable = first; property = word; test = Some test })) []

abbrev pub not_when : Bool → Span → Tree → Tree
not_when false span c = c
not_when true span c = node span (expr.Not c.tree) (c ∷ [])

-- IS [ NOT ] word OF name, for SOURCE or DESTINATION
abbrev pub related : (Named → Named → ElementTest) → Named → Named → Bool → OfName
related test word edge negated vertex = not_when negated (reach vertex.span edge.span) (predicate (reach vertex.span edge.span) vertex word (test vertex edge))

-- SOURCE OF name | DESTINATION OF name
unfoldable pub end_of_edge : Production (Bool → OfName)
end_of_edge = either (mapped (λ d. related SourceOf d.0 d.1) (seq (word m.Source) (after (the m.Of) name)))
    (mapped (λ d. related DestinationOf d.0 d.1) (seq (word m.Destination) (after (the m.Of) name)))

-- IS [ NOT ] SOURCE OF name | IS [ NOT ] DESTINATION OF name
unfoldable pub relation : Production OfName
relation = mapped (λ d. d.1 d.0) (after (the m.Is) (seq (g.negated PropertyRef Own HeldOwn) end_of_edge))

-- What may follow a name at the head of a test. With the name:
--   name . name [ what makes a test of an operand ]
--   name IS [ NOT ] SOURCE OF name [ IS [ NOT ] TRUE .. ], and DESTINATION
unfoldable pub after_name : Production OfName
after_name = either (with_tail test_tail dotted) (with_tail truth_test relation)

abbrev pub first_of : Named → List Named → Named
first_of word [] = word
first_of word (v ∷ vs) = v

-- SAME or ALL_DIFFERENT
abbrev pub is_group_word : ℕ → Bool
is_group_word c = c == number_of m.Same || c == number_of m.AllDifferent

abbrev pub group_test : List ℕ → List Named → ElementTest
group_test word variables = cond (bytes_eq word (codes "SAME")) (Same variables) (AllDifferent variables)

abbrev pub grouped : List Named → Span → OfName
grouped variables closing word = predicate (reach word.span closing) (first_of word variables) word (group_test word.name variables)

-- ( name , name { , name } ) [ IS [ NOT ] TRUE .. ], behind SAME or ALL_DIFFERENT
unfoldable pub after_group_word : Production OfName
after_group_word = with_tail truth_test (mapped (λ d. grouped d.1 d.2) (nest span_of left_parenthesis right_parenthesis (Inside.own Own.variables)))

-- a name that begins with no word of a meaning of its own
abbrev pub is_plain : ℕ → Bool
is_plain c = is_undated c && not (is_group_word c)

-- literal | COALESCE ( .. ) | ( cond )
unfoldable pub unnamed_operand : Production Tree
unnamed_operand = either (g.literals PropertyRef Own HeldOwn) (either (g.coalesce PropertyRef Own HeldOwn) (g.parens PropertyRef Own HeldOwn))

-- test: predicate [ IS [ NOT ] TRUE | FALSE | UNKNOWN ], by what it begins with. The plain names are those for which it says so.
unfoldable pub test_from : (ℕ → Bool) → Production Tree
test_from plain = either (mapped (λ d. unless_none d.1 d.0) (seq unnamed_operand (opt test_tail)))
    (either (mapped put_name (seq (one plain named) after_name))
    (either (mapped put_name (seq (word m.Date) (either after_name (with_tail test_tail date_text))))
    (mapped put_name (seq (one is_group_word named) (either after_name after_group_word)))))

abbrev pub test : Production Tree
test = test_from is_plain

abbrev pub negation : Production Tree
negation = g.negation PropertyRef Own HeldOwn test

abbrev pub conjunction : Production Tree
conjunction = g.conjunction PropertyRef Own HeldOwn test

abbrev pub condition : Production Tree
condition = g.search_condition PropertyRef Own HeldOwn test

abbrev pub joined : Tree → List Tree → List Tree → Tree
joined first ands ors = any_of (all_of first ands) ors

-- what follows the first member of a condition: { AND notCond } { OR andCond }
unfoldable pub more_members : Production (Tree → Tree)
more_members = mapped (λ d first. joined first d.0 d.1) (seq (many (after (the m.And) negation)) (many (after (the m.Or) conjunction)))
