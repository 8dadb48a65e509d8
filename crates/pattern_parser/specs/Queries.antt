-- The grammar of whole query texts: one GRAPH_TABLE.
use Rattle.std.specs.Prelude.{ℕ, Bool, not, ◌&&◌, ◌||◌, ◌==◌, List, [], ◌∷◌, cond, bytes_eq, codes, Option, None, Some, pos}
use Rattle.pgq_base.specs.declared.refusal.Span.{Span}
use Rattle.pgq_base.specs.declared.value.Value.TheVariants.{Number}
use Rattle.sql_lexer.specs.declared.token.Token.{Token}
use Rattle.expr_tree.specs.declared.tree.Expr.TheVariants.{Lit}
use Rattle.graph_ast.specs.declared.schema.Named.{Named}
use Rattle.graph_ast.specs.declared.query.QueryTree.{QueryTree}
use Rattle.graph_ast.specs.declared.query.PropertyRef.{PropertyRef}
use Rattle.graph_ast.specs.declared.query.Condition.{Condition}
use Rattle.graph_ast.specs.declared.query.Item.{Item}
use Rattle.graph_ast.specs.declared.query.GatherKind.{GatherKind}
use Rattle.graph_ast.specs.declared.query.GatherKind.TheVariants.{Count, Min, Max, Sum}
use Rattle.graph_ast.specs.declared.query.PathTree.{PathTree}
use Rattle.graph_ast.specs.declared.query.LabelExpr.{LabelExpr}
use Rattle.token_grammar.specs.Grammar.{Grammar}
use Rattle.token_grammar.specs.Rules.{grammar}
use Rattle.token_grammar.specs.Rules.Rule.{one, mapped, seq, either, opt, nest}
use Rattle.token_marks.specs.declared.mark.Mark.TheVariants as m
use Rattle.token_marks.specs.Marks.{number_of}
use Rattle.token_reading.specs.Tokens.{class, span_of, named}
use Rattle.condition_grammar.specs.Classes.{left_parenthesis, right_parenthesis}
use Rattle.condition_grammar.specs.Spans.{span_of as own_span, not_if, reach}
use Rattle.condition_grammar.specs.Conditions as g
use Rattle.condition_grammar.specs.Conditions.{Inside}
use Rattle.pattern_parser.specs.declared.pieces.Content.{Content}
use Rattle.pattern_parser.specs.declared.pieces.PartContent.{PartContent}
use Rattle.pattern_parser.specs.declared.pieces.Counted.{Counted}
use Rattle.pattern_parser.specs.Insides.{Own, HeldOwn, HeldInside, Production, the, name, word, list, parens, after, before, condition_of}
use Rattle.pattern_parser.specs.Patterns.{label_union, mode_part, union, path}
use Rattle.pattern_parser.specs.Tests.{Tree, is_plain, own_operand, after_name, test_from, test, condition, more_members}

-- WHERE cond
unfoldable pub where_part : Production Condition
where_part = mapped condition_of (after (the m.Where) condition)

-- IS labelUnion | : labelUnion
unfoldable pub label_part : Production LabelExpr
label_part = either (after (the m.Is) label_union) (after (the m.Colon) label_union)

-- filler: [ name ] [ IS labelUnion | : labelUnion ] [ WHERE cond ]
unfoldable pub filler : Production Content
filler = mapped (λ d. record { variable = d.0; label = d.1.0; condition = d.1.1 }) (seq (opt name) (seq (opt label_part) (opt where_part)))

-- what stands in a part: [ mode [ noun ] ] union [ WHERE cond ]
unfoldable pub part : Production PartContent
part = mapped (λ d. record { mode = d.0; body = d.1.0.node; condition = d.1.1 }) (seq (opt mode_part) (seq union (opt where_part)))

-- [ AS name ]
unfoldable pub alias : Production (Option Named)
alias = opt (after (the m.As) name)

abbrev pub item_of : Tree → Option Named → Item
item_of c name = record { value = condition_of c; name = name; span = own_span c; gather = None }

abbrev pub gather_of : GatherKind → Counted → Span → Named → Named → Item
gather_of kind counted closing name word =
    let span : Span = reach word.span closing in
    record {
      value = record { tree = Lit (Number (pos 1)); spans = span ∷ [] };
      name = Some name;
      span = span;
      gather = Some (record { kind = kind; variable = counted.variable; property = counted.property });
    }

-- COUNT ( name [ . name ] ) AS name, behind its word
unfoldable pub count_gather : Production (Named → Item)
count_gather = mapped (λ d. gather_of Count d.0.1 d.0.2 d.1) (seq (nest span_of left_parenthesis right_parenthesis (Inside.own Own.counted)) (after (the m.As) name))

-- MIN, MAX or SUM
abbrev pub is_leaf_word : ℕ → Bool
is_leaf_word c = c == number_of m.Min || c == number_of m.Max || c == number_of m.Sum

abbrev pub kind_of : List ℕ → GatherKind
kind_of word = cond (bytes_eq word (codes "MIN")) Min (cond (bytes_eq word (codes "MAX")) Max Sum)

abbrev pub leaf_gather_of : Counted → Span → Named → Named → Item
leaf_gather_of leaf closing name word = gather_of (kind_of word.name) leaf closing name word

-- ( name . name ) AS name, behind MIN, MAX or SUM
unfoldable pub leaf_gather : Production (Named → Item)
leaf_gather = mapped (λ d. leaf_gather_of d.0.1 d.0.2 d.1) (seq (nest span_of left_parenthesis right_parenthesis (Inside.own Own.property)) (after (the m.As) name))

-- what COUNT gathers: name | name . name
unfoldable pub counted : Production Counted
counted = mapped (λ d. record { variable = d.0; property = d.1 }) (seq name (opt (after (the m.Period) name)))

-- what MIN, MAX and SUM gather: name . name
unfoldable pub property : Production Counted
property = mapped (λ d. record { variable = d.0; property = Some d.1 }) (seq name (after (the m.Period) name))

-- a plain name that is no aggregate's word
abbrev pub is_ungathered : ℕ → Bool
is_ungathered c = is_plain c && not (c == number_of m.Count) && not (is_leaf_word c)

-- the rest of an item whose condition's first member was read: { AND notCond } { OR andCond } [ AS name ]
unfoldable pub item_rest : Production (Tree → Item)
item_rest = mapped (λ d first. item_of (d.0 first) d.1) (seq more_members alias)

-- an item whose condition begins with a name that is an aggregate's word, behind that word
unfoldable pub after_word : Production (Named → Item)
after_word = mapped (λ d word. d.1 (d.0 word)) (seq after_name item_rest)

-- [ NOT ] test, for the first member of an item: NOT test | test that begins with no aggregate's word
unfoldable pub first_member : Production Tree
first_member = either (mapped (λ d. not_if (Some d.0) d.1) (seq (the m.Not) test)) (test_from is_ungathered)

abbrev pub item_with : Named × (Named → Item) → Item
item_with d = d.1 d.0

-- item: cond [ AS name ] | gather AS name, by what it begins with
unfoldable pub item : Production Item
item = either (mapped item_with (seq (word m.Count) (either count_gather after_word)))
    (either (mapped item_with (seq (one is_leaf_word named) (either leaf_gather after_word)))
    (mapped (λ d. d.1 d.0) (seq first_member item_rest)))

abbrev pub tree_of : Named → Span → List PathTree → Option Condition → List Item → QueryTree
tree_of graph word paths condition items = record { graph = graph; match_span = word; paths = paths; condition = condition; columns = items }

-- name MATCH path { , path } [ WHERE cond ] COLUMNS ( item { , item } )
unfoldable pub table : Production QueryTree
table = mapped (λ d. tree_of d.0 d.1.0 d.1.1.0 d.1.1.1.0 d.1.1.1.1)
    (seq name (seq (the m.Match) (seq (list path) (seq (opt where_part) (after (the m.Columns) (parens Own.items))))))

-- [ ; ]
abbrev pub semicolon : Production (Unit {0})
semicolon = mapped (λ d. tt) (opt (the m.Semicolon))

-- [ [ AS ] name ] [ ; ]
unfoldable pub query_end : Production (Unit {0})
query_end = mapped (λ d. tt) (seq (opt (after (opt (the m.As)) name)) semicolon)

-- query: SELECT * FROM GRAPH_TABLE ( .. ) [ [ AS ] name ] [ ; ]
unfoldable pub query : Production QueryTree
query = after (the m.Select) (after (the m.Asterisk) (after (the m.From) (after (the m.GraphTable) (before (parens Own.table) query_end))))

abbrev pub inside : (k : Inside Own) → Production (HeldInside k)
inside Inside.condition = condition
inside Inside.operands = list (g.operand PropertyRef Own HeldOwn own_operand)
inside Inside.members = g.two_or_more PropertyRef Own HeldOwn (g.operand PropertyRef Own HeldOwn own_operand)
inside (Inside.own Own.filler) = filler
inside (Inside.own Own.part) = part
inside (Inside.own Own.label_group) = label_union
inside (Inside.own Own.variables) = g.two_or_more PropertyRef Own HeldOwn name
inside (Inside.own Own.counted) = counted
inside (Inside.own Own.property) = property
inside (Inside.own Own.items) = list item
inside (Inside.own Own.table) = table

-- query texts with at most n open brackets
abbrev pub query_text : ℕ → Grammar Token QueryTree
query_text n = grammar class inside n query
