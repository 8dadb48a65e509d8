-- The grammar of path patterns. It is that of SQL/PGQ (ISO/IEC 9075-16), cut down.
use Rattle.std.specs.Prelude.{ℕ, Bool, true, false, ◌||◌, ◌==◌, List, [], ◌∷◌, map, Option, None, Some}
use Rattle.pgq_base.specs.declared.refusal.Span.{Span}
use Rattle.graph_ast.specs.declared.schema.Named.{Named}
use Rattle.graph_ast.specs.declared.query.PathTree.{PathTree}
use Rattle.graph_ast.specs.declared.query.Selector.{Selector}
use Rattle.graph_ast.specs.declared.query.SelectorKind.{SelectorKind}
use Rattle.graph_ast.specs.declared.query.SelectorKind.TheVariants.{AllShortest, Any as AnyPath, AnyCount, AnyShortest, Shortest, ShortestGroup}
use Rattle.graph_ast.specs.declared.query.ModeWord.{ModeWord}
use Rattle.graph_ast.specs.declared.query.Mode.{Mode}
use Rattle.graph_ast.specs.declared.query.Mode.TheVariants.{Walk, Trail, Acyclic, Simple}
use Rattle.graph_ast.specs.declared.query.Union.{Union, roll-Union}
use Rattle.graph_ast.specs.declared.query.Joint.{Joint}
use Rattle.graph_ast.specs.declared.query.Sequence.{Sequence}
use Rattle.graph_ast.specs.declared.query.Factor.{Factor}
use Rattle.graph_ast.specs.declared.query.Factor.TheVariants.{Vertex, Edge, Part}
use Rattle.graph_ast.specs.declared.query.Direction.{Direction}
use Rattle.graph_ast.specs.declared.query.Direction.TheVariants.{Right, Left, Either, Any as AnyDirection, Undirected}
use Rattle.graph_ast.specs.declared.query.Filler.{Filler}
use Rattle.graph_ast.specs.declared.query.PartTree.{PartTree, PartTree'}
use Rattle.graph_ast.specs.declared.query.Quantifier.{Quantifier}
use Rattle.graph_ast.specs.declared.query.QuantifierKind.{QuantifierKind}
use Rattle.graph_ast.specs.declared.query.QuantifierKind.TheVariants.{Between, AtLeast, Optional}
use Rattle.graph_ast.specs.declared.query.LabelExpr.{LabelExpr}
use Rattle.graph_ast.specs.declared.query.LabelExpr.TheVariants.{Label, AnyLabel, Not, And, Or}
use Rattle.token_grammar.specs.Rules.Rule.{mapped, seq, either, opt, many, nest, fork}
use Rattle.token_marks.specs.declared.mark.Mark.{Mark}
use Rattle.token_marks.specs.declared.mark.Mark.TheVariants as m
use Rattle.token_marks.specs.Marks.{number_of}
use Rattle.token_reading.specs.Tokens.{span_of}
use Rattle.condition_grammar.specs.Classes.{left_parenthesis, right_parenthesis}
use Rattle.condition_grammar.specs.Spans.{reach}
use Rattle.condition_grammar.specs.Conditions.{Inside}
use Rattle.pattern_parser.specs.declared.pieces.Content.{Content}
use Rattle.pattern_parser.specs.declared.pieces.PartContent.{PartContent}
use Rattle.pattern_parser.specs.declared.pieces.EdgePattern.{EdgePattern}
use Rattle.pattern_parser.specs.declared.pieces.EdgeEnd.{EdgeEnd}
use Rattle.pattern_parser.specs.declared.pieces.Prefix.{Prefix}
use Rattle.pattern_parser.specs.declared.pieces.Placed.{Placed}
use Rattle.pattern_parser.specs.Insides.{Own, left_bracket, right_bracket, Production, the, means, name, number, after, before, parens}

-- Label expressions

abbrev pub and_of : LabelExpr → List LabelExpr → LabelExpr
and_of l [] = l
and_of l (k ∷ ks) = And (l ∷ k ∷ ks)

abbrev pub or_of : LabelExpr → List LabelExpr → LabelExpr
or_of l [] = l
or_of l (k ∷ ks) = Or (l ∷ k ∷ ks)

abbrev pub not_label : Option Span → LabelExpr → LabelExpr
not_label None l = l
not_label (Some mark) l = Not l

-- labelPrimary: name | % | ( labelUnion )
unfoldable pub label_primary : Production LabelExpr
label_primary = either (mapped Label name) (either (means m.Percent AnyLabel) (parens Own.label_group))

-- labelNot: [ ! ] labelPrimary
unfoldable pub label_not : Production LabelExpr
label_not = mapped (λ d. not_label d.0 d.1) (seq (opt (the m.ExclamationMark)) label_primary)

-- labelAnd: labelNot { & labelNot }
unfoldable pub label_and : Production LabelExpr
label_and = mapped (λ d. and_of d.0 d.1) (seq label_not (many (after (the m.Ampersand) label_not)))

-- labelUnion: labelAnd { | labelAnd }
unfoldable pub label_union : Production LabelExpr
label_union = mapped (λ d. or_of d.0 d.1) (seq label_and (many (after (the m.VerticalBar) label_and)))

-- Modes and quantifiers

abbrev pub mode_for : Mark → Mode → Production ModeWord
mode_for mark mode = mapped (λ span. record { mode = mode; span = span }) (the mark)

-- mode: WALK | TRAIL | ACYCLIC | SIMPLE
unfoldable pub mode : Production ModeWord
mode = either (mode_for m.Walk Walk) (either (mode_for m.Trail Trail) (either (mode_for m.Acyclic Acyclic) (mode_for m.Simple Simple)))

-- noun: PATH | PATHS
unfoldable pub noun : Production Span
noun = either (the m.Path) (the m.Paths)

-- mode [ noun ]
unfoldable pub mode_part : Production ModeWord
mode_part = before mode (opt noun)

abbrev pub bounds_from : ℕ → Option (Option (ℕ × Span)) → QuantifierKind
bounds_from n None = Between n n
bounds_from n (Some None) = AtLeast n
bounds_from n (Some (Some m)) = Between n m.0

-- number | number , | number , number | , number
unfoldable pub bounds : Production QuantifierKind
bounds = either (mapped (λ d. bounds_from d.0.0 d.1) (seq number (opt (after (the m.Comma) (opt number)))))
    (mapped (λ n. Between 0 n.0) (after (the m.Comma) number))

abbrev pub quantifier_of : QuantifierKind → Span → Quantifier
quantifier_of kind span = record { kind = kind; span = span }

-- quantifier: * | + | ? | { bounds }
unfoldable pub quantifier : Production Quantifier
quantifier = either (mapped (quantifier_of (AtLeast 0)) (the m.Asterisk)) (either (mapped (quantifier_of (AtLeast 1)) (the m.Plus))
    (either (mapped (quantifier_of Optional) (the m.QuestionMark))
    (mapped (λ d. quantifier_of d.1.0 (reach d.0 d.1.1)) (seq (the m.LeftBrace) (seq bounds (the m.RightBrace))))))

-- Edges

abbrev pub no_content : Content
no_content = record { variable = None; label = None; condition = None }

abbrev pub filler_of : Content → Span → Filler
filler_of c span = record { variable = c.variable; label = c.label; condition = c.condition; span = span }

abbrev pub end_of : Content → Bool → Span → EdgeEnd
end_of c points last = record { content = c; points = points; to = last.to }

-- [ filler ]
abbrev pub in_square : Production Content
in_square = mapped (λ d. d.1) (nest span_of left_bracket right_bracket (Inside.own Own.filler))

abbrev pub pointed : Content → Span → Option Span → EdgeEnd
pointed c last None = end_of c false last
pointed c last (Some arrow) = end_of c true arrow

-- > | [ filler ] line | [ filler ] line > , where the line is - or ~
unfoldable pub edge_end : Mark → Production EdgeEnd
edge_end line = either (mapped (end_of no_content true) (the m.Greater))
    (mapped (λ d. pointed d.0 d.1.0 d.1.1) (seq in_square (seq (the line) (opt (the m.Greater)))))

-- [ filler ] ~
unfoldable pub wave_end : Production EdgeEnd
wave_end = mapped (λ d. end_of d.0 false d.1) (seq in_square (the m.Tilde))

-- by `<` at the left and `>` at the right of the lines
abbrev pub direction : Bool → Bool → Direction
direction false false = AnyDirection
direction false true = Right
direction true false = Left
direction true true = Either

abbrev pub edge_of : Direction → Content → ℕ → ℕ → EdgePattern
edge_of d c from to = record { direction = d; filler = filler_of c (record { from = from; to = to }) }

abbrev pub dashed : Bool → Span → Span → Option EdgeEnd → EdgePattern
dashed left first line None = edge_of (direction left false) no_content first.from line.to
dashed left first line (Some e) = edge_of (direction left e.points) e.content first.from e.to

abbrev pub waved : Span → Span → Option EdgeEnd → EdgePattern
waved first line None = edge_of Undirected no_content first.from line.to
waved first line (Some e) = edge_of Undirected e.content first.from e.to

-- behind `<`
unfoldable pub left_edge : Production (Span → EdgePattern)
left_edge = either (mapped (λ d first. dashed true first d.0 d.1) (seq (the m.Minus) (opt (edge_end m.Minus))))
    (mapped (λ d first. waved first d.0 d.1) (seq (the m.Tilde) (opt wave_end)))

-- edge:  -   ->   -[ filler ]-   -[ filler ]->
--        ~   ~>   ~[ filler ]~   ~[ filler ]~>
--       <-  <->  <-[ filler ]-  <-[ filler ]->
--       <~       <~[ filler ]~
unfoldable pub edge : Production EdgePattern
edge = either (mapped (λ d. dashed false d.0 d.0 d.1) (seq (the m.Minus) (opt (edge_end m.Minus))))
    (either (mapped (λ d. waved d.0 d.0 d.1) (seq (the m.Tilde) (opt (edge_end m.Tilde))))
    (mapped (λ d. d.1 d.0) (seq (the m.Less) left_edge)))

-- Parts, sequences and unions, each with where it stands

abbrev pub placed : {A : Type 0} → A → Span → Placed A
placed node span = record { node = node; span = span }

abbrev pub node_of : {A : Type 0} → Placed A → A
node_of x = x.node

abbrev pub last_place : {A : Type 0} → Placed A → List (Placed A) → Span
last_place x [] = x.span
last_place x (y ∷ ys) = last_place y ys

-- from the first of them to the last
abbrev pub reach_over : {A : Type 0} → Placed A → List (Placed A) → Span
reach_over x xs = reach x.span (last_place x xs)

-- a span, up to the quantifier's end if there is one
abbrev pub reach_with : Span → Option Quantifier → Span
reach_with own None = own
reach_with own (Some q) = reach own q.span

abbrev pub part_of : PartContent → Span → PartTree
part_of c span = PartTree' c.mode c.body c.condition span

abbrev pub part_at : Span → Span → PartContent → Option Quantifier → Placed Factor
part_at first last c q = placed (Part (part_of c (reach first last)) q) (reach_with (reach first last) q)

abbrev pub vertex_at : Span → Span → Content → Placed Factor
vertex_at first last c = placed (Vertex (filler_of c (reach first last))) (reach first last)

abbrev pub edge_at : EdgePattern → Option Quantifier → Placed Factor
edge_at e q = placed (Edge e.direction e.filler q) (reach_with e.filler.span q)

-- what a part begins with: a mode, a parenthesis or an edge
abbrev pub begins_part : ℕ → Bool
begins_part c = c == number_of m.Walk || c == number_of m.Trail || c == number_of m.Acyclic || c == number_of m.Simple
    || c == left_parenthesis || c == number_of m.Minus || c == number_of m.Less || c == number_of m.Tilde

-- part [ quantifier ], where part: ( what stands in a part ); or vertex: ( filler )
unfoldable pub part_or_vertex : Production (Placed Factor)
part_or_vertex = fork span_of left_parenthesis right_parenthesis begins_part
    (Inside.own Own.part) (opt quantifier) (λ first d. part_at first d.1.0 d.0 d.1.1)
    (Inside.own Own.filler) (λ first d. vertex_at first d.1 d.0)

-- factor: vertex | edge [ quantifier ] | part [ quantifier ]
unfoldable pub factor : Production (Placed Factor)
factor = either part_or_vertex (mapped (λ d. edge_at d.0 d.1) (seq edge (opt quantifier)))

abbrev pub sequence_of : List Factor → Sequence
sequence_of factors = record { factors = factors }

-- sequence: factor { factor }
unfoldable pub sequence : Production (Placed Sequence)
sequence = mapped (λ d. placed (sequence_of (d.0.node ∷ map node_of d.1)) (reach_over d.0 d.1)) (seq factor (many factor))

abbrev pub joint_of : Span → Option Span → Joint
joint_of bar None = record { multiset = false; span = bar }
joint_of bar (Some last) = record { multiset = true; span = reach bar last }

-- | , or | + |
unfoldable pub joint : Production Joint
joint = mapped (λ d. joint_of d.0 d.1) (seq (the m.VerticalBar) (opt (after (the m.Plus) (the m.VerticalBar))))

-- a sequence, behind what stands before it
abbrev pub Joined : Type 0
Joined = Joint × Placed Sequence

abbrev pub joint_in : Joined → Joint
joint_in d = d.0

abbrev pub operand_in : Joined → Placed Sequence
operand_in d = d.1

abbrev pub sequence_in : Joined → Sequence
sequence_in d = d.1.node

abbrev pub union_of : Sequence → List Joined → Union
union_of first more = roll-Union (record { operands = first ∷ map sequence_in more; joints = map joint_in more })

-- union: sequence { | sequence , or | + | sequence }
unfoldable pub union : Production (Placed Union)
union = mapped (λ d. placed (union_of d.0.node d.1) (reach_over d.0 (map operand_in d.1))) (seq sequence (many (seq joint sequence)))

-- Paths

abbrev pub selector_of : SelectorKind → Span → Selector
selector_of kind span = record { kind = kind; span = span }

abbrev pub prefix_of : SelectorKind → Span → Option ModeWord → Prefix
prefix_of kind span mode = record { selector = Some (selector_of kind span); mode = mode; from = span.from }

-- [ mode ] [ noun ]
unfoldable pub mode_and_noun : Production (Option ModeWord)
mode_and_noun = before (opt mode) (opt noun)

-- SHORTEST | number
unfoldable pub kind_of_any : Production Selector
kind_of_any = either (mapped (selector_of AnyShortest) (the m.Shortest)) (mapped (λ n. selector_of (AnyCount n.0) n.1) number)

abbrev pub any_of : Span → Option Selector → Option ModeWord → Prefix
any_of word None mode = prefix_of AnyPath word mode
any_of word (Some s) mode = prefix_of s.kind (reach word s.span) mode

abbrev pub shortest_of : Span → ℕ × Span → Option ModeWord → Option Span → Prefix
shortest_of word n mode None = prefix_of (Shortest n.0) (reach word n.1) mode
shortest_of word n mode (Some group) = prefix_of (ShortestGroup n.0) (reach word group) mode

-- ALL SHORTEST [ mode ] [ noun ]
unfoldable pub all_prefix : Production Prefix
all_prefix = mapped (λ d. prefix_of AllShortest (reach d.0 d.1.0) d.1.1) (seq (the m.All) (seq (the m.Shortest) mode_and_noun))

-- ANY [ SHORTEST | number ] [ mode ] [ noun ]
unfoldable pub any_prefix : Production Prefix
any_prefix = mapped (λ d. any_of d.0 d.1.0 d.1.1) (seq (the m.Any) (seq (opt kind_of_any) mode_and_noun))

-- SHORTEST number [ mode ] [ noun ] [ GROUP | GROUPS ]
unfoldable pub shortest_prefix : Production Prefix
shortest_prefix = mapped (λ d. shortest_of d.0 d.1.0 d.1.1.0 d.1.1.1) (seq (the m.Shortest) (seq number (seq mode_and_noun (opt (either (the m.Group) (the m.Groups))))))

-- prefix: mode [ noun ] | ALL SHORTEST .. | ANY .. | SHORTEST number ..
unfoldable pub prefix : Production Prefix
prefix = either (mapped (λ mode. record { selector = None; mode = Some mode; from = mode.span.from }) mode_part) (either all_prefix (either any_prefix shortest_prefix))

abbrev pub selector_in : Option Prefix → Option Selector
selector_in None = None
selector_in (Some p) = p.selector

abbrev pub mode_in : Option Prefix → Option ModeWord
mode_in None = None
mode_in (Some p) = p.mode

-- where a path begins: at its variable, at its prefix, or at its first pattern
abbrev pub path_from : Option Named → Option Prefix → Span → ℕ
path_from (Some v) p body = v.span.from
path_from None (Some p) body = p.from
path_from None None body = body.from

abbrev pub path_of : Option Named → Option Prefix → Placed Union → PathTree
path_of v p u = record { variable = v; selector = selector_in p; mode = mode_in p; body = u.node; span = record { from = path_from v p u.span; to = u.span.to } }

-- path: [ name = ] [ prefix ] union
unfoldable pub path : Production PathTree
path = mapped (λ d. path_of d.0 d.1.0 d.1.1) (seq (opt (before name (the m.Equals))) (seq (opt prefix) union))
