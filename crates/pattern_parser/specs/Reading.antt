-- The parser that the code follows.
use Rattle.std.specs.Prelude.{ℕ, ◌==◌, ◌-◌, Bool, List, [], ◌∷◌, ◌++◌, None}
use Rattle.pgq_base.specs.declared.refusal.Span.{Span}
use Rattle.sql_lexer.specs.declared.token.Token.{Token}
use Rattle.token_grammar.specs.Parser.{Parser, Inner, parser, inner, branch_p}
use Rattle.token_grammar.specs.Code.{list_p}
use Rattle.token_grammar.specs.Rules.Rule.{opt, seq}
use Rattle.graph_ast.specs.declared.query.Factor.{Factor}
use Rattle.pattern_parser.specs.declared.pieces.Placed.{Placed}
use Rattle.pattern_parser.specs.declared.pieces.Run.{Run}
use Rattle.pattern_parser.specs.declared.pieces.Operands.{Operands}
use Rattle.pattern_parser.specs.Patterns.{Joined, begins_part, quantifier, part_at, vertex_at, joint, sequence}
use Rattle.token_grammar.specs.Checks.{or}
use Rattle.token_marks.specs.declared.mark.Mark.TheVariants as m
use Rattle.token_marks.specs.Marks.{number_of}
use Rattle.token_reading.specs.Tokens.{class, is_mark, span_of}
use Rattle.condition_grammar.specs.Classes.{right_parenthesis}
use Rattle.condition_grammar.specs.Conditions.{Inside}
use Rattle.pattern_parser.specs.Insides.{Own, HeldInside, Production}
use Rattle.pattern_parser.specs.Queries.{inside}

-- how many more brackets may be opened
abbrev pub Level : Type 0
Level = Inner Token (Inside Own) HeldInside

abbrev pub reads : Level → {V : Type 0} → Production V → Parser Token V
reads l r = parser class l r

abbrev pub at_depth : ℕ → Level
at_depth n = inner class inside n

-- what nests nowhere is read at any level
abbrev pub flat : Level
flat = None

-- what a mode begins with
abbrev pub starts_mode : ℕ → Bool
starts_mode = or (λ c. c == number_of m.Walk) (or (λ c. c == number_of m.Trail) (or (λ c. c == number_of m.Acyclic) (λ c. c == number_of m.Simple)))

-- what a quantifier begins with
abbrev pub starts_quantifier : ℕ → Bool
starts_quantifier = or (λ c. c == number_of m.Asterisk) (or (λ c. c == number_of m.Plus) (or (λ c. c == number_of m.QuestionMark) (λ c. c == number_of m.LeftBrace)))

-- what a prefix begins with
abbrev pub starts_prefix : ℕ → Bool
starts_prefix = or starts_mode (or (λ c. c == number_of m.All) (or (λ c. c == number_of m.Any) (λ c. c == number_of m.Shortest)))

-- what an edge, and what a factor begins with
abbrev pub starts_edge : ℕ → Bool
starts_edge = or (λ c. c == number_of m.Minus) (or (λ c. c == number_of m.Tilde) (λ c. c == number_of m.Less))

abbrev pub starts_factor : ℕ → Bool
starts_factor = or (λ c. c == number_of m.LeftParenthesis) starts_edge

-- what stands behind a parenthesis that opens a part or a vertex, where that many more brackets could be opened before it
abbrev pub reads_branch : ℕ → Parser Token (Span → Placed Factor)
reads_branch n = branch_p class (λ k. reads (at_depth (n - 1)) (inside k)) span_of right_parenthesis begins_part
    (Inside.own Own.part) (reads flat (opt quantifier)) (λ first d. part_at first d.1.0 d.0 d.1.1)
    (Inside.own Own.filler) (λ first d. vertex_at first d.1 d.0)

-- one factor more
abbrev pub with_factor : Run → Placed Factor → Run
with_factor run f = record { factors = run.factors ++ f.node ∷ []; span = record { from = run.span.from; to = f.span.to } }

-- what stands between operands, and the next of them
abbrev pub joined : Production Joined
joined = seq joint sequence

-- one operand more
abbrev pub with_operand : Operands → Joined → Operands
with_operand all d = record { operands = all.operands ++ d.1.node ∷ []; joints = all.joints ++ d.0 ∷ []; span = record { from = all.span.from; to = d.1.span.to } }

-- x { , x }, for what reads x
abbrev pub reads_list : {V : Type 0} → Parser Token V → Parser Token (List V)
reads_list P = list_p (is_mark m.Comma) span_of P
