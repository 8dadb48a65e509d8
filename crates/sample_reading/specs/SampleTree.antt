-- The tokens of the query text of the generated run, and the tree that they spell.
use Rattle.std.specs.Prelude.{ℕ, List, [], ◌∷◌, codes, None, Some}
use Rattle.pgq_base.specs.declared.refusal.Span.{Span}
use Rattle.expr_tree.specs.declared.tree.Expr.TheVariants.{Leaf}
use Rattle.sql_lexer.specs.declared.token.Token.{Token}
use Rattle.sql_lexer.specs.declared.token.Kind.TheVariants.{Word, Reserved, Number, Symbol}
use Rattle.sql_lexer.specs.Tokens.{token}
use Rattle.graph_ast.specs.declared.schema.Named.{Named}
use Rattle.graph_ast.specs.declared.query.QueryTree.{QueryTree}
use Rattle.graph_ast.specs.declared.query.PathTree.{PathTree}
use Rattle.graph_ast.specs.declared.query.SelectorKind.TheVariants.{AllShortest}
use Rattle.graph_ast.specs.declared.query.Union.{Union, roll-Union}
use Rattle.graph_ast.specs.declared.query.Sequence.{Sequence}
use Rattle.graph_ast.specs.declared.query.Factor.{Factor}
use Rattle.graph_ast.specs.declared.query.Factor.TheVariants.{Vertex, Edge}
use Rattle.graph_ast.specs.declared.query.Direction.TheVariants.{Right}
use Rattle.graph_ast.specs.declared.query.Filler.{Filler}
use Rattle.graph_ast.specs.declared.query.Quantifier.{Quantifier}
use Rattle.graph_ast.specs.declared.query.QuantifierKind.TheVariants.{Between}
use Rattle.graph_ast.specs.declared.query.PropertyRef.{PropertyRef}
use Rattle.graph_ast.specs.declared.query.Item.{Item}

unfoldable pub sample_tokens : List Token
sample_tokens =
    token 0 6 (Reserved 33) ∷ token 7 8 (Symbol 10) ∷ token 9 13 (Reserved 18) ∷ token 14 25 (Reserved 19) ∷ token 26 27 (Symbol 0) ∷
    token 27 28 (Word (codes "G")) ∷ token 29 34 (Reserved 25) ∷ token 35 38 (Reserved 1) ∷ token 39 47 (Reserved 34) ∷ token 48 49 (Symbol 0) ∷
    token 49 50 (Word (codes "X")) ∷ token 50 51 (Symbol 1) ∷ token 51 52 (Symbol 12) ∷ token 52 53 (Symbol 2) ∷ token 53 54 (Word (codes "E")) ∷
    token 54 55 (Symbol 3) ∷ token 55 56 (Symbol 12) ∷ token 56 57 (Symbol 16) ∷ token 57 58 (Symbol 4) ∷ token 58 59 (Number 1) ∷
    token 59 60 (Symbol 6) ∷ token 60 61 (Number 2) ∷ token 61 62 (Symbol 5) ∷ token 62 63 (Symbol 0) ∷ token 63 64 (Word (codes "Y")) ∷
    token 64 65 (Symbol 1) ∷ token 66 73 (Word (codes "COLUMNS")) ∷ token 74 75 (Symbol 0) ∷ token 75 76 (Word (codes "X")) ∷
    token 76 77 (Symbol 7) ∷ token 77 79 (Word (codes "ID")) ∷ token 80 82 (Reserved 4) ∷ token 83 84 (Word (codes "F")) ∷ token 84 85 (Symbol 6) ∷
    token 86 87 (Word (codes "Y")) ∷ token 87 88 (Symbol 7) ∷ token 88 90 (Word (codes "ID")) ∷ token 91 93 (Reserved 4) ∷
    token 94 95 (Word (codes "T")) ∷ token 95 96 (Symbol 1) ∷ token 96 97 (Symbol 1) ∷ []

abbrev pub span : ℕ → ℕ → Span
span from to = record { from = from; to = to }

abbrev pub named : List ℕ → ℕ → ℕ → Named
named name from to = record { name = name; span = span from to }

-- what stands in an element pattern: a variable alone
abbrev pub filler : Named → Span → Filler
filler variable span = record { variable = Some variable; label = None; condition = None; span = span }

-- (x)
abbrev pub from_x : Filler
from_x = filler (named (codes "X") 49 50) (span 48 51)

-- -[e]->
abbrev pub by_e : Filler
by_e = filler (named (codes "E") 53 54) (span 51 57)

-- {1,2}
abbrev pub once_or_twice : Quantifier
once_or_twice = record { kind = Between 1 2; span = span 57 62 }

-- (y)
abbrev pub to_y : Filler
to_y = filler (named (codes "Y") 63 64) (span 62 65)

abbrev pub sample_sequence : Sequence
sample_sequence = record { factors = Vertex from_x ∷ Edge Right by_e (Some once_or_twice) ∷ Vertex to_y ∷ [] }

abbrev pub sample_union : Union
sample_union = roll-Union (record { operands = sample_sequence ∷ []; joints = [] })

abbrev pub sample_path_tree : PathTree
sample_path_tree = record { variable = None; selector = Some (record { kind = AllShortest; span = span 35 47 }); mode = None; body = sample_union; span = span 35 65 }

abbrev pub leaf : Named → Named → PropertyRef
leaf variable property = record { variable = variable; property = property; test = None }

-- variable.property AS name
abbrev pub item : PropertyRef → Named → Span → Item
item own name span = record { value = record { tree = Leaf own; spans = span ∷ [] }; name = Some name; span = span; gather = None }

-- x.id
abbrev pub id_of_x : PropertyRef
id_of_x = leaf (named (codes "X") 75 76) (named (codes "ID") 77 79)

-- y.id
abbrev pub id_of_y : PropertyRef
id_of_y = leaf (named (codes "Y") 86 87) (named (codes "ID") 88 90)

unfoldable pub sample_tree : QueryTree
sample_tree = record {
  graph = named (codes "G") 27 28;
  match_span = span 29 34;
  paths = sample_path_tree ∷ [];
  condition = None;
  columns = item id_of_x (named (codes "F") 83 84) (span 75 79) ∷ item id_of_y (named (codes "T") 94 95) (span 86 90) ∷ [];
}
