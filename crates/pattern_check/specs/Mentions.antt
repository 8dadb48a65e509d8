-- Declarations as they are collected: in a list for each operand of each path pattern, so that none tells in which it stands.
use Rattle.std.specs.Prelude.{◌≡◌, ℕ, Bool, false, List, ◌++◌, map, flat_map}
use Rattle.std.specs.List.{enumerate_from}
use Rattle.graph_ast.specs.declared.query.PathTree.{PathTree}
use Rattle.graph_ast.specs.declared.query.Sequence.{Sequence}
use Rattle.pattern_check.specs.declared.mentions.Sort.{Sort}
use Rattle.pattern_check.specs.declared.mentions.Sort.TheVariants.{Vertices, Edges}
use Rattle.pattern_check.specs.declared.mentions.Mention.{Mention}
use Rattle.graph_ast.specs.Patterns.{sequence_given, body_given}
use Rattle.pattern_check.specs.Scopes.{Kind, vertices, edges, Place, Declaration, declaring}

abbrev pub kind_of : Sort → Kind
kind_of Vertices = vertices
kind_of Edges = edges

abbrev pub at_operand : ℕ → ℕ → Bool → Place
at_operand path operand quantified = record { path = path; operand = operand; quantified = quantified }

-- the declaration that a mention in this operand is
abbrev pub placed : ℕ → ℕ → Mention → Declaration
placed path operand m = record { variable = m.variable.now; kind = kind_of m.kind; place = at_operand path operand m.quantified }

-- a declaration as if it stood in the first operand of the first path pattern
abbrev pub unplaced : Declaration → Declaration
unplaced declaration = record { variable = declaration.variable; kind = declaration.kind; place = at_operand 0 0 declaration.place.quantified }

-- a mention as if it stood in the first operand of the first path pattern
abbrev pub said : Mention → Declaration
said m = placed 0 0 m

abbrev pub row_said : List Mention → List Declaration
row_said row = map said row

abbrev pub rows_said : List (List Mention) → List (List Declaration)
rows_said rows = map row_said rows

-- what stands in a sequence, at a place
abbrev pub row_declares : Place → List (Place → List Declaration) → List Declaration
row_declares place row = flat_map (λ (declared : Place → List Declaration). declared place) row

-- the mentions are those before and those of what is declared, in whatever operand
abbrev pub Adds : List Mention → (Place → List Declaration) → Bool → List Mention → Type 0
Adds before declared quantified after =
    (path operand : ℕ) → map (placed path operand) after ≡ map (placed path operand) before ++ declared (at_operand path operand quantified)

-- the mentions of a sequence
abbrev pub IsSequence : List (Place → List Declaration) → List Mention → Type 0
IsSequence row all = (path operand : ℕ) → map (placed path operand) all ≡ row_declares (at_operand path operand false) row

-- the mentions of each of these sequences
abbrev pub AreSequences : List Sequence → List (List Mention) → Type 0
AreSequences sequences all =
    (path operand : ℕ) →
    map (map (placed path operand)) all ≡ map (λ (sequence : Sequence). row_declares (at_operand path operand false) (sequence_given declaring sequence)) sequences

-- the mentions of each operand
abbrev pub AreOperands : List (List (Place → List Declaration)) → List (List Mention) → Type 0
AreOperands rows all = (path operand : ℕ) → map (map (placed path operand)) all ≡ map (row_declares (at_operand path operand false)) rows

-- the mentions of each operand of each path pattern
abbrev pub ArePaths : List PathTree → List (List (List Mention)) → Type 0
ArePaths paths all =
    (path operand : ℕ) →
    map (map (map (placed path operand))) all ≡ map (λ (tree : PathTree). map (row_declares (at_operand path operand false)) (body_given declaring tree.body).operands) paths

-- the declarations of each operand of a path pattern
abbrev pub operands_placed : ℕ → List (List Mention) → List (List Declaration)
operands_placed path operands = map (λ numbered. map (placed path numbered.0) numbered.1) (enumerate_from 0 operands)

-- the declarations of all path patterns
abbrev pub all_placed : List (List (List Mention)) → List Declaration
all_placed paths = flat_map (λ numbered. flat_map (λ (operand : List Declaration). operand) (operands_placed numbered.0 numbered.1)) (enumerate_from 0 paths)
