-- The productions of leaves.
use Rattle.graph_ast.specs.declared.schema.Named.{Named}
use Rattle.condition_grammar.specs.declared.spanned.Spanned.{Spanned}
use Rattle.condition_grammar.specs.Conditions as g
use Rattle.sql_algebra.specs.declared.text.ColumnRef.{ColumnRef}
use Rattle.sql_algebra.specs.Grammar.{Nested, HeldNested, Production, leaf_of}

abbrev pub leaf_node : Named → Named → Spanned ColumnRef
leaf_node = g.leaf_node ColumnRef Nested HeldNested leaf_of

-- . name, behind a name
abbrev pub dotted : Production (Named → Spanned ColumnRef)
dotted = g.dotted ColumnRef Nested HeldNested leaf_of

-- the column behind an alias
abbrev pub dotted_of : Named → Named → Spanned ColumnRef
dotted_of column alias = leaf_node alias column
