-- Label clauses, and the names of their properties.
use Rattle.std.specs.Prelude.{ℕ, cond, List, [], ◌∷◌, ◌++◌, Option, None, Some, slice_get}
use Rattle.graph_ast.specs.declared.schema.Named.{Named}
use Rattle.graph_ast.specs.declared.catalog.Table.{Table}
use Rattle.graph_ast.specs.declared.catalog.Column.{Column}
use Rattle.first_faults.specs.Names.{is_among}
use Rattle.view_check.specs.declared.exposed.Shown.{Shown}
use Rattle.view_check.specs.declared.clauses.Clause.{Clause}
use Rattle.view_check.specs.declared.clauses.Source.{Source}
use Rattle.view_check.specs.declared.clauses.Source.TheVariants.{Listed, AllBut}

-- the names of all columns but some
abbrev pub columns_but : List Named → List Column → List (List ℕ)
columns_but names [] = []
columns_but names (c ∷ columns) = cond (is_among c.name names) [] (c.name ∷ []) ++ columns_but names columns

abbrev pub names_beside : Option Table → List Named → List (List ℕ)
names_beside None names = []
names_beside (Some t) names = columns_but names t.columns

-- the names of the properties of a clause over these tables
abbrev pub names_in : List Table → Source → List (List ℕ)
names_in tables (Listed texts) = texts
names_in tables (AllBut place names) = names_beside (slice_get tables place) names

abbrev pub shown_by : List Table → Clause → Shown
shown_by tables c = record { element = c.element; label = c.label.now; span = c.span; names = names_in tables c.source }
