-- The first property of each name, and what clashes with it.
use Rattle.std.specs.Prelude.{◌≡◌, ℕ, Bool, true, false, ◌&&◌, not, cond, nat_eq, List, [], ◌∷◌, ◌++◌, Option, None, Some, IsSome, slice_get, bytes_eq, map, ◌+◌}
use Rattle.std.specs.Borrow.{Bor}
use Rattle.std.specs.List.{find, flat_map}
use Rattle.pgq_base.specs.declared.refusal.Span.{Span}
use Rattle.pgq_base.specs.declared.code.Code.{Code}
use Rattle.pgq_base.specs.declared.code.Code.TheVariants as code
use Rattle.pgq_base.specs.declared.value.Class.{Class}
use Rattle.graph_ast.specs.declared.schema.Named.{Named}
use Rattle.graph_ast.specs.declared.catalog.Table.{Table}
use Rattle.graph_ast.specs.declared.catalog.Column.{Column}
use Rattle.first_faults.specs.declared.faults.Fault.{Fault}
use Rattle.first_faults.specs.Faults.{clash}
use Rattle.first_faults.specs.Names.{is_among}
use Rattle.view_check.specs.declared.exposed.Exposed.{Exposed}
use Rattle.view_check.specs.declared.exposed.Part.{Part}
use Rattle.view_check.specs.declared.exposed.Part.TheVariants as part
use Rattle.view_check.specs.GraphRules.{has_column, column_place, property_at, class_at, are_same_class, is_sound, exposed_but}

abbrev pub first_named : List Exposed → List ℕ → Option Exposed
first_named ps name = find (λ p. bytes_eq p.name name) ps

abbrev pub or_first : Option Exposed → Option Exposed → Option Exposed
or_first None other = other
or_first (Some p) other = Some p

-- the property of that name among all columns but some
abbrev pub all_but : Table → List Named → Span → List ℕ → Option Exposed
all_but t names span name = cond (has_column t name && not (is_among name names)) (Some (property_at t name span (column_place t name))) None

-- the properties of ALL COLUMNS but some, where the names are sound
abbrev pub exposed_all : Table → Span → List Named → List Exposed
exposed_all t span names = cond (is_sound t names) (exposed_but t names span 0 t.columns) []

-- each column of a table but these has a first property of its name
abbrev pub IsCovered : Table → List Named → List Exposed → Type 0
IsCovered t names firsts = (name : List ℕ) → has_column t name ≡ true → is_among name names ≡ false → IsSome (first_named firsts name)

-- the names beside the place of the table of which this is known
abbrev pub AreLeft : List Table → Option (ℕ × Bor (List Named)) → List Exposed → Type 0
AreLeft tables None firsts = Unit {0}
AreLeft tables (Some left) firsts = (t : Table) → slice_get tables left.0 ≡ Some t → IsCovered t left.1.now firsts

-- whether a property with this column and class agrees with the first of its name, in class or in column
abbrev pub agrees : Part → Exposed → ℕ → Option Class → Bool
agrees part.Class first column class = are_same_class first.class class
agrees part.Column first column class = nat_eq first.column column

abbrev pub agree : Part → Exposed → Exposed → Bool
agree part first p = agrees part first p.column p.class

abbrev pub code_of : Part → Code
code_of part.Class = code.PropertyClassesDiffer
code_of part.Column = code.PropertyColumnsDiffer

-- a fault at each property that does not agree with the first of its name
abbrev pub against : Part → List Exposed → List Exposed → List Fault
against part firsts ps = flat_map (λ p. clash (code_of part) (λ q. q.span) (agree part) (first_named firsts p.name) p) ps

abbrev pub is_bad : Part → Option Exposed → ℕ → Option Class → Bool
is_bad part None column class = false
is_bad part (Some first) column class = not (agrees part first column class)

-- the names of the columns that do not agree with the first properties of their names
abbrev pub bad_from : Part → List Exposed → Table → ℕ → List Column → List (List ℕ)
bad_from part firsts t place [] = []
bad_from part firsts t place (c ∷ columns) =
    cond (is_bad part (first_named firsts c.name) place (class_at t place)) (c.name ∷ []) [] ++ bad_from part firsts t (1 + place) columns

abbrev pub bad_names : Part → List Exposed → Table → List (List ℕ)
bad_names part firsts t = bad_from part firsts t 0 t.columns

-- the names, where some are known, are those of the table at the place beside them
abbrev pub AreBad : List Table → Part → List Exposed → Option (ℕ × List (Bor (List ℕ))) → Type 0
AreBad tables part firsts None = Unit {0}
AreBad tables part firsts (Some known) = (t : Table) → slice_get tables known.0 ≡ Some t → map (λ n. n.now) known.1 ≡ bad_names part firsts t
