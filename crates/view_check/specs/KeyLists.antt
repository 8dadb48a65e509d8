-- The lists of names of a table's keys.
use Rattle.std.specs.Prelude.{List, Option, None, Some}
use Rattle.std.specs.List.{filter_map}
use Rattle.graph_ast.specs.declared.schema.Named.{Named}
use Rattle.graph_ast.specs.declared.schema.TableDef.{TableDef}
use Rattle.graph_ast.specs.declared.schema.RuleKind.{RuleKind}
use Rattle.graph_ast.specs.declared.schema.RuleKind.TheVariants.{NotNull, Primary, Unique, Foreign, Default, Check}
use Rattle.graph_ast.specs.Schemas.{rules_of}

-- the names of a PRIMARY KEY or of a UNIQUE
abbrev pub key_names : RuleKind → Option (List Named)
key_names (Primary names) = Some names
key_names (Unique names) = Some names
key_names NotNull = None
key_names (Foreign own target listed) = None
key_names Default = None
key_names Check = None

-- those of a table, by columns and then by its own rules
abbrev pub key_lists : TableDef → List (List Named)
key_lists t = filter_map (λ r. key_names r.kind) (rules_of t)
