-- The names that the text of a SELECT has from the catalog and from the query, each of 1 to 128 bytes of UTF-8 (this project's own).
use Rattle.std.specs.Prelude.{Bool, ◌&&◌, List}
use Rattle.std.specs.List.{list_all}
use Rattle.graph_ast.specs.declared.catalog.Column.{Column}
use Rattle.graph_ast.specs.declared.catalog.Table.{Table}
use Rattle.graph_ast.specs.declared.checked.Output.{Output}
use Rattle.sql_algebra.specs.Printable.{is_name}

abbrev pub columns_are_named : List Column → Bool
columns_are_named columns = list_all (λ (column : Column). is_name column.name) columns

abbrev pub is_named_table : Table → Bool
is_named_table table = is_name table.name && columns_are_named table.columns

abbrev pub tables_are_named : List Table → Bool
tables_are_named tables = list_all is_named_table tables

abbrev pub outputs_are_named : List Output → Bool
outputs_are_named outputs = list_all (λ (output : Output). is_name output.name) outputs
