use Rattle.std.proofs.Common.{◌∙◌, List, sym, ap, slice_get, bytes_eq}
use Rattle.std.specs.List.{find}
use Rattle.graph_ast.specs.declared.catalog.Column.{Column}
use Rattle.first_faults.specs.Places.{first_place}
use Rattle.sql_reader.proofs.Lookups.{not_found, found}
use Rattle.sql_reader.proofs.tables.NamedTable.column.Goals as goal

pub returns-in-None : goal.returns-in-None
returns-in-None c =
    let columns : List Column = c.self.inside.table.now.columns in
    not_found (λ (k : Column). k.name) c.args.name.now columns
    (ap (first_place c.args.name.now) (sym c.self.invariant) ∙ ap (λ n. first_place n c.self.inside.names) (sym c.as_bytes.ensures.value) ∙ sym c.place.ensures ∙ c.in-None.is)
    ∙ ap (λ t. find (λ (k : Column). bytes_eq k.name c.args.name.now) t.columns) c.self.view_is

pub returns-in-Some : goal.returns-in-Some
returns-in-Some c =
    let columns : List Column = c.self.inside.table.now.columns in
    c.item_at.ensures ∙ ap (λ l. slice_get l c.in-Some.place) c.as_slice.ensures
    ∙ found (λ (k : Column). k.name) c.args.name.now columns c.in-Some.place
    (ap (first_place c.args.name.now) (sym c.self.invariant) ∙ ap (λ n. first_place n c.self.inside.names) (sym c.as_bytes.ensures.value) ∙ sym c.place.ensures ∙ c.in-Some.is)
    ∙ ap (λ t. find (λ (k : Column). bytes_eq k.name c.args.name.now) t.columns) c.self.view_is
