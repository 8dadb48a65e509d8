use Rattle.std.proofs.Common.{◌∙◌, List, sym, ap, slice_get, bytes_eq}
use Rattle.std.specs.List.{find}
use Rattle.graph_ast.specs.declared.catalog.Table.{Table}
use Rattle.first_faults.specs.Places.{first_place}
use Rattle.sql_reader.proofs.Lookups.{not_found, found}
use Rattle.sql_reader.proofs.tables.Tables.table.Goals as goal

pub returns-in-None : goal.returns-in-None
returns-in-None c =
    let tables : List Table = c.self.inside.catalog.now.tables in
    not_found (λ (t : Table). t.name) c.args.name.now tables
    (ap (first_place c.args.name.now) (sym c.self.invariant.1) ∙ ap (λ n. first_place n c.self.inside.names) (sym c.as_bytes.ensures.value) ∙ sym c.place.ensures ∙ c.in-None.is)
    ∙ ap (λ k. find (λ (t : Table). bytes_eq t.name c.args.name.now) k.tables) c.self.view_is

pub returns-in-Some : goal.returns-in-Some
returns-in-Some c =
    let tables : List Table = c.self.inside.catalog.now.tables in
    c.item_at.ensures ∙ ap (λ l. slice_get l c.in-Some.place) (c.as_slice.ensures.value ∙ c.self.invariant.0)
    ∙ found (λ (t : Table). t.name) c.args.name.now tables c.in-Some.place
    (ap (first_place c.args.name.now) (sym c.self.invariant.1) ∙ ap (λ n. first_place n c.self.inside.names) (sym c.as_bytes.ensures.value) ∙ sym c.place.ensures ∙ c.in-Some.is)
    ∙ ap (λ k. find (λ (t : Table). bytes_eq t.name c.args.name.now) k.tables) c.self.view_is
