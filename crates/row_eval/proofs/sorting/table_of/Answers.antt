use Rattle.std.proofs.Common.{◌≡◌, ◌∙◌, List, ap, map, arith}
use Rattle.graph_ast.specs.declared.catalog.Table.{Table}
use Rattle.pgq_base.specs.Tables.{place_of}
use Rattle.row_eval.specs.Sorted.{table_place_of}
use Rattle.row_eval.proofs.SortLemmas.{known_place}
use Rattle.row_eval.proofs.sorting.table_of.Goals as goal

pub overflow_cast-result : goal.overflow_cast-result
overflow_cast-result c =
    let is : c.place_of_table.result ≡ table_place_of c.args.catalog.now c.args.item.now =
    c.place_of_table.ensures ∙ ap (λ (tables : List Table). place_of c.args.item.now.table (map (λ (t : Table). t.name) tables)) c.as_slice.ensures in
    let within = known_place c.args.catalog.now c.args.item.now c.requires.known in
    omega (arith, is, within, c.requires.few)
