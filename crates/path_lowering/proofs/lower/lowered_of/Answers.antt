use Rattle.std.proofs.Common.{◌≤◌, ◌<◌, List, length, sym, subst}
use Rattle.multisets.specs.Bags.{IsIn}
use Rattle.graph_ast.specs.declared.catalog.Graph.{Graph}
use Rattle.graph_ast.specs.declared.blocks.Block.{Block}
use Rattle.graph_ast.specs.Lookups.{vertex_element}
use Rattle.path_lowering.specs.Layable.{IsReady}
use Rattle.path_lowering.proofs.LayableLemmas.{graph_is, first_table}
use Rattle.path_lowering.proofs.ServedLemmas.{graph_valid, ready}
use Rattle.path_lowering.proofs.lower.lowered_of.Goals as goal

pub selects_of-requires-clause-ready : goal.selects_of-requires-clause-ready
selects_of-requires-clause-ready c = λ block h.
    subst (λ (g : Graph). IsReady c.args.catalog.now g 65 c.args.query.now block)
    (sym (graph_is c.args.catalog.now c.args.query.now.graph c.index-as_slice-query.result c.as_slice.result.now c.as_slice.ensures c.index-as_slice-query.is
    c.requires.served.graph))
    (ready c.args.catalog.now c.args.query.now c.requires.served (c.empty_tables_fit.ensures c.args.catalog.now) block
    (subst (λ (l : List Block). IsIn block l) c.requires.blocks h) 65)

pub or_none-requires-clause-some : goal.or_none-requires-clause-some
or_none-requires-clause-some c =
    subst (λ (g : Graph). 1 ≤ length g.vertices)
    (sym (graph_is c.args.catalog.now c.args.query.now.graph c.index-as_slice-query.result c.as_slice.result.now c.as_slice.ensures c.index-as_slice-query.is
    c.requires.served.graph))
    (graph_valid c.args.catalog.now c.args.query.now c.requires.served (c.empty_tables_fit.ensures c.args.catalog.now)).some_vertex

pub or_none-requires-clause-table : goal.or_none-requires-clause-table
or_none-requires-clause-table c =
    subst (λ (g : Graph). (vertex_element g 0).table < length c.args.catalog.now.tables)
    (sym (graph_is c.args.catalog.now c.args.query.now.graph c.index-as_slice-query.result c.as_slice.result.now c.as_slice.ensures c.index-as_slice-query.is
    c.requires.served.graph))
    (first_table c.args.catalog.now _ (graph_valid c.args.catalog.now c.args.query.now c.requires.served (c.empty_tables_fit.ensures c.args.catalog.now)))
