use Rattle.std.proofs.Common.{◌<◌, length, sym, ap, subst, ◌∙◌, IfSome}
use Rattle.graph_ast.specs.Lookups.{table_at, column_named}
use Rattle.graph_ast.specs.declared.catalog.Element.{Element}
use Rattle.path_lowering.specs.Spots.{element_at}
use Rattle.path_lowering.specs.Shown.{HasProperties}
use Rattle.path_lowering.proofs.ConditionLemmas.{named_column}
use Rattle.path_lowering.proofs.properties.lowered_leaf.Goals as goal

pub leaf-requires-clause-column : goal.leaf-requires-clause-column
leaf-requires-clause-column c =
    let has : HasProperties c.args.scene.now.catalog.now c.args.scene.now.graph.now c.in-Some.spot =
    subst (λ o. IfSome o (λ spot. HasProperties c.args.scene.now.catalog.now c.args.scene.now.graph.now spot)) c.in-Some.is c.requires.there in
    let named = sym (c.column_of.ensures ∙ ap (column_named c.args.property.now.property) (c.as_slice.ensures ∙ ap (λ e. e.properties) c.element_of-element.ensures))
    ∙ c.in-Some-column_of.is in
    let found = named_column c.args.property.now.property (element_at c.args.scene.now.graph.now c.in-Some.spot).properties c.in-Some-column_of.column named in
    subst (λ (e : Element). c.in-Some-column_of.column < length (table_at c.args.scene.now.catalog.now e.table).columns) (sym c.element_of-element.ensures)
    (subst (λ n. n < length (table_at c.args.scene.now.catalog.now (element_at c.args.scene.now.graph.now c.in-Some.spot).table).columns) found.2 (has.properties found.0 found.1))
