-- The columns of each SELECT have the names of the query's columns.
use Rattle.std.proofs.Common.{◌≡◌, List, [], ◌∷◌, map}
use Rattle.graph_ast.specs.declared.catalog.Catalog.{Catalog}
use Rattle.graph_ast.specs.declared.catalog.Graph.{Graph}
use Rattle.graph_ast.specs.declared.checked.CheckedQuery.{CheckedQuery}
use Rattle.graph_ast.specs.declared.checked.Output.{Output}
use Rattle.graph_ast.specs.declared.blocks.Block.{Block}
use Rattle.graph_ast.specs.Lookups.{graph_at}
use Rattle.graph_meaning.specs.Blocks.{blocks}
use Rattle.expr_tree.specs.declared.tree.Expr.TheVariants.{Null}
use Rattle.expr_tree.specs.Classes.{class_in}
use Rattle.sql_algebra.specs.declared.tree.SelectColumn.{SelectColumn}
use Rattle.sql_algebra.specs.Meaning.{first_names, names_of}
use Rattle.path_lowering.specs.Blocks.{laid_tags, laid_spots, column_for}
use Rattle.path_lowering.specs.Lowered.{Combining, laid_block, select_of_none, or_none}
use Rattle.path_lowering.proofs.Lists.{map-again}
use Rattle.shortest_lowering.specs.Selected.{selected_block, selected_query}

names_in_first : (catalog : Catalog) (graph : Graph) (combined : Combining) (query : CheckedQuery) (all : List Block)
    → first_names (or_none (select_of_none catalog graph 65 query.columns) (map (selected_block catalog graph combined query) all))
    ≡ map (λ (output : Output). output.name) query.columns
names_in_first catalog graph combined query [] =
    map-again (λ (column : SelectColumn). column.name) (λ (output : Output). record { value = Null (class_in (λ leaf. leaf.class) output.value); name = output.name })
    query.columns
names_in_first catalog graph combined query (block ∷ more) =
    let parts = laid_block catalog graph 65 combined query block in
    map-again (λ (column : SelectColumn). column.name) (column_for catalog graph 65 (laid_tags parts) (laid_spots parts)) query.columns

pub names_selected : (catalog : Catalog) (combined : Combining) (query : CheckedQuery)
    → names_of (selected_query catalog combined query) ≡ map (λ (output : Output). output.name) query.columns
names_selected catalog combined query =
    let graph = graph_at catalog query.graph in
    names_in_first catalog graph combined query (blocks graph query)
