-- The catalog that is made of the tables and the graphs is valid.
use Rattle.std.proofs.Common.{◌≡◌, List, map, sym, subst, None}
use Rattle.graph_ast.specs.declared.schema.SchemaTree.{SchemaTree}
use Rattle.graph_ast.specs.declared.catalog.Table.{Table}
use Rattle.graph_ast.specs.declared.catalog.Graph.{Graph}
use Rattle.graph_ast.specs.Schemas.{graphs_among}
use Rattle.graph_ast.specs.Shapes.{HasShape}
use Rattle.graph_ast.specs.Catalogs.{IsValidCatalog}
use Rattle.view_check.specs.Catalogs.{tables_of}
use Rattle.view_check.specs.GraphCatalogs.{graph_of, catalog_of}
use Rattle.view_check.specs.Phases.{first_fault}
use Rattle.view_check.proofs.ValidCatalog.{catalog_valid}
use Rattle.view_check.proofs.WholeCatalog.{valid_catalog}

pub made_valid : (tree : SchemaTree) (tables : List Table) (graphs : List Graph) → first_fault tree ≡ None → tables ≡ tables_of tree → graphs
    ≡ map (graph_of tables) (graphs_among tree.statements) → HasShape tree →
    IsValidCatalog (record { tables = tables; graphs = graphs })
unfolding catalog_of
made_valid tree tables graphs none is are shape =
    subst IsValidCatalog (sym made) (valid_catalog (catalog_of tree) (catalog_valid tree shape none))
  where
    made : record { tables = tables; graphs = graphs } ≡ catalog_of tree
    made = cc
