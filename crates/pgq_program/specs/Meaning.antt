-- When a text means a query over a graph: it means one SQL query, which has the query's column names and, over every instance that fits the
-- catalog, the rows of the answer over the view, each equally often.
use Rattle.std.specs.Prelude.{◌≡◌, ℕ, List, []}
use Rattle.multisets.specs.Bags.{IsSameMultiset}
use Rattle.pgq_base.specs.Instances.{InstanceRows}
use Rattle.graph_ast.specs.declared.catalog.Catalog.{Catalog}
use Rattle.graph_ast.specs.declared.checked.CheckedQuery.{CheckedQuery}
use Rattle.graph_ast.specs.Fits.{Fits}
use Rattle.graph_meaning.specs.Answers as answers
use Rattle.sql_algebra.specs.declared.tree.SqlQuery.{SqlQuery}
use Rattle.sql_algebra.specs.Meaning.{bag, names_of}
use Rattle.sql_algebra.specs.Meant as meant

pub record Means (catalog : Catalog) (query : CheckedQuery) (text : List ℕ) : Type 0 where
  pub sql : SqlQuery
  pub means : meant.Means text sql catalog
  pub only : (other : SqlQuery) → meant.Means text other catalog → other ≡ sql
  pub names : names_of sql ≡ answers.names query
  pub rows : (instance : InstanceRows) → Fits catalog instance → IsSameMultiset (answers.answer catalog query [] [] instance) (bag catalog sql instance)
