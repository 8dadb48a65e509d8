-- What is asked of a checked query that is to be written as SQL: the rules on queries have no fault at it, each literal has a text, and it has
-- some columns with different names (this project's own).
use Rattle.std.specs.Prelude.{◌≤◌, map, length}
use Rattle.std.specs.List.{AllByRecursion}
use Rattle.multisets.specs.Bags.{IsWithoutRepeats}
use Rattle.graph_ast.specs.declared.catalog.Catalog.{Catalog}
use Rattle.graph_ast.specs.declared.checked.CheckedQuery.{CheckedQuery}
use Rattle.graph_ast.specs.declared.checked.Output.{Output}
use Rattle.graph_ast.specs.Catalogs.{IsValidCatalog}
use Rattle.pattern_check.specs.Lowerable.{IsLowerable, conditions_of}
use Rattle.path_lowering.specs.SoundTexts.{IsSpelled}

pub record IsTranslatable (catalog : Catalog) (query : CheckedQuery) : Type 0 where
  pub valid : IsValidCatalog catalog
  pub lowerable : IsLowerable catalog query
  pub conditions : AllByRecursion IsSpelled (conditions_of query)
  pub some : 1 ≤ length query.columns
  pub columns : AllByRecursion (λ (output : Output). IsSpelled output.value) query.columns
  pub apart : IsWithoutRepeats (map (λ (output : Output). output.name) query.columns)
