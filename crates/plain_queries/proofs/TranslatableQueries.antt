-- A query text without faults can be written as SQL.
use Rattle.std.proofs.Common.{ℕ, ◌≤◌, List, [], ◌∷◌, length, map, sym, subst, unwrap_or}
use Rattle.std.specs.List.{AllByRecursion}
use Rattle.std.proofs.lemmas.List.{length-map}
use Rattle.sql_lexer.proofs.Uniqueness.{tokens_ordered}
use Rattle.expr_tree.proofs.Folds.{each_implies}
use Rattle.graph_ast.specs.declared.catalog.Catalog.{Catalog}
use Rattle.graph_ast.specs.declared.catalog.Graph.{Graph}
use Rattle.graph_ast.specs.declared.checked.Output.{Output}
use Rattle.graph_ast.specs.declared.query.Condition.{Condition}
use Rattle.graph_ast.specs.declared.query.Item.{Item}
use Rattle.graph_ast.specs.declared.query.QueryTree.{QueryTree}
use Rattle.graph_ast.specs.Lookups.{graph_at, graph_place}
use Rattle.pattern_parser.proofs.JoinedTrees.{paths_are_joined}
use Rattle.pattern_check.specs.Scopes.{wheres}
use Rattle.pattern_check.specs.Checked.{leaf_for, checked_condition, output, unweighed, checked}
use Rattle.pattern_check.proofs.LowerableConditions.{Meets, conditions_meet}
use Rattle.pattern_check.proofs.LowerableQueries.{clean, has_names, makes_lowerable}
use Rattle.path_lowering.specs.SoundTexts as lowering
use Rattle.plain_queries.specs.Plain.{MakesTranslatable}
use Rattle.plain_queries.proofs.SpelledTrees.{mapped_spelled}
use Rattle.plain_queries.proofs.SpelledPatterns.{IsSpelled}
use Rattle.plain_queries.proofs.SpelledQueries.{IsSpelledTree, spelled_tree}
use Rattle.plain_queries.proofs.PlainTrees.{plain_tree}
use Rattle.plain_queries.proofs.NamesApart.{columns_apart}

abbrev place_of : Catalog → QueryTree → ℕ
place_of catalog tree = unwrap_or (graph_place catalog tree.graph.name) 0

module _ (catalog : Catalog) (graph : Graph) where
  -- checking keeps what is spelled
  condition_spelled : (condition : Condition) → IsSpelled condition → lowering.IsSpelled (checked_condition catalog graph condition)
  condition_spelled condition h = mapped_spelled (leaf_for catalog graph) condition.tree h

  columns_spelled : (columns : List Item) → AllByRecursion (λ (item : Item). IsSpelled item.value) columns
      → AllByRecursion (λ (own : Output). lowering.IsSpelled own.value) (map (output catalog graph) columns)
  columns_spelled [] h = tt
  columns_spelled (item ∷ columns) h = (condition_spelled item.value h.0, columns_spelled columns h.1)

pub makes_translatable : MakesTranslatable
unfolding checked unweighed
makes_translatable catalog text tokens tree valid are spelled served none =
    let graph : Graph = graph_at catalog (place_of catalog tree) in
    let own : IsSpelledTree tree = spelled_tree text tokens tree are spelled in
    let joined = paths_are_joined (length text) tokens tree (tokens_ordered text tokens are) spelled in
    let names = has_names catalog tree (clean catalog tree none).names in record {
      valid = valid;
      lowerable = makes_lowerable catalog tree (plain_tree tree served joined own) none;
      conditions = conditions_meet catalog (place_of catalog tree) tree lowering.IsSpelled
          (each_implies IsSpelled (Meets catalog graph lowering.IsSpelled) (condition_spelled catalog graph) (wheres tree) own.wheres);
      some = subst (λ n. 1 ≤ n) (sym (length-map tree.columns (output catalog graph))) own.some_column;
      columns = columns_spelled catalog graph tree.columns own.columns;
      apart = columns_apart catalog graph tree.columns names.columns;
    }
