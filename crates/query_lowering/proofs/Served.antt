-- A query that is to be written as SQL can be lowered.
use Rattle.expr_tree.specs.Leaves.{EachLeaf, leaves_in}
use Rattle.expr_tree.proofs.Folds.{each_implies}
use Rattle.multisets.specs.Bags.{IsIn}
use Rattle.graph_ast.specs.declared.catalog.Catalog.{Catalog}
use Rattle.graph_ast.specs.declared.checked.CheckedQuery.{CheckedQuery}
use Rattle.graph_ast.specs.declared.checked.Output.{Output}
use Rattle.graph_ast.specs.declared.checked.PropertyLeaf.{PropertyLeaf}
use Rattle.graph_ast.specs.Lookups.{graph_at}
use Rattle.graph_meaning.specs.Choices.{Condition}
use Rattle.pattern_check.specs.Lowerable.{IsSoundLeaf, IsSoundExpression, IsSoundCondition, conditions_of}
use Rattle.path_lowering.specs.Blocks.{IsPlain}
use Rattle.path_lowering.specs.Lowered.{IsLowerable}
use Rattle.path_lowering.specs.Layable.{IsServed}
use Rattle.query_lowering.specs.Translatable.{IsTranslatable}
use Rattle.query_lowering.proofs.Conditions.{of_member, one_kind, choice_condition, last_condition}
use Rattle.query_lowering.proofs.Numbered.{graph_is_there}
use Rattle.query_lowering.proofs.Short.{block_short}

-- no leaf is an element predicate
plain_leaves : (catalog : Catalog) (query : CheckedQuery) (e : Condition) → IsSoundExpression catalog query e → EachLeaf IsPlain e
plain_leaves catalog query e sound = each_implies (IsSoundLeaf catalog query) IsPlain (λ (leaf : PropertyLeaf) ok. ok.plain) (leaves_in e) sound.leaves

module _ (catalog : Catalog) (query : CheckedQuery) (ok : IsTranslatable catalog query) where
  plain_condition : (c : Condition) → IsIn c (conditions_of query) → EachLeaf IsPlain c
  plain_condition c h = plain_leaves catalog query c (of_member (IsSoundCondition catalog query) (conditions_of query) ok.lowerable.conditions c h).sound

  pub lowerable : IsLowerable (graph_at catalog query.graph) query
  lowerable = record {
    some = ok.lowerable.some_path;
    kinds = one_kind query ok.lowerable.kinds;
    plain = λ path there choice chosen scoped h. plain_condition scoped.condition (choice_condition query path there choice scoped h);
    condition = λ c e. plain_condition c (last_condition query c e);
    columns = λ output h. plain_leaves catalog query output.value
        (of_member (λ (o : Output). IsSoundExpression catalog query o.value) query.columns ok.lowerable.columns output h);
    few = block_short (graph_at catalog query.graph) query ok.lowerable.few_paths ok.lowerable.paths;
  }

  pub served : IsServed catalog query
  served = record { valid = ok.valid; graph = graph_is_there catalog query ok; lowerable = lowerable }
