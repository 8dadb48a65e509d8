-- The small query of shortest paths can be written as SQL in its catalog.
use Rattle.std.proofs.Common.{◌≡◌, ℕ, ◌≤◌, arith, true, pos, length, map, refl, sym, ◌∙◌, subst}
use Rattle.std.specs.List.{AllByRecursion}
use Rattle.pgq_base.specs.declared.value.Value.TheVariants.{Number}
use Rattle.expr_tree.specs.declared.tree.Expr.{Expr-F}
use Rattle.expr_tree.specs.declared.tree.Expr.TheVariants as v
use Rattle.expr_tree.proofs.Folds.{at_layer}
use Rattle.expr_tree.proofs.FormLemmas.{leaves, rules_kept}
use Rattle.graph_ast.specs.declared.catalog.Catalog.{Catalog}
use Rattle.graph_ast.specs.declared.checked.CheckedQuery.{CheckedQuery}
use Rattle.graph_ast.specs.declared.checked.Output.{Output}
use Rattle.graph_meaning.specs.Choices.{choices, longest}
use Rattle.pattern_check.specs.Lowerable.{IsShortPath, IsSoundLeaf, IsSoundExpression, class_is}
use Rattle.path_lowering.specs.SoundTexts.{IsSpelled, spelled_step}
use Rattle.shortest_lowering.specs.SmallQuery.{small_catalog, small_query, small_path, small_output}
use Rattle.shortest_lowering.proofs.SmallLemmas.{names_differ, served_by}
use Rattle.query_lowering.specs.Translatable.{IsTranslatable}

-- two choices, of one edge at most
two_choices : length (choices small_path) ≡ 2
two_choices = refl

one_edge_at_most : longest small_path ≡ 1
one_edge_at_most = refl

short_path : IsShortPath small_path
short_path = record {
  bounded = ((tt, ((omega arith, omega arith), (tt, tt))), tt);
  few = subst (λ n. n ≤ 4096) (sym two_choices) (omega arith);
  short = subst (λ n. n ≤ 64) (sym one_edge_at_most) (omega arith);
}

-- its column is the number 1
sound_output : IsSoundExpression small_catalog small_query small_output.value
sound_output = record {
  leaves = subst (AllByRecursion (IsSoundLeaf small_catalog small_query)) (sym (leaves.literal (Number (pos 1)))) tt;
  well_classed = (rules_kept class_is).literal (Number (pos 1));
}

spelled_output : IsSpelled small_output.value
spelled_output = at_layer spelled_step (Expr-F.Lit (Number (pos 1))) (v.Lit (Number (pos 1))) (v.rolls-Lit (Number (pos 1)))

small_translatable : IsTranslatable small_catalog small_query
small_translatable = record {
  valid = (served_by small_catalog small_query refl refl).valid;
  lowerable = record {
    graph = omega arith;
    some_path = omega arith;
    few_paths = omega arith;
    paths = (short_path, tt);
    kinds = tt;
    conditions = tt;
    columns = (sound_output, tt);
    light = omega arith;
  };
  conditions = tt;
  some = omega arith;
  columns = (spelled_output, tt);
  apart = names_differ (map (λ (output : Output). output.name) small_query.columns) refl;
}

-- so are all that equal them
pub translatable_by : (catalog : Catalog) (query : CheckedQuery) → catalog ≡ small_catalog → query ≡ small_query → IsTranslatable catalog query
translatable_by catalog query same own =
    subst (λ (c : Catalog). IsTranslatable c query) (sym same) (subst (λ (q : CheckedQuery). IsTranslatable small_catalog q) (sym own) small_translatable)
