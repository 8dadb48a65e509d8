-- How the phases of a query's rules are put together.
use Rattle.std.proofs.Common.{◌≡◌, ℕ, ◌<◌, ◌≤◌, ◌^◌, List, [], ◌∷◌, length, map, refl, sym, ap, subst, ◌∙◌, Option, None, Some, is_some, unwrap_or, Result, Ok, Err, nat_lt, IfOk}
use Rattle.std.proofs.Common.{Bool, true, false, cond, arith}
use Rattle.std.proofs.lemmas.List.Elements.{All-nil, All-cons}
use Rattle.std.specs.List.{All, AllByRecursion, flat_map}
use Rattle.std.proofs.lemmas.List.{length-map}
use Rattle.multisets.specs.Bags.{IsIn}
use Rattle.pgq_base.specs.declared.code.Code.TheVariants as code
use Rattle.pgq_base.specs.Answers.{Gives}
use Rattle.pgq_base.specs.declared.refusal.Refusal.{Refusal}
use Rattle.pgq_base.specs.declared.refusal.Stop.{Stop}
use Rattle.pgq_base.specs.declared.refusal.Stop.TheVariants.{Refused}
use Rattle.pgq_base.specs.declared.refusal.Span.{Span}
use Rattle.graph_ast.specs.declared.query.QueryTree.{QueryTree}
use Rattle.graph_ast.specs.declared.catalog.Catalog.{Catalog}
use Rattle.graph_ast.specs.declared.catalog.Graph.{Graph}
use Rattle.graph_ast.specs.declared.checked.CheckedPath.{CheckedPath}
use Rattle.graph_ast.specs.declared.checked.CheckedQuery.{CheckedQuery}
use Rattle.graph_ast.specs.Catalogs.{IsValidCatalog, IsValidGraph}
use Rattle.graph_ast.specs.Patterns.{IsJoined}
use Rattle.graph_ast.specs.Lookups.{graph_at, graph_place}
use Rattle.graph_meaning.specs.Weights.{weight}
use Rattle.graph_meaning.proofs.Members.{in_at}
use Rattle.normal_form.specs.Checked.{AreNumbered}
use Rattle.first_faults.specs.declared.faults.Fault.{Fault}
use Rattle.first_faults.specs.Faults.{earlier, first_of, fault, when}
use Rattle.pattern_check.specs.NameRules.{unnamed_column, duplicate_column_names, column_faults, name_faults}
use Rattle.pattern_check.specs.TypeRules.{type_faults}
use Rattle.pattern_check.specs.SizeRules.{size_faults, too_many_paths}
use Rattle.pattern_check.specs.SizeRules as limits
use Rattle.pattern_check.specs.FormRules.{form_faults}
use Rattle.pattern_check.specs.Checked.{checked_path, with_weight, unweighed_at, unweighed, checked}
use Rattle.pattern_check.specs.Phases.{or_then, lowering_too_large, first_fault}
use Rattle.pattern_check.specs.Checks.{early_fault, later_fault, refusal_of, judged, due}
use Rattle.pattern_check.specs.Lowerable.{IsPlain, IsLowerable, IsShortPath}
use Rattle.pattern_check.proofs.Faultless.{no_first, left_none, right_none}
use Rattle.pattern_check.proofs.LowerablePaths.{few_operands}
use Rattle.pattern_check.proofs.LowerableQueries.{makes_lowerable, then_first, then_later, place_within, known_place, has_names, few_paths, paths_short}

-- ---- forms and names

module _ (catalog : Catalog) (tree : QueryTree) (early : early_fault catalog tree ≡ None) where
  pub no_forms : form_faults tree ≡ []
  no_forms = no_first (form_faults tree) (then_first (first_of None (form_faults tree)) (first_of None (name_faults catalog tree)) early)

  pub no_names : name_faults catalog tree ≡ []
  no_names = no_first (name_faults catalog tree) (then_later (first_of None (form_faults tree)) (first_of None (name_faults catalog tree)) early)

  pub place_known : graph_place catalog tree.graph.name ≡ Some (unwrap_or (graph_place catalog tree.graph.name) 0)
  place_known = known_place catalog tree (graph_place catalog tree.graph.name) (has_names catalog tree no_names).graph

  pub place_is_some : is_some (graph_place catalog tree.graph.name) ≡ true
  place_is_some = ap is_some place_known

  pub place_is_within : (place : ℕ) → graph_place catalog tree.graph.name ≡ Some place → place < length catalog.graphs
  place_is_within place is = subst (λ o. unwrap_or o 0 < length catalog.graphs) is (place_within catalog tree (has_names catalog tree no_names).graph)

  pub columns_named : flat_map unnamed_column tree.columns ≡ []
  unfolding column_faults
  columns_named = right_none (duplicate_column_names tree.columns) (flat_map unnamed_column tree.columns) (has_names catalog tree no_names).columns

  pub no_limits : (graph : Graph) → later_fault catalog graph tree ≡ None → size_faults tree ≡ []
  no_limits graph later = no_first (size_faults tree) (then_later (first_of None (type_faults catalog graph tree)) (first_of None (size_faults tree)) later)

  -- the query can be weighed
  pub numbered : IsValidCatalog catalog → AllByRecursion IsJoined tree.paths → (place : ℕ) → graph_place catalog tree.graph.name ≡ Some place → size_faults tree ≡ [] →
      AreNumbered catalog (unweighed_at catalog place tree)
  unfolding form_faults size_faults
  numbered valid joined place is none =
      let graph : Graph = graph_at catalog place in
      let within : place < length catalog.graphs = place_is_within place is in
      let there : IsIn graph catalog.graphs = in_at catalog.graphs place (record { name = []; vertices = []; edges = [] }) within in
      let own : IsValidGraph catalog graph = valid.graphs graph there in
      let sizes_none = left_none (flat_map limits.path_faults tree.paths) (too_many_paths tree.paths) none in
      let few_none = right_none (flat_map limits.path_faults tree.paths) (too_many_paths tree.paths) none in record {
        graph = within;
        vertices = own.few_vertices;
        edges = own.few_edges;
        paths = length_of (length (map (checked_path catalog graph) tree.paths)) (length tree.paths) (length-map tree.paths (checked_path catalog graph))
            (few_paths tree.paths few_none);
        operands = all_few (map (checked_path catalog graph) tree.paths) (paths_short catalog graph tree.paths no_forms sizes_none joined);
      }
    where
      length_of : (a b : ℕ) → a ≡ b → b ≤ 8 → a < 2 ^ 32
      length_of a b same few = omega (arith, same, few)

      few : (a : ℕ) → a ≤ 4096 → a < 2 ^ 32
      few a h = omega (arith, h)

      all_few : (paths : List CheckedPath) → AllByRecursion IsShortPath paths → All (λ (path : CheckedPath). length path.operands < 2 ^ 32) paths
      all_few [] short = All-nil (λ (path : CheckedPath). length path.operands < 2 ^ 32)
      all_few (path ∷ paths) short =
          All-cons (λ (path : CheckedPath). length path.operands < 2 ^ 32) path paths (few (length path.operands) (few_operands path short.0)) (all_few paths short.1)

-- ---- what is due

abbrev place_of : Catalog → QueryTree → ℕ
place_of catalog tree = unwrap_or (graph_place catalog tree.graph.name) 0

abbrev weight_fault : Catalog → QueryTree → Option Fault
weight_fault catalog tree = first_of None (lowering_too_large catalog tree)

regrouped : (f n t l w : Option Fault) → or_then f (or_then n (or_then t (or_then l w))) ≡ or_then (or_then f n) (or_then (or_then t l) w)
regrouped None None None l w = refl
regrouped None None (Some t) l w = refl
regrouped None (Some n) t l w = refl
regrouped (Some f) n t l w = refl

phases : (catalog : Catalog) (tree : QueryTree) → first_fault catalog tree ≡
    or_then (early_fault catalog tree) (or_then (later_fault catalog (graph_at catalog (place_of catalog tree)) tree) (weight_fault catalog tree))
unfolding first_fault
phases catalog tree =
    regrouped (first_of None (form_faults tree)) (first_of None (name_faults catalog tree)) (first_of None (type_faults catalog (graph_at catalog (place_of catalog tree)) tree))
    (first_of None (size_faults tree)) (weight_fault catalog tree)

pub early_due : (catalog : Catalog) (tree : QueryTree) (f : Fault) → Some f ≡ early_fault catalog tree → due catalog tree ≡ Err (refusal_of f)
unfolding due
early_due catalog tree f is =
    ap (λ o. judged o (checked catalog tree)) (phases catalog tree
    ∙ ap (λ o. or_then o (or_then (later_fault catalog (graph_at catalog (place_of catalog tree)) tree) (weight_fault catalog tree))) (sym is))

same_place : (o : Option ℕ) (place : ℕ) → o ≡ Some place → unwrap_or o 0 ≡ place
same_place o place is = ap (λ p. unwrap_or p 0) is

pub later_due : (catalog : Catalog) (tree : QueryTree) (place : ℕ) (f : Fault) → early_fault catalog tree ≡ None → graph_place catalog tree.graph.name ≡ Some place →
    Some f ≡ later_fault catalog (graph_at catalog place) tree → due catalog tree ≡ Err (refusal_of f)
unfolding due
later_due catalog tree place f early at is =
    ap (λ o. judged o (checked catalog tree)) (phases catalog tree
    ∙ ap (λ o. or_then o (or_then (later_fault catalog (graph_at catalog (place_of catalog tree)) tree) (weight_fault catalog tree))) early
    ∙ ap (λ p. or_then (later_fault catalog (graph_at catalog p) tree) (weight_fault catalog tree)) (same_place (graph_place catalog tree.graph.name) place at)
    ∙ ap (λ o. or_then o (weight_fault catalog tree)) (sym is))

pub weighed_due : (catalog : Catalog) (tree : QueryTree) (place : ℕ) (query : CheckedQuery) → early_fault catalog tree ≡ None → graph_place catalog tree.graph.name ≡ Some place →
    later_fault catalog (graph_at catalog place) tree ≡ None → query ≡ unweighed_at catalog place tree →
    judged (first_of None (when (nat_lt 1000000 (weight catalog query)) code.LoweringTooLarge tree.match_span)) (with_weight (weight catalog query) query) ≡ due catalog tree
unfolding due checked unweighed
weighed_due catalog tree place query early at later is =
    let same : query ≡ unweighed catalog tree = is ∙ ap (λ p. unweighed_at catalog p tree) (sym (same_place (graph_place catalog tree.graph.name) place at)) in
    ap (λ (q : CheckedQuery). judged (first_of None (when (nat_lt 1000000 (weight catalog q)) code.LoweringTooLarge tree.match_span)) (with_weight (weight catalog q) q)) same
    ∙ sym (ap (λ o. judged o (checked catalog tree)) (phases catalog tree
    ∙ ap (λ o. or_then o (or_then (later_fault catalog (graph_at catalog (place_of catalog tree)) tree) (weight_fault catalog tree))) early
    ∙ ap (λ p. or_then (later_fault catalog (graph_at catalog p) tree) (weight_fault catalog tree)) (same_place (graph_place catalog tree.graph.name) place at)
    ∙ ap (λ o. or_then o (weight_fault catalog tree)) later))

-- a refusal with what is due
pub given_refusal : (asked : Result CheckedQuery Refusal) (f : Fault) (stop : Stop Refusal) → asked ≡ Err (refusal_of f) → stop ≡ Refused (refusal_of f) → Gives asked (Err stop)
given_refusal asked f stop is told = subst (λ s. Gives asked (Err s)) (sym told) is

-- a query that is too heavy
pub heavy : (b : Bool) (w : ℕ) (span : Span) (made : CheckedQuery) (found : Option ℕ) (stop : Stop Refusal) → found ≡ cond b None (Some w) → found ≡ None →
    stop ≡ Refused (refusal_of (fault code.LoweringTooLarge span)) → Gives (judged (first_of None (when b code.LoweringTooLarge span)) made) (Err stop)
unfolding earlier
heavy b w span made found stop is none told =
    given_refusal (judged (first_of None (when b code.LoweringTooLarge span)) made) (fault code.LoweringTooLarge span) stop (by b (sym is ∙ none)) told
  where
    by : (b : Bool) → cond b None (Some w) ≡ None → judged (first_of None (when b code.LoweringTooLarge span)) made ≡ Err (refusal_of (fault code.LoweringTooLarge span))
    by true h = refl
    by false h = cc

-- ---- what is given is lowerable

clean_due : (found : Option Fault) (made query : CheckedQuery) → judged found made ≡ Ok query → (found ≡ None) × (made ≡ query)
clean_due None made query h = (refl, cc)
clean_due (Some f) made query h = cc

pub given_lowerable : (catalog : Catalog) (tree : QueryTree) (result : Result CheckedQuery (Stop Refusal)) → Gives (due catalog tree) result → IsPlain tree →
    IfOk result (λ query. IsLowerable catalog query)
unfolding due
given_lowerable catalog tree (Ok query) given plain =
    let two = clean_due (first_fault catalog tree) (checked catalog tree) query given in
    subst (IsLowerable catalog) two.1 (makes_lowerable catalog tree plain two.0)
given_lowerable catalog tree (Err stop) given plain = tt
