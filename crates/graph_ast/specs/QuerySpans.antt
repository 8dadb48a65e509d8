-- The spans of a query's tree.
use Rattle.std.specs.Prelude.{List, [], ◌∷◌, ◌++◌, map, flat_map, Option, None, Some}
use Rattle.std.specs.List.{AllByRecursion}
use Rattle.pgq_base.specs.declared.refusal.Span.{Span}
use Rattle.expr_tree.specs.Leaves.{leaves_in, joined}
use Rattle.graph_ast.specs.declared.schema.Named.{Named}
use Rattle.graph_ast.specs.declared.query.QueryTree.{QueryTree}
use Rattle.graph_ast.specs.declared.query.PropertyRef.{PropertyRef}
use Rattle.graph_ast.specs.declared.query.ElementTest.{ElementTest}
use Rattle.graph_ast.specs.declared.query.ElementTest.TheVariants.{Same, AllDifferent, SourceOf, DestinationOf}
use Rattle.graph_ast.specs.declared.query.Condition.{Condition}
use Rattle.graph_ast.specs.declared.query.Item.{Item}
use Rattle.graph_ast.specs.declared.query.GatherDef.{GatherDef}
use Rattle.graph_ast.specs.declared.query.PathTree.{PathTree}
use Rattle.graph_ast.specs.declared.query.Selector.{Selector}
use Rattle.graph_ast.specs.declared.query.ModeWord.{ModeWord}
use Rattle.graph_ast.specs.declared.query.Joint.{Joint}
use Rattle.graph_ast.specs.declared.query.Filler.{Filler}
use Rattle.graph_ast.specs.declared.query.Quantifier.{Quantifier}
use Rattle.graph_ast.specs.declared.query.LabelExpr.{LabelExpr}
use Rattle.graph_ast.specs.declared.query.LabelExpr.TheOpen.{LabelExpr-F}
use Rattle.graph_ast.specs.declared.query.LabelExpr.TheFolds.{fold-LabelExpr}
use Rattle.graph_ast.specs.declared.query.Factor.{Factor}
use Rattle.graph_ast.specs.declared.query.Factor.TheOpen.{Factor-F, PartTree-F, Sequence-F}
use Rattle.graph_ast.specs.declared.query.Factor.TheFolds.{fold-Factor, fold-PartTree, fold-Sequence, fold-Union}
use Rattle.graph_ast.specs.declared.query.PartTree.{PartTree}
use Rattle.graph_ast.specs.declared.query.Sequence.{Sequence}
use Rattle.graph_ast.specs.declared.query.Union.{Union, Union-F}

abbrev pub of_name : Named → List Span
of_name n = n.span ∷ []

abbrev pub of_names : List Named → List Span
of_names names = map (λ (n : Named). n.span) names

abbrev pub if_given : {A : Type 0} → (A → List Span) → Option A → List Span
if_given spans None = []
if_given spans (Some a) = spans a

abbrev pub of_test : ElementTest → List Span
of_test (Same names) = of_names names
of_test (AllDifferent names) = of_names names
of_test (SourceOf vertex edge) = vertex.span ∷ edge.span ∷ []
of_test (DestinationOf vertex edge) = vertex.span ∷ edge.span ∷ []

abbrev pub of_leaf : PropertyRef → List Span
of_leaf r = r.variable.span ∷ r.property.span ∷ if_given of_test r.test

-- those of its nodes, and those at its leaves
abbrev pub of_condition : Condition → List Span
of_condition c = c.spans ++ flat_map of_leaf (leaves_in c.tree)

abbrev pub label_step : LabelExpr-F (List Span) → List Span
label_step (LabelExpr-F.Label name) = of_name name
label_step LabelExpr-F.AnyLabel = []
label_step (LabelExpr-F.Not l) = l
label_step (LabelExpr-F.And ls) = joined ls
label_step (LabelExpr-F.Or ls) = joined ls

abbrev pub of_label : LabelExpr → List Span
of_label = fold-LabelExpr (List Span) label_step

abbrev pub of_filler : Filler → List Span
of_filler f = f.span ∷ (if_given of_name f.variable ++ (if_given of_label f.label ++ if_given of_condition f.condition))

abbrev pub of_mode : ModeWord → List Span
of_mode m = m.span ∷ []

abbrev pub of_quantifier : Quantifier → List Span
of_quantifier q = q.span ∷ []

-- one layer of a pattern, with the spans of what it holds in the place of that
abbrev pub factor_step : Factor-F (List Span) (List Span) (List Span) (List Span) → List Span
factor_step (Factor-F.Vertex filler) = of_filler filler
factor_step (Factor-F.Edge direction filler q) = of_filler filler ++ if_given of_quantifier q
factor_step (Factor-F.Part part q) = part ++ if_given of_quantifier q

abbrev pub part_step : PartTree-F (List Span) (List Span) (List Span) (List Span) → List Span
part_step part = part.span ∷ (if_given of_mode part.mode ++ (part.body ++ if_given of_condition part.condition))

abbrev pub sequence_step : Sequence-F (List Span) (List Span) (List Span) (List Span) → List Span
sequence_step sequence = joined sequence.factors

abbrev pub union_step : Union-F (List Span) (List Span) (List Span) (List Span) → List Span
union_step union = joined union.operands ++ map (λ (j : Joint). j.span) union.joints

abbrev pub of_factor : Factor → List Span
of_factor = fold-Factor (List Span) (List Span) (List Span) (List Span) factor_step part_step sequence_step union_step

abbrev pub of_part : PartTree → List Span
of_part = fold-PartTree (List Span) (List Span) (List Span) (List Span) factor_step part_step sequence_step union_step

abbrev pub of_sequence : Sequence → List Span
of_sequence = fold-Sequence (List Span) (List Span) (List Span) (List Span) factor_step part_step sequence_step union_step

abbrev pub of_union : Union → List Span
of_union = fold-Union (List Span) (List Span) (List Span) (List Span) factor_step part_step sequence_step union_step

abbrev pub of_selector : Selector → List Span
of_selector s = s.span ∷ []

abbrev pub of_path : PathTree → List Span
of_path p = p.span ∷ (if_given of_name p.variable ++ (if_given of_selector p.selector ++ (if_given of_mode p.mode ++ of_union p.body)))

abbrev pub of_gather : GatherDef → List Span
of_gather g = g.variable.span ∷ if_given of_name g.property

abbrev pub of_item : Item → List Span
of_item i = i.span ∷ (of_condition i.value ++ (if_given of_name i.name ++ if_given of_gather i.gather))

abbrev pub of_tree : QueryTree → List Span
of_tree t = t.graph.span ∷ t.match_span ∷ (flat_map of_path t.paths ++ (if_given of_condition t.condition ++ flat_map of_item t.columns))

-- each span of the tree has it; `EachSpanHas (LiesIn length) tree`: the spans of the tree lie in a text of that length
abbrev pub EachSpanHas : (Span → Type 0) → QueryTree → Type 0
EachSpanHas P tree = AllByRecursion P (of_tree tree)
