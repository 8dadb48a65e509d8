-- The spans of an SQL text's tree.
use Rattle.std.specs.Prelude.{ℕ, List, [], ◌∷◌, ◌++◌, flat_map, Option, None, Some}
use Rattle.std.specs.List.{AllByRecursion}
use Rattle.pgq_base.specs.declared.refusal.Span.{Span}
use Rattle.sql_lexer.specs.Spans.{LiesIn}
use Rattle.expr_tree.specs.Leaves.{leaves_in}
use Rattle.condition_grammar.specs.declared.spanned.Spanned.{Spanned}
use Rattle.sql_algebra.specs.declared.text.ColumnRef.{ColumnRef}
use Rattle.sql_algebra.specs.declared.text.ColumnText.{ColumnText}
use Rattle.sql_algebra.specs.declared.text.ItemText.{ItemText}
use Rattle.sql_algebra.specs.declared.text.ConjunctText.{ConjunctText, ConjunctText-F, fold-ConjunctText}
use Rattle.sql_algebra.specs.declared.text.SelectText.{SelectText, SelectText-F, fold-SelectText}
use Rattle.sql_algebra.specs.declared.text.SqlText.{SqlText}

abbrev pub leaf_spans : ColumnRef → List Span
leaf_spans leaf = leaf.alias.span ∷ leaf.column.span ∷ []

-- those of the nodes, and those of the names at the leaves
abbrev pub condition_spans : Spanned ColumnRef → List Span
condition_spans c = c.spans ++ flat_map leaf_spans (leaves_in c.tree)

abbrev pub column_spans : ColumnText → List Span
column_spans column = column.name.span ∷ condition_spans column.value

abbrev pub on_spans : Option (List (Spanned ColumnRef)) → List Span
on_spans None = []
on_spans (Some members) = flat_map condition_spans members

abbrev pub item_spans : ItemText → List Span
item_spans item = item.table.span ∷ item.alias.span ∷ on_spans item.on

abbrev pub conjunct_step : ConjunctText-F (List Span) (List Span) → List Span
conjunct_step (ConjunctText-F.Plain condition) = condition_spans condition
conjunct_step (ConjunctText-F.NotExists spans) = spans

abbrev pub all_spans : List (List Span) → List Span
all_spans parts = flat_map (λ spans. spans) parts

abbrev pub select_step : SelectText-F (List Span) (List Span) → List Span
select_step select = select.word ∷ (flat_map column_spans select.columns ++ (flat_map item_spans select.from ++ all_spans select.conjuncts))

abbrev pub select_spans : SelectText → List Span
select_spans = fold-SelectText (List Span) (List Span) conjunct_step select_step

abbrev pub conjunct_spans : ConjunctText → List Span
conjunct_spans = fold-ConjunctText (List Span) (List Span) conjunct_step select_step

abbrev pub text_spans : SqlText → List Span
text_spans text = flat_map select_spans text.selects

-- each span of the tree is a part of a text of that length
abbrev pub SpansLieIn : ℕ → SqlText → Type 0
SpansLieIn length text = AllByRecursion (LiesIn length) (text_spans text)
