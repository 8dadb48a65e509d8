-- Conditions that are gathered one by one: the trees and the spans of all, and the nodes over them.
use Rattle.std.specs.Prelude.{List, [], ◌∷◌, ◌++◌, map, flat_map}
use Rattle.pgq_base.specs.declared.refusal.Span.{Span}
use Rattle.expr_tree.specs.declared.tree.Expr.TheVariants.{All, Any, Coalesce}
use Rattle.condition_grammar.specs.declared.spanned.Spanned.{Spanned}
use Rattle.condition_grammar.specs.Spans.{reach, span_of, first_span, last_span, tree_of}
use Rattle.condition_nodes.specs.declared.gathered.Gathered.{Gathered}

module _ {L : Type 0} where
  abbrev pub first_of : Spanned L → Gathered L
  first_of c = record { trees = c.tree ∷ []; spans = c.spans; first = span_of c; last = span_of c }

  -- one more behind them
  abbrev pub with_one : Gathered L → Spanned L → Gathered L
  with_one g c = record { trees = g.trees ++ c.tree ∷ []; spans = g.spans ++ c.spans; first = g.first; last = span_of c }

  abbrev pub first_place : List (Spanned L) → Span
  first_place [] = first_span []
  first_place (c ∷ cs) = span_of c

  abbrev pub last_place : List (Spanned L) → Span
  last_place [] = first_span []
  last_place (c ∷ cs) = last_span c cs

  -- conditions one after another, gathered
  abbrev pub gathered_of : List (Spanned L) → Gathered L
  gathered_of cs = record { trees = map tree_of cs; spans = flat_map (λ (c : Spanned L). c.spans) cs; first = first_place cs; last = last_place cs }

  -- the nodes over what was gathered
  abbrev pub conjoined : Gathered L → Spanned L
  conjoined all = record { tree = All all.trees; spans = reach all.first all.last ∷ all.spans }

  abbrev pub disjoined : Gathered L → Spanned L
  disjoined all = record { tree = Any all.trees; spans = reach all.first all.last ∷ all.spans }

  abbrev pub coalesced_by : Span → Gathered L → Span → Spanned L
  coalesced_by word all closing = record { tree = Coalesce all.trees; spans = reach word closing ∷ all.spans }
