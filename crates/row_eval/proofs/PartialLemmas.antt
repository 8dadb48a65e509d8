-- The partial tuples of a select, item by item.
use Rattle.std.proofs.Common.{◌≡◌, ℕ, ◌+◌, cond, Bool, List, [], ◌∷◌, ◌++◌, map, length, sum, sym, ap, ◌∙◌, arith, append_assoc}
use Rattle.std.specs.Prelude.{filter}
use Rattle.std.specs.List.{list_all}
use Rattle.pgq_base.specs.Instances.{RowValues, InstanceRows}
use Rattle.expr_tree.specs.declared.tree.Expr.{Expr}
use Rattle.graph_ast.specs.declared.catalog.Catalog.{Catalog}
use Rattle.sql_algebra.specs.declared.tree.FromItem.{FromItem}
use Rattle.sql_algebra.specs.declared.tree.ColumnLeaf.{ColumnLeaf}
use Rattle.sql_algebra.specs.Catalogs.{rows_of}
use Rattle.sql_algebra.specs.Tuples.{Tuple, tuples, tuples_under, holds}
use Rattle.sql_algebra.specs.RowReads.{agrees, fronts, partial_tuples, kept_tuples}
use Rattle.row_eval.proofs.Totals.{total, sum_total, total_same, total_both, total_turned, total_map, total_flat, total_filter, length_total}
use Rattle.row_eval.proofs.TupleLemmas.{bound_at}

module _ (catalog : Catalog) (instance : InstanceRows) (outer : Tuple) where
  -- a number for each choice of rows behind those that are chosen
  abbrev pub total_behind : (Tuple → ℕ) → Tuple → List FromItem → ℕ
  total_behind f before items = total (λ own. f (before ++ (own ++ outer))) (tuples catalog instance items)

  pub behind_none : (f : Tuple → ℕ) (before : Tuple) → total_behind f before [] ≡ f (before ++ outer)
  behind_none f before = omega arith

  pub behind_next : (f : Tuple → ℕ) (before : Tuple) (item : FromItem) (items : List FromItem)
      → total_behind f before (item ∷ items) ≡ total (λ row. total_behind f (before ++ bound_at item row ∷ []) items) (rows_of catalog instance item.table)
  behind_next f before item items =
      total_flat (λ own. f (before ++ (own ++ outer))) (λ row. map (λ rest. bound_at item row ∷ rest) (tuples catalog instance items)) (rows_of catalog instance item.table)
      ∙ total_same (λ row. total (λ own. f (before ++ (own ++ outer))) (map (λ rest. bound_at item row ∷ rest) (tuples catalog instance items)))
      (λ row. total_behind f (before ++ bound_at item row ∷ []) items)
      (λ row. total_map (λ own. f (before ++ (own ++ outer))) (λ rest. bound_at item row ∷ rest) (tuples catalog instance items)
      ∙ total_same (λ own. f (before ++ ((bound_at item row ∷ own) ++ outer))) (λ own. f ((before ++ bound_at item row ∷ []) ++ (own ++ outer)))
      (λ own. ap f (sym (append_assoc before (bound_at item row ∷ []) (own ++ outer)))) (tuples catalog instance items))
      (rows_of catalog instance item.table)

  module _ (conditions : List (Expr ColumnLeaf)) where
    abbrev pub one_if_agrees : Tuple → ℕ
    one_if_agrees tuple = cond (agrees catalog conditions tuple) 1 0

    -- the partial tuples that have these rows and more
    abbrev pub partials : Tuple → List FromItem → ℕ
    partials before items = total (total_behind one_if_agrees before) (fronts items)

    pub partials_next : (before : Tuple) (item : FromItem) (items : List FromItem)
        → partials before (item ∷ items)
        ≡ total (λ row. one_if_agrees ((before ++ bound_at item row ∷ []) ++ outer) + partials (before ++ bound_at item row ∷ []) items) (rows_of catalog instance item.table)
    partials_next before item items =
        let rows = rows_of catalog instance item.table in
        let T = total_behind one_if_agrees in
        ap (λ n. T before (item ∷ []) + n)
        (total_map (T before) (λ front. item ∷ front) (fronts items)
        ∙ total_same (λ front. T before (item ∷ front)) (λ front. total (λ row. T (before ++ bound_at item row ∷ []) front) rows)
        (λ front. behind_next one_if_agrees before item front) (fronts items)
        ∙ total_turned (λ (front : List FromItem) (row : RowValues). T (before ++ bound_at item row ∷ []) front) (fronts items) rows)
        ∙ ap (λ n. n + total (λ row. partials (before ++ bound_at item row ∷ []) items) rows)
        (behind_next one_if_agrees before item []
        ∙ total_same (λ row. T (before ++ bound_at item row ∷ []) []) (λ row. one_if_agrees ((before ++ bound_at item row ∷ []) ++ outer))
        (λ row. behind_none one_if_agrees (before ++ bound_at item row ∷ [])) rows)
        ∙ sym (total_both (λ row. one_if_agrees ((before ++ bound_at item row ∷ []) ++ outer)) (λ row. partials (before ++ bound_at item row ∷ []) items) rows)

    under_total : (f : Tuple → ℕ) (p : Tuple → Bool) (items : List FromItem) → total f (filter p (tuples_under catalog instance items outer))
        ≡ total_behind (λ tuple. cond (p tuple) (f tuple) 0) [] items
    under_total f p items = total_filter f p (tuples_under catalog instance items outer)
        ∙ total_map (λ tuple. cond (p tuple) (f tuple) 0) (λ own. own ++ outer) (tuples catalog instance items)

    pub partials_all : (items : List FromItem) → length (partial_tuples catalog instance conditions items outer) ≡ partials [] items
    partials_all items =
        length_total (partial_tuples catalog instance conditions items outer)
        ∙ total_flat (λ tuple. 1) (λ front. filter (agrees catalog conditions) (tuples_under catalog instance front outer)) (fronts items)
        ∙ total_same (λ front. total (λ tuple. 1) (filter (agrees catalog conditions) (tuples_under catalog instance front outer))) (total_behind one_if_agrees [])
        (λ front. under_total (λ tuple. 1) (agrees catalog conditions) front) (fronts items)

    -- a number for each full tuple of which each condition is True
    abbrev pub if_kept : (Tuple → ℕ) → Tuple → ℕ
    if_kept f tuple = cond (list_all (holds catalog tuple) conditions) (f tuple) 0

    pub kept_all : (f : Tuple → ℕ) (items : List FromItem) → sum (map f (kept_tuples catalog instance conditions items outer)) ≡ total_behind (if_kept f) [] items
    kept_all f items = sum_total f (kept_tuples catalog instance conditions items outer) ∙ under_total f (λ tuple. list_all (holds catalog tuple) conditions) items
