-- The rows of a list that are met for the first time.
use Rattle.std.specs.Prelude.{cond, [], ◌∷◌}
use Rattle.std.specs.List.{list_any}
use Rattle.pgq_base.specs.declared.rows.Row.{Row}
use Rattle.pgq_base.specs.Instances.{RowValues, TableRows, same_values}

abbrev pub values_of : Row → RowValues
values_of row = row.values

-- A word of the proof alone: the rows that equal none before them, where these ones stand before the first.
abbrev pub different_from : TableRows → TableRows → TableRows
different_from earlier [] = []
different_from earlier (row ∷ rows) =
    cond (list_any (same_values row) earlier) (different_from (row ∷ earlier) rows) (row ∷ different_from (row ∷ earlier) rows)
