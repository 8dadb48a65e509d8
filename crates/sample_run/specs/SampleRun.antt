-- The generated run. The generator is this project's own.
use Rattle.std.specs.Prelude.{ℕ, ◌+◌, ◌-◌, ◌*◌, ◌%◌, pos, List, [], ◌∷◌, ◌++◌, map, flat_map, codes, decimal}
use Rattle.std.specs.List.{range_with_len}
use Rattle.pgq_base.specs.declared.rows.Instance.{Instance}
use Rattle.pgq_base.specs.declared.rows.Rows.{Rows}
use Rattle.pgq_base.specs.declared.value.Value.TheVariants.{Number, Text}
use Rattle.pgq_base.specs.Instances.{RowValues, TableRows, InstanceRows}

-- the rows of a table, and of the tables
abbrev pub shown_rows : Rows → TableRows
shown_rows table = map (λ row. row.values) table.rows

abbrev pub shown_tables : Instance → InstanceRows
shown_tables instance = map shown_rows instance.tables

-- ---- tables

-- the persons, from 1 up to n
abbrev pub numbers_to : ℕ → List ℕ
numbers_to n = range_with_len 1 n

abbrev pub person_name : ℕ → List ℕ
person_name i = codes "P" ++ decimal i

-- ID, NAME and AGE of a person
abbrev pub person_row : ℕ → RowValues
person_row i = Number (pos i) ∷ Text (person_name i) ∷ Number (pos (7 * i % 90)) ∷ []

-- ID, A, B and SINCE of an edge, the one with number j of those that begin at the person i
abbrev pub knows_row : ℕ → ℕ → ℕ → RowValues
knows_row n i j = Number (pos (3 * (i - 1) + j + 1)) ∷ Number (pos i) ∷ Number (pos (((j + 2) * i + j) % n + 1)) ∷ Number (pos (2000 + (i + j) % 25)) ∷ []

abbrev pub rows_for : ℕ → ℕ → TableRows
rows_for n i = knows_row n i 0 ∷ knows_row n i 1 ∷ knows_row n i 2 ∷ []

abbrev pub person_rows : ℕ → TableRows
person_rows n = map person_row (numbers_to n)

abbrev pub knows_rows : ℕ → TableRows
knows_rows n = flat_map (rows_for n) (numbers_to n)

-- PERSON and KNOWS
abbrev pub sample_rows : ℕ → InstanceRows
sample_rows n = person_rows n ∷ knows_rows n ∷ []

-- ---- texts

unfoldable pub sample_schema : List ℕ
sample_schema =
    codes "CREATE TABLE person (id INTEGER PRIMARY KEY, name VARCHAR(20), age INTEGER);\n"
    ++ codes "CREATE TABLE knows (id INTEGER PRIMARY KEY, a INTEGER REFERENCES person (id),\n"
    ++ codes "  b INTEGER REFERENCES person (id), since INTEGER);\n" ++ codes "CREATE PROPERTY GRAPH g VERTEX TABLES (person)\n"
    ++ codes "  EDGE TABLES (knows SOURCE KEY (a) REFERENCES person (id)\n" ++ codes "                     DESTINATION KEY (b) REFERENCES person (id));\n"

unfoldable pub sample_query : List ℕ
sample_query = codes "SELECT * FROM GRAPH_TABLE (G MATCH ALL SHORTEST (x)-[e]->{1,2}(y) COLUMNS (x.id AS f, y.id AS t))"

-- ---- the summary

abbrev pub count_line : List ℕ → ℕ → List ℕ
count_line name count = name ++ decimal count ++ codes "\n"

unfoldable pub sample_summary : ℕ → ℕ → ℕ → ℕ → List ℕ
sample_summary vertices edges rows distinct =
    count_line (codes "vertices ") vertices ++ count_line (codes "edges ") edges ++ count_line (codes "rows ") rows ++ count_line (codes "distinct ") distinct
