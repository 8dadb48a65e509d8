-- Bounds on the rows that are read.
use Rattle.std.specs.Prelude.{◌≡◌, ℕ, ◌≤◌, List, map, flat_map, sum, length}
use Rattle.pgq_base.specs.Instances.{InstanceRows}
use Rattle.graph_ast.specs.declared.catalog.Catalog.{Catalog}
use Rattle.sql_algebra.specs.declared.tree.FromItem.{FromItem}
use Rattle.sql_algebra.specs.declared.tree.Select.{Select}
use Rattle.sql_algebra.specs.declared.tree.Conjunct.{Conjunct, fold-Conjunct}
use Rattle.sql_algebra.specs.Catalogs.{rows_of}
use Rattle.sql_algebra.specs.RowReads.{Share, share_step, reads_step, select_reads, table_step, tables_step}
use Rattle.sql_algebra.specs.Tuples.{Tuple}
use Rattle.row_eval.specs.declared.stage.Stage.{Stage}
use Rattle.row_eval.specs.Scopes.{Placed, tuple_of}
use Rattle.row_eval.specs.Slots.{Stack}
use Rattle.row_eval.specs.Stages.{visits}
use Rattle.row_eval.specs.Typed.{IsTyped}

-- what a conjunct gives to the reads of its select
abbrev pub share_of : Catalog → InstanceRows → Conjunct → Share
share_of catalog instance = fold-Conjunct Share (Tuple → ℕ) share_step (reads_step catalog instance)

-- the reads of the inner selects of conjuncts under a tuple
abbrev pub inner_reads : Catalog → InstanceRows → List Conjunct → Tuple → ℕ
inner_reads catalog instance conjuncts tuple = sum (map (λ conjunct. (share_of catalog instance conjunct).reads tuple) conjuncts)

-- stages that read no more than the inner selects may
abbrev pub IsEndWithin : Catalog → InstanceRows → List Conjunct → List Placed → List Stage → Type 0
IsEndWithin catalog instance conjuncts reach stages =
    (s : Stack) → length s ≡ length reach → IsTyped catalog (tuple_of reach s) → visits instance stages s ≤ inner_reads catalog instance conjuncts (tuple_of reach s)

-- stages that read no more than the select may
abbrev pub IsWithin : Catalog → InstanceRows → Select → List Placed → List Stage → Type 0
IsWithin catalog instance select outer stages =
    (s : Stack) → length s ≡ length outer → IsTyped catalog (tuple_of outer s) → visits instance stages s ≤ select_reads catalog instance select (tuple_of outer s)

-- the rows of some tables, each as often as it stands there
abbrev pub rows_in : Catalog → InstanceRows → List (List ℕ) → ℕ
rows_in catalog instance tables = sum (map (λ table. length (rows_of catalog instance table)) tables)

-- the tables of the inner selects of conjuncts
abbrev pub inner_tables : List Conjunct → List (List ℕ)
inner_tables conjuncts = flat_map (fold-Conjunct (List (List ℕ)) (List (List ℕ)) table_step tables_step) conjuncts

abbrev pub item_tables : List FromItem → List (List ℕ)
item_tables items = map (λ (item : FromItem). item.table) items
