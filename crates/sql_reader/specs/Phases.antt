-- The faults of an SQL text in two phases: names, and then types.
use Rattle.std.specs.Prelude.{◌==◌, not, true, cond, List, [], ◌∷◌, ◌++◌, map, flat_map, length, Option, None, Some}
use Rattle.pgq_base.specs.declared.code.Code.TheVariants as code
use Rattle.pgq_base.specs.declared.value.Class.{Class}
use Rattle.expr_tree.specs.Classes.{same_class}
use Rattle.graph_ast.specs.declared.catalog.Catalog.{Catalog}
use Rattle.condition_grammar.specs.declared.spanned.Spanned.{Spanned}
use Rattle.condition_grammar.specs.Spans.{span_of}
use Rattle.sql_algebra.specs.declared.text.SqlText.{SqlText}
use Rattle.sql_algebra.specs.declared.text.SelectText.{SelectText, SelectText-F, fold-SelectText}
use Rattle.sql_algebra.specs.declared.text.ColumnText.{ColumnText}
use Rattle.sql_algebra.specs.declared.text.ItemText.{ItemText}
use Rattle.sql_algebra.specs.declared.text.ConjunctText.{ConjunctText, ConjunctText-F, fold-ConjunctText}
use Rattle.sql_algebra.specs.declared.text.ColumnRef.{ColumnRef}
use Rattle.first_faults.specs.declared.faults.Fault.{Fault}
use Rattle.first_faults.specs.Faults.{when, first_of}
use Rattle.sql_reader.specs.declared.phases.Phase.{Phase}
use Rattle.sql_reader.specs.declared.phases.Phase.TheVariants.{Names, Types}
use Rattle.sql_reader.specs.Reaches.{Reach, placed, reach_within}
use Rattle.sql_reader.specs.Names.{value_names, unknown_table, repeated_aliases, repeated_columns}
use Rattle.sql_reader.specs.Types.{value_types, condition_types, class_of_value}

-- what a phase finds in an expression within reach
abbrev pub value_faults : Phase → Reach → Spanned ColumnRef → List Fault
value_faults Names reach value = value_names reach value
value_faults Types reach value = value_types reach value

-- what it finds in a conjunct or a member of an ON
abbrev pub condition_faults : Phase → Reach → Spanned ColumnRef → List Fault
condition_faults Names reach value = value_names reach value
condition_faults Types reach value = condition_types reach value

-- what it finds in the names that a select gives, and in those of its tables
abbrev pub given_faults : Phase → Catalog → Reach → List ColumnText → List ItemText → List Fault
given_faults Names catalog outer columns items = repeated_columns [] columns ++ (flat_map (unknown_table catalog) items ++ repeated_aliases catalog outer [] items)
given_faults Types catalog outer columns items = []

-- the items of the chain up to this one, where those before it are given
abbrev pub chain_to : Catalog → Reach → ItemText → Option (List (Spanned ColumnRef)) → Reach
chain_to catalog before item None = placed catalog item ∷ []
chain_to catalog before item (Some members) = before ++ placed catalog item ∷ []

abbrev pub members_of : Option (List (Spanned ColumnRef)) → List (Spanned ColumnRef)
members_of None = []
members_of (Some members) = members

-- An ON reaches the items of its own chain up to its own, and the outer ones.
abbrev pub on_faults : Phase → Catalog → Reach → Reach → List ItemText → List Fault
on_faults phase catalog outer before [] = []
on_faults phase catalog outer before (item ∷ items) =
    let chain = chain_to catalog before item item.on in
    flat_map (condition_faults phase (chain ++ outer)) (members_of item.on) ++ on_faults phase catalog outer chain items

abbrev pub conjunct_step : Phase → ConjunctText-F (Reach → List Fault) (Reach → List Fault) → Reach → List Fault
conjunct_step phase (ConjunctText-F.Plain condition) reach = condition_faults phase reach condition
conjunct_step phase (ConjunctText-F.NotExists select) reach = select reach

-- A select within the reach of those around it: its columns and its WHERE reach its own items and the outer ones.
abbrev pub select_step : Phase → Catalog → SelectText-F (Reach → List Fault) (Reach → List Fault) → Reach → List Fault
select_step phase catalog select outer =
    let reach = reach_within catalog outer select.from in
    given_faults phase catalog outer select.columns select.from
    ++ (flat_map (λ column. value_faults phase reach column.value) select.columns
    ++ (on_faults phase catalog outer [] select.from
    ++ flat_map (λ conjunct. conjunct reach) select.conjuncts))

abbrev pub select_faults : Phase → Catalog → SelectText → Reach → List Fault
select_faults phase catalog = fold-SelectText (Reach → List Fault) (Reach → List Fault) (conjunct_step phase) (select_step phase catalog)

abbrev pub conjunct_faults : Phase → Catalog → ConjunctText → Reach → List Fault
conjunct_faults phase catalog = fold-ConjunctText (Reach → List Fault) (Reach → List Fault) (conjunct_step phase) (select_step phase catalog)

-- the class of a column of a select that stands under none
abbrev pub column_class : Catalog → SelectText → ColumnText → Class
column_class catalog select column = class_of_value (reach_within catalog [] select.from) column.value

abbrev pub column_classes : Catalog → SelectText → List Class
column_classes catalog select = map (column_class catalog select) select.columns

-- an item's class is not that of the first select's item
abbrev pub differing_items : Catalog → SelectText → List Class → List ColumnText → List Fault
differing_items catalog select (class ∷ classes) (column ∷ columns) =
    when (not (same_class class (column_class catalog select column))) code.ClassesDiffer (span_of column.value) ++ differing_items catalog select classes columns
differing_items catalog select classes columns = []

-- a later select has not the number of items of the first, or not their classes
abbrev pub later_faults : Catalog → List Class → SelectText → List Fault
later_faults catalog classes select =
    cond (length classes == length select.columns) (differing_items catalog select classes select.columns) (when true code.ClassesDiffer select.word)

abbrev pub united_faults : Catalog → List SelectText → List Fault
united_faults catalog [] = []
united_faults catalog (first ∷ later) = flat_map (later_faults catalog (column_classes catalog first)) later

-- what it finds in the selects of a UNION ALL beside one another
abbrev pub union_faults : Phase → Catalog → List SelectText → List Fault
union_faults Names catalog selects = []
union_faults Types catalog selects = united_faults catalog selects

-- what a phase finds in a text
abbrev pub faults_in : Phase → Catalog → SqlText → List Fault
faults_in phase catalog text = flat_map (λ select. select_faults phase catalog select []) text.selects ++ union_faults phase catalog text.selects

-- the fault of the earlier phase, or else that of the later
abbrev pub or_then : Option Fault → Option Fault → Option Fault
or_then None later = later
or_then (Some f) later = Some f

-- the first fault of the first phase that has one
abbrev pub first_fault : Catalog → SqlText → Option Fault
first_fault catalog text = or_then (first_of None (faults_in Names catalog text)) (first_of None (faults_in Types catalog text))
