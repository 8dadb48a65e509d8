-- The faults of the phase names, row by row of the table of codes.
use Rattle.std.specs.Prelude.{ℕ, Bool, true, false, not, ◌&&◌, ◌||◌, nat_eq, List, [], ◌∷◌, ◌++◌, flat_map, option_to_list, is_some, Option, None, Some}
use Rattle.std.specs.List.{list_any, list_all}
use Rattle.pgq_base.specs.declared.code.Code.TheVariants as code
use Rattle.expr_tree.specs.declared.tree.Expr.{Expr}
use Rattle.expr_tree.specs.declared.tree.Expr.TheOpen.{Expr-F}
use Rattle.expr_tree.specs.declared.tree.Expr.TheFolds.{fold-Expr}
use Rattle.graph_ast.specs.declared.schema.Named.{Named}
use Rattle.graph_ast.specs.declared.query.QueryTree.{QueryTree}
use Rattle.graph_ast.specs.declared.query.PathTree.{PathTree}
use Rattle.graph_ast.specs.declared.query.Joint.{Joint}
use Rattle.graph_ast.specs.declared.query.Item.{Item}
use Rattle.graph_ast.specs.declared.query.PropertyRef.{PropertyRef}
use Rattle.graph_ast.specs.declared.query.Filler.{Filler}
use Rattle.graph_ast.specs.declared.query.LabelExpr.{LabelExpr}
use Rattle.graph_ast.specs.declared.query.LabelExpr.TheOpen.{LabelExpr-F}
use Rattle.graph_ast.specs.declared.query.LabelExpr.TheFolds.{fold-LabelExpr}
use Rattle.graph_ast.specs.declared.catalog.Catalog.{Catalog}
use Rattle.graph_ast.specs.declared.catalog.Graph.{Graph}
use Rattle.graph_ast.specs.Lookups.{graph_at, graph_place}
use Rattle.first_faults.specs.declared.faults.Fault.{Fault}
use Rattle.first_faults.specs.Faults.{fault, when}
use Rattle.first_faults.specs.Names.{has_text, repeated}
use Rattle.graph_ast.specs.Patterns.{Giving, Body, body_given}
use Rattle.pattern_check.specs.Scopes.{same_kind, Declaration, Around, Use, declarations, declares, first_declaration, operands_declare, uses}
use Rattle.pattern_check.specs.Graphs.{elements_of_kind, is_label, has_property}

-- ---- what the text has

-- all of some
abbrev pub row_labels : List (List Named) → List Named
row_labels = flat_map (λ (labels : List Named). labels)

abbrev pub labels_step : LabelExpr-F (List Named) → List Named
labels_step (LabelExpr-F.Label label) = label ∷ []
labels_step LabelExpr-F.AnyLabel = []
labels_step (LabelExpr-F.Not labels) = labels
labels_step (LabelExpr-F.And members) = row_labels members
labels_step (LabelExpr-F.Or members) = row_labels members

-- the labels that a label expression names
abbrev pub labels_in : LabelExpr → List Named
labels_in = fold-LabelExpr (List Named) labels_step

abbrev pub labels_of : Filler → List Named
labels_of filler = flat_map labels_in (option_to_list filler.label)

abbrev pub body_labels : Body (List Named) → List Named
body_labels body = flat_map row_labels body.operands

abbrev pub labelling : Giving (List Named)
labelling = record { vertex = labels_of; edge = λ direction filler quantifier. labels_of filler; part = λ part quantifier. body_labels part.body }

-- the labels that a path pattern names
abbrev pub path_labels : PathTree → List Named
path_labels path = body_labels (body_given labelling path.body)

-- the variable is declared somewhere in MATCH
abbrev pub is_declared : List Declaration → List ℕ → Bool
is_declared all name = list_any (declares name) all

-- the variable is declared in a quantified part
abbrev pub is_group : List Declaration → List ℕ → Bool
is_group all name = list_any (λ (declaration : Declaration). declares name declaration && declaration.place.quantified) all

-- the variable is declared in a quantified part, and none around declares it
abbrev pub is_out_of_reach : List Declaration → Around → List ℕ → Bool
is_out_of_reach all around name = is_group all name && not (list_any (has_text name) around.parts)

-- a quantified part around, or the path pattern around, does not declare the variable
abbrev pub is_out_of_scope : Around → List ℕ → Bool
is_out_of_scope around name = list_any (λ names. not (has_text name names)) (around.parts ++ option_to_list around.path)

-- the leaf of an expression that is one
abbrev pub leaf_step : {L A : Type 0} → Expr-F L A → Option L
leaf_step (Expr-F.Lit v) = None
leaf_step (Expr-F.Null c) = None
leaf_step (Expr-F.Leaf leaf) = Some leaf
leaf_step (Expr-F.Compare op a b) = None
leaf_step (Expr-F.All es) = None
leaf_step (Expr-F.Any es) = None
leaf_step (Expr-F.Not e) = None
leaf_step (Expr-F.Is e t negated) = None
leaf_step (Expr-F.InList e es negated) = None
leaf_step (Expr-F.Between a b c negated) = None
leaf_step (Expr-F.Coalesce es) = None

abbrev pub leaf_of : Expr PropertyRef → Option PropertyRef
leaf_of = fold-Expr PropertyRef (Option PropertyRef) leaf_step

abbrev pub property_of : Option PropertyRef → Option Named
property_of None = None
property_of (Some leaf) = Some leaf.property

abbrev pub name_or : Option Named → Option Named → Option Named
name_or (Some name) other = Some name
name_or None other = other

-- the name of a column: the one after AS, or else the property of an item that is a leaf
abbrev pub column_name : Item → Option Named
column_name item = name_or item.name (property_of (leaf_of item.value.tree))

-- that name, in a list of one or none
abbrev pub column_names : Item → List Named
column_names item = option_to_list (column_name item)

-- ---- the rows of the table of codes

-- UnknownGraph: no such graph
abbrev pub unknown_graph : QueryTree → List Fault
unknown_graph tree = fault code.UnknownGraph tree.graph.span ∷ []

-- UnknownLabel: no element of the graph has the label
abbrev pub unknown_label : Graph → Named → List Fault
unknown_label graph label = when (not (is_label graph label.name)) code.UnknownLabel label.span

-- UnknownVariable: a leaf's variable is declared nowhere in MATCH
abbrev pub unknown_variable : List Declaration → Named → List Fault
unknown_variable all variable = when (not (is_declared all variable.name)) code.UnknownVariable variable.span

-- GroupVariable: the variable is declared in a quantified part, and the leaf stands in no quantified part that declares it
abbrev pub group_variable : List Declaration → Around → Named → List Fault
group_variable all around variable = when (is_out_of_reach all around variable.name) code.GroupVariable variable.span

-- VariableKind: the variable is declared earlier with the other kind
abbrev pub variable_kind : List Declaration → Declaration → List Fault
variable_kind before later =
    when (list_any (λ (earlier : Declaration). declares later.variable.name earlier && not (same_kind earlier.kind later.kind)) before) code.VariableKind later.variable.span

-- in the same operand, or in another path pattern
abbrev pub may_stand_together : Declaration → Declaration → Bool
may_stand_together earlier later = not (nat_eq earlier.place.path later.place.path) || nat_eq earlier.place.operand later.place.operand

-- VariableRepeated: the variable is declared earlier with the same kind, in the same operand or in another path pattern, and one of the two stands in a quantified part
abbrev pub variable_repeated : List Declaration → Declaration → List Fault
variable_repeated before later =
    when (list_any (λ (earlier : Declaration).
    declares later.variable.name earlier && same_kind earlier.kind later.kind && may_stand_together earlier later
    && (earlier.place.quantified || later.place.quantified)) before) code.VariableRepeated later.variable.span

-- OutOfScope: neither UnknownVariable nor GroupVariable, and the leaf stands in a quantified part that does not declare the variable, or elsewhere in a path pattern that does not
abbrev pub out_of_scope : List Declaration → Around → Named → List Fault
out_of_scope all around variable =
    when (is_declared all variable.name && not (is_out_of_reach all around variable.name) && is_out_of_scope around variable.name) code.OutOfScope variable.span

-- UnknownProperty: no element of the variable's first kind has the property
abbrev pub unknown_property : Graph → List Declaration → PropertyRef → List Fault
unknown_property graph all leaf =
    flat_map (λ (first : Declaration). when (not (list_any (has_property leaf.property.name) (elements_of_kind graph first.kind))) code.UnknownProperty leaf.property.span)
    (option_to_list (first_declaration all leaf.variable.name))

-- DuplicateColumnName: a column's name stands on an earlier column
abbrev pub duplicate_column_names : List Item → List Fault
duplicate_column_names columns = repeated code.DuplicateColumnName (flat_map column_names columns)

-- UnnamedColumn: an item without AS is not a leaf
abbrev pub unnamed_column : Item → List Fault
unnamed_column item = when (not (is_some (column_name item))) code.UnnamedColumn item.span

abbrev pub same_truth : Bool → Bool → Bool
same_truth true b = b
same_truth false b = not b

-- the variables of the first are variables of the second, and in quantified parts in both or in none
abbrev pub has_variables_of : List Declaration → List Declaration → Bool
has_variables_of xs ys =
    list_all (λ (declaration : Declaration).
    is_declared ys declaration.variable.name && same_truth (is_group xs declaration.variable.name) (is_group ys declaration.variable.name)) xs

-- UnionVariablesDiffer: the operand's set of variables, each with its being declared in a quantified part or not, differs from the first operand's
abbrev pub variables_differ : List Declaration → List Declaration → Joint → List Fault
variables_differ first operand joint = when (not (has_variables_of first operand && has_variables_of operand first)) code.UnionVariablesDiffer joint.span

-- ---- where they may stand

-- at a variable that stands somewhere
abbrev pub variable_faults : List Declaration → Around → Named → List Fault
variable_faults all around variable = unknown_variable all variable ++ group_variable all around variable ++ out_of_scope all around variable

-- at a declaration, behind those before it
abbrev pub declaration_faults_behind : List Declaration → List Declaration → List Fault
declaration_faults_behind before [] = []
declaration_faults_behind before (later ∷ more) =
    variable_kind before later ++ variable_repeated before later ++ declaration_faults_behind (before ++ later ∷ []) more

-- at the bar before each operand but the first
abbrev pub unlike_first : List Declaration → List (List Declaration) → List Joint → List Fault
unlike_first first [] joints = []
unlike_first first (operand ∷ operands) [] = []
unlike_first first (operand ∷ operands) (joint ∷ joints) = variables_differ first operand joint ++ unlike_first first operands joints

abbrev pub unlike_among : List (List Declaration) → List Joint → List Fault
unlike_among [] joints = []
unlike_among (first ∷ operands) joints = unlike_first first operands joints

abbrev pub union_faults : PathTree → List Fault
union_faults path = unlike_among (operands_declare 0 path.body) (body_given labelling path.body).joints

-- at the columns
unfoldable pub column_faults : List Item → List Fault
column_faults columns = duplicate_column_names columns ++ flat_map unnamed_column columns

-- where the graph is known: at its labels and at properties
abbrev pub graph_faults : Graph → QueryTree → List Fault
graph_faults graph tree =
    flat_map (unknown_label graph) (flat_map path_labels tree.paths) ++ flat_map (λ (used : Use). unknown_property graph (declarations tree) used.leaf) (uses tree)

-- an unknown graph hides what needs one
abbrev pub faults_by_graph : Catalog → QueryTree → Option ℕ → List Fault
faults_by_graph catalog tree None = unknown_graph tree
faults_by_graph catalog tree (Some place) = graph_faults (graph_at catalog place) tree

-- all faults of the phase
unfoldable pub name_faults : Catalog → QueryTree → List Fault
name_faults catalog tree =
    faults_by_graph catalog tree (graph_place catalog tree.graph.name) ++
    flat_map (λ (used : Use). variable_faults (declarations tree) used.around used.leaf.variable) (uses tree) ++
    declaration_faults_behind [] (declarations tree) ++ flat_map union_faults tree.paths ++ column_faults tree.columns
