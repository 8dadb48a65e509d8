use Rattle.std.proofs.Common.{◌∙◌, ap}
use Rattle.std.proofs.lemmas.Result.{IfOk-weaker}
use Rattle.std.specs.List.{flat_map}
use Rattle.graph_ast.specs.declared.catalog.Graph.{Graph}
use Rattle.first_faults.specs.Faults.{first_of}
use Rattle.pattern_check.specs.NameRules.{unknown_property}
use Rattle.pattern_check.specs.Scopes.{Use, declarations, uses}
use Rattle.pattern_check.proofs.NamePhase.{properties_at}
use Rattle.pattern_check.proofs.names.property_faults.Goals as goal

pub returns : goal.returns
returns c =
    IfOk-weaker c.leaf_faults.result _ _
    (λ found e. e
    ∙ ap (λ (graph : Graph). first_of c.args.first (flat_map (λ (used : Use). unknown_property graph c.args.declared.now used.leaf) (uses c.args.tree.now))) c.in_ok-shown.ensures
    ∙ ap (first_of c.args.first) (properties_at c.args.graph.now c.args.declared.now (declarations c.args.tree.now) (uses c.args.tree.now) c.requires))
    c.leaf_faults.ensures
