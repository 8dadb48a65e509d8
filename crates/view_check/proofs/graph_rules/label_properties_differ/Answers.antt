use Rattle.std.proofs.Common.{◌∙◌, ap, map, Bor}
use Rattle.graph_ast.specs.declared.schema.ElementDef.{ElementDef}
use Rattle.view_check.specs.GraphRules.{shown_from}
use Rattle.view_check.specs.Clauses.{shown_by}
use Rattle.view_check.proofs.ClauseLemmas.{clauses_clash}
use Rattle.view_check.proofs.graph_rules.label_properties_differ.Goals as goal

pub returns : goal.returns
returns c =
    c.in_ok-found.ensures
    ∙ clauses_clash c.args.tables.now c.as_slice.result.now (shown_from c.args.tables.now 0 (map (λ (e : Bor ElementDef). e.now) c.args.all.now)) c.args.first
    (ap (map (shown_by c.args.tables.now)) c.as_slice.ensures.value ∙ c.in_ok-clauses.ensures)
