use Rattle.std.proofs.Common.{rules, ◌≡◌, true, map, sym, subst}
use Rattle.graph_ast.specs.declared.checked.Output.{Output}
use Rattle.sql_algebra.specs.declared.tree.SqlQuery.{SqlQuery}
use Rattle.sql_algebra.specs.Meaning.{names_of}
use Rattle.sql_algebra.specs.Soundness.{IsSound}
use Rattle.sql_algebra.specs.Printable.{IsPrintable}
use Rattle.path_lowering.specs.Apart.{apart}
use Rattle.path_lowering.proofs.PlacingSteps.{if_ok}
use Rattle.query_lowering.specs.Names.{tables_are_named, outputs_are_named}
use Rattle.query_lowering.proofs.NamesOf.{names_selected}
use Rattle.query_lowering.proofs.Numbered.{are_numbered}
use Rattle.query_lowering.proofs.Served.{served}
use Rattle.query_lowering.proofs.SoundOf.{sound_query}
use Rattle.query_lowering.proofs.SpelledOf.{has_names, spelled_query}
use Rattle.query_lowering.proofs.lowering.lower.Goals as goal

pub selected-requires-clause-served : goal.selected-requires-clause-served
selected-requires-clause-served c = served c.args.catalog.now c.args.query.now c.requires

pub selected-requires-clause-numbered : goal.selected-requires-clause-numbered
selected-requires-clause-numbered c = are_numbered c.args.catalog.now c.args.query.now c.requires

pub returns-clause-sound : goal.returns-clause-sound
returns-clause-sound c =
    let catalog = c.args.catalog.now in
    let query = c.args.query.now in
    if_ok c.selected.result _ _
    (λ sql is. subst (λ (q : SqlQuery). IsSound q catalog) (sym is)
    (c.sound_law.ensures catalog query (served catalog query c.requires) (sound_query catalog query c.requires))) c.selected.ensures.exact

pub returns-clause-printable : goal.returns-clause-printable
returns-clause-printable c =
    let catalog = c.args.catalog.now in
    let query = c.args.query.now in
    let tables : tables_are_named catalog.tables ≡ true = search rules in
    let outputs : outputs_are_named query.columns ≡ true = search rules in
    if_ok c.selected.result _ _
    (λ sql is. subst IsPrintable (sym is)
    (c.printable_law.ensures catalog query (served catalog query c.requires) (has_names catalog tables) (spelled_query catalog query c.requires outputs)))
    c.selected.ensures.exact

pub returns-clause-names : goal.returns-clause-names
returns-clause-names c =
    let catalog = c.args.catalog.now in
    let query = c.args.query.now in
    if_ok c.selected.result _ _
    (λ sql is. subst (λ (q : SqlQuery). names_of q ≡ map (λ (output : Output). output.name) query.columns) (sym is) (names_selected catalog apart query)) c.selected.ensures.exact
