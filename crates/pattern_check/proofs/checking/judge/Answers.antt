use Rattle.std.proofs.Common.{rules, ◌≡◌, ◌∙◌, None, Some, sym, ap, subst}
use Rattle.pgq_base.specs.Answers.{Gives}
use Rattle.graph_ast.specs.Lookups.{graph_at}
use Rattle.normal_form.specs.Checked.{AreNumbered}
use Rattle.pattern_check.specs.Checks.{early_fault, later_fault, due}
use Rattle.pattern_check.proofs.Judging.{columns_named, no_limits, numbered, early_due, later_due, weighed_due, given_refusal, given_lowerable}
use Rattle.pattern_check.proofs.checking.judge.Goals as goal

pub returns-in-Some-clause-answer : goal.returns-in-Some-clause-answer
returns-in-Some-clause-answer c =
    let catalog = c.args.catalog.now in
    let tree = c.args.tree.now in
    let is : Some c.in-Some.fault ≡ early_fault catalog tree = search rules in
    given_refusal (due catalog tree) c.in-Some.fault c.refused.result (early_due catalog tree c.in-Some.fault is) c.refused.ensures

pub returns-in-Some-later_fault-clause-answer : goal.returns-in-Some-later_fault-clause-answer
returns-in-Some-later_fault-clause-answer c =
    let catalog = c.args.catalog.now in
    let tree = c.args.tree.now in
    let early : early_fault catalog tree ≡ None = search rules in
    let told : Some c.in-Some-later_fault.fault ≡ c.later_fault.result = search rules in
    let is : Some c.in-Some-later_fault.fault ≡ later_fault catalog (graph_at catalog c.place_of-place.result) tree =
    told ∙ c.later_fault.ensures ∙ ap (λ g. later_fault catalog g tree) c.graph_at.ensures in
    given_refusal (due catalog tree) c.in-Some-later_fault.fault c.refused-in-Some-later_fault.result
    (later_due catalog tree c.place_of-place.result c.in-Some-later_fault.fault early c.place_of-place.ensures.place is) c.refused-in-Some-later_fault.ensures

pub unweighed-requires-clause-limits : goal.unweighed-requires-clause-limits
unweighed-requires-clause-limits c =
    let early : early_fault c.args.catalog.now c.args.tree.now ≡ None = search rules in
    let none : c.later_fault.result ≡ None = search rules in
    no_limits c.args.catalog.now c.args.tree.now early c.graph_at.result.now (sym c.later_fault.ensures ∙ none)

pub unweighed-requires-clause-named : goal.unweighed-requires-clause-named
unweighed-requires-clause-named c =
    let early : early_fault c.args.catalog.now c.args.tree.now ≡ None = search rules in
    columns_named c.args.catalog.now c.args.tree.now early

pub weighed-requires : goal.weighed-requires
weighed-requires c =
    let catalog = c.args.catalog.now in
    let tree = c.args.tree.now in
    let early : early_fault catalog tree ≡ None = search rules in
    let none : c.later_fault.result ≡ None = search rules in
    subst (AreNumbered catalog) (sym c.in_ok-query.ensures)
    (numbered catalog tree early c.requires.valid c.requires.joined c.place_of-place.result c.place_of-place.ensures.place
    (no_limits catalog tree early c.graph_at.result.now (sym c.later_fault.ensures ∙ none)))

pub returns-clause-answer : goal.returns-clause-answer
returns-clause-answer c =
    let catalog = c.args.catalog.now in
    let tree = c.args.tree.now in
    let early : early_fault catalog tree ≡ None = search rules in
    let none : c.later_fault.result ≡ None = search rules in
    let later : later_fault catalog (graph_at catalog c.place_of-place.result) tree ≡ None = sym (c.later_fault.ensures ∙ ap
    (λ g. later_fault catalog g tree) c.graph_at.ensures) ∙ none in
    subst (λ asked. Gives asked c.weighed.result) (weighed_due catalog tree c.place_of-place.result c.in_ok-query.query early c.place_of-place.ensures.place later
    c.in_ok-query.ensures) c.weighed.ensures

pub returns-clause-lowerable : goal.returns-clause-lowerable
returns-clause-lowerable c =
    let catalog = c.args.catalog.now in
    let tree = c.args.tree.now in
    let early : early_fault catalog tree ≡ None = search rules in
    let none : c.later_fault.result ≡ None = search rules in
    let later : later_fault catalog (graph_at catalog c.place_of-place.result) tree ≡ None = sym (c.later_fault.ensures ∙ ap
    (λ g. later_fault catalog g tree) c.graph_at.ensures) ∙ none in
    given_lowerable catalog tree c.weighed.result
    (subst (λ asked. Gives asked c.weighed.result) (weighed_due catalog tree c.place_of-place.result c.in_ok-query.query early c.place_of-place.ensures.place later
    c.in_ok-query.ensures) c.weighed.ensures)
