use Rattle.std.proofs.Common.{rules, ◌≡◌, ◌∙◌, ◌∷◌, sym, ap}
use Rattle.expr_tree.specs.Classes.{class_in}
use Rattle.condition_grammar.specs.Spans.{first_span}
use Rattle.first_faults.specs.Faults.{first_of, when}
use Rattle.sql_reader.specs.Types.{leaf_class}
use Rattle.sql_reader.specs.Phases.{differing_items}
use Rattle.pgq_base.specs.declared.code.Code.TheVariants.{ClassesDiffer}
use Rattle.std.specs.Prelude.{not}
use Rattle.sql_reader.proofs.MadeSelects.{items_step}
use Rattle.sql_reader.proofs.unions.differing_items.Goals as goal

pub loop-class-preserved : goal.loop-class-preserved
loop-class-preserved c = λ catalog select at.
    let k = c.in-Some.class.now in
    let x = c.in-Some-split_first.column.now in
    let ks = c.in-Some.later.now in
    let xs = c.in-Some-split_first.others.now in
    let classes : c.loop-class.classes.now ≡ c.in-Some.class.now ∷ c.in-Some.later.now = search rules in
    let columns : c.loop-class.columns.now ≡ c.in-Some-split_first.column.now ∷ c.in-Some-split_first.others.now = search rules in
    items_step catalog select k c.class_of-own.result ks x xs c.first_span-span.result c.loop-class.found c.note-found.result
    (c.class_of-own.ensures ∙ ap (λ r. class_in (leaf_class r) x.value.tree) at)
    (c.first_span-span.ensures ∙ ap first_span c.as_slice.ensures)
    (c.note-found.ensures ∙ ap (λ b. first_of c.loop-class.found (when (not b) ClassesDiffer c.first_span-span.result)) c.same_class.ensures)
    ∙ sym (ap (λ l. first_of c.loop-class.found (differing_items catalog select l c.loop-class.columns.now)) classes
    ∙ ap (λ l. first_of c.loop-class.found (differing_items catalog select (k ∷ ks) l)) columns)
    ∙ c.loop-class.invariant catalog select at
