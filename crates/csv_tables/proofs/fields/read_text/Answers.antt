use Rattle.std.proofs.Common.{sym, ◌∙◌, ap, Some}
use Rattle.pgq_base.specs.declared.value.Value.TheVariants.{Text}
use Rattle.csv_tables.proofs.FieldLemmas.{of_text, of_no_text}
use Rattle.csv_tables.proofs.fields.read_text.Goals as goal

pub returns-in_ok-from_text-in-Ok : goal.returns-in_ok-from_text-in-Ok
returns-in_ok-from_text-in-Ok c =
    ap (λ bytes. Some (Text bytes)) (c.in_ok-from_text-in-Ok.ensures ∙ c.in-Ok.ensures.cases.0)
    ∙ sym (of_text c.args.field.now c.in-Some.bytes.now (sym c.in-Some.ensures) c.in-Ok.ensures.cases.1)

pub returns-in-Err : goal.returns-in-Err
returns-in-Err c = sym (of_no_text c.args.field.now c.in-Some.bytes.now (sym c.in-Some.ensures) c.in-Err.ensures.cases.0)
