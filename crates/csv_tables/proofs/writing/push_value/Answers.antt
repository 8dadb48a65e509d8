use Rattle.std.proofs.Common.{◌≡◌, ◌∙◌, ◌++◌, ◌∷◌, [], List, ℕ, ap, sym}
use Rattle.csv.specs.Records.{fields_of}
use Rattle.civil_dates.proofs.DateTexts.{one_written}
use Rattle.day_texts.specs.DayTexts.{day_text}
use Rattle.day_texts.proofs.DayLemmas.{day_text_names}
use Rattle.csv_tables.specs.Fields.{field_of}
use Rattle.csv_tables.proofs.writing.push_value.Goals as goal

pub returns-in_ok-push_field-in-Date-clause-fields : goal.returns-in_ok-push_field-in-Date-clause-fields
returns-in_ok-push_field-in-Date-clause-fields c =
    let old = fields_of c.args.fields.now in
    let d = c.in-Date.date in
    let text : c.text_of_date.result ≡ day_text d.day = one_written c.text_of_date.result (day_text d.day) d.day c.text_of_date.ensures (day_text_names d) in
    c.in_ok-push_field-in-Date.ensures.fields ∙ (ap (λ (rest : List ℕ). old ++ (rest ++ c.text_of_date.result) ∷ []) c.requires
    ∙ (ap (λ t. old ++ t ∷ []) text ∙ ap (λ v. old ++ field_of v ∷ []) (sym c.in-Date.is)))
