use Rattle.std.proofs.Common.{◌≡◌, ℤ, refl, subst, ◌∙◌}
use Rattle.civil_dates.specs.Texts.{IsDateText}
use Rattle.condition_nodes.proofs.LiteralKinds.{dated, undated}
use Rattle.condition_nodes.proofs.literals.text_date.Goals as goal

pub returns-in-Some : goal.returns-in-Some
returns-in-Some c =
    let same : c.as_bytes.result.now ≡ c.args.text.now = c.as_bytes.ensures.value ∙ c.as_text.ensures.value in
    dated c.args.text.now c.in-Some.date (subst (λ t. IsDateText t c.in-Some.date.day) same c.in-Some.ensures.found)

pub returns-in-None : goal.returns-in-None
returns-in-None c =
    let same : c.as_bytes.result.now ≡ c.args.text.now = c.as_bytes.ensures.value ∙ c.as_text.ensures.value in
    undated c.args.text.now (subst (λ t. (number : ℤ) → IsDateText t number → ⊥) same (c.in-None.ensures.none refl))
