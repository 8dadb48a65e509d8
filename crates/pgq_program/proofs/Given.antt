-- What is due is given, unless memory runs out or the outside fails.
use Rattle.std.proofs.Common.{◌≡◌, refl, ap, ◌∙◌, subst, ℕ, List, ◌⊎◌, inl, inr, Option, None, Some, IfSome, Result, Ok, Err}
use Rattle.pgq_base.specs.Causes.{Rose}
use Rattle.pgq_base.specs.declared.refusal.Refusal.{Refusal as AnyRefusal}
use Rattle.pgq_program.specs.declared.halt.Halt.{Halt}
use Rattle.pgq_program.specs.declared.halt.Halt.TheVariants as h
use Rattle.pgq_program.specs.declared.answers.Answer.{Answer}
use Rattle.pgq_program.specs.declared.answers.Answer.TheVariants as a
use Rattle.pgq_program.specs.declared.status.Status.TheVariants.{Done, Refused, Usage, NoMemory}
use Rattle.pgq_program.specs.Commands.{Asked}
use Rattle.pgq_program.specs.Lines.{refusal_line}
use Rattle.pgq_program.specs.Outcomes.{Outcome, IsTextOf}
use Rattle.pgq_program.specs.Runs.{IsDue, AnswerCause, status_of, out_text, err_text}
use Rattle.pgq_program.specs.Steps.{Owes}
use Rattle.pgq_program.proofs.OneDue.{IsSingle, ok_inside, ok_not_err, single_owes}

same_refusal : (r t : AnyRefusal) → (let e : Result Outcome Halt = Err (h.Refused r) in e) ≡ Err (h.Refused t) → r ≡ t
same_refusal r t e = cc

usage_not_refused : (t : AnyRefusal) → (let e : Result Outcome Halt = Err h.Usage in e) ≡ Err (h.Refused t) → ⊥
usage_not_refused t e = cc

module _ (due : Result Outcome Halt → Type 0) (one : IsSingle due) (before now : ℕ) (quiet : Rose before now → ⊥) where
  pub written : (said : Answer) → IsDue due said → AnswerCause before now said → (outcome : Outcome) → due (Ok outcome)
      → ((status_of said ≡ Done) × IsTextOf outcome (out_text said)) ⊎ (status_of said ≡ NoMemory)
  written (a.Done text) (o, d, t) cause outcome e = inl (refl, subst (λ o. IsTextOf o text) (ok_inside o outcome (one (Ok o) (Ok outcome) d e)) t)
  written (a.Refused line) (r, d, l) cause outcome e = absurd (ok_not_err outcome (h.Refused r) (one (Ok outcome) (Err (h.Refused r)) e d))
  written a.Usage d cause outcome e = absurd (ok_not_err outcome h.Usage (one (Ok outcome) (Err h.Usage) e d))
  written a.ReadFault d cause outcome e = absurd (quiet (cause.read refl))
  written a.NoMemory d cause outcome e = inr refl

  pub told : (said : Answer) → IsDue due said → AnswerCause before now said → (refusal : AnyRefusal) → due (Err (h.Refused refusal))
      → ((status_of said ≡ Refused) × (err_text said ≡ refusal_line refusal)) ⊎ (status_of said ≡ NoMemory)
  told (a.Done text) (o, d, t) cause refusal e = absurd (ok_not_err o (h.Refused refusal) (one (Ok o) (Err (h.Refused refusal)) d e))
  told (a.Refused line) (r, d, l) cause refusal e = inl (refl, l ∙ ap refusal_line (same_refusal r refusal (one (Err (h.Refused r)) (Err (h.Refused refusal)) d e)))
  told a.Usage d cause refusal e = absurd (usage_not_refused refusal (one (Err h.Usage) (Err (h.Refused refusal)) d e))
  told a.ReadFault d cause refusal e = absurd (quiet (cause.read refl))
  told a.NoMemory d cause refusal e = inr refl

  pub used : (said : Answer) → IsDue due said → AnswerCause before now said → due (Err h.Usage) → (status_of said ≡ Usage) ⊎ (status_of said ≡ NoMemory)
  used (a.Done text) (o, d, t) cause e = absurd (ok_not_err o h.Usage (one (Ok o) (Err h.Usage) d e))
  used (a.Refused line) (r, d, l) cause e = absurd (usage_not_refused r (one (Err h.Usage) (Err (h.Refused r)) e d))
  used a.Usage d cause e = inl refl
  used a.ReadFault d cause e = absurd (quiet (cause.read refl))
  used a.NoMemory d cause e = inr refl

owed : (due : Result Outcome Halt → Type 0) (said : Answer) → IsDue due said → status_of said ≡ Usage → due (Err h.Usage)
owed due (a.Done text) d e = absurd cc
owed due (a.Refused line) d e = absurd cc
owed due a.Usage d e = d
owed due a.ReadFault d e = absurd cc
owed due a.NoMemory d e = absurd cc

pub owed_if : (asked : Option Asked) (files : Option (List (List ℕ × List ℕ))) (said : Answer) → IfSome files (λ told. IsDue (Owes asked told) said) → status_of said ≡ Usage
    → IfSome files (λ told. Owes asked told (Err h.Usage))
owed_if asked None said d e = tt
owed_if asked (Some told) said d e = owed (Owes asked told) said d e

module _ (asked : Option Asked) (before now : ℕ) (said : Answer) (cause : AnswerCause before now said) where
  pub written_if : (files : Option (List (List ℕ × List ℕ))) → IfSome files (λ told. IsDue (Owes asked told) said)
      → IfSome files (λ told. (outcome : Outcome) → Owes asked told (Ok outcome) → (Rose before now → ⊥) → ((status_of said ≡ Done) × IsTextOf outcome (out_text said)) ⊎
      (status_of said ≡ NoMemory))
  written_if None h = tt
  written_if (Some told) h = λ outcome e quiet. written (Owes asked told) (single_owes asked told) before now quiet said h cause outcome e

  pub told_if : (files : Option (List (List ℕ × List ℕ))) → IfSome files (λ told. IsDue (Owes asked told) said)
      → IfSome files (λ told. (refusal : AnyRefusal) → Owes asked told (Err (h.Refused refusal)) → (Rose before now → ⊥)
      → ((status_of said ≡ Refused) × (err_text said ≡ refusal_line refusal)) ⊎ (status_of said ≡ NoMemory))
  told_if None h = tt
  told_if (Some files) h = λ refusal e quiet. told (Owes asked files) (single_owes asked files) before now quiet said h cause refusal e

  pub used_if : (files : Option (List (List ℕ × List ℕ))) → IfSome files (λ told. IsDue (Owes asked told) said)
      → IfSome files (λ told. Owes asked told (Err h.Usage) → (Rose before now → ⊥) → (status_of said ≡ Usage) ⊎ (status_of said ≡ NoMemory))
  used_if None h = tt
  used_if (Some told) h = λ e quiet. used (Owes asked told) (single_owes asked told) before now quiet said h cause e
