-- What the sinks received is what the answer says.
use Rattle.std.proofs.Common.{◌≡◌, refl, sym, subst, ◌∙◌, ℕ, List, ◌⊎◌, inl, inr, Option, None, Some, IfSome, Result, Ok, Err}
use Rattle.std.specs.Io.KnownBytes.{Appends}
use Rattle.pgq_base.specs.Causes.{Rose}
use Rattle.pgq_base.specs.declared.refusal.Refusal.{Refusal as AnyRefusal}
use Rattle.pgq_program.specs.declared.halt.Halt.{Halt}
use Rattle.pgq_program.specs.declared.halt.Halt.TheVariants as h
use Rattle.pgq_program.specs.declared.answers.Answer.{Answer}
use Rattle.pgq_program.specs.declared.answers.Answer.TheVariants as a
use Rattle.pgq_program.specs.declared.status.Status.{Status}
use Rattle.pgq_program.specs.declared.status.Status.TheVariants.{Done, Refused, Usage, ReadFault, WriteFault, NoMemory}
use Rattle.pgq_program.specs.Commands.{Asked}
use Rattle.pgq_program.specs.Lines.{refusal_line, IsLineOf}
use Rattle.pgq_program.specs.Outcomes.{Outcome, IsTextOf, Writes}
use Rattle.pgq_program.specs.Runs.{IsDue, Gets, HasLine, status_of, out_text, err_text}
use Rattle.pgq_program.specs.Steps.{Owes}

done_is_no_fault : (status : Status) → status ≡ Done → status ≡ WriteFault → ⊥
done_is_no_fault status e f = cc

module _ (said : Answer) (status : Status) (is : (status ≡ WriteFault → ⊥) → status ≡ status_of said) where
  module _ (old new : Option (List ℕ)) (before now : ℕ) where
    done_of : (due : Result Outcome Halt → Type 0) → IsDue due said → Gets status (out_text said) old new before now → status ≡ Done
        → (outcome : Outcome) × due (Ok outcome) × Writes outcome old new
    done_of due d gets e = by said d (sym (is (done_is_no_fault status e)) ∙ e) (gets.all (done_is_no_fault status e))
      where
        by : (said : Answer) → IsDue due said → status_of said ≡ Done → Appends old new (out_text said) → (outcome : Outcome) × due (Ok outcome) × Writes outcome old new
        by (a.Done text) (o, d, t) e whole = (o, d, record { text = text; is_text = t; whole = whole })
        by (a.Refused line) d e whole = absurd cc
        by a.Usage d e whole = absurd cc
        by a.ReadFault d e whole = absurd cc
        by a.NoMemory d e whole = absurd cc

    pub done_if : (asked : Option Asked) (files : Option (List (List ℕ × List ℕ))) → IfSome files (λ told. IsDue (Owes asked told) said)
        → Gets status (out_text said) old new before now
        → status ≡ Done → IfSome files (λ told. (outcome : Outcome) × Owes asked told (Ok outcome) × Writes outcome old new)
    done_if asked None d gets e = tt
    done_if asked (Some told) d gets e = done_of (Owes asked told) d gets e

    pub line_if : Gets status (err_text said) old new before now → IsLineOf (status_of said) (err_text said) → (status ≡ WriteFault → ⊥) → HasLine status old new
    line_if gets line calm = record { text = err_text said; is_line = subst (λ s. IsLineOf s (err_text said)) (sym (is calm)) line; whole = gets.all calm }

  module _ (files_before files_now out_before out_now err_before err_now : ℕ)
      (fault : status ≡ WriteFault → Rose out_before out_now ⊎ Rose err_before err_now) where
    calm : (Rose out_before out_now → ⊥) → (Rose err_before err_now → ⊥) → status ≡ WriteFault → ⊥
    calm no_out no_err e = by (fault e)
      where
        by : Rose out_before out_now ⊎ Rose err_before err_now → ⊥
        by (inl r) = no_out r
        by (inr r) = no_err r

    pub complete_if : (out_old out_new : Option (List ℕ)) (asked : Option Asked) (files : Option (List (List ℕ × List ℕ)))
        → IfSome files (λ told. (outcome : Outcome) → Owes asked told (Ok outcome) → (Rose files_before files_now → ⊥)
        → ((status_of said ≡ Done) × IsTextOf outcome (out_text said)) ⊎ (status_of said ≡ NoMemory))
        → Gets status (out_text said) out_old out_new out_before out_now
        → IfSome files (λ told. (outcome : Outcome) → Owes asked told (Ok outcome) → (Rose files_before files_now → ⊥) → (Rose out_before out_now → ⊥)
        → (Rose err_before err_now → ⊥)
        → ((status ≡ Done) × Writes outcome out_old out_new) ⊎ (status ≡ NoMemory))
    complete_if out_old out_new asked None k gets = tt
    complete_if out_old out_new asked (Some told) k gets = λ outcome owes no_file no_out no_err. by outcome (calm no_out no_err) (k outcome owes no_file)
      where
        by : (outcome : Outcome) → (status ≡ WriteFault → ⊥) → ((status_of said ≡ Done) × IsTextOf outcome (out_text said)) ⊎ (status_of said ≡ NoMemory)
            → ((status ≡ Done) × Writes outcome out_old out_new) ⊎ (status ≡ NoMemory)
        by outcome well (inl (e, t)) = inl (is well ∙ e, record { text = out_text said; is_text = t; whole = gets.all well })
        by outcome well (inr e) = inr (is well ∙ e)

    pub refused_if : (err_old err_new : Option (List ℕ)) (asked : Option Asked) (files : Option (List (List ℕ × List ℕ)))
        → IfSome files (λ told. (refusal : AnyRefusal) → Owes asked told (Err (h.Refused refusal)) → (Rose files_before files_now → ⊥)
        → ((status_of said ≡ Refused) × (err_text said ≡ refusal_line refusal)) ⊎ (status_of said ≡ NoMemory))
        → Gets status (err_text said) err_old err_new err_before err_now
        → IfSome files (λ told. (refusal : AnyRefusal) → Owes asked told (Err (h.Refused refusal)) → (Rose files_before files_now → ⊥) → (Rose out_before out_now → ⊥)
        → (Rose err_before err_now → ⊥)
        → ((status ≡ Refused) × Appends err_old err_new (refusal_line refusal)) ⊎ (status ≡ NoMemory))
    refused_if err_old err_new asked None k gets = tt
    refused_if err_old err_new asked (Some told) k gets = λ refusal owes no_file no_out no_err. by refusal (calm no_out no_err) (k refusal owes no_file)
      where
        by : (refusal : AnyRefusal) → (status ≡ WriteFault → ⊥) → ((status_of said ≡ Refused) × (err_text said ≡ refusal_line refusal)) ⊎ (status_of said ≡ NoMemory)
            → ((status ≡ Refused) × Appends err_old err_new (refusal_line refusal)) ⊎ (status ≡ NoMemory)
        by refusal well (inl (e, t)) = inl (is well ∙ e, subst (Appends err_old err_new) t (gets.all well))
        by refusal well (inr e) = inr (is well ∙ e)

    pub used_if : (asked : Option Asked) (files : Option (List (List ℕ × List ℕ)))
        → IfSome files (λ told. Owes asked told (Err h.Usage) → (Rose files_before files_now → ⊥) → (status_of said ≡ Usage) ⊎ (status_of said ≡ NoMemory))
        → IfSome files (λ told. Owes asked told (Err h.Usage) → (Rose files_before files_now → ⊥) → (Rose out_before out_now → ⊥) → (Rose err_before err_now → ⊥)
        → (status ≡ Usage) ⊎ (status ≡ NoMemory))
    used_if asked None k = tt
    used_if asked (Some told) k = λ owes no_file no_out no_err. by (calm no_out no_err) (k owes no_file)
      where
        by : (status ≡ WriteFault → ⊥) → (status_of said ≡ Usage) ⊎ (status_of said ≡ NoMemory) → (status ≡ Usage) ⊎ (status ≡ NoMemory)
        by well (inl e) = inl (is well ∙ e)
        by well (inr e) = inr (is well ∙ e)
