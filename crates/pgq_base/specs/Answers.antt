-- What a call answers that may also run out of memory.
use Rattle.std.specs.Prelude.{◌≡◌, Result, Ok, Err}
use Rattle.pgq_base.specs.declared.refusal.Stop.{Stop}
use Rattle.pgq_base.specs.declared.refusal.Stop.TheVariants.{Refused, NoMemory}

-- The call answers what is due, a value or a refusal, unless memory runs out.
abbrev pub Gives : {A F : Type 0} → Result A F → Result A (Stop F) → Type 0
Gives due (Ok value) = due ≡ Ok value
Gives due (Err (Refused refusal)) = due ≡ Err refusal
Gives due (Err NoMemory) = Unit {0}
