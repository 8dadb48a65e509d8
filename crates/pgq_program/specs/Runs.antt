-- What a run answers, and what its sinks receive.
use Rattle.std.specs.Prelude.{◌≡◌, ◌⊎◌, ℕ, ◌≤◌, ⊤, List, [], Option, None, IfSome, Result, Ok, Err, codes}
use Rattle.std.specs.Io.KnownBytes.{Appends}
use Rattle.pgq_base.specs.Causes.{Rose}
use Rattle.pgq_base.specs.Files.{AppendsPrefix}
use Rattle.pgq_base.specs.declared.refusal.Refusal.{Refusal}
use Rattle.pgq_program.specs.declared.halt.Halt.{Halt}
use Rattle.pgq_program.specs.declared.halt.Halt.TheVariants as h
use Rattle.pgq_program.specs.declared.status.Status.{Status}
use Rattle.pgq_program.specs.declared.status.Status.TheVariants.{Done, Refused, Usage, ReadFault, WriteFault, NoMemory}
use Rattle.pgq_program.specs.declared.answers.Answer.{Answer}
use Rattle.pgq_program.specs.declared.answers.Answer.TheVariants as a
use Rattle.pgq_program.specs.Commands.{command_of, MayBeUsage}
use Rattle.pgq_program.specs.Lines.{refusal_line, usage_line, IsLineOf}
use Rattle.pgq_program.specs.Outcomes.{Outcome, IsTextOf}
use Rattle.pgq_program.specs.Steps.{Owes}

-- the answer is due by what the words are due; want of memory and a fault may come at any point
abbrev pub IsDue : (Result Outcome Halt → Type 0) → Answer → Type 0
IsDue due (a.Done text) = (outcome : Outcome) × due (Ok outcome) × IsTextOf outcome text
IsDue due (a.Refused line) = (refusal : Refusal) × due (Err (h.Refused refusal)) × (line ≡ refusal_line refusal)
IsDue due a.Usage = due (Err h.Usage)
IsDue due a.ReadFault = ⊤
IsDue due a.NoMemory = ⊤

abbrev pub status_of : Answer → Status
status_of (a.Done text) = Done
status_of (a.Refused line) = Refused
status_of a.Usage = Usage
status_of a.ReadFault = ReadFault
status_of a.NoMemory = NoMemory

-- the text of `out`
abbrev pub out_text : Answer → List ℕ
out_text (a.Done text) = text
out_text (a.Refused line) = []
out_text a.Usage = []
out_text a.ReadFault = []
out_text a.NoMemory = []

-- the text of `err`
abbrev pub err_text : Answer → List ℕ
err_text (a.Done text) = []
err_text (a.Refused line) = line
err_text a.Usage = usage_line
err_text a.ReadFault = codes "read fault\n"
err_text a.NoMemory = codes "out of memory\n"

-- what the count of the shelf says of an answer
pub record AnswerCause (before now : ℕ) (answer : Answer) : Type 0 where
  pub later : before ≤ now
  pub read : status_of answer ≡ ReadFault → Rose before now
  pub kept : (status_of answer ≡ ReadFault → ⊥) → (status_of answer ≡ NoMemory → ⊥) → now ≡ before

-- a sink receives a prefix of its text, and all of it without a fault unless the status is WriteFault
pub record Gets (status : Status) (text : List ℕ) (old new : Option (List ℕ)) (before now : ℕ) : Type 0 where
  pub some : AppendsPrefix old new text
  pub all : (status ≡ WriteFault → ⊥) → Appends old new text
  pub later : before ≤ now
  pub kept : (status ≡ WriteFault → ⊥) → now ≡ before

-- The whole run: some answer was due by the told files and had its cause, by the form of the words it may be Usage or not, its line on `err`
-- is one of its status, and each sink received its text by it.
pub record Ran (words : List (List ℕ)) (files : Option (List (List ℕ × List ℕ))) (before now : ℕ) (status : Status)
    (out_old out_new : Option (List ℕ)) (out_before out_now : ℕ) (err_old err_new : Option (List ℕ)) (err_before err_now : ℕ) : Type 0 where
  pub answer : Answer
  pub due : IfSome files (λ told. IsDue (Owes (command_of words) told) answer)
  pub cause : AnswerCause before now answer
  pub form : command_of words ≡ None → (status_of answer ≡ Usage) ⊎ (status_of answer ≡ NoMemory)
  pub usage : status_of answer ≡ Usage → MayBeUsage (command_of words)
  pub line : IsLineOf (status_of answer) (err_text answer)
  pub status_is : (status ≡ WriteFault → ⊥) → status ≡ status_of answer
  pub out : Gets status (out_text answer) out_old out_new out_before out_now
  pub err : Gets status (err_text answer) err_old err_new err_before err_now

-- `err` received a line of the status
pub record HasLine (status : Status) (old new : Option (List ℕ)) : Type 0 where
  pub text : List ℕ
  pub is_line : IsLineOf status text
  pub whole : Appends old new text
