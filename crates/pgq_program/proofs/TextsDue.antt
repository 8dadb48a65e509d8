-- What is answered of a text within its size, and of two texts one after the other, is what they are due.
use Rattle.std.proofs.Common.{◌≡◌, refl, ap, ℕ, ◌≤◌, List, length, inl, inr, cond, Result, Ok, Err}
use Rattle.std.proofs.lemmas.Bool.{le-leb}
use Rattle.pgq_base.specs.declared.code.Code.TheVariants.{TextTooLarge}
use Rattle.pgq_base.specs.declared.refusal.Role.{Role}
use Rattle.pgq_base.specs.declared.refusal.Refusal.{Refusal}
use Rattle.pgq_base.specs.declared.refusal.Stop.{Stop}
use Rattle.pgq_base.specs.declared.refusal.Stop.TheVariants as s
use Rattle.sql_lexer.specs.Texts.{refusal}
use Rattle.graph_ast.specs.declared.catalog.Catalog.{Catalog}
use Rattle.graph_ast.specs.declared.checked.CheckedQuery.{CheckedQuery}
use Rattle.pgq_program.specs.Chains.{Then, Only}
use Rattle.pgq_program.specs.Meaning.{Means}
use Rattle.pgq_program.specs.Texts.{sized, IsSchemaDue, IsQueryDue, IsTextsDue, MeansDue, GivesDue}

module _ {A : Type 0} (role : Role) (text : List ℕ) (due : List ℕ → Result A Refusal → Type 0) where
  is_sized : length text ≤ 1048576 → sized role text ≡ Ok text
  is_sized small =
      ap (λ b. cond b (let t : Result (List ℕ) Refusal = Ok text in t) (Err (refusal role TextTooLarge (record { from = 0; to = 0 })))) (le-leb (length text) 1048576 small)

  -- a text that is not too large
  pub of_sized : (r : Result A (Stop Refusal)) → length text ≤ 1048576 → GivesDue (due text) r → GivesDue (Then (Only (sized role text)) due) r
  of_sized (Ok x) small k = (text, is_sized small, k)
  of_sized (Err (s.Refused refused)) small k = inr (text, is_sized small, k)
  of_sized (Err s.NoMemory) small k = tt

module _ (schema query : List ℕ) (catalog : Catalog) (first : IsSchemaDue schema (Ok catalog)) where
  -- a text that means the query
  pub of_both : (checked : CheckedQuery) (text : List ℕ) → IsQueryDue catalog query (Ok checked) → Means catalog checked text → MeansDue (IsTextsDue schema query) text
  of_both checked text second means = record { catalog = catalog; query = checked; is_due = (catalog, first, (checked, second, refl)); means = means }

  -- a query text that is refused
  pub of_second : (r : Refusal) → IsQueryDue catalog query (Err r) → IsTextsDue schema query (Err r)
  of_second r fault = inr (catalog, first, inl fault)
