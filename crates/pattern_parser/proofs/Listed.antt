-- One, or two and more in a list: what stands alone leaves no node.
use Rattle.std.proofs.Common.{◌≡◌, Err, refl, sym, ap, ◌∙◌, ℕ, zero, suc, Bool, true, false, List, [], ◌∷◌, length}
use Rattle.token_grammar.specs.Parser.{Answer, Parser, heads, choose, bind, mapped_p, seq_p, many_in, many_p}
use Rattle.token_grammar.specs.Parser.Answer.{got, fault}
use Rattle.pgq_base.specs.declared.refusal.Stop.{Stop}
use Rattle.pgq_base.specs.declared.refusal.Stop.TheVariants.{NoMemory, Refused}
use Rattle.token_grammar.specs.declared.fault.Cause.{Cause}
use Rattle.token_grammar.specs.Code.{Parses, folded, pushed, gathered}
use Rattle.token_grammar.proofs.Loops.{folded-pushed}
use Rattle.token_grammar.proofs.Through.{seq-first, through_fault}

module _ {T A : Type 0} (f : T → Bool) (M P : Parser T A) (h : A → List A → A) (H : List A → A) (made : (a k : A) (ks : List A) → h a (k ∷ ks) ≡ H (a ∷ k ∷ ks)) where
  abbrev value : A × List A → A
  value d = h d.0 d.1

  none_more : (n : ℕ) (r : List T) → heads f r ≡ false → many_in f M n r ≡ got [] r
  none_more zero r e = refl
  none_more (suc n) r e = ap (λ b. choose b (bind (M r) (λ a r. mapped_p (λ all. a ∷ all) (many_in f M n) r)) (got [] r)) e

  pub listed_one : (ts r : List T) (a : A) → P ts ≡ got a r → heads f r ≡ false → mapped_p value (seq_p P (many_p f M)) ts ≡ got (h a []) r
  listed_one ts r a e n = seq-first P (many_p f M) value ts r a e ∙ ap (λ z. bind z (λ y l. got (h a y) l)) (none_more (length r) r n)

  consed_some : (a : A) (z : Answer T (List A)) (s : List T) → bind z (λ all r. got (a ∷ all) r) ≡ got [] s → ⊥
  consed_some a (got all r) s e = cc
  consed_some a (fault c r) s e = cc

  bound_some : (n : ℕ) (z : Answer T A) (s : List T) → bind z (λ a r. mapped_p (λ all. a ∷ all) (many_in f M n) r) ≡ got [] s → ⊥
  bound_some n (got a r) s e = consed_some a (many_in f M n r) s e
  bound_some n (fault c r) s e = cc

  some_more : (r s : List T) → heads f r ≡ true → many_p f M r ≡ got [] s → ⊥
  some_more [] s n e = cc
  some_more (x ∷ xs) s n e = bound_some (length xs) (M (x ∷ xs)) s
      (sym (ap (λ b. choose b (bind (M (x ∷ xs)) (λ a r. mapped_p (λ all. a ∷ all) (many_in f M (length xs)) r)) (got [] (x ∷ xs))) n) ∙ e)

  all_of : (a : A) (z : Answer T (List A)) → ((s : List T) → z ≡ got [] s → ⊥) → (all : List A) (l : List T) →
      bind z (λ v l. got (folded pushed (a ∷ []) v) l) ≡ got all l → bind z (λ y l. got (h a y) l) ≡ got (H all) l
  all_of a (got [] s) n all l e = absurd (n s refl)
  all_of a (got (k ∷ ks) s) n all l e =
      let p : folded pushed (a ∷ []) (k ∷ ks) ≡ all = cc in let q : s ≡ l = cc in
      ap (λ v. got v s) (made a k ks ∙ ap H (sym (folded-pushed (a ∷ []) (k ∷ ks)) ∙ p)) ∙ ap (λ z. got (H all) z) q
  all_of a (fault c s) n all l e = absurd cc

  pub listed_all : (ts r l : List T) (a : A) (all : List A) → P ts ≡ got a r → heads f r ≡ true → gathered f M pushed (length r) (a ∷ []) r ≡ got all l →
      mapped_p value (seq_p P (many_p f M)) ts ≡ got (H all) l
  listed_all ts r l a all e n k = seq-first P (many_p f M) value ts r a e ∙ all_of a (many_p f M r) (λ s. some_more r s n) all l k

  pub listed_halt : (ts r l : List T) (a : A) → P ts ≡ got a r → (x : Stop Cause) → Parses (gathered f M pushed (length r) (a ∷ []) r) (Err x) l →
      Parses (mapped_p value (seq_p P (many_p f M)) ts) (Err x) l
  listed_halt ts r l a e (Refused c) k = seq-first P (many_p f M) value ts r a e ∙ through_fault (λ (v : List A). folded pushed (a ∷ []) v) (λ (y : List A). h a y)
      (many_p f M r) c l k
  listed_halt ts r l a e NoMemory k = tt
