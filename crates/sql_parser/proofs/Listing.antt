-- Lists, from their first item on.
use Rattle.std.proofs.Common.{◌≡◌, refl, sym, ap₂, ◌∙◌, ℕ, Bool, List, [], ◌∷◌, length}
use Rattle.sql_lexer.specs.declared.token.Token.{Token}
use Rattle.token_grammar.specs.declared.fault.Cause.{Cause}
use Rattle.token_grammar.specs.Parser.{Answer, Parser, bind, mapped_p, seq_p}
use Rattle.token_grammar.specs.Parser.Answer.{got, fault}
use Rattle.token_grammar.specs.Code.{gathered, pushed}
use Rattle.token_grammar.proofs.Loops.{folded-pushed}
use Rattle.token_grammar.proofs.Through.{seq-gathered}
use Rattle.sql_parser.specs.Lists.{reads_list}

module _ {V : Type 0} (P : Parser Token V) (goes_on : Token → Bool) (Q : Parser Token V) where
  abbrev cons_of : V × List V → List V
  cons_of d = d.0 ∷ d.1

  pub list_start : (ts r : List Token) (a : V) (n : ℕ) (s : List V) → P ts ≡ got a r → n ≡ length r → s ≡ a ∷ [] → gathered goes_on Q pushed n s r ≡ reads_list P goes_on Q ts
  list_start ts r a n s e h k =
      ap₂ (λ i l. gathered goes_on Q pushed i l r) h k ∙ sym (seq-gathered P goes_on Q cons_of pushed (a ∷ []) ts r a e (λ all. sym (folded-pushed (a ∷ []) all)))

-- a list, and what stands behind it
module _ {V C W : Type 0} (A : Parser Token (V × List V)) (R : Parser Token C) (made : List V → W) where
  abbrev cons_first : (V × List V) × C → W
  cons_first d = made (d.0.0 ∷ d.0.1)

  abbrev pub ended_p : Parser Token W
  ended_p = mapped_p cons_first (seq_p A R)

  abbrev behind : Answer Token (V × List V) → Answer Token W
  behind z = bind (bind z (λ d r. mapped_p (λ o. let p : (V × List V) × C = (d, o) in p) R r)) (λ d r. got (cons_first d) r)

  put : (d : V × List V) (z : Answer Token C) → bind (bind z (λ o r. got (let p : (V × List V) × C = (d, o) in p) r)) (λ d r. got (cons_first d) r) ≡ bind z
      (λ o r. got (made (d.0 ∷ d.1)) r)
  put d (got o r) = refl
  put d (fault c r) = refl

  ended_at : (z : Answer Token (V × List V)) (all : List V) (r : List Token) → bind z (λ d r. got (d.0 ∷ d.1) r) ≡ got all r → behind z ≡ bind (R r) (λ o l. got (made all) l)
  ended_at (got d s) all r e =
      let p : d.0 ∷ d.1 ≡ all = cc in
      let q : s ≡ r = cc in
      put d (R s) ∙ ap₂ (λ a l. bind (R l) (λ o l. got (made a) l)) p q
  ended_at (fault c s) all r e = absurd cc

  pub ended_list : (ts r : List Token) (all : List V) → mapped_p (λ d. d.0 ∷ d.1) A ts ≡ got all r → ended_p ts ≡ bind (R r) (λ o l. got (made all) l)
  ended_list ts r all e = ended_at (A ts) all r e

  fault_at : (z : Answer Token (V × List V)) (c : Cause) (r : List Token) → bind z (λ d r. got (d.0 ∷ d.1) r) ≡ fault c r → behind z ≡ fault c r
  fault_at (got d s) c r e = absurd cc
  fault_at (fault x s) c r e = let p : x ≡ c = cc in let q : s ≡ r = cc in ap₂ (λ y l. fault y l) p q

  pub ended_fault : (ts r : List Token) (c : Cause) → mapped_p (λ d. d.0 ∷ d.1) A ts ≡ fault c r → ended_p ts ≡ fault c r
  ended_fault ts r c e = fault_at (A ts) c r e
