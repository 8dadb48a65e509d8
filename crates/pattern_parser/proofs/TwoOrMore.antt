-- Lists of two and more, from their second item on.
use Rattle.std.proofs.Common.{◌≡◌, refl, sym, ap, ◌∙◌, Bool, List, [], ◌∷◌, length}
use Rattle.token_grammar.specs.Parser.{Answer, Parser, bind, one_p, mapped_p, seq_p, many_p}
use Rattle.token_grammar.specs.Parser.Answer.{got, fault}
use Rattle.token_grammar.specs.Code.{folded, pushed, gathered, after_p, list_p}
use Rattle.token_grammar.proofs.Loops.{folded-pushed, list-first}
use Rattle.token_grammar.proofs.Through.{seq-first}

module _ {T B A : Type 0} (f : T → Bool) (v : T → B) (P : Parser T A) where
  abbrev cons_of : A × List A → List A
  cons_of d = d.0 ∷ d.1

  abbrev rest_of : B × List A → List A
  rest_of d = d.1

  abbrev pub two_p : Parser T (List A)
  two_p = mapped_p cons_of (seq_p P (after_p f v (list_p f v P)))

  both : (a b : A) (z : Answer T (List A)) → bind (bind (bind z (λ all r. got (folded pushed (b ∷ []) all) r)) (λ all l. got all l)) (λ all l. got (a ∷ all) l)
      ≡ bind z (λ all r. got (folded pushed (a ∷ b ∷ []) all) r)
  both a b (got all r) = ap (λ l. got l r) (ap (λ l. a ∷ l) (folded-pushed (b ∷ []) all) ∙ sym (folded-pushed (a ∷ b ∷ []) all))
  both a b (fault c r) = refl

  pub two_from : (ts r s t : List T) (a b : A) (c : B) (all : List A) → P ts ≡ got a r → one_p f v r ≡ got c s → P s ≡ got b t → all ≡ a ∷ b ∷ []
      → gathered f (after_p f v P) pushed (length t) all t ≡ two_p ts
  two_from ts r s t a b c all e h k u =
      ap (λ l. gathered f (after_p f v P) pushed (length t) l t) u
      ∙ sym (seq-first P (after_p f v (list_p f v P)) cons_of ts r a e
      ∙ ap (λ z. bind z (λ all l. got (a ∷ all) l)) (seq-first (one_p f v) (list_p f v P) rest_of r s c h ∙ ap (λ z. bind z (λ all l. got all l)) (list-first f v P s b t k))
      ∙ both a b (many_p f (after_p f v P) t))
