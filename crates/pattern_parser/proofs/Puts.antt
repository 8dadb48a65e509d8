-- What is read as a function, put to a value.
use Rattle.std.proofs.Common.{◌≡◌, refl, ap, ◌∙◌, Bool, true, false, List, [], ◌∷◌, Option, None, Some, Err}
use Rattle.pgq_base.specs.declared.refusal.Span.{Span}
use Rattle.pgq_base.specs.declared.refusal.Stop.{Stop}
use Rattle.pgq_base.specs.declared.refusal.Stop.TheVariants.{NoMemory, Refused}
use Rattle.token_grammar.specs.declared.fault.Cause.{Cause}
use Rattle.token_grammar.specs.Code.{Parses}
use Rattle.token_grammar.specs.declared.fault.Cause.TheVariants.{Unexpected as unexpected}
use Rattle.token_grammar.specs.Parser.{Answer, Parser, choose, bind, one_p, mapped_p, seq_p}
use Rattle.token_grammar.specs.Parser.Answer.{got, fault}
use Rattle.token_grammar.proofs.Through.{seq-first}
use Rattle.condition_grammar.specs.declared.spanned.Spanned.{Spanned}
use Rattle.condition_grammar.specs.Spans.{Tail, unless_none, not_if}

module _ {T A B C : Type 0} (h : A → B) (g : B → C) where
  pub map_map : (z : Answer T A) → bind (bind z (λ d r. got (h d) r)) (λ f r. got (g f) r) ≡ bind z (λ d r. got (g (h d)) r)
  map_map (got v r) = refl
  map_map (fault c r) = refl

-- a value, and a function of it behind it
module _ {T A V : Type 0} (P : Parser T A) (Q : Parser T (A → V)) where
  abbrev applied : A × (A → V) → V
  applied d = d.1 d.0

  pub seq_put : (ts r : List T) (a : A) → P ts ≡ got a r → mapped_p applied (seq_p P Q) ts ≡ mapped_p (λ f. f a) Q r
  seq_put ts r a e = seq-first P Q applied ts r a e

-- a value that is made of what is read first, and what is made of it and of what is read behind
module _ {T A B C D : Type 0} (X : Parser T A) (Q : Parser T B) (j : A → C) (k : C → B → D) where
  abbrev joined : A × B → D
  joined d = k (j d.0) d.1

  abbrev pub whole_p : Parser T D
  whole_p = mapped_p joined (seq_p X Q)

  whole_by : (z : Answer T A) (ts r : List T) (c : C) → X ts ≡ z → bind z (λ a l. got (j a) l) ≡ got c r → whole_p ts ≡ mapped_p (k c) Q r
  whole_by (got a s) ts r c x e =
      let p : j a ≡ c = cc in
      let q : s ≡ r = cc in
      seq-first X Q joined ts s a x ∙ ap (λ l. bind (Q l) (λ b l. got (k (j a) b) l)) q ∙ ap (λ v. bind (Q r) (λ b l. got (k v b) l)) p
  whole_by (fault x s) ts r c y e = absurd cc

  pub whole : (ts r : List T) (c : C) → mapped_p j X ts ≡ got c r → whole_p ts ≡ mapped_p (k c) Q r
  whole ts r c e = whole_by (X ts) ts r c refl e

  halted_by : (z : Answer T A) (r : List T) (c : Cause) → bind z (λ a l. got (j a) l) ≡ fault c r
      → bind (bind z (λ a r. mapped_p (λ b. let p : A × B = (a, b) in p) Q r)) (λ d r. got (joined d) r) ≡ fault c r
  halted_by (got a s) r c e = absurd cc
  halted_by (fault x s) r c e = let p : x ≡ c = cc in let q : s ≡ r = cc in ap (λ z. fault z s) p ∙ ap (λ z. fault c z) q

  pub whole_halt : (ts r : List T) (c : Cause) → mapped_p j X ts ≡ fault c r → whole_p ts ≡ fault c r
  whole_halt ts r c e = halted_by (X ts) r c e

-- a function of a value, and what is made of its result and of what is read behind
module _ {T N A B C : Type 0} (X : Parser T (N → A)) (Q : Parser T B) (k : A → B → C) (n : N) where
  abbrev of_both : (N → A) × B → N → C
  of_both d n = k (d.0 n) d.1

  abbrev pub ended_p : Parser T C
  ended_p = mapped_p (λ f. f n) (mapped_p of_both (seq_p X Q))

  pub ended : (ts r : List T) (c : A) → mapped_p (λ f. f n) X ts ≡ got c r → ended_p ts ≡ mapped_p (k c) Q r
  ended ts r c e = map_map of_both (λ f. f n) (seq_p X Q ts) ∙ whole X Q (λ f. f n) k ts r c e

  pub ended_halt : (ts r : List T) (c : Cause) → mapped_p (λ f. f n) X ts ≡ fault c r → ended_p ts ≡ fault c r
  ended_halt ts r c e = map_map of_both (λ f. f n) (seq_p X Q ts) ∙ whole_halt X Q (λ f. f n) k ts r c e

  pub ended_parses : (ts r : List T) (e : Stop Cause) → Parses (mapped_p (λ f. f n) X ts) (Err e) r → Parses (ended_p ts) (Err e) r
  ended_parses ts r (Refused c) h = ended_halt ts r c h
  ended_parses ts r NoMemory h = tt

abbrev pub with_test : {L : Type 0} → Spanned L → Option (Tail L) → Spanned L
with_test c tail = unless_none tail c

-- a token that is read as a function, put to a value
module _ {T A V : Type 0} (f : T → Bool) (v : T → A → V) (a : A) where
  pub one_put : (ts : List T) → mapped_p (λ g. g a) (one_p f v) ts ≡ one_p f (λ t. v t a) ts
  one_put [] = refl
  one_put (x ∷ xs) = at (f x)
    where
      at : (b : Bool) → bind (choose b (got (v x) xs) (fault unexpected (x ∷ xs))) (λ g r. got (g a) r) ≡ choose {A = Answer T V} b (got (v x a) xs) (fault unexpected (x ∷ xs))
      at true = refl
      at false = refl

-- NOT that may stand before what is read, by whether it does
module _ {T L : Type 0} (N : Parser T Span) (P : Parser T (Spanned L)) where
  abbrev may_be : Bool → List T → Answer T (Option Span)
  may_be b ts = choose b (bind (N ts) (λ s r. got (Some s) r)) (got None ts)

  abbrev behind_not : Answer T (Option Span) → Answer T (Spanned L)
  behind_not z = bind (bind z (λ a r. mapped_p (λ b. let p : Option Span × Spanned L = (a, b) in p) P r)) (λ d r. got (not_if d.0 d.1) r)

  abbrev surely_not : List T → Answer T (Spanned L)
  surely_not ts = bind (bind (N ts) (λ a r. mapped_p (λ b. let p : Span × Spanned L = (a, b) in p) P r)) (λ d r. got (not_if (Some d.0) d.1) r)

  plain_again : (z : Answer T (Spanned L)) → bind (bind z (λ b r. got (let p : Option Span × Spanned L = (None, b) in p) r)) (λ d r. got (not_if d.0 d.1) r) ≡ z
  plain_again (got c r) = refl
  plain_again (fault x r) = refl

  turned_again : (s : Span) (z : Answer T (Spanned L)) → bind (bind z (λ b r. got (let p : Option Span × Spanned L = (Some s, b) in p) r))
      (λ d r. got (not_if d.0 d.1) r) ≡ bind (bind z (λ b r. got (let p : Span × Spanned L = (s, b) in p) r)) (λ d r. got (not_if (Some d.0) d.1) r)
  turned_again s (got c r) = refl
  turned_again s (fault x r) = refl

  by_not : (z : Answer T Span) → behind_not (bind z (λ s r. got (Some s) r)) ≡ bind (bind z (λ a r. mapped_p (λ b. let p : Span × Spanned L = (a, b) in p) P r))
      (λ d r. got (not_if (Some d.0) d.1) r)
  by_not (got s r) = turned_again s (P r)
  by_not (fault x r) = refl

  pub not_first : (b : Bool) (ts : List T) → behind_not (may_be b ts) ≡ choose b (surely_not ts) (P ts)
  not_first true ts = by_not (N ts)
  not_first false ts = plain_again (P ts)
