-- Conditions that a loop gathers, as a whole.
use Rattle.std.proofs.Common.{◌≡◌, refl, sym, ap, ap₂, ◌∙◌, append-nil, append_assoc, zero, suc, ℕ, Bool, true, false, List, [], ◌∷◌, ◌++◌, map, flat_map, length, Result, Ok, Err}
use Rattle.pgq_base.specs.declared.refusal.Span.{Span}
use Rattle.expr_tree.specs.declared.tree.Expr.{Expr}
use Rattle.pgq_base.specs.declared.refusal.Stop.{Stop}
use Rattle.pgq_base.specs.declared.refusal.Stop.TheVariants.{NoMemory, Refused}
use Rattle.token_grammar.specs.declared.fault.Cause.{Cause}
use Rattle.token_grammar.specs.Parser.{Answer, Parser, heads, choose, bind, one_p, mapped_p, seq_p, many_in, many_p}
use Rattle.token_grammar.specs.Parser.Answer.{got, fault}
use Rattle.token_grammar.specs.Code.{Parses, folded, gathered, after_p, list_p}
use Rattle.token_grammar.proofs.Through.{seq-first, through_fault}
use Rattle.condition_grammar.specs.declared.spanned.Spanned.{Spanned}
use Rattle.condition_grammar.specs.Spans.{span_of, last_span, tree_of}
use Rattle.condition_nodes.specs.declared.gathered.Gathered.{Gathered}
use Rattle.condition_nodes.specs.Gathered.{first_of, with_one, gathered_of}
use Rattle.condition_nodes.specs.Reading.{ParsedFrom, ParsesFrom}

module _ {L : Type 0} where
  abbrev spans_of : Spanned L → List Span
  spans_of c = c.spans

  abbrev last_or : Span → List (Spanned L) → Span
  last_or s [] = s
  last_or s (c ∷ cs) = last_or (span_of c) cs

  last_is : (c : Spanned L) (cs : List (Spanned L)) → last_span c cs ≡ last_or (span_of c) cs
  last_is c [] = refl
  last_is c (d ∷ ds) = last_is d ds

  abbrev made : Span → Span → List (Expr L) → List Span → Gathered L
  made first last trees spans = record { trees = trees; spans = spans; first = first; last = last }

  folded_is : (g : Gathered L) (cs : List (Spanned L)) → folded with_one g cs ≡ made g.first (last_or g.last cs) (g.trees ++ map tree_of cs) (g.spans ++ flat_map spans_of cs)
  folded_is g [] = ap₂ (made g.first g.last) (sym (append-nil g.trees)) (sym (append-nil g.spans))
  folded_is g (c ∷ cs) =
      folded_is (with_one g c) cs
      ∙ ap₂ (made g.first (last_or (span_of c) cs)) (append_assoc g.trees (c.tree ∷ []) (map tree_of cs)) (append_assoc g.spans c.spans (flat_map spans_of cs))

  -- what is gathered behind the first one, and what is gathered of all
  pub folded_all : (c : Spanned L) (cs : List (Spanned L)) → folded with_one (first_of c) cs ≡ gathered_of (c ∷ cs)
  folded_all c cs = folded_is (first_of c) cs ∙ ap (λ l. made (span_of c) l (c.tree ∷ map tree_of cs) (c.spans ++ flat_map spans_of cs)) (sym (last_is c cs))

  module _ {T B : Type 0} (f : T → Bool) (v : T → B) (P : Parser T (Spanned L)) where
    abbrev cons_of : Spanned L × List (Spanned L) → List (Spanned L)
    cons_of d = d.0 ∷ d.1

    abbrev more_p : Parser T (List (Spanned L))
    more_p = many_p f (after_p f v P)

    -- what a loop gathers behind what is there
    abbrev pub gathers_p : Gathered L → Parser T (Gathered L)
    gathers_p o ts = gathered f (after_p f v P) with_one (length ts) o ts

    begun : (c : Spanned L) (o : Gathered L) (r : List T) (a : Answer T (Gathered L)) → o ≡ first_of c → gathers_p o r ≡ a → gathers_p (first_of c) r ≡ a
    begun c o r a u h = ap (λ g. gathers_p g r) (sym u) ∙ h

    list_from : (c : Spanned L) (z : Answer T (List (Spanned L))) (g : Gathered L) (l : List T) → bind z (λ all r. got (folded with_one (first_of c) all) r) ≡ got g l
        → ParsedFrom gathered_of (bind z (λ all r. got (c ∷ all) r)) g l
    list_from c (got ds s) g l e =
        let p : folded with_one (first_of c) ds ≡ g = cc in
        let q : s ≡ l = cc in
        record { value = c ∷ ds; read = ap (λ z. got (c ∷ ds) z) q; made = sym (folded_all c ds) ∙ p }
    list_from c (fault x s) g l e = absurd cc

    moved : (a b : Answer T (List (Spanned L))) (g : Gathered L) (l : List T) → a ≡ b → ParsedFrom gathered_of b g l → ParsedFrom gathered_of a g l
    moved a b g l e h = record { value = h.value; read = e ∙ h.read; made = h.made }

    list_at : (ts r : List T) (c : Spanned L) → P ts ≡ got c r → list_p f v P ts ≡ bind (more_p r) (λ all s. got (c ∷ all) s)
    list_at ts r c e = seq-first P more_p cons_of ts r c e

    -- x { , x }
    pub list_gives : (ts r l : List T) (c : Spanned L) (o : Gathered L) → P ts ≡ got c r → o ≡ first_of c → (result : Result (Gathered L) (Stop Cause))
        → Parses (gathers_p o r) result l → ParsesFrom gathered_of (list_p f v P ts) result l
    list_gives ts r l c o e u (Ok g) h = moved (list_p f v P ts) (bind (more_p r) (λ all s. got (c ∷ all) s)) g l (list_at ts r c e)
        (list_from c (more_p r) g l (begun c o r (got g l) u h))
    list_gives ts r l c o e u (Err (Refused x)) h =
        list_at ts r c e ∙ through_fault (λ (all : List (Spanned L)). folded with_one (first_of c) all) (λ (all : List (Spanned L)). c ∷ all) (more_p r) x l
        (begun c o r (fault x l) u h)
    list_gives ts r l c o e u (Err NoMemory) h = tt

    -- x , x { , x }
    abbrev pub two_p : Parser T (List (Spanned L))
    two_p = mapped_p cons_of (seq_p P (after_p f v (list_p f v P)))

    abbrev rest_of : B × List (Spanned L) → List (Spanned L)
    rest_of d = d.1

    abbrev both_before : Spanned L → Spanned L → Answer T (List (Spanned L)) → Answer T (List (Spanned L))
    both_before c d z = bind (bind (bind z (λ all l. got (d ∷ all) l)) (λ all l. got all l)) (λ all l. got (c ∷ all) l)

    two_at : (ts r s t : List T) (c d : Spanned L) (b : B) → P ts ≡ got c r → one_p f v r ≡ got b s → P s ≡ got d t → two_p ts ≡ both_before c d (more_p t)
    two_at ts r s t c d b e h k =
        seq-first P (after_p f v (list_p f v P)) cons_of ts r c e
        ∙ ap (λ z. bind z (λ all l. got (c ∷ all) l)) (seq-first (one_p f v) (list_p f v P) rest_of r s b h ∙ ap (λ z. bind z (λ all l. got all l)) (list_at s t d k))

    two_from : (c d : Spanned L) (z : Answer T (List (Spanned L))) (g : Gathered L) (l : List T)
        → bind z (λ all r. got (folded with_one (with_one (first_of c) d) all) r) ≡ got g l → ParsedFrom gathered_of (both_before c d z) g l
    two_from c d (got ds s) g l e =
        let p : folded with_one (first_of c) (d ∷ ds) ≡ g = cc in
        let q : s ≡ l = cc in
        record { value = c ∷ d ∷ ds; read = ap (λ z. got (c ∷ d ∷ ds) z) q; made = sym (folded_all c (d ∷ ds)) ∙ p }
    two_from c d (fault x s) g l e = absurd cc

    two_halted : (c d : Spanned L) (z : Answer T (List (Spanned L))) (x : Cause) (l : List T)
        → bind z (λ all r. got (folded with_one (with_one (first_of c) d) all) r) ≡ fault x l → both_before c d z ≡ fault x l
    two_halted c d (got ds s) x l e = absurd cc
    two_halted c d (fault y s) x l e = let p : y ≡ x = cc in let q : s ≡ l = cc in ap (λ z. fault z s) p ∙ ap (λ z. fault x z) q

    pub two_gives : (ts r s t l : List T) (c d : Spanned L) (b : B) (o w : Gathered L) → P ts ≡ got c r → o ≡ first_of c → one_p f v r ≡ got b s → P s ≡ got d t → w ≡ with_one o d
        → (result : Result (Gathered L) (Stop Cause)) → Parses (gathers_p w t) result l → ParsesFrom gathered_of (two_p ts) result l
    two_gives ts r s t l c d b o w e u h k y (Ok g) i =
        let q : gathers_p (with_one (first_of c) d) t ≡ got g l = ap (λ a. gathers_p a t) (ap (λ a. with_one a d) (sym u) ∙ sym y) ∙ i in
        moved (two_p ts) (both_before c d (more_p t)) g l (two_at ts r s t c d b e h k) (two_from c d (more_p t) g l q)
    two_gives ts r s t l c d b o w e u h k y (Err (Refused x)) i =
        let q : gathers_p (with_one (first_of c) d) t ≡ fault x l = ap (λ a. gathers_p a t) (ap (λ a. with_one a d) (sym u) ∙ sym y) ∙ i in
        two_at ts r s t c d b e h k ∙ two_halted c d (more_p t) x l q
    two_gives ts r s t l c d b o w e u h k y (Err NoMemory) i = tt

    -- one that stands alone leaves no node, and two and more have one
    module _ (node_of : Spanned L → List (Spanned L) → Spanned L) (over : Gathered L → Spanned L) (alone : (c : Spanned L) → node_of c [] ≡ c)
        (same : (c d : Spanned L) (ds : List (Spanned L)) → node_of c (d ∷ ds) ≡ over (gathered_of (c ∷ d ∷ ds))) where
      none_more : (n : ℕ) (r : List T) → heads f r ≡ false → many_in f (after_p f v P) n r ≡ got [] r
      none_more zero r e = refl
      none_more (suc n) r e = ap (λ b. choose b (bind (after_p f v P r) (λ a r. mapped_p (λ all. a ∷ all) (many_in f (after_p f v P) n) r)) (got [] r)) e

      pub joined_one : (r : List T) (c : Spanned L) → heads f r ≡ false → mapped_p (node_of c) more_p r ≡ got c r
      joined_one r c n = ap (λ z. bind z (λ y l. got (node_of c y) l)) (none_more (length r) r n) ∙ ap (λ z. got z r) (alone c)

      consed_some : (a : Spanned L) (z : Answer T (List (Spanned L))) (s : List T) → bind z (λ all r. got (a ∷ all) r) ≡ got [] s → ⊥
      consed_some a (got all r) s e = cc
      consed_some a (fault c r) s e = cc

      bound_some : (n : ℕ) (z : Answer T (Spanned L)) (s : List T) → bind z (λ a r. mapped_p (λ all. a ∷ all) (many_in f (after_p f v P) n) r) ≡ got [] s → ⊥
      bound_some n (got a r) s e = consed_some a (many_in f (after_p f v P) n r) s e
      bound_some n (fault c r) s e = cc

      some_more : (r s : List T) → heads f r ≡ true → more_p r ≡ got [] s → ⊥
      some_more [] s n e = cc
      some_more (x ∷ xs) s n e = bound_some (length xs) (after_p f v P (x ∷ xs)) s
          (sym (ap (λ b. choose b (bind (after_p f v P (x ∷ xs)) (λ a r. mapped_p (λ all. a ∷ all) (many_in f (after_p f v P) (length xs)) r)) (got [] (x ∷ xs))) n) ∙ e)

      node_from : (c : Spanned L) (z : Answer T (List (Spanned L))) → ((s : List T) → z ≡ got [] s → ⊥) → (g : Gathered L) (l : List T)
          → bind z (λ all r. got (folded with_one (first_of c) all) r) ≡ got g l
          → bind z (λ all r. got (node_of c all) r) ≡ got (over g) l
      node_from c (got [] s) n g l e = absurd (n s refl)
      node_from c (got (d ∷ ds) s) n g l e =
          let p : folded with_one (first_of c) (d ∷ ds) ≡ g = cc in
          let q : s ≡ l = cc in
          ap (λ z. got z s) (same c d ds ∙ ap over (sym (folded_all c (d ∷ ds)) ∙ p)) ∙ ap (λ z. got (over g) z) q
      node_from c (fault x s) n g l e = absurd cc

      pub joined_all : (r l : List T) (c : Spanned L) (o g : Gathered L) → heads f r ≡ true → o ≡ first_of c → gathers_p o r ≡ got g l
          → mapped_p (node_of c) more_p r ≡ got (over g) l
      joined_all r l c o g n u h = node_from c (more_p r) (λ s. some_more r s n) g l (begun c o r (got g l) u h)

      pub joined_halt : (r l : List T) (c : Spanned L) (o : Gathered L) → o ≡ first_of c → (x : Stop Cause) → Parses (gathers_p o r) (Err x) l
          → Parses (mapped_p (node_of c) more_p r) (Err x) l
      joined_halt r l c o u (Refused x) h = through_fault (λ (all : List (Spanned L)). folded with_one (first_of c) all) (λ (all : List (Spanned L)). node_of c all)
          (more_p r) x l (begun c o r (fault x l) u h)
      joined_halt r l c o u NoMemory h = tt

      -- the same, read from the first one on
      abbrev node_p : Spanned L × List (Spanned L) → Spanned L
      node_p d = node_of d.0 d.1

      abbrev pub joined_p : Parser T (Spanned L)
      joined_p = mapped_p node_p (seq_p P more_p)

      pub whole_one : (ts r : List T) (c : Spanned L) → P ts ≡ got c r → heads f r ≡ false → joined_p ts ≡ got c r
      whole_one ts r c e n = seq-first P more_p node_p ts r c e ∙ joined_one r c n

      pub whole_all : (ts r l : List T) (c : Spanned L) (o g : Gathered L) → P ts ≡ got c r → heads f r ≡ true → o ≡ first_of c → gathers_p o r ≡ got g l → joined_p ts
          ≡ got (over g) l
      whole_all ts r l c o g e n u h = seq-first P more_p node_p ts r c e ∙ joined_all r l c o g n u h

      pub whole_halt : (ts r l : List T) (c : Spanned L) (o : Gathered L) → P ts ≡ got c r → o ≡ first_of c → (x : Stop Cause) → Parses (gathers_p o r) (Err x) l
          → Parses (joined_p ts) (Err x) l
      whole_halt ts r l c o e u (Refused x) h = seq-first P more_p node_p ts r c e ∙ joined_halt r l c o u (Refused x) h
      whole_halt ts r l c o e u NoMemory h = tt
