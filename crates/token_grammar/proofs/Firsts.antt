-- Tokens have one first fault at most, and none where they are a sentence within the limit.
use Rattle.std.proofs.Common.{◌≡◌, refl, sym, ap, subst, ◌∙◌, ℕ, ◌+◌, ◌-◌, ◌≤◌, Bool, true, List, [], ◌∷◌, ◌++◌, append_assoc, append-nil, ◌⊎◌, inl, inr, arith}
use Rattle.token_grammar.specs.Grammar.{Grammar}
use Rattle.token_grammar.specs.Parser.{choose}
use Rattle.token_grammar.specs.Texts.{behind, opened, Stays, SpellsAny, BeginsAny, Stops, FirstFault}
use Rattle.token_grammar.specs.declared.fault.Cause.{Cause}
use Rattle.token_grammar.specs.declared.fault.Cause.TheVariants.{Unexpected as unexpected, TooDeep as too_deep}
use Rattle.token_grammar.proofs.Counted.{Stays-at}

-- of two cuts of one list, the second is further on by some items
record Further {T : Type 0} (read rest read_on rest_on : List T) : Type 0 where
  item : T
  items : List T
  longer : read_on ≡ read ++ item ∷ items
  left : rest ≡ item ∷ items ++ rest_on

further_on : {T : Type 0} (x y : T) (r s l k : List T) → x ≡ y → Further r s l k → Further (x ∷ r) s (y ∷ l) k
further_on x y r s l k e f = record { item = f.item; items = f.items; longer = ap (λ z. z ∷ l) (sym e) ∙ ap (λ z. x ∷ z) f.longer; left = f.left }

abbrev Cuts : {T : Type 0} → List T → List T → List T → List T → Type 0
Cuts r s l k = ((r ≡ l) × (s ≡ k)) ⊎ (Further r s l k ⊎ Further l k r s)

cuts_on : {T : Type 0} (x y : T) (r s l k : List T) → x ≡ y → Cuts r s l k → Cuts (x ∷ r) s (y ∷ l) k
cuts_on x y r s l k e (inl h) = inl (ap (λ z. z ∷ r) e ∙ ap (λ z. y ∷ z) h.0, h.1)
cuts_on x y r s l k e (inr (inl f)) = inr (inl (further_on x y r s l k e f))
cuts_on x y r s l k e (inr (inr f)) = inr (inr (further_on y x l k r s (sym e) f))

cuts : {T : Type 0} (r s l k : List T) → r ++ s ≡ l ++ k → Cuts r s l k
cuts [] s [] k e = inl (refl, e)
cuts [] s (y ∷ l) k e = inr (inl (record { item = y; items = l; longer = refl; left = e }))
cuts (x ∷ r) s [] k e = inr (inr (record { item = x; items = r; longer = refl; left = sym e }))
cuts (x ∷ r) s (y ∷ l) k e = cuts_on x y r s l k (let q : x ≡ y = cc in q) (cuts r s l k (let q : r ++ s ≡ l ++ k = cc in q))

module _ {T V : Type 0} (opens closes : T → Bool) (grammar : ℕ → Grammar T V) where
  -- what begins a sentence is begun by its own fronts
  shorter : (ts read more : List T) → ts ≡ read ++ more → BeginsAny grammar ts → BeginsAny grammar read
  shorter ts read more e (n, (d, after, t)) = (n, (d, more ++ after, t ∙ ap (λ l. l ++ after) e ∙ append_assoc read more after))

  begun : (ts : List T) (v : V) → SpellsAny grammar ts v → BeginsAny grammar ts
  begun ts v (n, (d, t, h)) = (n, (d, [], sym t ∙ sym (append-nil ts)))

  next_begun : (ts read : List T) (x : T) (more : List T) → ts ≡ read ++ x ∷ more → BeginsAny grammar ts → BeginsAny grammar (read ++ x ∷ [])
  next_begun ts read x more e b = shorter ts (read ++ x ∷ []) more (e ∙ sym (append_assoc read (x ∷ []) more)) b

  read_begun : (limit : ℕ) (c : Cause) (read rest : List T) → Stops opens closes grammar limit c read rest → BeginsAny grammar read
  read_begun limit unexpected read [] h = h.0
  read_begun limit unexpected read (x ∷ rest) h = h.0
  read_begun limit too_deep read [] h = absurd h
  read_begun limit too_deep read (x ∷ rest) h = shorter (read ++ x ∷ []) read (x ∷ []) refl h.0

  too_many : (limit : ℕ) (x : T) → opens x ≡ true → behind opens closes limit x ≤ limit → ⊥
  too_many limit x h l = let e : behind opens closes limit x ≡ limit + 1 = ap (λ b. choose b (limit + 1) (choose (closes x) (limit - 1) limit)) h in omega (arith, e, l)

  -- nothing goes on past a fault, within the limit
  stopped : (limit : ℕ) (c : Cause) (ts read : List T) (x : T) (rest more : List T) → Stops opens closes grammar limit c read (x ∷ rest) → ts ≡ read ++ x ∷ more
      → BeginsAny grammar ts → Stays opens closes limit 0 ts → ⊥
  stopped limit unexpected ts read x rest more h e b s = h.1 (next_begun ts read x more e b)
  stopped limit too_deep ts read x rest more h e b s =
      let l : behind opens closes (opened opens closes 0 read) x ≤ limit = Stays-at opens closes limit 0 read x more (subst (Stays opens closes limit 0) e s) in
      too_many limit x h.1 (subst (λ d. behind opens closes d x ≤ limit) h.2 l)

  same_cause : (limit : ℕ) (c d : Cause) (read rest : List T) → Stops opens closes grammar limit c read rest → Stops opens closes grammar limit d read rest → c ≡ d
  same_cause limit unexpected unexpected read rest h k = refl
  same_cause limit too_deep too_deep read rest h k = refl
  same_cause limit unexpected too_deep read [] h k = absurd k
  same_cause limit unexpected too_deep read (x ∷ rest) h k = absurd (h.1 k.0)
  same_cause limit too_deep unexpected read [] h k = absurd h
  same_cause limit too_deep unexpected read (x ∷ rest) h k = absurd (k.1 h.0)

  module _ (limit : ℕ) (ts : List T) where
    passed : (c d : Cause) (rest left : List T) (f : FirstFault opens closes grammar limit ts c rest) (g : FirstFault opens closes grammar limit ts d left)
        → Further f.read rest g.read left → ⊥
    passed c d rest left f g w =
        stopped limit c g.read f.read w.item (w.items ++ left) w.items (subst (Stops opens closes grammar limit c f.read) w.left f.stops) w.longer
        (read_begun limit d g.read left g.stops) g.shallow

    -- the first fault is one
    pub one_fault : (c d : Cause) (rest left : List T) → FirstFault opens closes grammar limit ts c rest → FirstFault opens closes grammar limit ts d left → (c ≡ d) × (rest ≡ left)
    one_fault c d rest left f g = by_cuts (cuts f.read rest g.read left (sym f.text ∙ g.text)) where
      by_cuts : Cuts f.read rest g.read left → (c ≡ d) × (rest ≡ left)
      by_cuts (inl h) = (
        same_cause limit c d g.read left
            (subst (λ l. Stops opens closes grammar limit c l left) h.0 (subst (Stops opens closes grammar limit c f.read) h.1 f.stops)) g.stops,
        h.1,
      )
      by_cuts (inr (inl w)) = absurd (passed c d rest left f g w)
      by_cuts (inr (inr w)) = absurd (passed d c left rest g f w)

    at_rest : (v : V) → SpellsAny grammar ts v → Stays opens closes limit 0 ts → (c : Cause) (read rest : List T) → ts ≡ read ++ rest
        → Stops opens closes grammar limit c read rest → ⊥
    at_rest v s l unexpected read [] e h = h.1 v (subst (λ t. SpellsAny grammar t v) (e ∙ append-nil read) s)
    at_rest v s l too_deep read [] e h = h
    at_rest v s l c read (x ∷ rest) e h = stopped limit c ts read x rest rest h e (begun ts v s) l

    -- a sentence within the limit has none
    pub no_fault : (v : V) → SpellsAny grammar ts v → Stays opens closes limit 0 ts → (c : Cause) (rest : List T) → FirstFault opens closes grammar limit ts c rest → ⊥
    no_fault v s l c rest f = at_rest v s l c f.read rest f.text f.stops
