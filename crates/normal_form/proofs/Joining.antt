-- Graph blocks are found path pattern by path pattern.
use Rattle.std.proofs.Common.{◌≡◌, ℕ, Bool, true, false, cond, List, [], ◌∷◌, ◌++◌, map, filter, flat_map, refl, sym, ap, ap₂, ◌∙◌, true≢false, nat_eq, bytes_eq, append_assoc}
use Rattle.std.specs.List.{list_any, list_all}
use Rattle.graph_ast.specs.declared.checked.CheckedQuery.{CheckedQuery}
use Rattle.graph_ast.specs.declared.blocks.PathBlock.{PathBlock}
use Rattle.graph_ast.specs.declared.blocks.Tags.{Tags}
use Rattle.graph_meaning.specs.Lists.{all_same, tagged, combinations}
use Rattle.graph_meaning.specs.Answers.{query_singletons}
use Rattle.graph_meaning.specs.Blocks.{is_shared}
use Rattle.graph_meaning.proofs.Members.{both_parts, both_true, each_of, all_from}
use Rattle.graph_meaning.proofs.PrefixLemmas.{BeginsWith}
use Rattle.normal_form.proofs.Gathering.{map-parts}
use Rattle.normal_form.proofs.Merging.{map_twice}
use Rattle.normal_form.specs.Joined.{joined_by}

pub flat_parts : {A B : Type 0} (f : A → List B) (us vs : List A) → flat_map f (us ++ vs) ≡ flat_map f us ++ flat_map f vs
flat_parts f [] vs = refl
flat_parts f (u ∷ us) vs = ap (λ l. f u ++ l) (flat_parts f us vs) ∙ sym (append_assoc (f u) (flat_map f us) (flat_map f vs))

pub filter_parts : {A : Type 0} (p : A → Bool) (us vs : List A) → filter p (us ++ vs) ≡ filter p us ++ filter p vs
filter_parts p [] vs = refl
filter_parts p (u ∷ us) vs =
    elim (p u) as (λ b. cond b (u ∷ filter p (us ++ vs)) (filter p (us ++ vs)) ≡ cond b (u ∷ filter p us) (filter p us) ++ filter p vs)
    [ true ↦ ap (λ l. u ∷ l) (filter_parts p us vs) | false ↦ filter_parts p us vs ]

module _ {X : Type 0} (last : List X) where
  -- each row, followed by each of the last list
  abbrev longer : List X → List (List X)
  longer row = map (λ x. row ++ x ∷ []) last

  one_list : (xs : List X) → flat_map (λ x. map (λ rest. x ∷ rest) ([] ∷ [])) xs ≡ map (λ x. x ∷ []) xs
  one_list [] = refl
  one_list (x ∷ xs) = ap (λ l. (x ∷ []) ∷ l) (one_list xs)

  longer_behind : (x : X) (rows : List (List X)) → map (λ rest. x ∷ rest) (flat_map longer rows) ≡ flat_map longer (map (λ rest. x ∷ rest) rows)
  longer_behind x [] = refl
  longer_behind x (row ∷ rows) =
      map-parts (λ rest. x ∷ rest) (longer row) (flat_map longer rows) ∙ ap₂ (λ l m. l ++ m) (map_twice (λ rest. x ∷ rest) (λ y. row ++ y ∷ []) last) (longer_behind x rows)

  longer_all : (rows : List (List X)) (xs : List X) → flat_map (λ x. map (λ rest. x ∷ rest) (flat_map longer rows)) xs ≡ flat_map longer
      (flat_map (λ x. map (λ rest. x ∷ rest) rows) xs)
  longer_all rows [] = refl
  longer_all rows (x ∷ xs) =
      ap₂ (λ l m. l ++ m) (longer_behind x rows) (longer_all rows xs) ∙ sym (flat_parts longer (map (λ rest. x ∷ rest) rows) (flat_map (λ y. map (λ rest. y ∷ rest) rows) xs))

  nothing_behind : (xs : List (List X)) → xs ++ [] ≡ xs
  nothing_behind [] = refl
  nothing_behind (x ∷ xs) = ap (λ l. x ∷ l) (nothing_behind xs)

  combinations_end : (lists : List (List X)) → combinations (lists ++ last ∷ []) ≡ flat_map longer (combinations lists)
  combinations_end [] = one_list last ∙ sym (nothing_behind (map (λ x. x ∷ []) last))
  combinations_end (l ∷ ls) = ap (λ rows. flat_map (λ x. map (λ rest. x ∷ rest) rows) l) (combinations_end ls) ∙ longer_all (combinations ls) l

  module _ (p : List X → Bool) (shorter : (xs ys : List X) → p (xs ++ ys) ≡ true → p xs ≡ true) where
    fails : (row : List X) → p row ≡ false → (xs : List X) → filter p (map (λ x. row ++ x ∷ []) xs) ≡ []
    fails row e [] = refl
    fails row e (x ∷ xs) = go (p (row ++ x ∷ [])) refl (fails row e xs)
      where
        go : (b : Bool) → p (row ++ x ∷ []) ≡ b → filter p (map (λ y. row ++ y ∷ []) xs) ≡ []
            → cond b ((row ++ x ∷ []) ∷ filter p (map (λ y. row ++ y ∷ []) xs)) (filter p (map (λ y. row ++ y ∷ []) xs)) ≡ []
        go true h below = absurd (true≢false (sym (shorter row (x ∷ []) h) ∙ e))
        go false h below = below

    kept_rows : (rows : List (List X)) → filter p (flat_map longer rows) ≡ flat_map (λ row. filter p (longer row)) (filter p rows)
    kept_rows [] = refl
    kept_rows (row ∷ rows) = filter_parts p (longer row) (flat_map longer rows) ∙ go (p row) refl (kept_rows rows)
      where
        go : (b : Bool) → p row ≡ b → filter p (flat_map longer rows) ≡ flat_map (λ r. filter p (longer r)) (filter p rows)
            → filter p (longer row) ++ filter p (flat_map longer rows) ≡ flat_map (λ r. filter p (longer r)) (cond b (row ∷ filter p rows) (filter p rows))
        go true e below = ap (λ l. filter p (longer row) ++ l) below
        go false e below = ap₂ (λ l m. l ++ m) (fails row e last) below

    pub kept_end : (lists : List (List X)) → filter p (combinations (lists ++ last ∷ [])) ≡ flat_map (λ row. filter p (longer row)) (filter p (combinations lists))
    kept_end lists = ap (filter p) (combinations_end lists) ∙ kept_rows (combinations lists)

-- what is shared by more path blocks is shared by the first of them
tagged_longer : {X : Type 0} (name : List ℕ) (ts us : List Tags) (xs ys : List X) → BeginsWith (tagged name ts xs) (tagged name (ts ++ us) (xs ++ ys))
tagged_longer name [] us xs ys = record { rest = tagged name us (xs ++ ys); is = refl }
tagged_longer name (t ∷ ts) us [] ys = record { rest = tagged name (t ∷ (ts ++ us)) ys; is = refl }
tagged_longer {X} name (t ∷ ts) us (x ∷ xs) ys = go (list_any (bytes_eq name) t.names) (tagged_longer name ts us xs ys)
  where
    go : (b : Bool) → BeginsWith (tagged name ts xs) (tagged name (ts ++ us) (xs ++ ys))
        → BeginsWith (cond b (x ∷ tagged name ts xs) (tagged name ts xs)) (cond b (x ∷ tagged name (ts ++ us) (xs ++ ys)) (tagged name (ts ++ us) (xs ++ ys)))
    go true h = record { rest = h.rest; is = ap (λ l. x ∷ l) h.is }
    go false h = h

all_shorter : {X : Type 0} (p : X → Bool) (xs ys : List X) → list_all p (xs ++ ys) ≡ true → list_all p xs ≡ true
all_shorter p [] ys h = refl
all_shorter p (x ∷ xs) ys h = let r = both_parts _ _ h in both_true _ _ r.0 (all_shorter p xs ys r.1)

pub same_shorter : {X : Type 0} (same : X → X → Bool) (xs ys : List X) → all_same same (xs ++ ys) ≡ true → all_same same xs ≡ true
same_shorter same [] ys h = refl
same_shorter same (x ∷ xs) ys h = all_shorter (same x) xs ys h

pub shared_shorter : (query : CheckedQuery) (xs ys : List PathBlock) → is_shared query (xs ++ ys) ≡ true → is_shared query xs ≡ true
shared_shorter query xs ys h =
    all_from (λ name. all_same nat_eq (tagged name (flat_map (λ part. part.tags) xs) (flat_map (λ part. part.elements) xs))) (query_singletons query)
    (λ name k.
    let begins = tagged_longer name (flat_map (λ (part : PathBlock). part.tags) xs) (flat_map (λ (part : PathBlock). part.tags) ys)
    (flat_map (λ (part : PathBlock). part.elements) xs) (flat_map (λ (part : PathBlock). part.elements) ys) in
    let all = each_of (λ name. all_same nat_eq
    (tagged name (flat_map (λ (part : PathBlock). part.tags) (xs ++ ys)) (flat_map (λ (part : PathBlock). part.elements) (xs ++ ys)))) (query_singletons query) h name k in
    same_shorter nat_eq (tagged name (flat_map (λ (part : PathBlock). part.tags) xs) (flat_map (λ (part : PathBlock). part.elements) xs)) begins.rest
    (ap (all_same nat_eq) (sym begins.is)
    ∙ ap₂ (λ t e. all_same nat_eq (tagged name t e)) (sym (flat_parts (λ (part : PathBlock). part.tags) xs ys)) (sym (flat_parts (λ (part : PathBlock). part.elements) xs ys))
    ∙ all))

pub shared_end : (query : CheckedQuery) (lists : List (List PathBlock)) (last : List PathBlock)
    → filter (is_shared query) (combinations (lists ++ last ∷ [])) ≡ flat_map (joined_by query last) (filter (is_shared query) (combinations lists))
shared_end query lists last = kept_end last (is_shared query) (shared_shorter query) lists
