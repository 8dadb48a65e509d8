-- Path blocks that are found by numbers are found by their shapes.
use Rattle.std.proofs.Common.{◌≡◌, ℕ, zero, suc, ◌+◌, ◌<◌, inl, inr, Bool, true, false, not, cond, ◌&&◌, ◌||◌, List, [], ◌∷◌, ◌++◌, map, length, refl, sym, subst, ap, ap₂, ◌∙◌}
use Rattle.std.proofs.Common.{arith, true≢false, nat_eq, get_or, set, drop, flat_map}
use Rattle.std.specs.List.{fold, list_any, list_all, position_or_len}
use Rattle.std.specs.Cmp.Lexicographic.{pointwise}
use Rattle.std.proofs.lemmas.List.Folds.{list_all-append, list_any-append}
use Rattle.std.proofs.lemmas.List.Sums.{fold-append}
use Rattle.std.proofs.lemmas.List.{drop_more}
use Rattle.std.proofs.lemmas.Slice.Eq.{bytes_eq-Decides}
use Rattle.multisets.specs.Bags.{IsIn, DecidesEquality}
use Rattle.graph_ast.specs.declared.blocks.Tags.{Tags}
use Rattle.graph_ast.specs.declared.blocks.Alternative.{Alternative}
use Rattle.graph_ast.specs.declared.blocks.PathBlock.{PathBlock}
use Rattle.graph_ast.specs.declared.catalog.Graph.{Graph}
use Rattle.graph_ast.specs.declared.checked.CheckedPath.{CheckedPath}
use Rattle.graph_meaning.specs.Lists.{numbers_below}
use Rattle.graph_meaning.specs.Choices.{choices, counts_of, operand_at, tags_of}
use Rattle.graph_meaning.specs.Bindings.{same_tags}
use Rattle.graph_meaning.specs.Blocks.{Shape, same_shape, shapes_of, complete}
use Rattle.graph_meaning.proofs.Members.{both_parts, both_true, each_of, from_map, from_flat, from_below, in_at, same_head, same_rest}
use Rattle.graph_meaning.proofs.BindingLemmas.{same_tags_decides}
use Rattle.graph_meaning.proofs.BlockLemmas.{same_shape_decides}
use Rattle.normal_form.specs.Merged.{Finding, with_finding, put_at}
use Rattle.normal_form.specs.Kept.{key_of, key_of_block, is_met, IsWord, AreKept}
use Rattle.normal_form.proofs.FollowLemmas.{same_answer}
use Rattle.normal_form.proofs.Gathering.{map-parts, same_map_in}

module _ {X : Type 0} (p : X → Bool) where
  -- the first place stays where more stands behind
  position_more : (xs ys : List X) → list_any p xs ≡ true → position_or_len p (xs ++ ys) ≡ position_or_len p xs
  position_more [] ys h = absurd (true≢false (sym h))
  position_more (x ∷ xs) ys h = go (p x) h (position_more xs ys)
    where
      go : (b : Bool) → (b || list_any p xs) ≡ true → (list_any p xs ≡ true → position_or_len p (xs ++ ys) ≡ position_or_len p xs)
          → cond (not b) (1 + position_or_len p (xs ++ ys)) 0 ≡ cond (not b) (1 + position_or_len p xs) 0
      go true e below = refl
      go false e below = ap (λ n. 1 + n) (below e)

  -- also where what is looked for comes behind
  position_pushed : (xs : List X) (y : X) → p y ≡ true → position_or_len p (xs ++ y ∷ []) ≡ position_or_len p xs
  position_pushed [] y h = ap (λ b. cond (not b) 1 0) h
  position_pushed (x ∷ xs) y h = ap (λ n. cond (not (p x)) (1 + n) 0) (position_pushed xs y h)

  any_more : (xs ys : List X) → list_any p xs ≡ true → list_any p (xs ++ ys) ≡ true
  any_more xs ys h = list_any-append p xs ys ∙ ap (λ b. b || list_any p ys) h

  any_pushed : (xs : List X) (y : X) → p y ≡ true → list_any p (xs ++ y ∷ []) ≡ true
  any_pushed [] y h = ap (λ b. b || false) h
  any_pushed (x ∷ xs) y h = elim (p x) as (λ b. (b || list_any p (xs ++ y ∷ [])) ≡ true) [ true ↦ refl | false ↦ any_pushed xs y h ]

  found_within : (xs : List X) → position_or_len p xs < length xs → list_any p xs ≡ true
  found_within [] h = absurd (omega arith)
  found_within (x ∷ xs) h = go (p x) h (found_within xs)
    where
      go : (b : Bool) → cond (not b) (1 + position_or_len p xs) 0 < suc (length xs) → (position_or_len p xs < length xs → list_any p xs ≡ true) → (b || list_any p xs) ≡ true
      go true h below = refl
      go false h below = below (omega (arith, h))

  any_of_map : {Y : Type 0} (f : Y → X) (ys : List Y) → list_any (λ y. p (f y)) ys ≡ list_any p (map f ys)
  any_of_map f [] = refl
  any_of_map f (y ∷ ys) = ap (λ b. p (f y) || b) (any_of_map f ys)

  position_of_map : {Y : Type 0} (f : Y → X) (ys : List Y) → position_or_len (λ y. p (f y)) ys ≡ position_or_len p (map f ys)
  position_of_map f [] = refl
  position_of_map f (y ∷ ys) = ap (λ n. cond (not (p (f y))) (1 + n) 0) (position_of_map f ys)

-- what stands at the same first place is the same
one_place : {X : Type 0} (same : X → X → Bool) → DecidesEquality same → (x y : X) (xs : List X) → list_any (same x) xs ≡ true → list_any (same y) xs ≡ true
    → position_or_len (same x) xs ≡ position_or_len (same y) xs → x ≡ y
one_place same decides x y [] h k e = absurd (true≢false (sym h))
one_place same decides x y (z ∷ xs) h k e = go (same x z) refl (same y z) refl h k e (one_place same decides x y xs)
  where
    go : (b : Bool) → same x z ≡ b → (c : Bool) → same y z ≡ c → (b || list_any (same x) xs) ≡ true → (c || list_any (same y) xs) ≡ true
        → cond (not b) (1 + position_or_len (same x) xs) 0 ≡ cond (not c) (1 + position_or_len (same y) xs) 0
        → (list_any (same x) xs ≡ true → list_any (same y) xs ≡ true → position_or_len (same x) xs ≡ position_or_len (same y) xs → x ≡ y) → x ≡ y
    go true s true t h k e below = (decides x z).0 s ∙ sym ((decides y z).0 t)
    go true s false t h k e below = absurd (omega (arith, e))
    go false s true t h k e below = absurd (omega (arith, e))
    go false s false t h k e below = below h k (omega (arith, e))

-- keys are the same where shapes are
key_test : (words : List (List Tags)) (x y : Shape) → is_met words x.0 ≡ true → is_met words y.0 ≡ true → pointwise nat_eq (key_of words x) (key_of words y) ≡ same_shape y x
key_test words x y h k = same_answer _ _ to from
  where
    to : pointwise nat_eq (key_of words x) (key_of words y) ≡ true → same_shape y x ≡ true
    to t =
        let e : key_of words x ≡ key_of words y = (bytes_eq-Decides (key_of words x) (key_of words y)).0 t in
        let tags : x.0 ≡ y.0 = one_place same_tags same_tags_decides x.0 y.0 words h k (same_head e) in
        let both : y ≡ x = ap₂ (λ t a. (t, a)) (sym tags) (sym (same_rest e)) in
        (same_shape_decides y x).1 both

    from : same_shape y x ≡ true → pointwise nat_eq (key_of words x) (key_of words y) ≡ true
    from t = (bytes_eq-Decides (key_of words x) (key_of words y)).1 (sym (ap (key_of words) ((same_shape_decides y x).0 t)))

-- behind the first block
put_later : (block : PathBlock) (blocks : List PathBlock) (i : ℕ) (choice : Alternative) → put_at (block ∷ blocks) (1 + i) choice ≡ block ∷ put_at blocks i choice
put_later block blocks i choice = let e : 1 + i ≡ suc i = omega arith in ap (λ k. put_at (block ∷ blocks) k choice) e

-- a choice is put into the first block that passes a test for its shape, or into a new one
module _ (place : ℕ) (test : PathBlock → Bool) (f : Finding) where
  abbrev new : PathBlock
  new = record { path = place; tags = f.0.0; elements = f.0.1; alternatives = f.1 ∷ [] }

  put_is : (blocks : List PathBlock) → ((block : PathBlock) → IsIn block blocks → test block ≡ same_shape (block.tags, block.elements) f.0)
      → with_finding place blocks f ≡ cond (list_any test blocks) (put_at blocks (position_or_len test blocks) f.1) (blocks ++ new ∷ [])
  put_is [] h = refl
  put_is (block ∷ blocks) h =
      go (same_shape (block.tags, block.elements) f.0) (test block) (h block (inl refl)) (list_any test blocks) (put_is blocks (λ b k. h b (inr k)))
    where
      go : (b c : Bool) → c ≡ b → (d : Bool) → with_finding place blocks f ≡ cond d (put_at blocks (position_or_len test blocks) f.1) (blocks ++ new ∷ [])
          → cond b (record { path = block.path; tags = block.tags; elements = block.elements; alternatives = block.alternatives ++ f.1 ∷ [] } ∷ blocks)
          (block ∷ with_finding place blocks f)
          ≡ cond (c || d) (put_at (block ∷ blocks) (cond (not c) (1 + position_or_len test blocks) 0) f.1) ((block ∷ blocks) ++ new ∷ [])
      go true true e d below = refl
      go true false e d below = absurd (true≢false (sym e))
      go false true e d below = absurd (true≢false e)
      go false false e true below = ap (λ l. block ∷ l) below ∙ sym (put_later block blocks (position_or_len test blocks) f.1)
      go false false e false below = ap (λ l. block ∷ l) below

-- a choice written behind those of a block
pub put_set : (blocks : List PathBlock) (i : ℕ) (block : PathBlock) (choice : Alternative) (all : List Alternative) → i < length blocks → block ≡ get_or blocks i block
    → all ≡ block.alternatives ++ choice ∷ [] → set blocks i (record { path = block.path; tags = block.tags; elements = block.elements; alternatives = all })
    ≡ put_at blocks i choice
put_set [] i block choice all h e a = absurd (omega arith)
put_set (x ∷ xs) zero block choice all h e a =
    ap (λ l. record { path = block.path; tags = block.tags; elements = block.elements; alternatives = l } ∷ xs) a
    ∙ ap (λ (b : PathBlock). record { path = b.path; tags = b.tags; elements = b.elements; alternatives = b.alternatives ++ choice ∷ [] } ∷ xs) e
put_set (x ∷ xs) (suc i) block choice all h e a = ap (λ l. x ∷ l) (put_set xs i block choice all (omega arith) e a)

-- what a choice leaves of the keys
same_keys : (words : List (List Tags)) (blocks : List PathBlock) (i : ℕ) (choice : Alternative) → map (key_of_block words) (put_at blocks i choice) ≡ map
    (key_of_block words) blocks
same_keys words [] i choice = refl
same_keys words (block ∷ blocks) zero choice = refl
same_keys words (block ∷ blocks) (suc i) choice = ap (λ l. key_of_block words block ∷ l) (same_keys words blocks i choice)

still_met : (words : List (List Tags)) (blocks : List PathBlock) (i : ℕ) (choice : Alternative)
    → list_all (λ (block : PathBlock). is_met words block.tags) (put_at blocks i choice) ≡ list_all (λ (block : PathBlock). is_met words block.tags) blocks
still_met words [] i choice = refl
still_met words (block ∷ blocks) zero choice = refl
still_met words (block ∷ blocks) (suc i) choice = ap (λ b. is_met words block.tags && b) (still_met words blocks i choice)

all_kept : {X : Type 0} (p q : X → Bool) (xs : List X) → ((x : X) → p x ≡ true → q x ≡ true) → list_all p xs ≡ true → list_all q xs ≡ true
all_kept p q [] h k = refl
all_kept p q (x ∷ xs) h k = let r = both_parts _ _ k in both_true _ _ (h x r.0) (all_kept p q xs h r.1)

pub kept_grown : (words more : List (List Tags)) (tags : List Tags) (numbers : List (List ℕ)) (blocks : List PathBlock) → more ≡ words ++ tags ∷ []
    → AreKept words numbers blocks → AreKept more numbers blocks
kept_grown words more tags numbers blocks e kept =
    subst (λ w. AreKept w numbers blocks) (sym e)
    (record {
      keys = kept.keys ∙ same_map_in (key_of_block words) (key_of_block (words ++ tags ∷ [])) blocks
          (λ block k. ap (λ n. n ∷ block.elements) (sym
          (position_more (same_tags block.tags) words (tags ∷ []) (each_of (λ (b : PathBlock). is_met words b.tags) blocks kept.met block k))));
      met = all_kept (λ (b : PathBlock). is_met words b.tags) (λ (b : PathBlock). is_met (words ++ tags ∷ []) b.tags) blocks
          (λ b. any_more (same_tags b.tags) words (tags ∷ [])) kept.met;
    })

pub word_there : (words : List (List Tags)) (tags : List Tags) (place : ℕ) → place ≡ position_or_len (same_tags tags) words → place < length words → IsWord words tags place
word_there words tags place e h = (e, found_within (same_tags tags) words (omega (arith, e, h)))

pub word_pushed : (words more : List (List Tags)) (tags : List Tags) (place : ℕ) → more ≡ words ++ tags ∷ [] → place ≡ position_or_len (same_tags tags) words
    → IsWord more tags place
word_pushed words more tags place g e =
    let own : same_tags tags tags ≡ true = (same_tags_decides tags tags).1 refl in
    subst (λ w. IsWord w tags place) (sym g) (e ∙ sym (position_pushed (same_tags tags) words tags own), any_pushed (same_tags tags) words tags own)

not_true : (b a : Bool) → b ≡ not a → b ≡ true → a ≡ false
not_true b true e h = absurd (true≢false (sym h ∙ e))
not_true b false e h = refl

not_false : (b a : Bool) → b ≡ not a → b ≡ false → a ≡ true
not_false b true e h = refl
not_false b false e h = absurd (true≢false (sym e ∙ h))

-- a choice that is put by its key
module _ {V : Type 0} (items : V → List ℕ) (vs : List V) (words : List (List Tags)) (blocks : List PathBlock) (kept : AreKept words (map items vs) blocks)
    (place : ℕ) (f : Finding) (word : ℕ) (is : IsWord words f.0.0 word) (key : V) (key_is : items key ≡ word ∷ f.0.1) where
  abbrev has : V → Bool
  has v = pointwise nat_eq (items key) (items v)

  abbrev test : PathBlock → Bool
  test block = pointwise nat_eq (key_of words f.0) (key_of_block words block)

  of_shape : items key ≡ key_of words f.0
  of_shape = key_is ∙ ap (λ n. n ∷ f.0.1) is.0

  found_is : list_any has vs ≡ list_any test blocks
  found_is =
      any_of_map (pointwise nat_eq (items key)) items vs
      ∙ ap₂ (λ k l. list_any (pointwise nat_eq k) l) of_shape kept.keys
      ∙ sym (any_of_map (pointwise nat_eq (key_of words f.0)) (key_of_block words) blocks)

  place_is : position_or_len has vs ≡ position_or_len test blocks
  place_is =
      position_of_map (pointwise nat_eq (items key)) items vs
      ∙ ap₂ (λ k l. position_or_len (pointwise nat_eq k) l) of_shape kept.keys
      ∙ sym (position_of_map (pointwise nat_eq (key_of words f.0)) (key_of_block words) blocks)

  put_by : with_finding place blocks f ≡ cond (list_any test blocks) (put_at blocks (position_or_len test blocks) f.1) (blocks ++ new place test f ∷ [])
  put_by = put_is place test f blocks (λ block k. key_test words f.0 (block.tags, block.elements) is.1 (each_of (λ (b : PathBlock). is_met words b.tags) blocks kept.met block k))

  module _ (after : List V) (keys_are : after ≡ cond (list_any has vs) vs (vs ++ key ∷ [])) (added : Bool) (added_is : added ≡ not (list_any has vs)) (more : List PathBlock) where
    pub put_fresh : added ≡ true → more ≡ blocks ++ new place test f ∷ [] → more ≡ with_finding place blocks f
    put_fresh h m =
        m ∙ sym (put_by ∙ ap (λ b. cond b (put_at blocks (position_or_len test blocks) f.1) (blocks ++ new place test f ∷ [])) (sym found_is ∙ not_true added _ added_is h))

    pub kept_fresh : added ≡ true → more ≡ blocks ++ new place test f ∷ [] → AreKept words (map items after) more
    kept_fresh h m =
        let keys : map items after ≡ map items vs ++ items key ∷ [] =
        ap (map items) (keys_are ∙ ap (λ b. cond b vs (vs ++ key ∷ [])) (not_true added _ added_is h)) ∙ map-parts items vs (key ∷ []) in
        subst (λ l. AreKept words (map items after) l) (sym m)
        (record {
          keys = keys ∙ ap₂ (λ l k. l ++ k ∷ []) kept.keys of_shape ∙ sym (map-parts (key_of_block words) blocks (new place test f ∷ []));
          met = list_all-append (λ (b : PathBlock). is_met words b.tags) blocks (new place test f ∷ []) ∙ both_true _ _ kept.met (both_true _ _ is.1 refl);
        })

    module _ (i : ℕ) (i_is : i ≡ position_or_len has vs) where
      pub put_behind : added ≡ false → more ≡ put_at blocks i f.1 → more ≡ with_finding place blocks f
      put_behind h m =
          m ∙ ap (λ k. put_at blocks k f.1) (i_is ∙ place_is)
          ∙ sym (put_by ∙ ap (λ b. cond b (put_at blocks (position_or_len test blocks) f.1) (blocks ++ new place test f ∷ [])) (sym found_is ∙ not_false added _ added_is h))

      pub kept_behind : added ≡ false → more ≡ put_at blocks i f.1 → AreKept words (map items after) more
      kept_behind h m =
          let keys : map items after ≡ map items vs = ap (map items) (keys_are ∙ ap (λ b. cond b vs (vs ++ key ∷ [])) (not_false added _ added_is h)) in
          subst (λ l. AreKept words (map items after) l) (sym m)
          (record { keys = keys ∙ kept.keys ∙ sym (same_keys words blocks i f.1); met = still_met words blocks i f.1 ∙ kept.met })

pub map_twice : {X Y Z : Type 0} (f : Y → Z) (g : X → Y) (xs : List X) → map f (map g xs) ≡ map (λ x. f (g x)) xs
map_twice f g [] = refl
map_twice f g (x ∷ xs) = ap (λ l. f (g x) ∷ l) (map_twice f g xs)

-- the shapes of a choice, by what a search gives
pub shapes_found : (graph : Graph) (path : CheckedPath) (choice : Alternative) (tags : List Tags) (assignments : List (List ℕ)) → tags ≡ tags_of path choice → assignments
    ≡ complete graph path choice
    → map {B = Finding} (λ assignment. ((tags, assignment), choice)) assignments ≡ map {B = Finding} (λ shape. (shape, choice)) (shapes_of graph path choice)
shapes_found graph path choice tags assignments t a =
    let by : List Tags → List ℕ → Finding = λ names assignment. ((names, assignment), choice) in
    let own : List ℕ → Shape = λ assignment. (tags_of path choice, assignment) in
    ap₂ (λ names l. map (by names) l) t a ∙ sym (map_twice (λ (s : Shape). (s, choice)) own (complete graph path choice))

-- one choice more is gathered
pub gather_step : {X Y B : Type 0} (f : B → Y → B) (made : X → List Y) (xs : List X) (i : ℕ) (x : X) (before after whole : B) → i < length xs → x ≡ get_or xs i x → after
    ≡ fold f before (made x)
    → fold f before (flat_map made (drop i xs)) ≡ whole → fold f after (flat_map made (drop (i + 1) xs)) ≡ whole
gather_step f made xs i x before after whole h at a is =
    ap (λ b. fold f b (flat_map made (drop (i + 1) xs))) a
    ∙ sym (fold-append f before (made x) (flat_map made (drop (i + 1) xs)))
    ∙ ap (λ l. fold f before (flat_map made l)) (ap (λ y. y ∷ drop (i + 1) xs) at ∙ sym (drop_more xs i x h))
    ∙ is

pub there : {X : Type 0} (xs : List X) (i : ℕ) (x : X) → i < length xs → x ≡ get_or xs i x → IsIn x xs
there xs i x h at = subst (λ y. IsIn y xs) (sym at) (in_at xs i x h)

-- a choice names an operand that is there
pub choice_within : (path : CheckedPath) (choice : Alternative) → IsIn choice (choices path) → choice.operand < length path.operands
choice_within path choice h =
    let at = from_flat _ choice (numbers_below (length path.operands)) h in
    let by = from_map _ choice (counts_of (operand_at path at.0).steps) at.2 in
    subst (λ n. n < length path.operands) (ap (λ (c : Alternative). c.operand) by.2) (from_below (length path.operands) at.0 at.1)
