-- The places of tables, one word after another.
use Rattle.std.proofs.Common.{◌≡◌, ℕ, zero, suc, ◌+◌, ◌<◌, nat_eq, Bool, true, false, not, ◌&&◌, cond, List, [], ◌∷◌, ◌++◌, length, drop, get_or, Option, None, Some, refl, sym}
use Rattle.std.proofs.Common.{ap, ◌∙◌, arith, append_assoc, append-nil}
use Rattle.std.specs.Prelude.{◌||◌, All, option_and_then, bytes_eq}
use Rattle.std.specs.List.{list_any}
use Rattle.std.proofs.lemmas.List.{drop_more, length-append}
use Rattle.std.proofs.lemmas.List.Folds.{list_any-append}
use Rattle.std.proofs.lemmas.List.Quantifiers.{position-Some}
use Rattle.std.proofs.lemmas.Bool.Decides.{Decides-eqb}
use Rattle.multisets.specs.Bags.{IsWithoutRepeats}
use Rattle.graph_ast.specs.declared.catalog.Catalog.{Catalog}
use Rattle.graph_ast.specs.declared.catalog.Table.{Table}
use Rattle.graph_ast.specs.Lookups.{table_place}
use Rattle.graph_meaning.specs.Lists.{all_different}
use Rattle.graph_meaning.proofs.Decisions.{different_once}
use Rattle.table_words.specs.declared.word.TableWord.{TableWord}
use Rattle.table_files.specs.TablePlaces.{put_first, places_named, apart, table_places}

-- ---- numbers that differ

nat_eq_turned : (a b : ℕ) → nat_eq a b ≡ nat_eq b a
nat_eq_turned a b = by (nat_eq a b) (nat_eq b a) refl refl
  where
    by : (s t : Bool) → nat_eq a b ≡ s → nat_eq b a ≡ t → s ≡ t
    by true true e f = refl
    by false false e f = refl
    by true false e f = sym ((Decides-eqb b a).1 (sym ((Decides-eqb a b).0 e))) ∙ f
    by false true e f = sym e ∙ (Decides-eqb a b).1 (sym ((Decides-eqb b a).0 f))

moved : (a e d b : Bool) → (not (a || (e || false)) && (d && not b)) ≡ ((not a && d) && not (e || b))
moved true e d b = refl
moved false true true b = refl
moved false true false b = refl
moved false false true b = refl
moved false false false b = refl

-- one more number
different_more : (done : List ℕ) (p : ℕ) → all_different nat_eq (done ++ p ∷ []) ≡ (all_different nat_eq done && not (list_any (nat_eq p) done))
different_more [] p = refl
different_more (x ∷ xs) p =
    ap (λ b. not b && all_different nat_eq (xs ++ p ∷ [])) (list_any-append (nat_eq x) xs (p ∷ []))
    ∙ ap (λ b. not (list_any (nat_eq x) xs || (nat_eq x p || false)) && b) (different_more xs p)
    ∙ moved (list_any (nat_eq x) xs) (nat_eq x p) (all_different nat_eq xs) (list_any (nat_eq p) xs)
    ∙ ap (λ e. (not (list_any (nat_eq x) xs) && all_different nat_eq xs) && not (e || list_any (nat_eq p) xs)) (nat_eq_turned x p)

or_true : (a b : Bool) → (a || (true || b)) ≡ true
or_true true b = refl
or_true false b = refl

and_false : (a : Bool) → (a && false) ≡ false
and_false true = refl
and_false false = refl

-- a number that is among the ones before it
repeated : (done : List ℕ) (p : ℕ) (more : List ℕ) → list_any (nat_eq p) done ≡ true → all_different nat_eq (done ++ p ∷ more) ≡ false
repeated [] p more h = absurd cc
repeated (x ∷ xs) p more h = by (nat_eq p x) refl (repeated xs p more)
  where
    by : (t : Bool) → nat_eq p x ≡ t → (list_any (nat_eq p) xs ≡ true → all_different nat_eq (xs ++ p ∷ more) ≡ false) → all_different nat_eq (x ∷ xs ++ p ∷ more) ≡ false
    by true e later =
        let here : nat_eq x p ≡ true = nat_eq_turned x p ∙ e in
        let there : list_any (nat_eq x) (xs ++ p ∷ more) ≡ true = list_any-append (nat_eq x) xs (p ∷ more)
        ∙ ap (λ t. list_any (nat_eq x) xs || (t || list_any (nat_eq x) more)) here
        ∙ or_true (list_any (nat_eq x) xs) (list_any (nat_eq x) more) in
        ap (λ t. not t && all_different nat_eq (xs ++ p ∷ more)) there
    by false e later =
        let k : list_any (nat_eq p) xs ≡ true = ap (λ t. t || list_any (nat_eq p) xs) (sym e) ∙ h in
        ap (λ t. not (list_any (nat_eq x) (xs ++ p ∷ more)) && t) (later k) ∙ and_false (not (list_any (nat_eq x) (xs ++ p ∷ more)))

pub once : (places : List ℕ) → all_different nat_eq places ≡ true → IsWithoutRepeats places
once places = different_once nat_eq Decides-eqb places

-- ---- words

-- the places that are there, and then the others, if there are any
abbrev ahead : List ℕ → Option (List ℕ) → Option (List ℕ)
ahead done None = None
ahead done (Some more) = Some (done ++ more)

ahead_none : (o : Option (List ℕ)) → o ≡ ahead [] o
ahead_none None = refl
ahead_none (Some more) = refl

ahead_one : (done : List ℕ) (p : ℕ) (o : Option (List ℕ)) → ahead done (put_first (Some p) o) ≡ ahead (done ++ p ∷ []) o
ahead_one done p None = refl
ahead_one done p (Some more) = ap Some (sym (append_assoc done (p ∷ []) more))

-- how far the words are read
pub record Placed (catalog : Catalog) (words : List TableWord) (i : ℕ) (done : List ℕ) : Type 0 where
  pub named : places_named catalog words ≡ ahead done (places_named catalog (drop i words))
  pub each : length done ≡ i
  pub differ : all_different nat_eq done ≡ true
  pub within : All (λ place. place < length catalog.tables) done

pub placed_none : (catalog : Catalog) (words : List TableWord) → Placed catalog words 0 []
placed_none catalog words = record { named = ahead_none (places_named catalog words); each = refl; differ = refl; within = λ k d h. absurd (omega arith) }

within_more : (n : ℕ) (done : List ℕ) (p : ℕ) → All (λ place. place < n) done → p < n → All (λ place. place < n) (done ++ p ∷ [])
within_more n [] p all here zero d h = here
within_more n [] p all here (suc k) d h = absurd (omega arith)
within_more n (x ∷ xs) p all here zero d h = all 0 x (omega arith)
within_more n (x ∷ xs) p all here (suc k) d h = within_more n xs p (λ j e low. all (suc j) e (omega arith)) here k d (omega arith)

module _ (catalog : Catalog) (words : List TableWord) (i : ℕ) (word : TableWord) (h : i < length words) (is : word ≡ get_or words i word) (done : List ℕ)
    (so_far : Placed catalog words i done) where
  named_now : places_named catalog words ≡ ahead done (put_first (table_place catalog word.table) (places_named catalog (drop (i + 1) words)))
  named_now =
      so_far.named ∙ ap (λ l. ahead done (places_named catalog l)) (drop_more words i word h)
      ∙ ap (λ (w : TableWord). ahead done (put_first (table_place catalog w.table) (places_named catalog (drop (i + 1) words)))) (sym is)

  pub placed_more : (p : ℕ) → Some p ≡ table_place catalog word.table → list_any (nat_eq p) done ≡ false → Placed catalog words (i + 1) (done ++ p ∷ [])
  placed_more p found fresh = record {
    named = named_now ∙ ap (λ o. ahead done (put_first o (places_named catalog (drop (i + 1) words)))) (sym found) ∙ ahead_one done p (places_named catalog (drop (i + 1) words));
    each = (let so = so_far.each in let more : length (done ++ p ∷ []) ≡ length done + 1 = length-append done (p ∷ []) in omega arith);
    differ = different_more done p ∙ (ap (λ b. b && not (list_any (nat_eq p) done)) so_far.differ ∙ ap not fresh);
    within = within_more (length catalog.tables) done p so_far.within (position-Some (λ (table : Table). bytes_eq table.name word.table) catalog.tables p word_table (sym found)).0;
  }
    where
      word_table : Table
      word_table = record { name = []; columns = []; keys = []; references = [] }

  -- an unknown table
  pub unknown : None ≡ table_place catalog word.table → None ≡ table_places catalog words
  unknown none =
      sym (ap (option_and_then apart) (named_now ∙ ap (λ o. ahead done (put_first o (places_named catalog (drop (i + 1) words)))) (sym none)))

  not_apart : (p : ℕ) → list_any (nat_eq p) done ≡ true → (o : Option (List ℕ)) → option_and_then apart (ahead done (put_first (Some p) o)) ≡ None
  not_apart p h None = refl
  not_apart p h (Some more) = ap (λ b. cond b (Some (done ++ p ∷ more)) None) (repeated done p more h)

  -- a table that stands twice
  pub twice : (p : ℕ) → Some p ≡ table_place catalog word.table → list_any (nat_eq p) done ≡ true → None ≡ table_places catalog words
  twice p found again =
      sym (ap (option_and_then apart) (named_now ∙ ap (λ o. ahead done (put_first o (places_named catalog (drop (i + 1) words)))) (sym found))
      ∙ not_apart p again (places_named catalog (drop (i + 1) words)))

pub all_placed : (catalog : Catalog) (words : List TableWord) (i : ℕ) (done : List ℕ) → Placed catalog words i done → places_named catalog (drop i words) ≡ Some [] → Some done
    ≡ table_places catalog words
all_placed catalog words i done so_far none =
    let whole : places_named catalog words ≡ Some done = so_far.named ∙ ap (ahead done) none ∙ ap Some (append-nil done) in
    sym (ap (option_and_then apart) whole ∙ ap (λ b. cond b (Some done) None) so_far.differ)
