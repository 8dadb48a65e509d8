-- Words one after another.
use Rattle.std.proofs.Common.{◌≡◌, inl, inr, ℕ, zero, suc, ◌+◌, ◌<◌, ◌≤◌, zero-add, true, false, List, [], ◌∷◌, ◌++◌, length, drop, get_or, Option, None, Some, refl, sym, ap}
use Rattle.std.proofs.Common.{◌∙◌, subst, arith, append_assoc}
use Rattle.std.specs.Prelude.{All, bytes_eq, slice_get}
use Rattle.std.proofs.lemmas.Slice.Eq.{bytes_eq-Decides}
use Rattle.std.proofs.lemmas.List.{drop_more}
use Rattle.multisets.specs.Bags.{IsIn}
use Rattle.pgq_base.specs.Files.{sample_word, IsAsked}
use Rattle.table_words.specs.declared.word.TableWord.{TableWord}
use Rattle.table_words.specs.TableWords.{table_word, table_words, together}
use Rattle.table_words.proofs.Forms.{FoundStands, is_word, file_is}

-- what is there, and then the others, if there are any
abbrev pub ahead : List TableWord → Option (List TableWord) → Option (List TableWord)
ahead done None = None
ahead done (Some more) = Some (done ++ more)

pub ahead_none : (o : Option (List TableWord)) → ahead [] o ≡ o
ahead_none None = refl
ahead_none (Some more) = refl

ahead_one : (done : List TableWord) (asked : TableWord) (o : Option (List TableWord)) → ahead done (together (Some asked) o) ≡ ahead (done ++ asked ∷ []) o
ahead_one done asked None = refl
ahead_one done asked (Some more) = ap Some (sym (append_assoc done (asked ∷ []) more))

module _ (words : List (List ℕ)) (i : ℕ) (word : List ℕ) (h : i < length words) (is : word ≡ get_or words i word) where
  first_left : table_words (drop i words) ≡ together (table_word word) (table_words (drop (i + 1) words))
  first_left = ap table_words (drop_more words i word h) ∙ ap (λ w. together (table_word w) (table_words (drop (i + 1) words))) (sym is)

  pub next_word : (done : List TableWord) (asked : TableWord) → Some asked ≡ table_word word → table_words words ≡ ahead done (table_words (drop i words))
      → table_words words ≡ ahead (done ++ asked ∷ []) (table_words (drop (i + 1) words))
  next_word done asked found so_far =
      so_far ∙ ap (ahead done) first_left ∙ ap (λ o. ahead done (together o (table_words (drop (i + 1) words)))) (sym found)
      ∙ ahead_one done asked (table_words (drop (i + 1) words))

  pub bad_word : (done : List TableWord) → None ≡ table_word word → table_words words ≡ ahead done (table_words (drop i words)) → None ≡ table_words words
  bad_word done found so_far =
      sym (so_far ∙ ap (ahead done) first_left ∙ ap (λ o. ahead done (together o (table_words (drop (i + 1) words)))) (sym found))

-- ---- each file is behind a word

record IsOfWord (words : List (List ℕ)) (table : TableWord) : Type 0 where
  place : ℕ
  word : List ℕ
  there : slice_get words place ≡ Some word
  asks : table_word word ≡ Some table

inside : {A : Type 0} {x y : A} → (let o : Option A = Some x in o) ≡ Some y → x ≡ y
inside h = cc

same_list : {A : Type 0} {xs ys : List A} → (let o : Option (List A) = Some xs in o) ≡ Some ys → xs ≡ ys
same_list h = cc

of_word : (words : List (List ℕ)) (asked : List TableWord) → table_words words ≡ Some asked → (table : TableWord) → IsIn table asked → IsOfWord words table
of_word [] asked e table h = absurd (subst (IsIn table) (sym (same_list e)) h)
of_word (word ∷ words) asked e table h = by (table_word word) (table_words words) refl refl e (of_word words)
  where
    later : IsOfWord words table → IsOfWord (word ∷ words) table
    later w = record { place = suc w.place; word = w.word; there = w.there; asks = w.asks }

    pick : (one : TableWord) (others : List TableWord) → table_word word ≡ Some one → (IsIn table others → IsOfWord words table) → IsIn table (one ∷ others)
        → IsOfWord (word ∷ words) table
    pick one others f more (inl e) = record { place = 0; word = word; there = refl; asks = f ∙ ap Some e }
    pick one others f more (inr k) = later (more k)

    by : (first : Option TableWord) (rest : Option (List TableWord)) → table_word word ≡ first → table_words words ≡ rest → together first rest ≡ Some asked
        → ((asked : List TableWord) → table_words words ≡ Some asked → (table : TableWord) → IsIn table asked → IsOfWord words table) → IsOfWord (word ∷ words) table
    by None rest f r whole more = absurd cc
    by (Some one) None f r whole more = absurd cc
    by (Some one) (Some others) f r whole more =
        let same : one ∷ others ≡ asked = same_list whole in
        pick one others f (more others r table) (subst (IsIn table) (sym same) h)

get_behind : {A : Type 0} (n : ℕ) (xs : List A) (p : ℕ) → slice_get (drop n xs) p ≡ slice_get xs (n + p)
get_behind zero xs p = ap (slice_get xs) (sym (zero-add p))
get_behind (suc n) [] p = refl
get_behind (suc n) (x ∷ xs) p =
    let same : suc n + p ≡ suc (n + p) = omega arith in
    get_behind n xs p ∙ ap (slice_get (x ∷ xs)) (sym same)

asked_file : FoundStands → (words : List (List ℕ)) (asked : List TableWord) → (slice_get words 0 ≡ Some sample_word → ⊥) → table_words (drop 3 words) ≡ Some asked
    → (table : TableWord) → IsIn table asked → IsAsked table.file words
asked_file found words asked other e table h =
    let w = of_word (drop 3 words) asked e table h in
    record {
      command = other;
      place = inr (inr (3 + w.place, omega arith, (w.word, sym (get_behind 3 words w.place) ∙ w.there, file_is w.word table (is_word found w.word table w.asks))));
    }

in_at : (asked : List TableWord) (k : ℕ) (d : TableWord) → k < length asked → IsIn (get_or asked k d) asked
in_at [] k d h = absurd (omega arith)
in_at (x ∷ xs) zero d h = inl refl
in_at (x ∷ xs) (suc k) d h = inr (in_at xs k d (omega arith))

pub asked_files : FoundStands → (words : List (List ℕ)) (asked : List TableWord) → (slice_get words 0 ≡ Some sample_word → ⊥) → table_words (drop 3 words) ≡ Some asked
    → All (λ table. IsAsked table.file words) asked
asked_files found words asked other e k d h = asked_file found words asked other e (get_or asked k d) (in_at asked k d h)

-- the first word is another one than `sample`
pub other_command : (words : List (List ℕ)) (command : List ℕ) → 1 ≤ length words → command ≡ get_or words 0 command → bytes_eq command sample_word ≡ false → slice_get words 0
    ≡ Some sample_word → ⊥
other_command [] command some is differs e = absurd (omega arith)
other_command (word ∷ words) command some is differs e =
    let same : command ≡ sample_word = is ∙ inside e in
    let yes : bytes_eq command sample_word ≡ true = (bytes_eq-Decides command sample_word).1 same in
    cc
