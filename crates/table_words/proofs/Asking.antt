-- What a word asks for, by the place of its first `=` outside quotes.
use Rattle.std.proofs.Common.{◌≡◌, ◌↔◌, ℕ, ◌+◌, ◌-◌, ◌<◌, ◌≤◌, false, List, ◌∷◌, length, take, drop, Option, None, Some, option_map, Result, Ok, Err, IfOk, refl, sym, ap, ◌∙◌}
use Rattle.std.proofs.Common.{subst, arith, length-append, length-drop}
use Rattle.std.proofs.Math.Seq.{take-append_seam}
use Rattle.pgq_base.specs.Files.{after_equals, equals_sign}
use Rattle.table_words.specs.declared.word.TableWord.{TableWord}
use Rattle.table_words.specs.TableWords.{IsIdentifier, IsTableWord, Names, AsksFor, table_word}
use Rattle.table_words.proofs.Forms.{file_is}

module _ (word : List ℕ) where
  pub no_sign : (place : Option ℕ) → option_map (λ place. drop (place + 1) word) place ≡ after_equals false word → place ≡ None → (asked : TableWord) → IsTableWord word asked → ⊥
  no_sign place file none asked is =
      let there : after_equals false word ≡ Some asked.file = file_is word asked is in
      let nowhere : None ≡ after_equals false word = ap (option_map (λ place. drop (place + 1) word)) (sym none) ∙ file in
      cc

  same_file : (place : ℕ) → Some (drop (place + 1) word) ≡ after_equals false word → (asked : TableWord) → IsTableWord word asked → drop (place + 1) word ≡ asked.file
  same_file place file asked is =
      let there : Some (drop (place + 1) word) ≡ Some asked.file = file ∙ file_is word asked is in
      cc

  pub no_file : (place : ℕ) → Some (drop (place + 1) word) ≡ after_equals false word → length (drop (place + 1) word) ≡ 0 → (asked : TableWord) → IsTableWord word asked → ⊥
  no_file place file empty asked is =
      let same : length (drop (place + 1) word) ≡ length asked.file = ap length (same_file place file asked is) in
      let some : 1 ≤ length asked.file = is.some in
      absurd (omega arith)

  pub no_name : (place : ℕ) → place < length word → Some (drop (place + 1) word) ≡ after_equals false word → Names (take place word) None → (asked : TableWord)
      → IsTableWord word asked → ⊥
  no_name place within file none asked is =
      let same : length (drop (place + 1) word) ≡ length asked.file = ap length (same_file place file asked is) in
      let whole : length word ≡ length is.identifier + length (equals_sign ∷ asked.file) = ap length is.split ∙ length-append is.identifier (equals_sign ∷ asked.file) in
      let left : length (drop (place + 1) word) ≡ length word - (place + 1) = length-drop (place + 1) word in
      let here : length is.identifier ≡ place = omega arith in
      let front : take place word ≡ is.identifier = ap (λ n. take n word) (sym here) ∙ ap (take (length is.identifier)) is.split
      ∙ take-append_seam is.identifier (equals_sign ∷ asked.file) in
      none asked.table (subst (λ t. IsIdentifier t asked.table) (sym front) is.names)

  pub by_form : {E : Type 0} → ((asked : TableWord) → (table_word word ≡ Some asked) ↔ IsTableWord word asked) → (result : Result (Option TableWord) E)
      → IfOk result (AsksFor word) → IfOk result (λ asked. asked ≡ table_word word)
  by_form tells (Ok (Some asked)) is = sym ((tells asked).1 is)
  by_form tells (Ok None) none = nothing (table_word word) refl
    where
      nothing : (o : Option TableWord) → table_word word ≡ o → None ≡ o
      nothing None e = refl
      nothing (Some asked) e = absurd (none asked ((tells asked).0 e))
  by_form tells (Err e) is = tt
