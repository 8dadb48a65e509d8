-- The files of a command are files that its words ask for.
use Rattle.std.proofs.Common.{◌≡◌, refl, sym, ap, ◌∙◌, subst, ℕ, ◌≤◌, ◌⊎◌, inl, inr, Bool, true, false, cond, List, [], ◌∷◌, drop, slice_get, Option, None, Some, option_map}
use Rattle.std.proofs.Common.{IfSome, IfOk, Result, Ok, Err, codes, bytes_eq, All, arith}
use Rattle.std.specs.Cmp.Lexicographic.{bytes_decides}
use Rattle.pgq_base.specs.Files.{sample_word, IsAsked}
use Rattle.pgq_base.specs.declared.memory.NoMemory.{NoMemory}
use Rattle.table_words.specs.declared.word.TableWord.{TableWord}
use Rattle.table_words.specs.TableWords.{table_words}
use Rattle.pgq_program.specs.declared.words.Command.{Command}
use Rattle.pgq_program.specs.Commands.{Asked, view, command_of, sample_count, of_one, of_two, of_more, no_more, over_tables, Asks}
use Rattle.pgq_program.proofs.SampleCounts.{count_within}

same_bytes : (a b : List ℕ) → bytes_eq a b ≡ true → a ≡ b
same_bytes a b h = (bytes_decides a b).0 h

-- a command that is not `sample`
NotSample : List ℕ → Type 0
NotSample command = command ≡ sample_word → ⊥

first_is : (a b : List ℕ) → (let o : Option (List ℕ) = Some a in o) ≡ Some b → a ≡ b
first_is a b h = cc

second : (command a : List ℕ) (more : List (List ℕ)) → NotSample command → IsAsked a (command ∷ a ∷ more)
unfolding NotSample
second command a more never = record { command = λ h. never (first_is command sample_word h); place = inl refl }

third : (command a b : List ℕ) (more : List (List ℕ)) → NotSample command → IsAsked b (command ∷ a ∷ b ∷ more)
unfolding NotSample
third command a b more never = record { command = λ h. never (first_is command sample_word h); place = inr (inl refl) }

no_sample : (command word : List ℕ) → bytes_eq command word ≡ true → (word ≡ sample_word → ⊥) → NotSample command
unfolding NotSample
no_sample command word h differ e = differ (sym (same_bytes command word h) ∙ e)

check_differs : codes "check" ≡ sample_word → ⊥
check_differs h = cc

translate_differs : codes "translate" ≡ sample_word → ⊥
translate_differs h = cc

run_differs : codes "run" ≡ sample_word → ⊥
run_differs h = cc

eval_differs : codes "eval" ≡ sample_word → ⊥
eval_differs h = cc

-- the files of words TABLE=FILE behind the first three
abbrev pub FilesAsked : Type 0
FilesAsked = (words : List (List ℕ)) (asked : List TableWord) → (slice_get words 0 ≡ Some sample_word → ⊥) → table_words (drop 3 words) ≡ Some asked
    → All (λ table. IsAsked table.file words) asked

abbrev Held : List (List ℕ) → Option Asked → Type 0
Held words asked = IfSome asked (λ asked. Asks asked words)

by_count : (words : List (List ℕ)) (a : List ℕ) (count : Option ℕ) → sample_count a ≡ count → Held words (option_map (λ count. Asked.OfSample count) count)
by_count words a None is = tt
by_count words a (Some count) is = count_within a count is

by_one : (command a : List ℕ) (c s : Bool) → bytes_eq command (codes "check") ≡ c
    → Held (command ∷ a ∷ []) (cond c (Some (Asked.OfCheck a)) (cond s (option_map (λ count. Asked.OfSample count) (sample_count a)) None))
by_one command a true s h = second command a [] (no_sample command (codes "check") h check_differs)
by_one command a false true h = by_count (command ∷ a ∷ []) a (sample_count a) refl
by_one command a false false h = tt

by_two : (command a b : List ℕ) (t c : Bool) → bytes_eq command (codes "translate") ≡ t → bytes_eq command (codes "check") ≡ c
    → Held (command ∷ a ∷ b ∷ []) (cond t (Some (Asked.OfTranslate a b)) (cond c (Some (Asked.OfCheckQuery a b)) None))
by_two command a b true c h k = (
  second command a (b ∷ []) (no_sample command (codes "translate") h translate_differs),
  third command a b [] (no_sample command (codes "translate") h translate_differs),
)
by_two command a b false true h k = (
  second command a (b ∷ []) (no_sample command (codes "check") k check_differs),
  third command a b [] (no_sample command (codes "check") k check_differs),
)
by_two command a b false false h k = tt

by_more : (command a b : List ℕ) (more : List (List ℕ)) → Held (command ∷ a ∷ b ∷ more) (no_more (of_two command a b) more)
by_more command a b [] = by_two command a b (bytes_eq command (codes "translate")) (bytes_eq command (codes "check")) refl refl
by_more command a b (word ∷ more) = tt

-- a command over the tables of some words
module _ (command a b : List ℕ) (more : List (List ℕ)) (files : FilesAsked) where
  abbrev AllAsked : List TableWord → Type 0
  AllAsked tables = IsAsked a (command ∷ a ∷ b ∷ more) × IsAsked b (command ∷ a ∷ b ∷ more) × All (λ (table : TableWord). IsAsked table.file (command ∷ a ∷ b ∷ more)) tables

  all_asked : (word : List ℕ) → bytes_eq command word ≡ true → (word ≡ sample_word → ⊥) → (tables : List TableWord) → table_words more ≡ Some tables → AllAsked tables
  unfolding NotSample
  all_asked word h differ tables is =
      let never : NotSample command = no_sample command word h differ in
      (second command a (b ∷ more) never, third command a b more never, files (command ∷ a ∷ b ∷ more) tables (λ e. never (first_is command sample_word e)) is)

  by_eval : bytes_eq command (codes "eval") ≡ true → (tables : Option (List TableWord)) → table_words more ≡ tables
      → Held (command ∷ a ∷ b ∷ more) (option_map (λ tables. Asked.OfEval a b tables) tables)
  by_eval h None is = tt
  by_eval h (Some tables) is = all_asked (codes "eval") h eval_differs tables is

  by_run : bytes_eq command (codes "run") ≡ true → (tables : Option (List TableWord)) → table_words more ≡ tables
      → Held (command ∷ a ∷ b ∷ more) (option_map (λ tables. Asked.OfRun a b tables) tables)
  by_run h None is = tt
  by_run h (Some tables) is = all_asked (codes "run") h run_differs tables is

  by_tables : (e r : Bool) → bytes_eq command (codes "eval") ≡ e → bytes_eq command (codes "run") ≡ r
      → Held (command ∷ a ∷ b ∷ more) (cond e (over_tables (Asked.OfEval a b) more) (cond r (over_tables (Asked.OfRun a b) more) (no_more (of_two command a b) more)))
  by_tables true r h k = by_eval h (table_words more) refl
  by_tables false true h k = by_run k (table_words more) refl
  by_tables false false h k = by_more command a b more

held : FilesAsked → (words : List (List ℕ)) → Held words (command_of words)
held files [] = tt
held files (command ∷ []) = tt
held files (command ∷ a ∷ []) = by_one command a (bytes_eq command (codes "check")) (bytes_eq command (codes "sample")) refl
held files (command ∷ a ∷ b ∷ more) = by_tables command a b more files (bytes_eq command (codes "eval")) (bytes_eq command (codes "run")) refl refl

shown : (words : List (List ℕ)) (asked : Option Command) → Held words (option_map view asked) → IfSome asked (λ command. Asks (view command) words)
shown words None h = tt
shown words (Some command) h = h

pub asks_if : (words : List (List ℕ)) (r : Result (Option Command) NoMemory) → IfOk r (λ asked. option_map view asked ≡ command_of words) → FilesAsked
    → IfOk r (λ asked. IfSome asked (λ command. Asks (view command) words))
asks_if words (Ok asked) is files = shown words asked (subst (Held words) (sym is) (held files words))
asks_if words (Err e) is files = tt
