-- What words ask for.
use Rattle.std.specs.Prelude.{ℕ, ◌≤◌, List, [], ◌∷◌, cond, find, Option, None, Some, option_map, codes, decimal, bytes_eq, All}
use Rattle.std.specs.List.{range_with_len}
use Rattle.pgq_base.specs.Files.{IsAsked}
use Rattle.table_words.specs.declared.word.TableWord.{TableWord}
use Rattle.table_words.specs.TableWords.{table_words}
use Rattle.pgq_program.specs.declared.words.Command.{Command}
use Rattle.pgq_program.specs.declared.words.Command.TheVariants as c

pub data Asked : Type 0 where
  OfTranslate : List ℕ → List ℕ → Asked
  OfCheck : List ℕ → Asked
  OfCheckQuery : List ℕ → List ℕ → Asked
  OfRun : List ℕ → List ℕ → List TableWord → Asked
  OfEval : List ℕ → List ℕ → List TableWord → Asked
  OfSample : ℕ → Asked

abbrev pub view : Command → Asked
view (c.Translate schema query) = Asked.OfTranslate schema.now query.now
view (c.Check schema) = Asked.OfCheck schema.now
view (c.CheckQuery schema query) = Asked.OfCheckQuery schema.now query.now
view (c.Run schema query tables) = Asked.OfRun schema.now query.now tables
view (c.Eval schema sql tables) = Asked.OfEval schema.now sql.now tables
view (c.Sample count) = Asked.OfSample count

-- how many persons the generated run has: the number from 1 to 2000 that the word is in decimal
unfoldable pub sample_count : List ℕ → Option ℕ
sample_count word = find (λ n. bytes_eq word (decimal n)) (range_with_len 1 2000)

-- `check SCHEMA`, `sample N`
abbrev pub of_one : List ℕ → List ℕ → Option Asked
of_one command a =
    cond (bytes_eq command (codes "check")) (Some (Asked.OfCheck a)) (cond (bytes_eq command (codes "sample")) (option_map (λ count. Asked.OfSample count) (sample_count a)) None)

-- `translate SCHEMA QUERY`, `check SCHEMA QUERY`
abbrev pub of_two : List ℕ → List ℕ → List ℕ → Option Asked
of_two command a b = cond (bytes_eq command (codes "translate")) (Some (Asked.OfTranslate a b)) (cond (bytes_eq command (codes "check")) (Some (Asked.OfCheckQuery a b)) None)

-- no word more
abbrev pub no_more : Option Asked → List (List ℕ) → Option Asked
no_more asked [] = asked
no_more asked (word ∷ words) = None

-- words that name tables behind the two names
abbrev pub over_tables : (List TableWord → Asked) → List (List ℕ) → Option Asked
over_tables asked more = option_map (λ tables. asked tables) (table_words more)

-- `eval SCHEMA SQL TABLE=FILE ..`, `run SCHEMA QUERY TABLE=FILE ..`, or no word more
abbrev pub of_more : List ℕ → List ℕ → List ℕ → List (List ℕ) → Option Asked
of_more command a b more =
    cond (bytes_eq command (codes "eval")) (over_tables (Asked.OfEval a b) more)
    (cond (bytes_eq command (codes "run")) (over_tables (Asked.OfRun a b) more) (no_more (of_two command a b) more))

-- `translate SCHEMA QUERY`, `check SCHEMA`, `check SCHEMA QUERY`, `run SCHEMA QUERY TABLE=FILE ..`, `eval SCHEMA SQL TABLE=FILE ..` and
-- `sample N`; words of another form ask for nothing
abbrev pub command_of : List (List ℕ) → Option Asked
command_of [] = None
command_of (command ∷ []) = None
command_of (command ∷ a ∷ []) = of_one command a
command_of (command ∷ a ∷ b ∷ more) = of_more command a b more

-- each name of the command is asked by the words, and a count is from 1 to 2000
abbrev pub Asks : Asked → List (List ℕ) → Type 0
Asks (Asked.OfTranslate a b) words = IsAsked a words × IsAsked b words
Asks (Asked.OfCheck a) words = IsAsked a words
Asks (Asked.OfCheckQuery a b) words = IsAsked a words × IsAsked b words
Asks (Asked.OfRun a b tables) words = IsAsked a words × IsAsked b words × All (λ (table : TableWord). IsAsked table.file words) tables
Asks (Asked.OfEval a b tables) words = IsAsked a words × IsAsked b words × All (λ (table : TableWord). IsAsked table.file words) tables
Asks (Asked.OfSample count) words = (1 ≤ count) × (count ≤ 2000)

-- words of another form, and words that name tables: the schema may not have one of these, or it stands twice
abbrev pub MayBeUsage : Option Asked → Type 0
MayBeUsage None = Unit {0}
MayBeUsage (Some (Asked.OfTranslate a b)) = ⊥
MayBeUsage (Some (Asked.OfCheck a)) = ⊥
MayBeUsage (Some (Asked.OfCheckQuery a b)) = ⊥
MayBeUsage (Some (Asked.OfRun a b [])) = ⊥
MayBeUsage (Some (Asked.OfRun a b (table ∷ tables))) = Unit {0}
MayBeUsage (Some (Asked.OfEval a b [])) = ⊥
MayBeUsage (Some (Asked.OfEval a b (table ∷ tables))) = Unit {0}
MayBeUsage (Some (Asked.OfSample count)) = ⊥
