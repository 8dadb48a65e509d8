use Rattle.std.proofs.Common.{◌≡◌, ◌<◌, ◌+◌, ◌∙◌, ℕ, List, Option, None, Some, false, option_map, take, length, drop, ap, sym, subst}
use Rattle.std.proofs.lemmas.Bool.Decides.{Decides-eqb}
use Rattle.pgq_base.specs.Files.{after_equals}
use Rattle.table_words.specs.TableWords.{Names}
use Rattle.table_words.proofs.Asking.{no_sign, no_file, no_name}
use Rattle.table_words.proofs.word.read_word.Goals as goal

-- the file behind the place of a `=`
abbrev Behind : Option ℕ → List ℕ → Type 0
Behind place word = option_map (λ place. drop (place + 1) word) place ≡ after_equals false word

pub returns-in_default : goal.returns-in_default
returns-in_default c = no_sign c.args.word.now c.equals_place.result (subst (Behind c.equals_place.result) c.as_bytes.ensures.value c.equals_place.ensures.file) c.in_default.is

pub returns-then-is_empty : goal.returns-then-is_empty
returns-then-is_empty c =
    let none : length c.range_from-file.result.now ≡ 0 = (Decides-eqb (length c.range_from-file.result.now) 0).0 (sym c.is_empty.ensures ∙ c.if-is_empty.true) in
    no_file c.args.word.now c.in-Some.place (subst (Behind (Some c.in-Some.place)) c.as_bytes.ensures.value c.in-Some.ensures.file)
    (ap length (sym c.range_from-file.ensures.value) ∙ none)

pub returns-in-None : goal.returns-in-None
returns-in-None c =
    let none = subst (Names (take c.in-Some.place c.as_bytes-2.result.now)) c.in-None.is c.in_ok-table.ensures in
    no_name c.args.word.now c.in-Some.place (subst (λ w. c.in-Some.place < length w) c.as_bytes.ensures.value c.in-Some.ensures.within)
    (subst (Behind (Some c.in-Some.place)) c.as_bytes.ensures.value c.in-Some.ensures.file)
    (subst (λ w. Names (take c.in-Some.place w) None) c.as_bytes-2.ensures.value none)
