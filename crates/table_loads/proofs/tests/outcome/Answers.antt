use Rattle.std.proofs.Common.{◌≡◌, ◌∙◌, ◌-◌, ◌≤◌, Some, false, length, take, drop, ap, sym, subst, arith}
use Rattle.std.specs.Prelude.{All, bytes_eq}
use Rattle.std.proofs.lemmas.List.{take_all, length-drop}
use Rattle.pgq_base.specs.Files.{IsAsked, sample_word}
use Rattle.table_words.specs.TableWords.{table_words}
use Rattle.table_words.proofs.Lists.{other_command}
use Rattle.table_loads.proofs.tests.outcome.Goals as goal

pub load_instance-loaded-requires-clause-asked : goal.load_instance-loaded-requires-clause-asked
load_instance-loaded-requires-clause-asked g c =
    let words = c.args.words.now in
    let rest : take (length words - 3) (drop 3 words) ≡ drop 3 words = take_all (length words - 3) (drop 3 words) (omega (arith, length-drop 3 words)) in
    let asked : table_words (drop 3 words) ≡ Some c.in-Some.asked = ap table_words (sym rest) ∙ sym c.in_ok-asked.ensures ∙ c.in-Some.is in
    let differs : bytes_eq c.command-item.result sample_word ≡ false = subst (λ t. bytes_eq t sample_word ≡ false) c.as_text.ensures.value (sym c.eq.ensures ∙ c.if-eq.false) in
    let some : 1 ≤ length words = omega (arith, c.in-len3-up.len_at_least) in
    let all = c.files_are_asked.ensures words c.in-Some.asked (other_command words c.command-item.result some c.command-item.is differs) asked in
    subst (λ ws. All (λ word. IsAsked word.file ws) c.as_slice-2.result.now) (sym c.requires.words) (subst (All (λ word. IsAsked word.file words)) (sym c.as_slice-2.ensures) all)
