use Rattle.std.proofs.Common.{rules, ◌≡◌, sym, ap, ◌∙◌, ◌≤◌, true, false, bytes_eq}
use Rattle.std.specs.Prelude.{decimal}
use Rattle.std.specs.Cmp.Lexicographic.{bytes_decides}
use Rattle.pgq_program.proofs.SampleCounts.{count_is, no_count, not_within, other_text}
use Rattle.pgq_program.proofs.words.sample_count.Goals as goal

pub returns-in_default : goal.returns-in_default
returns-in_default c = sym (no_count c.args.word.now c.parse.result c.parse.ensures.value.0 (λ n is least most spelled. c.in_default.not-Ok n is))

pub returns-then-count-lt1 : goal.returns-then-count-lt1
returns-then-count-lt1 c = sym (not_within c.args.word.now c.parse.result c.parse.ensures.value.0 c.in-Ok.count c.in-Ok.is c.then-count-lt1.either)

pub returns-then-eq : goal.returns-then-eq
returns-then-eq c =
    let is : c.as_str.result.now ≡ decimal c.in-Ok.count = search rules in
    sym (count_is c.args.word.now c.in-Ok.count c.if-count-lt1.false c.if-count-gt-MOST_PERSONS.false
    (sym ((bytes_decides c.as_str.result.now c.args.word.now).0 (sym c.if-eq.ensures)) ∙ is))

pub returns : goal.returns
returns c =
    let is : c.as_str.result.now ≡ decimal c.in-Ok.count = search rules in
    sym (other_text c.args.word.now c.parse.result c.parse.ensures.value.0 c.in-Ok.count c.in-Ok.is (sym (ap (λ t. bytes_eq t c.args.word.now) is) ∙ sym c.if-eq.ensures))
