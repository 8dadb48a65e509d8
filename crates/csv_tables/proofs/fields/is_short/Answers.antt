use Rattle.std.proofs.Common.{arith, rules, ap, ◌≡◌, ◌≤◌, length, chars, nat_le}
use Rattle.std.proofs.lemmas.Str.{chars_from_encodes}
use Rattle.csv_tables.proofs.FieldLemmas.{characters_within}
use Rattle.csv_tables.proofs.fields.is_short.Goals as goal

pub returns-then-text-most : goal.returns-then-text-most
returns-then-text-most c =
    let short : length (chars c.args.text.now) ≤ length c.args.text.now = characters_within c.args.text.now c.utf8.text in
    grind (arith, short)

pub returns-else-text-most : goal.returns-else-text-most
returns-else-text-most c =
    let counted : c.count.result ≡ length (chars c.args.text.now) = search (rules, chars_from_encodes) in
    ap (λ n. nat_le n c.args.most) counted
