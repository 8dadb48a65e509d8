use Rattle.std.proofs.Common.{rules, ap, ◌≡◌, length, chars, nat_le}
use Rattle.std.proofs.lemmas.Str.{chars_from_encodes}
use Rattle.table_tests.proofs.row_tests.text_fits.Goals as goal

pub returns : goal.returns
returns c =
    let counted : c.count.result ≡ length (chars c.args.text.now) = search (rules, chars_from_encodes) in
    ap (λ n. nat_le n c.args.most) counted
