use Rattle.std.proofs.Common.{rules, ◌≡◌, sym, subst, decimal, arith}
use Rattle.std.specs.Str.{IsUtf8}
use Rattle.std.proofs.lemmas.Fmt.{IsAscii-decimal}
use Rattle.std.proofs.lemmas.Str.{IsUtf8-from_ascii}
use Rattle.std.proofs.lemmas.Str.Ascii.{IsAscii-cons}
use Rattle.path_lowering.specs.Emitted.{alias_of}
use Rattle.path_lowering.proofs.columns.alias_name.Goals as goal

pub from_bytes-requires-clause-utf8 : goal.from_bytes-requires-clause-utf8
from_bytes-requires-clause-utf8 c =
    let is : c.as_slice.result.now ≡ alias_of c.args.prefix c.args.number = search rules in
    subst IsUtf8 (sym is) (IsUtf8-from_ascii (alias_of c.args.prefix c.args.number)
    (IsAscii-cons c.args.prefix (decimal c.args.number) c.requires (IsAscii-decimal c.args.number (omega arith))))
