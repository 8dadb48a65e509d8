use Rattle.std.proofs.Common.{◌≡◌, ◌∙◌, ◌&&◌, not, map, sym, ap, true, false, Bor, List, ℕ}
use Rattle.first_faults.specs.Names.{is_among}
use Rattle.view_check.specs.GraphRules.{has_column}
use Rattle.view_check.proofs.ClauseLemmas.{column_shown}
use Rattle.view_check.proofs.clauses.has_other_column.Goals as goal

pub returns-then-known : goal.returns-then-known
returns-then-known c =
    let known : has_column c.args.entry.now c.args.name.now ≡ true = sym c.has_column-known.ensures ∙ c.if-known.true in
    ap not c.has-left_out.ensures
    ∙ ap (λ b. b && not (is_among c.args.name.now c.args.names.now)) (sym known)
    ∙ column_shown c.args.entry.now c.args.names.now c.args.name.now

pub returns-else-known : goal.returns-else-known
returns-else-known c =
    let known : has_column c.args.entry.now c.args.name.now ≡ false = sym c.has_column-known.ensures ∙ c.if-known.false in
    c.if-known.false
    ∙ ap (λ b. b && not (is_among c.args.name.now c.args.names.now)) (sym known)
    ∙ column_shown c.args.entry.now c.args.names.now c.args.name.now
