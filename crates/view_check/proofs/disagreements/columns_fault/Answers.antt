use Rattle.std.proofs.Common.{rules, ◌≡◌, ◌∙◌, ◌+◌, ◌<◌, ◌≤◌, ◌++◌, [], ◌∷◌, List, ℕ, not, Some, None, Option, length, get_or, drop, map, cond, sym, ap, subst, is_some}
use Rattle.std.proofs.Common.{slice_get, true, bytes_eq, Bor, MatchOption}
use Rattle.std.specs.List.{list_any}
use Rattle.first_faults.specs.Faults.{first_of, when}
use Rattle.first_faults.specs.Names.{is_among}
use Rattle.view_check.specs.Firsts.{bad_names, code_of}
use Rattle.view_check.proofs.AgainstLemmas.{block_against}
use Rattle.view_check.proofs.disagreements.columns_fault.Goals as goal

pub returns-clause-found : goal.returns-clause-found
returns-clause-found c =
    let outside : c.is_one_outside-outside.result ≡ list_any (λ n. not (is_among n c.args.clause.1.now)) (bad_names c.args.by.1 c.args.by.0.now c.args.at.1.now) =
    c.is_one_outside-outside.ensures
    ∙ ap (λ l. list_any (λ n. not (is_among n c.in_ok-except.except)) (map (λ (n : Bor (List ℕ)). n.now) l)) c.as_slice.ensures
    ∙ ap (list_any (λ n. not (is_among n c.in_ok-except.except))) c.in_ok-bad.ensures
    ∙ ap (λ e. list_any (λ n. not (is_among n e)) (bad_names c.args.by.1 c.args.by.0.now c.args.at.1.now)) c.in_ok-except.ensures in
    let code : c.code_of-code.result ≡ code_of c.args.by.1 = search rules in
    c.note-found.ensures
    ∙ ap (λ b. first_of c.args.state.found (when b c.code_of-code.result c.args.clause.0)) outside
    ∙ ap (λ n. first_of c.args.state.found (when (list_any (λ n. not (is_among n c.args.clause.1.now)) (bad_names c.args.by.1 c.args.by.0.now c.args.at.1.now)) n
    c.args.clause.0)) code
    ∙ block_against c.args.by.1 c.args.by.0.now c.args.at.1.now c.args.clause.1.now c.args.clause.0 c.args.state.found
