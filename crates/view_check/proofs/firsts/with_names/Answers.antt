use Rattle.std.proofs.Common.{rules, ◌≡◌, ◌∙◌, ◌+◌, ◌<◌, ◌≤◌, ◌++◌, [], ◌∷◌, List, ℕ, Some, None, Option, length, get_or, drop, map, cond, sym, ap, is_some, slice_get, true}
use Rattle.std.proofs.Common.{bytes_eq, Bor}
use Rattle.first_faults.specs.Names.{is_among}
use Rattle.graph_ast.specs.declared.schema.Named.{Named}
use Rattle.view_check.specs.Firsts.{first_named, or_first, all_but}
use Rattle.view_check.proofs.FirstLemmas.{names_step, names_end}
use Rattle.view_check.proofs.firsts.with_names.Goals as goal

pub loop-n-preserved : goal.loop-n-preserved
loop-n-preserved c = λ q.
    let i : ℕ = c.loop-n.n-index in
    let within : i < length c.args.names.now = search rules in
    ap (λ p. or_first p (cond (is_among q (drop (i + 1) c.args.names.now)) (all_but c.args.entry.now c.args.at.1.now c.args.at.0 q) None)) (c.in_ok-firsts.ensures q)
    ∙ names_step (λ (d : Named). d.name) (first_named c.loop-n.firsts q) (all_but c.args.entry.now c.args.at.1.now c.args.at.0 q) q c.args.names.now i c.n-item.result within
    c.n-item.is
    ∙ c.loop-n.invariant q

pub returns : goal.returns
returns c = λ q.
    let end : length c.args.names.now ≤ c.loop-n.n-index = search rules in
    names_end (λ (d : Named). d.name) (first_named c.loop-n.firsts q) (all_but c.args.entry.now c.args.at.1.now c.args.at.0 q) q c.args.names.now c.loop-n.n-index end
    ∙ c.loop-n.invariant q
