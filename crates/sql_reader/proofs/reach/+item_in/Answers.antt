use Rattle.std.proofs.Common.{◌≡◌, ◌∙◌, sym, ap, Some, None, option_map, bytes_eq}
use Rattle.sql_algebra.proofs.ReachLemmas.{find_first, find_second}
use Rattle.sql_reader.specs.Held.{item_held}
use Rattle.sql_reader.specs.Reaches.{Placed, item_of}
use Rattle.sql_reader.specs.declared.reach.Scope.{out-Scope}
use Rattle.sql_reader.proofs.ScopeLemmas.{outside, at_scope}
use Rattle.sql_reader.proofs.reach.+item_in.Goals as goal

pub returns-in-Some : goal.returns-in-Some
returns-in-Some t c =
    let scope = out-Scope c.args.scope.now in
    let here : item_of scope.own.now c.args.alias.now ≡ Some (item_held c.in-Some.item.now) = sym c.item.ensures ∙ ap (option_map (λ item. item_held item.now)) c.in-Some.is in
    sym (ap (λ r. item_of r c.args.alias.now) (at_scope c.args.scope.now) ∙ find_first (λ (p : Placed). bytes_eq p.alias c.args.alias.now) scope.own.now (outside scope.outer)
    (item_held c.in-Some.item.now) here)

pub returns-in-Some-outer : goal.returns-in-Some-outer
returns-in-Some-outer t c =
    let scope = out-Scope c.args.scope.now in
    let none : item_of scope.own.now c.args.alias.now ≡ None = sym c.item.ensures ∙ ap (option_map (λ item. item_held item.now)) c.in-None.is in
    c.item_in.ensures ∙ sym (ap (λ r. item_of r c.args.alias.now) (at_scope c.args.scope.now)
    ∙ find_second (λ (p : Placed). bytes_eq p.alias c.args.alias.now) scope.own.now (outside scope.outer) none
    ∙ ap (λ o. item_of (outside o) c.args.alias.now) c.in-Some-outer.is)
