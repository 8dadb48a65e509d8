use Rattle.std.proofs.Common.{◌≡◌, [], ◌∷◌, ◌++◌, map, nat_eq, None, subst, sym, ap, ◌∙◌}
use Rattle.std.specs.HashMap.{get_by, UpdatesBy}
use Rattle.std.specs.Cmp.Lexicographic.{pointwise}
use Rattle.normal_form.specs.Rows.{seen}
use Rattle.normal_form.specs.Groups.{found}
use Rattle.normal_form.proofs.Gathering.{map-parts}
use Rattle.normal_form.proofs.GroupLemmas.{put_behind}
use Rattle.normal_form.proofs.groups.put.Goals.{in-None, in-Some}
use Rattle.normal_form.proofs.groups.put.Goals as goal

pub returns : goal.returns
returns c =
    let there : c.remove.result ≡ get_by (λ k. pointwise nat_eq c.args.key.items k.items) c.args.groups =
    subst (λ ks. c.remove.result ≡ get_by (λ k. pointwise nat_eq ks k.items) c.args.groups) c.as_slice.ensures.value c.remove.ensures.value in
    let out : UpdatesBy (λ x y. pointwise nat_eq x.items y.items) (λ k. pointwise nat_eq c.args.key.items k.items) c.args.groups c.remove.new.self None =
    subst (λ ks. UpdatesBy (λ x y. pointwise nat_eq x.items y.items) (λ k. pointwise nat_eq ks k.items) c.args.groups c.remove.new.self None) c.as_slice.ensures.value
    c.remove.ensures.updates in
    let group : map seen c.match-remove.group ≡ found c.remove.result =
    elim c.match-remove.branch [
      | in-None w ↦ ap (map seen) (w.group-is ∙ w.new-group.ensures) ∙ sym (ap found w.in-None.is)
      | in-Some w ↦ ap (map seen) w.group-is ∙ sym (ap found w.in-Some.is)
    ] in
    put_behind c.args.key.items c.args.groups c.remove.new.self c.insert.new.self c.remove.result c.push.new.self c.args.part there out
    (ap (map seen) c.in_ok-push.ensures.ok ∙ map-parts seen c.match-remove.group (c.args.part ∷ []) ∙ ap (λ l. l ++ seen c.args.part ∷ []) group)
    c.in_ok-insert.ensures.updates
