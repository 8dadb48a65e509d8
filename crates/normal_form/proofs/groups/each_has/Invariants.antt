use Rattle.std.proofs.Common.{◌≡◌, ◌∷◌, [], map, drop}
use Rattle.std.specs.List.{list_all}
use Rattle.normal_form.specs.Rows.{seen}
use Rattle.normal_form.specs.Groups.{has_name}
use Rattle.normal_form.proofs.groups.each_has.Given as goal

abbrev pub invariant-loop-part : goal.invariant-loop-part
invariant-loop-part l = list_all (λ part. has_name l.name (part ∷ [])) (map seen (drop l.part-index l.list)) ≡ list_all (λ part. has_name l.name (part ∷ [])) (map seen l.list)
