use Rattle.std.proofs.Common.{◌≡◌, map, drop}
use Rattle.std.specs.List.{list_all}
use Rattle.normal_form.specs.Rows.{seen}
use Rattle.normal_form.specs.Groups.{has_name}
use Rattle.normal_form.proofs.groups.all_have.Given as goal

abbrev pub invariant-loop-row : goal.invariant-loop-row
invariant-loop-row l = list_all (has_name l.name) (map (map seen) (drop l.row-index l.rows)) ≡ list_all (has_name l.name) (map (map seen) l.rows)
