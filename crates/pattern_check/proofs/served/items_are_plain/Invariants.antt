use Rattle.std.proofs.Common.{◌≡◌, drop}
use Rattle.std.specs.List.{list_all}
use Rattle.pattern_check.specs.Served.{is_plain_item}
use Rattle.pattern_check.proofs.served.items_are_plain.Given as goal

abbrev pub invariant-loop-item : goal.invariant-loop-item
invariant-loop-item l = list_all is_plain_item (drop l.item-index l.items) ≡ list_all is_plain_item l.items
