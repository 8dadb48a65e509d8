-- The items in reach, as code holds them.
use Rattle.std.specs.Prelude.{option_copied}
use Rattle.sql_reader.specs.declared.reach.Item.{Item}
use Rattle.sql_reader.specs.Reaches.{Placed}

abbrev pub item_held : Item → Placed
item_held item = record { alias = item.alias.now; table = option_copied item.table }
