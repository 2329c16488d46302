-- The units of a table.
use Rattle.std.specs.Prelude.{ℕ, List}
use Rattle.slot_rows.specs.declared.table.Table.{Table}

-- the address of each unit, in order
abbrev pub addresses_in : Table → List ℕ
addresses_in table = table.addresses.items
