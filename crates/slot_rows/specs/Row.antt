-- The numbers of one slot.
use Rattle.std.specs.Prelude.{ℕ, ℤ, Option, None, slice_get, vec_len, if◌then◌else◌}
use Rattle.slot_rows.specs.declared.row.Row.{Row}
use Rattle.slot_rows.specs.Marks.{is_marked}

-- the number of a unit, where it has one
abbrev pub number_in : Row → ℕ → Option ℤ
number_in row unit = if is_marked row.marks unit then slice_get row.numbers.items unit else None

-- the number of its units
abbrev pub units_in : Row → ℕ
units_in row = vec_len row.numbers
