-- Rows over cells of which each has a mode.
use Rattle.std.specs.Prelude.{ℕ, ℤ, Option, None, Some, length, slice_get}
use Rattle.hyb_base.specs.declared.ops.RedOp.{RedOp}
use Rattle.interleaving.specs.ListStores.{store_of}
use Rattle.interleaving.specs.Modes.{Mode, Shared, Private, Reduce}
use Rattle.turn_rows.specs.declared.cell_mode.CellMode.{CellMode}
use Rattle.turn_rows.specs.declared.cell_mode.CellMode.TheVariants.{Shared as shared, Private as own_copy, Reduce as own_partial}
use Rattle.turn_rows.specs.declared.mode_rows.ModeRows.{ModeRows}
use Rattle.turn_rows.specs.declared.own_row.OwnRow.{OwnRow}

-- the mode that a value of the type is
abbrev pub mode_of : CellMode → Mode RedOp
mode_of shared = Shared
mode_of own_copy = Private
mode_of (own_partial op) = Reduce op

-- a cell without a listed mode is shared
abbrev pub mode_from : Option CellMode → Mode RedOp
mode_from None = Shared
mode_from (Some mode) = mode_of mode

abbrev pub mode_at : ModeRows → ℕ → Mode RedOp
mode_at rows a = mode_from (slice_get rows.modes.items a)

-- what a row has of its own
abbrev pub own_of : OwnRow → ℕ → Option ℤ
own_of row = store_of None row.values.items

abbrev pub own_from : Option OwnRow → ℕ → Option ℤ
own_from None = λ a. None
own_from (Some row) = own_of row

abbrev pub own_in : ModeRows → ℕ → ℕ → Option ℤ
own_in rows row = own_from (slice_get rows.rows.items row)

-- the number of rows
abbrev pub count_of : ModeRows → ℕ
count_of rows = length rows.rows.items
