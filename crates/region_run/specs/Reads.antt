-- Which reads and steps read the cells themselves.
use Rattle.std.specs.Prelude.{ℕ, ℤ, Bool, true, false, ◌==◌, Option, None, Some, if◌then◌else◌}
use Rattle.hyb_base.specs.Count.{next_count}
use Rattle.hyb_base.specs.declared.ops.RedOp.{RedOp}
use Rattle.interleaving.specs.Modes.{Mode, Shared, Private, Reduce}
use Rattle.region_run.specs.declared.asks.Asked.{Asked}
use Rattle.region_run.specs.declared.asks.Asked.TheVariants.{Reads, Writes, Moves, Ends, Faults}

-- whether the cell itself answers a read: it is shared, or it is private and the iteration has no copy of it
abbrev pub is_from_cell : Mode RedOp → (own : Option ℤ) → Bool
is_from_cell Shared own = true
is_from_cell Private None = true
is_from_cell Private (Some copy) = false
is_from_cell (Reduce op) own = false

-- whether a step reads a cell itself: of the loop's variable each iteration has its own value
abbrev pub reads_cell : {F : Type 0} → (variable : ℕ) → (ℕ → Mode RedOp) → (own : ℕ → Option ℤ) → Asked F → Bool
reads_cell variable modes own (Reads address by) = if variable == address then false else is_from_cell (modes address) (own address)
reads_cell variable modes own (Writes address value by) = false
reads_cell variable modes own Moves = false
reads_cell variable modes own Ends = false
reads_cell variable modes own (Faults fault) = false

-- the number of reads, with one more where a cell was read
abbrev pub with_read : (is_read : Bool) → ℕ → ℕ
with_read is_read count = if is_read then next_count count else count
