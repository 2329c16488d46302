-- Regions by their places.
use Rattle.std.specs.Prelude.{ℕ, ◌≡◌, ◌+◌, ◌<◌, ◌≤◌, List, length, slice_set, slice_index, slice_index_or, Option}
use Rattle.hyb_base.specs.declared.ops.RedOp.{RedOp}
use Rattle.dependence.specs.declared.modes.Pair.{Pair}
use Rattle.loop_trace.specs.declared.marks.Marks.{Marks}
use Rattle.loop_trace.specs.Marks.{IsAfterRead, IsAfterWrite}

-- the place of the region of an address, by the starts of regions
pub record IsPlace (starts : List ℕ) (a place : ℕ) : Type 0 where
  pub within : 0 < length starts → place < length starts
  pub from : 0 < length starts → slice_index starts 0 ≤ a → slice_index starts place ≤ a
  pub next : place + 1 < length starts → a < slice_index starts (place + 1)

-- marks of which one, at a place, had a read more, or a write
abbrev pub ReadAt : (by : Option RedOp) → (found : Option Pair) → (place : ℕ) → (old new : List Marks) → Type 0
ReadAt by found place old new = place < length old → (after : Marks) × ((new ≡ slice_set old place after) × IsAfterRead (slice_index_or old place after) by found after)

abbrev pub WriteAt : (by : Option RedOp) → (found : Option Pair) → (place : ℕ) → (old new : List Marks) → Type 0
WriteAt by found place old new = place < length old → (after : Marks) × ((new ≡ slice_set old place after) × IsAfterWrite (slice_index_or old place after) by found after)
