-- What a commit of private copies leaves.
use Rattle.std.specs.Prelude.{◌≡◌, ℕ, ◌<◌, ℤ, List, Option, length, unwrap_or, slice_index_or}
use Rattle.slot_rows.specs.declared.rows.Rows.{Rows}
use Rattle.priv_copies.specs.declared.copies.Copies.{Copies}

-- what the slots wrote
abbrev pub rows_of : Copies → Rows
rows_of copies = copies.rows

-- the values after a commit: what was written where something was, and the old value elsewhere
pub record Overlays (written : ℕ → Option ℤ) (old new : List ℤ) : Type 0 where
  pub size : length new ≡ length old
  pub values : (a : ℕ) (d : ℤ) → a < length old → slice_index_or new a d ≡ unwrap_or (written a) (slice_index_or old a d)
