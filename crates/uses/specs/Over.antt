-- What holds at some value of an index that goes up from 1.
use Rattle.std.specs.Prelude.{ℤ, pos, ◌≤ℤ◌, ◌<ℤ◌}

-- at a value from 1 to a count: at none where the count is 0 or negative
pub record Over (count : ℤ) (at : ℤ → Type 0) : Type 0 where
  pub index : ℤ
  pub from_one : pos 1 ≤ℤ index
  pub in_count : index ≤ℤ count
  pub holds : at index

-- at a value from 1 to a limit less 1
pub record Before (limit : ℤ) (at : ℤ → Type 0) : Type 0 where
  pub index : ℤ
  pub from_one : pos 1 ≤ℤ index
  pub in_order : index <ℤ limit
  pub holds : at index

-- at two values from 1 to a count, one before the other
pub record Pair (count : ℤ) (at : (earlier later : ℤ) → Type 0) : Type 0 where
  pub earlier : ℤ
  pub later : ℤ
  pub from_one : pos 1 ≤ℤ earlier
  pub in_order : earlier <ℤ later
  pub in_count : later ≤ℤ count
  pub holds : at earlier later
