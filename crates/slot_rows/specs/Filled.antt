-- Words of marks, and the list of those that have a mark.
use Rattle.std.specs.Prelude.{◌≡◌, ◌≢◌, ℕ, ◌<◌, nat_lt, List, length, slice_index, sum_by, if◌then◌else◌}

-- 1 for a word that has a mark
abbrev pub one_if_filled : ℕ → ℕ
one_if_filled word = if nat_lt 0 word then 1 else 0

-- the list has the place of each word that has a mark, once, and no other
pub record AreFilled (words filled : List ℕ) : Type 0 where
  pub counted : length filled ≡ sum_by one_if_filled words
  pub marked : (k : ℕ) → k < length filled → 0 < slice_index words (slice_index filled k)
  pub once : (j k : ℕ) → j < k → k < length filled → slice_index filled j ≢ slice_index filled k
