-- What is known of files.
use Rattle.std.specs.Prelude.{◌≡◌, ℕ, ◌≤◌, ◌==◌, Bool, ◌&&◌, nat_lt, List, take, drop, length, Option, None, Some, if◌then◌else◌}
use Rattle.hyb_base.specs.Count.{next_count}

-- the content of each name, where it is told; how often a read has failed; how often an end was given;
-- the names that may be asked for
pub record FilesSeen : Type 0 where
  pub content : List ℕ → Option (List ℕ)
  pub faults : ℕ
  pub ends : ℕ
  pub may_read : List ℕ → Bool

-- where the content is told, it has so many bytes from a place, and the buffer begins with them
abbrev pub FillsFrom : Option (List ℕ) → ℕ → ℕ → List ℕ → Type 0
FillsFrom None from n buffer = Unit {0}
FillsFrom (Some bytes) from n buffer = (n ≤ length (drop from bytes)) × (take n buffer ≡ take n (drop from bytes))

-- where the content is told, it has no byte from a place
abbrev pub IsEnd : Option (List ℕ) → ℕ → Type 0
IsEnd None from = Unit {0}
IsEnd (Some bytes) from = length bytes ≤ from

-- the number of ends given, after so many bytes were given to a buffer of so many:
-- one more where there was room and nothing was given
abbrev pub ends_after : ℕ → ℕ → ℕ → ℕ
ends_after given room ends = if given == 0 && nat_lt 0 room then next_count ends else ends
