-- For each place of a unit, where the last of the stretches that hold it opens.
use Rattle.std.specs.Prelude.{◌≡◌, ℕ, zero, suc, ◌==◌, ◌&&◌, Bool, not, nat_lt, max, List, [], ◌∷◌, length, slice_get, slice_index, ◌<◌, Some, if◌then◌else◌}
use Rattle.std.specs.List.{list_any}
use Rattle.f77_structure.specs.declared.stretches.Stretch.{Stretch}
use Rattle.f77_structure.specs.Stretches.{holds}

-- whether a stretch holds a place, and opens at another one or behind it
abbrev pub opens_behind : (from to : ℕ) → Stretch → Bool
opens_behind from to stretch = holds stretch to && not (nat_lt stretch.opens from)

-- each number tells where the last of the stretches that hold its place opens: it is one more than that, and 0 without one
pub record AreOpeners (stretches : List Stretch) (openers : List ℕ) : Type 0 where
  pub at : (from to opener : ℕ) → slice_get openers to ≡ Some opener → nat_lt from opener ≡ list_any (opens_behind from to) stretches

-- the farthest place to which stretches run that open at a place, where this is the farthest one so far
abbrev pub farthest_from : (so_far opens : ℕ) → List Stretch → ℕ
farthest_from so_far opens [] = so_far
farthest_from so_far opens (stretch ∷ stretches) = farthest_from (if stretch.opens == opens then max so_far stretch.last else so_far) opens stretches

-- the same; 0 where none opens there
abbrev pub farthest : (opens : ℕ) → List Stretch → ℕ
farthest opens stretches = farthest_from 0 opens stretches

-- for each of so many places the farthest one to which a stretch runs that opens there
pub record AreFarthest (stretches : List Stretch) (count : ℕ) (table : List ℕ) : Type 0 where
  pub counted : length table ≡ count
  pub at : (opens : ℕ) → opens < count → slice_index table opens ≡ farthest opens stretches

-- one more than the last place before an end at which a stretch opens that runs to a place at least; 0 without one
abbrev pub opener_before : (runs_to : ℕ → ℕ) → (place end : ℕ) → ℕ
opener_before runs_to place zero = 0
opener_before runs_to place (suc opens) = if nat_lt (runs_to opens) place then opener_before runs_to place opens else suc opens

-- these are the openers of the places from 0 on, where stretches run so far
pub record AreFound (runs_to : List ℕ) (openers : List ℕ) : Type 0 where
  pub at : (place : ℕ) → place < length openers → slice_index openers place ≡ opener_before (slice_index runs_to) place place
