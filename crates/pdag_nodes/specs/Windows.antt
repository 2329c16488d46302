-- Windows at each number from 1 to a count, and whether they follow each other.
use Rattle.std.specs.Prelude.{ℕ, zero, suc, ℤ, pos, Bool, true, false, ◌&&◌, Option, Some, None, is_some, int_le, int_lt, if◌then◌else◌}
use Rattle.pdag_nodes.specs.Turns.{each_to}

-- the reads of what is asked, or none
abbrev pub where_asked : Bool → ℕ → ℕ
where_asked asked reads = if asked then reads else 0

-- a window by its ends, where both have a value
abbrev pub window_by : Option ℤ → Option ℤ → Option (ℤ × ℤ)
window_by (Some low) (Some high) = Some (low, high)
window_by (Some low) None = None
window_by None high = None

abbrev pub Windows : Type 0
Windows = ℤ → Option (ℤ × ℤ)

-- whether a window has a number
abbrev pub is_full : ℤ × ℤ → Bool
is_full window = int_le window.0 window.1

-- whether a window is behind an earlier one: above it where they rise, else below it
abbrev pub is_behind : (rising : Bool) (earlier later : ℤ × ℤ) → Bool
is_behind rising earlier later = if rising then int_lt earlier.1 later.0 else int_lt later.1 earlier.0

-- whether two windows are in order: an empty one is in nobody's way
abbrev pub are_in_order : Bool → Option (ℤ × ℤ) → Option (ℤ × ℤ) → Bool
are_in_order rising (Some earlier) (Some later) = if is_full earlier && is_full later then is_behind rising earlier later else true
are_in_order rising (Some earlier) None = false
are_in_order rising None later = false

-- whether the window after n of them is in order with each of these
abbrev pub follows_all : Bool → Windows → ℕ → Bool
follows_all rising windows n = each_to n (λ k. are_in_order rising (windows k) (windows (pos (suc n))))

-- whether all windows from 1 to n are there, and each two of them are in order
abbrev pub are_ascending : Bool → Windows → ℕ → Bool
are_ascending rising windows zero = true
are_ascending rising windows (suc n) = are_ascending rising windows n && is_some (windows (pos (suc n))) && follows_all rising windows n

-- ---- the same, in one pass: the last window that isn't empty, where all is well by now

abbrev pub follows : Bool → Option (ℤ × ℤ) → (ℤ × ℤ) → Bool
follows rising None window = true
follows rising (Some last) window = is_behind rising last window

abbrev pub passed : Bool → Option (ℤ × ℤ) → (ℤ × ℤ) → Option (Option (ℤ × ℤ))
passed rising last window = if is_full window then (if follows rising last window then Some (Some window) else None) else Some last

abbrev pub pass : Bool → Option (Option (ℤ × ℤ)) → Option (ℤ × ℤ) → Option (Option (ℤ × ℤ))
pass rising (Some last) (Some window) = passed rising last window
pass rising (Some last) None = None
pass rising None window = None

abbrev pub passed_to : Bool → Windows → ℕ → Option (Option (ℤ × ℤ))
passed_to rising windows zero = Some None
passed_to rising windows (suc n) = pass rising (passed_to rising windows n) (windows (pos (suc n)))
