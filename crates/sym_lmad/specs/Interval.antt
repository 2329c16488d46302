-- Closed intervals of numbers: with the first end above the second they have no number.
use Rattle.std.specs.Prelude.{ℤ, ◌≤ℤ◌}

abbrev pub IsIn : (low high : ℤ) → ℤ → Type 0
IsIn low high z = (low ≤ℤ z) × (z ≤ℤ high)

-- no number is in both
abbrev pub AreDisjoint : (low high other_low other_high : ℤ) → Type 0
AreDisjoint low high other_low other_high = (z : ℤ) → IsIn low high z → IsIn other_low other_high z → ⊥

-- each number of the first is in the second
abbrev pub IsIncluded : (low high other_low other_high : ℤ) → Type 0
IsIncluded low high other_low other_high = (z : ℤ) → IsIn low high z → IsIn other_low other_high z
