-- What holds of each number from 1 to a count, and sums over these numbers.
use Rattle.std.specs.Prelude.{ℕ, zero, suc, ◌+◌, ℤ, pos, negsuc, Bool, true, ◌&&◌}

-- whether a test holds of each number from 1 to n
abbrev pub each_to : ℕ → (ℤ → Bool) → Bool
each_to zero test = true
each_to (suc n) test = each_to n test && test (pos (suc n))

-- the sum of what a function gives of each number from 1 to n
abbrev pub sum_to : ℕ → (ℤ → ℕ) → ℕ
sum_to zero f = 0
sum_to (suc n) f = sum_to n f + f (pos (suc n))

-- a count as a number of turns: 0 or less is none
abbrev pub turns_of : ℤ → ℕ
turns_of (pos n) = n
turns_of (negsuc n) = 0
