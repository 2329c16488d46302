-- The picks of a schedule.
use Rattle.std.specs.Prelude.{ℕ, ◌+◌, ◌*◌, ◌/◌, ◌%◌, ◌^◌, ◌<◌, ℤ, pos, bit_xor, length, slice_index_or}
use Rattle.std.specs.Prelude as std
use Rattle.std.specs.Int.{w64, cast_unsigned}
use Rattle.sched_text.specs.declared.schedule.Picks.{Picks}
use Rattle.sched_text.specs.declared.schedule.Picks.TheVariants.{List, Mix}

-- the pick of step k of a list: the element at k modulo their number, by its 64 bits
abbrev pub listed_pick : std.List ℤ → ℕ → ℕ
listed_pick picks k = cast_unsigned w64 (slice_index_or picks (k % length picks) (pos 0))

-- a number, with the bits that lie n places higher laid over it by exclusive or
abbrev pub stirred : ℕ → ℕ → ℕ
stirred n z = bit_xor z (z / 2 ^ n)

-- a sum and a product modulo 2^64
abbrev pub plus : ℕ → ℕ → ℕ
plus a b = (a + b) % 2 ^ 64

abbrev pub times : ℕ → ℕ → ℕ
times a b = (a * b) % 2 ^ 64

-- the state of SplitMix64 at step k
abbrev pub state_at : (seed k : ℕ) → ℕ
state_at seed k = plus seed (times (plus k 1) 0x9E3779B97F4A7C15)

-- what SplitMix64 makes of a state: two rounds and a last one
abbrev pub first_round : ℕ → ℕ
first_round z = times (stirred 30 z) 0xBF58476D1CE4E5B9

abbrev pub second_round : ℕ → ℕ
second_round z = times (stirred 27 z) 0x94D049BB133111EB

-- the pick of step k that is mixed from a seed
unfoldable pub mixed_pick : (seed k : ℕ) → ℕ
mixed_pick seed k = stirred 31 (second_round (first_round (state_at seed k)))

-- the pick of step k, counted from 0
abbrev pub pick_of : Picks → ℕ → ℕ
pick_of (List picks) k = listed_pick picks k
pick_of (Mix seed) k = mixed_pick seed k

-- there is a pick: a list has one at least
abbrev pub HasPick : Picks → Type 0
HasPick (List picks) = 0 < length picks
HasPick (Mix seed) = Unit {0}
