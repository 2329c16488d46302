-- Counts that a program keeps in 64 bits: each stands still once it is at 2 ^ 64 - 1.
use Rattle.std.specs.Prelude.{◌≡◌, ◌↔◌, ℕ, ◌+◌, ◌-◌, ◌^◌, ◌<◌, ◌≤◌, min}

-- the count after one more
abbrev pub next_count : ℕ → ℕ
next_count n = min (n + 1) (2 ^ 64 - 1)

-- the count rose by one or more, or stands at its end
abbrev pub Rose : ℕ → ℕ → Type 0
Rose before after = min (before + 1) (2 ^ 64 - 1) ≤ after

-- below its end the count after one more is one greater, and a count rose exactly where it is greater
abbrev pub CountsRise : Type 0
CountsRise = (before after : ℕ) → before < 2 ^ 64 - 1 → (next_count before ≡ before + 1) × (Rose before after ↔ (before < after))
