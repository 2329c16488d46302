-- Numbers that leave room for sums in 64 bits.
use Rattle.std.specs.Prelude.{◌^◌, ℤ, pos, neg_ℤ, ◌<ℤ◌}

-- strictly between -2 ^ 62 and 2 ^ 62
abbrev pub IsNear : ℤ → Type 0
IsNear v = (neg_ℤ (pos (2 ^ 62)) <ℤ v) × (v <ℤ pos (2 ^ 62))
