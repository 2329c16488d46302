-- What is left of an integer in 64 bits.
use Rattle.std.proofs.Common.{◌≡◌, ℕ, suc, ◌+◌, ◌-◌, ◌*◌, ◌/◌, ◌%◌, ◌<◌, ◌≤◌, ◌^◌, ℤ, pos, negsuc, ◌+ℤ◌, ap, ◌∙◌, arith, w64, to_z, ◌⊎◌, inl, inr}
use Rattle.std.specs.Int.{int_wrap}
use Rattle.std.proofs.Math.Facts.{to_z-neg}
use Rattle.std.proofs.lemmas.Int.{ints, SFits-int_wrap}
use Rattle.hyb_base.specs.Wrap.{wrapped, WrapsEach}

halves : (n : ℕ) → (n < 2 ^ 63) ⊎ (2 ^ 63 ≤ n)
halves n = grind arith

-- the upper half of the bits stands for the negative numbers
upper : (m : ℕ) → 2 ^ 63 ≤ m → m < 2 ^ 64 → to_z w64 m ≡ negsuc (2 ^ 64 - suc m)
upper m g l =
    let e : m ≡ 2 ^ 64 - suc (2 ^ 64 - suc m) = omega (arith, g, l) in
    let k : 2 ^ 64 - suc m < 2 ^ 63 = omega (arith, g, l) in
    ap (to_z w64) e ∙ to_z-neg w64 (2 ^ 64 - suc m) k

apart : (z : ℤ) → (i : ℕ) × ((j : ℕ) × (z +ℤ pos (i * 2 ^ 64) ≡ wrapped z +ℤ pos (j * 2 ^ 64)))
unfolding int_wrap
apart (pos n) = let r = n % 2 ^ 64 in
    elim (halves r) as (λ _. (i : ℕ) × ((j : ℕ) × (pos n +ℤ pos (i * 2 ^ 64) ≡ to_z w64 r +ℤ pos (j * 2 ^ 64)))) [
      | inl l ↦ (0, (n / 2 ^ 64, omega (arith, ints, l)))
      | inr g ↦ (0, (n / 2 ^ 64 + 1, rw (upper r g (omega arith)) (omega (arith, ints, g))))
    ]
apart (negsuc n) = let r = 2 ^ 64 - 1 - n % 2 ^ 64 in
    elim (halves r) as (λ _. (i : ℕ) × ((j : ℕ) × (negsuc n +ℤ pos (i * 2 ^ 64) ≡ to_z w64 r +ℤ pos (j * 2 ^ 64)))) [
      | inl l ↦ (n / 2 ^ 64 + 1, (0, omega (arith, ints, l)))
      | inr g ↦ (n / 2 ^ 64 + 1, (1, rw (upper r g (omega arith)) (omega (arith, ints, g))))
    ]

pub wraps_each : WrapsEach
wraps_each z = record { in_range = SFits-int_wrap w64 z; apart = apart z }
