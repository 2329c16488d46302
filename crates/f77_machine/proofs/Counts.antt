-- Numbers of a DO-loop in 128 bits.
use Rattle.std.proofs.Common.{◌≡◌, ℕ, suc, ◌*◌, ◌<◌, ◌≤◌, ℤ, pos, negsuc, ◌+ℤ◌, ◌*ℤ◌, ◌≤ℤ◌, ◌∙◌, ap, arith, w64, FitsSigned, IsTrue, ◌⊎◌, inl, inr}
use Rattle.std.specs.Prelude.{unsigned_abs, neg_ℤ}
use Rattle.std.specs.Int.{int_wrap}
use Rattle.std.proofs.lemmas.Int.{ints, int_wrap-add_right, int_wrap_fits}
use Rattle.std.proofs.Math.Nat.{mul-le-mul_right}
use Rattle.f77_meaning.specs.Do.{has_64_bits, value_after}

-- a number between two ends is no greater in size than they are
pub size_between : (z : ℤ) (n : ℕ) → neg_ℤ (pos n) ≤ℤ z → z ≤ℤ pos n → unsigned_abs z ≤ n
size_between (pos m) n l h = omega (arith, ints, h)
size_between (negsuc m) n l h = omega (arith, ints, l)

has_bits : (z : ℤ) → IsTrue (has_64_bits z) → FitsSigned w64 z
has_bits (pos n) h = record { sfits = grind (arith, h) }
has_bits (negsuc n) h = record { sfits = grind (arith, h) }

-- so many times a number is between nothing and more times that number
times_between : (k n : ℕ) (i : ℤ) → k ≤ n → ((pos 0 ≤ℤ (pos k *ℤ i)) × ((pos k *ℤ i) ≤ℤ (pos n *ℤ i))) ⊎ (((pos n *ℤ i) ≤ℤ (pos k *ℤ i)) × ((pos k *ℤ i) ≤ℤ pos 0))
times_between k n (pos m) h =
    let more : k * m ≤ n * m = mul-le-mul_right m h in
    inl (omega (arith, ints), omega (arith, ints, more))
times_between k n (negsuc m) h =
    let more : k * suc m ≤ n * suc m = mul-le-mul_right (suc m) h in
    inr (grind (arith, ints, more), grind (arith, ints))

-- a number between two of 64 bits is one
fits_between : (a z b : ℤ) → FitsSigned w64 a → FitsSigned w64 b → a ≤ℤ z → z ≤ℤ b → FitsSigned w64 z
fits_between a (pos n) b f g l h = record { sfits = grind (arith, ints, g.sfits, h) }
fits_between a (negsuc n) b f g l h = record { sfits = grind (arith, ints, f.sfits, l) }

-- where the first and the last value of a DO-variable have 64 bits, so has each between them
pub value_fits : (first increment : ℤ) (k count : ℕ) → FitsSigned w64 first → IsTrue (has_64_bits (value_after first increment count)) → k ≤ count → FitsSigned w64 (value_after first increment k)
value_fits first increment k count f e h = by (times_between k count increment h)
  where
    last : FitsSigned w64 (value_after first increment count)
    last = has_bits (value_after first increment count) e

    by : ((pos 0 ≤ℤ (pos k *ℤ increment)) × ((pos k *ℤ increment) ≤ℤ (pos count *ℤ increment))) ⊎ (((pos count *ℤ increment) ≤ℤ (pos k *ℤ increment)) × ((pos k *ℤ increment) ≤ℤ pos 0)) → FitsSigned w64 (value_after first increment k)
    by (inl p) = fits_between first (value_after first increment k) (value_after first increment count) f last (omega (arith, ints, p.0)) (omega (arith, ints, p.1))
    by (inr p) = fits_between (value_after first increment count) (value_after first increment k) first last f (omega (arith, ints, p.0)) (omega (arith, ints, p.1))

-- what the wrapping sum of the first value and the wrapping product gives is that value
pub next_is : (first increment product sum : ℤ) (done count : ℕ) → FitsSigned w64 first → IsTrue (has_64_bits (value_after first increment count)) → done < count → product ≡ int_wrap w64 (pos (suc done) *ℤ increment) → sum ≡ int_wrap w64 (first +ℤ product) → sum ≡ value_after first increment (suc done)
next_is first increment product sum done count f e h p s =
    s ∙ ap (λ m. int_wrap w64 (first +ℤ m)) p
    ∙ int_wrap-add_right w64 first (pos (suc done) *ℤ increment)
    ∙ int_wrap_fits w64 (value_after first increment (suc done)) (value_fits first increment (suc done) count f e (omega (arith, h)))
