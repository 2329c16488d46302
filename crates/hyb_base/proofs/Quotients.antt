-- What is left in 64 bits of a quotient.
use Rattle.std.proofs.Common.{◌≡◌, ◌≢◌, ℕ, zero, suc, ◌<◌, ◌≤◌, ◌^◌, ℤ, pos, negsuc, refl, sym, ◌∙◌, ap, subst, arith, w64, FitsSigned, to_z, of_z, Some, ◌⊎◌, inl, inr}
use Rattle.std.specs.Prelude.{unsigned_abs, int_div, neg_ℤ}
use Rattle.std.specs.Int.{int_wrap, int_wrapping_div}
use Rattle.std.proofs.lemmas.Int.{to_z-of_z, int_wrap_fits}
use Rattle.std.proofs.Math.Nat.{div-le_self}
use Rattle.hyb_base.specs.Wrap.{wrapped, quotient_of}

-- 2 ^ 63 wraps to the least number
edge : to_z w64 (of_z w64 (pos (2 ^ 63))) ≡ wrapped (pos (2 ^ 63))
unfolding int_wrap
edge = refl

-- a number that fits is itself
inside : (z : ℤ) → FitsSigned w64 z → to_z w64 (of_z w64 z) ≡ wrapped z
inside z f = to_z-of_z w64 z f ∙ sym (int_wrap_fits w64 z f)

at_most : (n : ℕ) → n ≤ 2 ^ 63 → (n < 2 ^ 63) ⊎ (n ≡ 2 ^ 63)
at_most n h = grind arith

-- a number of at most 2 ^ 63 in size
within : (z : ℤ) → unsigned_abs z ≤ 2 ^ 63 → to_z w64 (of_z w64 z) ≡ wrapped z
within (pos n) h =
    elim (at_most n h) as (λ _. to_z w64 (of_z w64 (pos n)) ≡ wrapped (pos n)) [
      | inl l ↦ inside (pos n) (record { sfits = l })
      | inr e ↦ let P : ℕ → Type 0 = λ m. to_z w64 (of_z w64 (pos m)) ≡ wrapped (pos m) in subst P (sym e) edge
    ]
within (negsuc n) h = inside (negsuc n) (record { sfits = omega (arith, h) })

unsigned_abs-neg : (n : ℕ) → unsigned_abs (neg_ℤ (pos n)) ≡ n
unsigned_abs-neg zero = refl
unsigned_abs-neg (suc n) = refl

-- a quotient is no greater in size than its dividend
unsigned_abs-div : (a b : ℤ) → unsigned_abs (int_div a b) ≤ unsigned_abs a
unsigned_abs-div (pos a) (pos b) = div-le_self a b
unsigned_abs-div (pos a) (negsuc b) = rw unsigned_abs-neg (div-le_self a (suc b))
unsigned_abs-div (negsuc a) (pos b) = rw unsigned_abs-neg (div-le_self (suc a) b)
unsigned_abs-div (negsuc a) (negsuc b) = div-le_self (suc a) (suc b)

small : (a : ℤ) → FitsSigned w64 a → unsigned_abs a ≤ 2 ^ 63
small (pos n) f = omega (arith, f.sfits)
small (negsuc n) f = omega (arith, f.sfits)

-- what the wrapping division gives is the quotient, wrapped
wraps : (a b r : ℤ) → FitsSigned w64 a → r ≡ int_wrapping_div w64 a b → r ≡ wrapped (int_div a b)
wraps a b r f e = e ∙ within (int_div a b) (omega (arith, unsigned_abs-div a b, small a f))

pub quotient_wraps : (a b r : ℤ) → FitsSigned w64 a → b ≢ pos 0 → r ≡ int_wrapping_div w64 a b → Some r ≡ quotient_of a b
quotient_wraps a (pos zero) r f n e = absurd (n refl)
quotient_wraps a (pos (suc b)) r f n e = ap Some (wraps a (pos (suc b)) r f e)
quotient_wraps a (negsuc b) r f n e = ap Some (wraps a (negsuc b) r f e)
