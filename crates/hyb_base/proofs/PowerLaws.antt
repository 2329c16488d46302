-- Powers of integers, and what is left of them in 64 bits.
use Rattle.std.proofs.Common.{◌≡◌, ◌≢◌, ℕ, zero, suc, ◌+◌, ◌*◌, ◌/◌, ◌%◌, ◌<◌, ◌≤◌, ◌^◌, ℤ, pos, negsuc, ◌*ℤ◌, refl, sym, ◌∙◌, ap, subst, arith, lit<, w64, FitsSigned, Some, None, Option, ◌⊎◌, inl, inr}
use Rattle.std.specs.Prelude.{neg_ℤ, unsigned_abs, IsNone, ◌≤ℤ◌, ◌<ℤ◌, ◌↔◌}
use Rattle.std.specs.Int.{int_pow}
use Rattle.std.proofs.lemmas.Int.{ints, int_wrap_fits, int_wrap-mul_left, int_wrap-mul_right}
use Rattle.std.proofs.lemmas.Nat.{mul-pow, pow-add}
use Rattle.std.proofs.Math.Nat.{pow-suc, pow-zero, mul_comm, one-le-pow, le-mul_of_pos_right, div-eq_of_lt, zero-mul, mul-zero, mul-one}
use Rattle.hyb_base.specs.Wrap.{wrapped, product_of, quotient_of, power_of}

-- a power of a negative number, by the parity of the exponent
even_power : (a k : ℕ) → k % 2 ≡ 0 → int_pow (negsuc a) k ≡ pos (suc a ^ k)
even_power a k h = rw h

odd_power : (a k : ℕ) → k % 2 ≡ 1 → int_pow (negsuc a) k ≡ neg_ℤ (pos (suc a ^ k))
odd_power a k h = rw h

parity : (k : ℕ) → (k % 2 ≡ 0) ⊎ (k % 2 ≡ 1)
parity k = grind arith

neg-mul-negsuc : (n a : ℕ) → neg_ℤ (pos n) *ℤ negsuc a ≡ pos (n * suc a)
neg-mul-negsuc zero a = rw zero-mul refl
neg-mul-negsuc (suc n) a = refl

-- the square of a number is natural
square-pow : (a : ℤ) (k : ℕ) → int_pow (a *ℤ a) k ≡ int_pow a (k + k)
square-pow (pos a) k = ap pos (mul-pow a a k ∙ sym (pow-add a k k))
square-pow (negsuc a) k = ap pos (mul-pow (suc a) (suc a) k ∙ sym (pow-add (suc a) k k)) ∙ sym (even_power a (k + k) (omega arith))

-- one factor more
pow-more : (a : ℤ) (k : ℕ) → int_pow a (suc k) ≡ int_pow a k *ℤ a
pow-more (pos a) k = ap pos (pow-suc a k)
pow-more (negsuc a) k =
    elim (parity k) as (λ _. int_pow (negsuc a) (suc k) ≡ int_pow (negsuc a) k *ℤ negsuc a) [
      | inl e ↦ odd_power a (suc k) (omega (arith, e)) ∙ ap (λ n. neg_ℤ (pos n)) (pow-suc (suc a) k) ∙ sym (ap (λ z. z *ℤ negsuc a) (even_power a k e))
      | inr o ↦ even_power a (suc k) (omega (arith, o)) ∙ ap pos (pow-suc (suc a) k) ∙ sym (neg-mul-negsuc (suc a ^ k) a) ∙ sym (ap (λ z. z *ℤ negsuc a) (odd_power a k o))
    ]

-- to wrap the base changes nothing
wrapped-pow : (a : ℤ) (k : ℕ) → wrapped (int_pow (wrapped a) k) ≡ wrapped (int_pow a k)
wrapped-pow a zero = ap wrapped (pow-none (wrapped a) ∙ sym (pow-none a))
  where
    pow-none : (z : ℤ) → int_pow z 0 ≡ pos 1
    pow-none (pos n) = ap pos (pow-zero n)
    pow-none (negsuc n) = even_power n 0 refl ∙ ap pos (pow-zero (suc n))
wrapped-pow a (suc k) =
    ap wrapped (pow-more (wrapped a) k)
    ∙ int_wrap-mul_right w64 (int_pow (wrapped a) k) a
    ∙ sym (int_wrap-mul_left w64 (int_pow (wrapped a) k) a)
    ∙ ap (λ z. wrapped (z *ℤ a)) (wrapped-pow a k)
    ∙ int_wrap-mul_left w64 (int_pow a k) a
    ∙ sym (ap wrapped (pow-more a k))

-- an even exponent: the power of the square to its half
pub even_turn : (a : ℤ) (k : ℕ) → k % 2 ≡ 0 → wrapped (int_pow (product_of a a) (k / 2)) ≡ wrapped (int_pow a k)
even_turn a k h = wrapped-pow (a *ℤ a) (k / 2) ∙ ap wrapped (square-pow a (k / 2) ∙ ap (int_pow a) (omega (arith, h)))

-- an odd exponent: one factor more
pub odd_turn : (a : ℤ) (k : ℕ) → k % 2 ≢ 0 → product_of (wrapped (int_pow (product_of a a) (k / 2))) a ≡ wrapped (int_pow a k)
odd_turn a k h =
    ap (λ z. product_of z a) (wrapped-pow (a *ℤ a) (k / 2) ∙ ap wrapped (square-pow a (k / 2)))
    ∙ int_wrap-mul_left w64 (int_pow a (k / 2 + k / 2)) a
    ∙ ap wrapped (sym (pow-more a (k / 2 + k / 2)) ∙ ap (int_pow a) (omega (arith, h)))

unfolded : (z : ℤ) → FitsSigned w64 z → Some z ≡ Some (wrapped z)
unfolded z f = ap Some (sym (int_wrap_fits w64 z f))

-- 1 by a number of 2 or more in size
by_large : (m : ℕ) → 2 ≤ m → Some (pos 0) ≡ quotient_of (pos 1) (pos m)
by_large zero h = absurd (omega (arith, h))
by_large (suc m) h =
    let lt : 1 < suc m = omega (arith, h) in
    unfolded (pos 0) (record { sfits = lit< tt }) ∙ ap (λ n. Some (wrapped (pos n))) (sym (div-eq_of_lt lt))

by_large_negative : (m : ℕ) → 2 ≤ m → Some (pos 0) ≡ quotient_of (pos 1) (neg_ℤ (pos m))
by_large_negative zero h = absurd (omega (arith, h))
by_large_negative (suc m) h =
    let lt : 1 < suc m = omega (arith, h) in
    unfolded (pos 0) (record { sfits = lit< tt }) ∙ ap (λ n. Some (wrapped (neg_ℤ (pos n)))) (sym (div-eq_of_lt lt))

large-pow : (b k : ℕ) → 2 ≤ b → 0 < k → 2 ≤ b ^ k
large-pow b zero h p = absurd (omega (arith, p))
large-pow b (suc k) h p =
    let one_or_more : 1 ≤ b ^ k = one-le-pow k b (omega (arith, h)) in
    omega (arith, h, pow-suc b k, mul_comm (b ^ k) b, le-mul_of_pos_right {m = b ^ k} b (omega arith))

one-pow : (k : ℕ) → 1 ^ k ≡ 1
one-pow zero = pow-zero 1
one-pow (suc k) = pow-suc 1 k ∙ mul-one (1 ^ k) ∙ one-pow k

-- 1 by the power of each number
pub inverse_of_zero : (k : ℕ) → 0 < k → None ≡ quotient_of (pos 1) (int_pow (pos 0) k)
inverse_of_zero zero h = absurd (omega (arith, h))
inverse_of_zero (suc k) h = ap (λ n. quotient_of (pos 1) (pos n)) (sym (pow-suc 0 k ∙ mul-zero (0 ^ k)))

pub inverse_of_one : (k : ℕ) → Some (pos 1) ≡ quotient_of (pos 1) (int_pow (pos 1) k)
inverse_of_one k = unfolded (pos 1) (record { sfits = lit< tt }) ∙ ap (λ n. quotient_of (pos 1) (pos n)) (sym (one-pow k))

pub inverse_of_minus_one_even : (k : ℕ) → k % 2 ≡ 0 → Some (pos 1) ≡ quotient_of (pos 1) (int_pow (negsuc 0) k)
inverse_of_minus_one_even k h = inverse_of_one k ∙ ap (quotient_of (pos 1)) (sym (even_power 0 k h))

pub inverse_of_minus_one_odd : (k : ℕ) → k % 2 ≡ 1 → Some (negsuc 0) ≡ quotient_of (pos 1) (int_pow (negsuc 0) k)
inverse_of_minus_one_odd k h =
    unfolded (negsuc 0) (record { sfits = lit< tt })
    ∙ ap (λ n. quotient_of (pos 1) (neg_ℤ (pos n))) (sym (one-pow k))
    ∙ ap (quotient_of (pos 1)) (sym (odd_power 0 k h))

pub inverse_of_other : (a : ℤ) (k : ℕ) → 0 < k → a ≢ pos 0 → a ≢ pos 1 → a ≢ negsuc 0 → Some (pos 0) ≡ quotient_of (pos 1) (int_pow a k)
inverse_of_other (pos zero) k h x y z = absurd (x refl)
inverse_of_other (pos (suc zero)) k h x y z = absurd (y refl)
inverse_of_other (pos (suc (suc n))) k h x y z = by_large (suc (suc n) ^ k) (large-pow (suc (suc n)) k (omega arith) h)
inverse_of_other (negsuc zero) k h x y z = absurd (z refl)
inverse_of_other (negsuc (suc n)) k h x y z =
    elim (parity k) as (λ _. Some (pos 0) ≡ quotient_of (pos 1) (int_pow (negsuc (suc n)) k)) [
      | inl e ↦ by_large (suc (suc n) ^ k) (large-pow (suc (suc n)) k (omega arith) h) ∙ ap (quotient_of (pos 1)) (sym (even_power (suc n) k e))
      | inr o ↦ by_large_negative (suc (suc n) ^ k) (large-pow (suc (suc n)) k (omega arith) h) ∙ ap (quotient_of (pos 1)) (sym (odd_power (suc n) k o))
    ]

-- `a ** k` by the sign of k
pub power_natural : (a k : ℤ) → pos 0 ≤ℤ k → Some (wrapped (int_pow a (unsigned_abs k))) ≡ power_of a k
unfolding power_of
power_natural a (pos n) h = refl
power_natural a (negsuc n) h = absurd (h.le)

pub power_negative : (a k : ℤ) → k <ℤ pos 0 → quotient_of (pos 1) (int_pow a (unsigned_abs k)) ≡ power_of a k
unfolding power_of
power_negative a (pos n) h = absurd (omega (arith, ints, h))
power_negative a (negsuc n) h = refl

not_none : {x : ℤ} (r : Option ℤ) → Some x ≡ r → IsNone r → ⊥
not_none r e h = grind (arith, e, h)

inverse_none : (a : ℤ) (n : ℕ) → IsNone (quotient_of (pos 1) (int_pow a (suc n))) → a ≡ pos 0
inverse_none (pos zero) n h = refl
inverse_none (pos (suc zero)) n h = absurd (not_none _ (inverse_of_one (suc n)) h)
inverse_none (pos (suc (suc m))) n h = absurd (not_none _ (inverse_of_other (pos (suc (suc m))) (suc n) (omega arith) (λ e. cc) (λ e. cc) (λ e. cc)) h)
inverse_none (negsuc zero) n h =
    elim (parity (suc n)) as (λ _. negsuc 0 ≡ pos 0) [
      | inl e ↦ absurd (not_none _ (inverse_of_minus_one_even (suc n) e) h)
      | inr o ↦ absurd (not_none _ (inverse_of_minus_one_odd (suc n) o) h)
    ]
inverse_none (negsuc (suc m)) n h = absurd (not_none _ (inverse_of_other (negsuc (suc m)) (suc n) (omega arith) (λ e. cc) (λ e. cc) (λ e. cc)) h)

-- there is no power of 0 to a negative number, and there is any other
pub power_none : (a k : ℤ) → IsNone (power_of a k) ↔ (a ≡ pos 0) × (k <ℤ pos 0)
unfolding power_of
power_none a (pos n) = (λ h. absurd (cc), λ p. absurd (omega (arith, ints, p.1)))
power_none a (negsuc n) = (
  λ h. (inverse_none a n h, record { lt = tt }),
  λ p. let P : ℤ → Type 0 = λ z. IsNone (quotient_of (pos 1) (int_pow z (suc n))) in
      subst P (sym p.0) (let Q : Option ℤ → Type 0 = λ r. IsNone r in subst Q (inverse_of_zero (suc n) (omega arith)) refl),
)
