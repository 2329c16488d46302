-- A product or a sum of numbers that are cut at a limit is the product or sum, cut there.
use Rattle.std.proofs.Common.{◌≡◌, ℕ, zero, suc, ◌+◌, ◌*◌, ◌<◌, ◌≤◌, ◌^◌, ◌⊎◌, inl, inr, Option, None, Some, refl, ap, sym, ◌∙◌, arith}
use Rattle.std.specs.Prelude.{min}
use Rattle.std.specs.Option.{option_map}
use Rattle.std.proofs.Math.Nat.{min-eq_left, min-eq_right, le-mul_of_pos_right, zero-mul, mul_comm}
use Rattle.std.proofs.lemmas.Bool.{cases_lt}
use Rattle.f77_sizes.specs.Sizes.{capped, element_with}

times_right : (m a b : ℕ) → min (a * min b m) m ≡ min (a * b) m
times_right m zero b = rw (zero-mul (min b m), zero-mul b) refl
times_right m (suc a) b = by (cases_lt b m)
  where
    by : (b < m) ⊎ (m ≤ b) → min (suc a * min b m) m ≡ min (suc a * b) m
    by (inl l) = ap (λ t. min (suc a * t) m) (min-eq_left (omega (arith, l)))
    by (inr l) =
        let cut : min b m ≡ m = min-eq_right l in
        let one_below : m ≤ suc a * m = omega (arith, mul_comm (suc a) m, le-mul_of_pos_right {m = suc a} m (omega arith)) in
        let two_below : m ≤ suc a * b = omega (arith, l, mul_comm (suc a) b, le-mul_of_pos_right {m = suc a} b (omega arith)) in
        let one : min (suc a * m) m ≡ m = min-eq_right one_below in
        let two : min (suc a * b) m ≡ m = min-eq_right two_below in
        ap (λ t. min (suc a * t) m) cut ∙ one ∙ sym two

pub capped_right : (a b : ℕ) → capped (a * capped b) ≡ capped (a * b)
capped_right a b = times_right (2 ^ 64) a b

pub capped_left : (a b : ℕ) → capped (capped a * b) ≡ capped (a * b)
capped_left a b = ap capped (mul_comm (capped a) b) ∙ capped_right b a ∙ ap capped (mul_comm b a)

plus_right : (m a b : ℕ) → min (a + min b m) m ≡ min (a + b) m
plus_right m a b = omega arith

pub capped_sum : (a b : ℕ) → capped (a + capped b) ≡ capped (a + b)
capped_sum a b = plus_right (2 ^ 64) a b

-- the offset of an element by numbers that are cut
pub capped_element : (extent : ℕ) (offset later : Option ℕ) → option_map capped (element_with extent offset (option_map capped later)) ≡ option_map capped (element_with extent offset later)
capped_element extent None later = refl
capped_element extent (Some offset) None = refl
capped_element extent (Some offset) (Some later) = ap Some (sym (capped_sum offset (extent * capped later)) ∙ ap (λ t. capped (offset + t)) (capped_right extent later) ∙ capped_sum offset (extent * later))
