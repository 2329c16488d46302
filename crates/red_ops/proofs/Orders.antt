-- The laws of operators.
use Rattle.std.proofs.Common.{◌≡◌, ◌-◌, ◌^◌, ℤ, pos, negsuc, ◌*ℤ◌, Bool, true, false, refl, sym, ap, ◌∙◌, arith, FitsSigned}
use Rattle.std.specs.Prelude.{not}
use Rattle.std.specs.Int.{w64, int_max, int_min}
use Rattle.std.proofs.Math.IntN.{+ℤ_idl}
use Rattle.std.proofs.lemmas.Int.{ints, int_wrap_fits}
use Rattle.hyb_base.specs.declared.ops.RedOp.{RedOp}
use Rattle.hyb_base.specs.declared.ops.RedOp.TheVariants.{Add, Mul, Max, Min, And, Or, Eqv, Neqv}
use Rattle.hyb_base.specs.Reduction.{apply, identity, truth_of, number_of}
use Rattle.hyb_base.specs.Wrap.{wrapped}
use Rattle.hyb_base.proofs.Reductions.{operators_reduce}
use Rattle.red_ops.specs.Laws.{left_of, IdentitiesStay, TruthDecides, committed, none, keep, swap, and_then, OrderIsFree}

one-times : (y : ℤ) → pos 1 *ℤ y ≡ y
one-times (pos n) = omega (arith, ints)
one-times (negsuc n) = omega (arith, ints)

least : (y : ℤ) → FitsSigned w64 y → int_max (negsuc (2 ^ 63 - 1)) y ≡ y
least y f = grind (arith, ints)

greatest : (y : ℤ) → FitsSigned w64 y → int_min (pos (2 ^ 63 - 1)) y ≡ y
greatest y f = grind (arith, ints)

least_stays : wrapped (negsuc (2 ^ 63 - 1)) ≡ negsuc (2 ^ 63 - 1)
least_stays = int_wrap_fits w64 (negsuc (2 ^ 63 - 1)) (omega (arith, ints))

greatest_stays : wrapped (pos (2 ^ 63 - 1)) ≡ pos (2 ^ 63 - 1)
greatest_stays = int_wrap_fits w64 (pos (2 ^ 63 - 1)) (omega (arith, ints))

not_not : (b : Bool) → number_of (not (not b)) ≡ number_of b
not_not true = refl
not_not false = refl

-- from the left, an operator gives what is left; from the right too, since it may be taken in either order
from_left : (op : RedOp) (x : ℤ) → FitsSigned w64 x → apply op (identity op) x ≡ left_of op x
from_left Add x f = ap wrapped (+ℤ_idl x) ∙ int_wrap_fits w64 x f
from_left Mul x f = ap wrapped (one-times x) ∙ int_wrap_fits w64 x f
from_left Max x f = ap (int_max (wrapped (negsuc (2 ^ 63 - 1)))) (int_wrap_fits w64 x f) ∙ ap (λ m. int_max m x) least_stays ∙ least x f
from_left Min x f = ap (int_min (wrapped (pos (2 ^ 63 - 1)))) (int_wrap_fits w64 x f) ∙ ap (λ m. int_min m x) greatest_stays ∙ greatest x f
from_left And x f = refl
from_left Or x f = refl
from_left Eqv x f = refl
from_left Neqv x f = not_not (truth_of x)

pub identities_stay : IdentitiesStay
identities_stay op x f = (from_left op x f, (operators_reduce op).commutes x (identity op) ∙ from_left op x f)

pub truth_decides : TruthDecides
truth_decides Add x y u v h p q = absurd (cc)
truth_decides Mul x y u v h p q = absurd (cc)
truth_decides Max x y u v h p q = absurd (cc)
truth_decides Min x y u v h p q = absurd (cc)
truth_decides And x y u v h p q = cc
truth_decides Or x y u v h p q = cc
truth_decides Eqv x y u v h p q = cc
truth_decides Neqv x y u v h p q = cc

changes_places : (op : RedOp) (x p q : ℤ) → apply op (apply op x p) q ≡ apply op (apply op x q) p
changes_places op x p q =
    (operators_reduce op).groups x p q ∙ ap (apply op x) ((operators_reduce op).commutes p q) ∙ sym ((operators_reduce op).groups x q p)

pub order_is_free : OrderIsFree
order_is_free op x ps qs none = refl
order_is_free op x ps qs (keep p ps' qs' r) = order_is_free op (apply op x p) ps' qs' r
order_is_free op x ps qs (swap p q rest) = ap (λ z. committed op z rest) (changes_places op x p q)
order_is_free op x ps qs (and_then a b c r s) = order_is_free op x a b r ∙ order_is_free op x b c s
