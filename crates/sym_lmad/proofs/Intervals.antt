-- When two intervals share no number.
use Rattle.std.proofs.Common.{◌≡◌, ◌↔◌, ℤ, ◌≤ℤ◌, ◌<ℤ◌, Bool, true, false, int_lt, IsTrue, refl, arith}
use Rattle.std.specs.Int.{int_max, int_min}
use Rattle.std.proofs.lemmas.Int.{ints, clamps}
use Rattle.sym_lmad.specs.Interval.{AreDisjoint}

pub disjoint_is : (a b c d low high : ℤ) → low ≡ int_max a c → high ≡ int_min b d → IsTrue (int_lt high low) ↔ AreDisjoint a b c d
disjoint_is a b c d low high is_low is_high = (apart, λ h. meets (int_lt high low) refl h)
  where
    apart : IsTrue (int_lt high low) → AreDisjoint a b c d
    apart e z i j = let before : high <ℤ low = grind (arith, ints) in omega (arith, ints, clamps)

    meets : (t : Bool) → int_lt high low ≡ t → AreDisjoint a b c d → IsTrue t
    meets true e h = refl
    meets false e h = let not_before : low ≤ℤ high = grind (arith, ints) in
        absurd (h low (omega (arith, ints, clamps), omega (arith, ints, clamps)) (omega (arith, ints, clamps), omega (arith, ints, clamps)))
