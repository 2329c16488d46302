-- Near numbers.
use Rattle.std.proofs.Common.{◌≡◌, ◌^◌, ℤ, pos, neg_ℤ, Bool, true, false, ◌&&◌, Option, Some, None, int_lt, if◌then◌else◌, FitsSigned, refl, ap, subst, arith}
use Rattle.std.proofs.lemmas.Int.{ints}
use Rattle.hyb_base.specs.Near.{IsNear}
use Rattle.sym_lmad.specs.Worth.{near_of, near_by}
use mir.Syntax.{w64, w128}

pub some_is : {X : Type 0} (x y : X) → Some x ≡ Some y → x ≡ y
some_is x y h = cc

-- a near number is that number
pub near_is : (z v : ℤ) → near_of z ≡ Some v → z ≡ v
near_is z v h = go (int_lt (neg_ℤ (pos (2 ^ 62))) z && int_lt z (pos (2 ^ 62))) h
  where
    go : (b : Bool) → (if b then Some z else None) ≡ Some v → z ≡ v
    go true h = some_is z v h
    go false h = absurd (cc)

-- and fits 64 bits
pub near_fits : (z v : ℤ) → near_of z ≡ Some v → FitsSigned w64 z
near_fits z v h = go (int_lt (neg_ℤ (pos (2 ^ 62))) z) (int_lt z (pos (2 ^ 62))) refl refl h
  where
    go : (a b : Bool) → int_lt (neg_ℤ (pos (2 ^ 62))) z ≡ a → int_lt z (pos (2 ^ 62)) ≡ b → (if a && b then Some z else None) ≡ Some v → FitsSigned w64 z
    go true true e f h = grind (arith, ints)
    go true false e f h = absurd (cc)
    go false true e f h = absurd (cc)
    go false false e f h = absurd (cc)

-- what is near stays near
pub near_again : (z v : ℤ) → near_of z ≡ Some v → near_of v ≡ Some v
near_again z v h = subst (λ t. near_of t ≡ Some v) (near_is z v h) h

pub near_had : (o : Option ℤ) (v : ℤ) → near_by o ≡ Some v → (o ≡ Some v) × (near_of v ≡ Some v)
near_had None v h = absurd (cc)
near_had (Some z) v h = (ap Some (near_is z v h), near_again z v h)

-- what doesn't even fit 128 bits isn't near
pub far_is_none : (z : ℤ) → (FitsSigned w128 z → ⊥) → near_of z ≡ None
far_is_none z far = go (near_of z) refl
  where
    go : (o : Option ℤ) → near_of z ≡ o → o ≡ None
    go None e = refl
    go (Some v) e = let f = near_fits z v e in absurd (far (omega (arith, ints)))

pub near_bounds : (z v : ℤ) → near_of z ≡ Some v → IsNear z
near_bounds z v h = go (int_lt (neg_ℤ (pos (2 ^ 62))) z) (int_lt z (pos (2 ^ 62))) refl refl h
  where
    go : (a b : Bool) → int_lt (neg_ℤ (pos (2 ^ 62))) z ≡ a → int_lt z (pos (2 ^ 62)) ≡ b → (if a && b then Some z else None) ≡ Some v → IsNear z
    go true true e f h = (grind (arith, ints), grind (arith, ints))
    go true false e f h = absurd (cc)
    go false true e f h = absurd (cc)
    go false false e f h = absurd (cc)

pub near_some : (z : ℤ) → IsNear z → near_of z ≡ Some z
near_some z h = go (int_lt (neg_ℤ (pos (2 ^ 62))) z) (int_lt z (pos (2 ^ 62))) refl refl
  where
    go : (a b : Bool) → int_lt (neg_ℤ (pos (2 ^ 62))) z ≡ a → int_lt z (pos (2 ^ 62)) ≡ b → (if a && b then Some z else None) ≡ Some z
    go true true e f = refl
    go true false e f = let u = h.1 in absurd (grind (arith, ints))
    go false true e f = let u = h.0 in absurd (grind (arith, ints))
    go false false e f = let u = h.0 in absurd (grind (arith, ints))
