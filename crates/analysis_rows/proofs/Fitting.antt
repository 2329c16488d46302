-- When addresses are those of cells.
use Rattle.std.proofs.Common.{◌≡◌, ℕ, ◌+◌, ◌*◌, ◌≤◌, ◌^◌, ℤ, pos, negsuc, ◌+ℤ◌, ◌≤ℤ◌, ◌<ℤ◌, Bool, true, false, ◌&&◌, IsTrue, length, unwrap_or, int_le, int_lt, refl, ap, subst, arith}
use Rattle.std.proofs.lemmas.Int.{ints}
use Rattle.std.proofs.lemmas.Option.{slice_get_past}
use Rattle.hyb_base.specs.declared.env.Env.{Env}
use Rattle.sym_lmad.specs.Bindings.{IsAddressOf, IsOfRegion, start_of, length_of, is_within}

both_true : (a b : Bool) → (a && b) ≡ true → (a ≡ true) × (b ≡ true)
both_true true b h = (refl, h)
both_true false b h = absurd (cc)

pub within_bounds : (start len z : ℤ) → IsTrue (is_within start len z) → (start ≤ℤ z) × (z <ℤ (start +ℤ len))
within_bounds start len z h = let t = both_true (int_le start z) (int_lt z (start +ℤ len)) h in let low = t.0 in let high = t.1 in (grind (arith, ints), grind (arith, ints))

pub no_addresses : (start len z : ℤ) → len ≤ℤ pos 0 → IsTrue (is_within start len z) → ⊥
no_addresses start len z h w = let b = within_bounds start len z w in let low = b.0 in let high = b.1 in omega (arith, ints, low, high)

pub all_are_addresses : (start len z : ℤ) (cells : ℕ) → pos 0 ≤ℤ start → (start +ℤ len) ≤ℤ pos (2 ^ 32) → (start +ℤ len) ≤ℤ pos cells → IsTrue (is_within start len z) → IsAddressOf cells z
all_are_addresses start len (pos a) cells s l c w = let b = within_bounds start len (pos a) w in let high = b.1 in (omega (arith, ints, high), omega (arith, ints, high))
all_are_addresses start len (negsuc a) cells s l c w = let b = within_bounds start len (negsuc a) w in let low = b.0 in absurd (omega (arith, ints, low))

-- a region past the last has no address
pub past_regions : (env : Env) (r : ℕ) (z : ℤ) → length env.spans ≤ r → IsOfRegion env r z → ⊥
past_regions env r z h w =
    let start : start_of env r ≡ pos 0 = ap (λ o. unwrap_or o (pos 0)) (slice_get_past env.spans (r * 2) (omega arith)) in
    let len : length_of env r ≡ pos 0 = ap (λ o. unwrap_or o (pos 0)) (slice_get_past env.spans (r * 2 + 1) (omega arith)) in
    no_addresses (pos 0) (pos 0) z (omega (arith, ints)) (subst (λ s. IsTrue (is_within s (pos 0) z)) start (subst (λ l. IsTrue (is_within (start_of env r) l z)) len w))
