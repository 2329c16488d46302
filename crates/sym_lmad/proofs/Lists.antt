-- An item after a write.
use Rattle.std.proofs.Common.{◌≡◌, ◌≢◌, ℕ, zero, suc, ◌<◌, ℤ, List, [], ◌∷◌, length, Some, slice_get, slice_set, refl, ap, arith}

pub get_same : (xs : List ℤ) (i : ℕ) (v : ℤ) → i < length xs → slice_get (slice_set xs i v) i ≡ Some v
get_same [] i v h = absurd (omega arith)
get_same (x ∷ xs) zero v h = refl
get_same (x ∷ xs) (suc i) v h = get_same xs i v (omega arith)

pub get_other : (xs : List ℤ) (i k : ℕ) (v : ℤ) → k ≢ i → slice_get (slice_set xs i v) k ≡ slice_get xs k
get_other [] i k v h = refl
get_other (x ∷ xs) zero zero v h = absurd (h refl)
get_other (x ∷ xs) zero (suc k) v h = refl
get_other (x ∷ xs) (suc i) zero v h = refl
get_other (x ∷ xs) (suc i) (suc k) v h = get_other xs i k v (λ e. h (ap suc e))
