-- The numbers of entities.
use Rattle.std.proofs.Common.{◌≡◌, ℕ, zero, suc, ◌<◌, Bool, true, cond, List, [], ◌∷◌, length, Option, None, Some, sym, ap, ◌∙◌, slice_get, position, nat_lt, arith}
use Rattle.std.specs.Prelude.{find}
use Rattle.std.specs.List.{position_or_len}
use Rattle.std.proofs.lemmas.List.Folds.{find_at}

-- an item that is there is below the length
pub below_length : {A : Type 0} (xs : List A) (n : ℕ) (x : A) → slice_get xs n ≡ Some x → n < length xs
below_length [] n x e = absurd (cc)
below_length (y ∷ ys) zero x e = omega arith
below_length (y ∷ ys) (suc n) x e = omega (arith, below_length ys n x e)

less_is : (a b : ℕ) → a < b → nat_lt a b ≡ true
less_is a b h = grind (arith, h)

-- the place of what is found
pub record HasNumber {A : Type 0} (xs : List A) (at : Option ℕ) (x : A) : Type 0 where
  pub number : ℕ
  pub is : at ≡ Some number
  pub stands : slice_get xs number ≡ Some x

pub found_at : {A : Type 0} (p : A → Bool) (xs : List A) (x : A) → find p xs ≡ Some x → HasNumber xs (position p xs) x
found_at p xs x e =
    let stands : slice_get xs (position_or_len p xs) ≡ Some x = sym (find_at p xs) ∙ e in
    record {
      number = position_or_len p xs;
      is = ap (λ b. cond b (Some (position_or_len p xs)) None) (less_is (position_or_len p xs) (length xs) (below_length xs (position_or_len p xs) x stands));
      stands = stands;
    }
