-- Laws of the operators of accumulations.
use Rattle.std.specs.Prelude.{◌≡◌, ℤ, Bool, true, false, FitsSigned, List, [], ◌∷◌}
use Rattle.std.specs.Int.{w64}
use Rattle.hyb_base.specs.declared.ops.RedOp.{RedOp}
use Rattle.hyb_base.specs.declared.ops.RedOp.TheVariants.{Add, Mul, Max, Min, And, Or, Eqv, Neqv}
use Rattle.hyb_base.specs.Reduction.{apply, identity, truth_of, number_of}

-- the operators on LOGICAL; the others are on INTEGER
abbrev pub is_logical : RedOp → Bool
is_logical Add = false
is_logical Mul = false
is_logical Max = false
is_logical Min = false
is_logical And = true
is_logical Or = true
is_logical Eqv = true
is_logical Neqv = true

-- what is left of a number beside the identity: itself on INTEGER, its truth on LOGICAL
abbrev pub left_of : RedOp → ℤ → ℤ
left_of Add x = x
left_of Mul x = x
left_of Max x = x
left_of Min x = x
left_of And x = number_of (truth_of x)
left_of Or x = number_of (truth_of x)
left_of Eqv x = number_of (truth_of x)
left_of Neqv x = number_of (truth_of x)

abbrev pub IdentitiesStay : Type 0
IdentitiesStay = (op : RedOp) (x : ℤ) → FitsSigned w64 x → (apply op (identity op) x ≡ left_of op x) × (apply op x (identity op) ≡ left_of op x)

abbrev pub TruthDecides : Type 0
TruthDecides = (op : RedOp) (x y u v : ℤ) → is_logical op ≡ true → truth_of x ≡ truth_of u → truth_of y ≡ truth_of v → apply op x y ≡ apply op u v

-- a number, with partial results committed to it one by one
abbrev pub committed : RedOp → ℤ → List ℤ → ℤ
committed op x [] = x
committed op x (p ∷ ps) = committed op (apply op x p) ps

-- the same numbers in another order: nothing changes, the first stays, the first two change places, or one order after another
pub data Reorders : List ℤ → List ℤ → Type 0 where
  none : Reorders [] []
  keep : (p : ℤ) (ps qs : List ℤ) → Reorders ps qs → Reorders (p ∷ ps) (p ∷ qs)
  swap : (p q : ℤ) (ps : List ℤ) → Reorders (p ∷ q ∷ ps) (q ∷ p ∷ ps)
  and_then : (ps qs rs : List ℤ) → Reorders ps qs → Reorders qs rs → Reorders ps rs

abbrev pub OrderIsFree : Type 0
OrderIsFree = (op : RedOp) (x : ℤ) (ps qs : List ℤ) → Reorders ps qs → committed op x ps ≡ committed op x qs
