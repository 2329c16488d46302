-- The operators of accumulations, on all integers: what each gives, and what a partial result starts with.
use Rattle.std.specs.Prelude.{◌≡◌, ◌-◌, ◌^◌, ◌&&◌, ◌||◌, Bool, true, false, not, zero, suc, ℤ, pos, negsuc, FitsSigned}
use Rattle.std.specs.Int.{w64, int_max, int_min}
use Rattle.hyb_base.specs.Wrap.{wrapped, sum_of, product_of}
use Rattle.hyb_base.specs.declared.ops.RedOp.{RedOp}
use Rattle.hyb_base.specs.declared.ops.RedOp.TheVariants.{Add, Mul, Max, Min, And, Or, Eqv, Neqv}

-- the truth that a number stands for: 0 is false, any other true
abbrev pub truth_of : ℤ → Bool
truth_of (pos zero) = false
truth_of (pos (suc n)) = true
truth_of (negsuc n) = true

-- the number that a truth is written as
abbrev pub number_of : Bool → ℤ
number_of false = pos 0
number_of true = pos 1

-- one truth is the other
abbrev pub agree : Bool → Bool → Bool
agree true b = b
agree false b = not b

-- what an operator gives of two integers: sums and products wrap, MAX and MIN compare what is left of both in 64 bits, the
-- others look at truth
abbrev pub apply : RedOp → ℤ → ℤ → ℤ
apply Add x y = sum_of x y
apply Mul x y = product_of x y
apply Max x y = int_max (wrapped x) (wrapped y)
apply Min x y = int_min (wrapped x) (wrapped y)
apply And x y = number_of (truth_of x && truth_of y)
apply Or x y = number_of (truth_of x || truth_of y)
apply Eqv x y = number_of (agree (truth_of x) (truth_of y))
apply Neqv x y = number_of (not (agree (truth_of x) (truth_of y)))

-- what a partial result starts with
abbrev pub identity : RedOp → ℤ
identity Add = pos 0
identity Mul = pos 1
identity Max = negsuc (2 ^ 63 - 1)
identity Min = pos (2 ^ 63 - 1)
identity And = pos 1
identity Or = pos 0
identity Eqv = pos 1
identity Neqv = pos 0

-- of every operator and all integers: what it gives has 64 bits; it may be grouped either way and taken in either order; and a
-- partial result that starts with the identity adds to a value what the operands add to it one by one
pub record ReducesAsOne (op : RedOp) : Type 0 where
  pub fits : (x y : ℤ) → FitsSigned w64 (apply op x y)
  pub groups : (x y z : ℤ) → apply op (apply op x y) z ≡ apply op x (apply op y z)
  pub commutes : (x y : ℤ) → apply op x y ≡ apply op y x
  pub starts : (x y : ℤ) → apply op x (apply op (identity op) y) ≡ apply op x y

abbrev pub OperatorsReduce : Type 0
OperatorsReduce = (op : RedOp) → ReducesAsOne op
