-- Operators that group to the right.
use Rattle.std.proofs.Common.{◌≡◌, ℕ, zero, suc, ◌≤◌, ◌<◌, length, Option, Some, None, refl, sym, ap, ◌∙◌, arith}
use Rattle.f77_ast.specs.declared.expr.Expr.{Expr}
use Rattle.f77_exprs.specs.declared.operators.Infix.{Infix}
use Rattle.f77_exprs.specs.Operators.{Text, spelling, infixes, is_here, first_passing}
use Rattle.f77_exprs.specs.Reading.{Parser, and_then, pure, skip, binary, power}
use Rattle.f77_exprs.proofs.Words.{infix_shorter}

-- the operator of a level that comes next
abbrev Found : ℕ → Text → Option Infix
Found k i = first_passing is_here (infixes k) i

module _ (operand : Parser Expr) (k : ℕ) where
  -- no operator comes next
  pub power_ends : (n : ℕ) (a : Expr) (i j : Text) → Found k i ≡ None → j ≡ skip spelling (Found k i) i → power operand k n a i ≡ Some (a, j)
  unfolding power
  power_ends zero a i j e at = rw (at, e) refl
  power_ends (suc n) a i j e at = rw (at, e) refl

  -- an operator comes next
  pub power_one : (n : ℕ) (a : Expr) (i : Text) (o : Infix) → Found k i ≡ Some o → power operand k (suc n) a i ≡ and_then (and_then (operand (skip spelling (Some o) i)) (power operand k n)) (λ right. pure (binary o a right))
  unfolding power
  power_one n a i o e = rw e refl

  turned : (n : ℕ) (a : Expr) (i j : Text) (o : Infix) → length i ≤ n → Found k i ≡ Some o → j ≡ skip spelling (Found k i) i → (m : ℕ) × (length j ≤ m) × (power operand k n a i ≡ and_then (and_then (operand j) (power operand k m)) (λ right. pure (binary o a right)))
  turned zero a i j o le e at = let s : length (skip spelling (Some o) i) < length i = infix_shorter k i o e in absurd (omega arith)
  turned (suc n) a i j o le e at =
      let s : length (skip spelling (Some o) i) < length i = infix_shorter k i o e in
      let same : j ≡ skip spelling (Some o) i = at ∙ ap (λ x. skip spelling x i) e in
      let l : length j ≡ length (skip spelling (Some o) i) = ap length same in
      (n, omega arith, power_one n a i o e ∙ ap (λ x. and_then (and_then (operand x) (power operand k n)) (λ right. pure (binary o a right))) (sym same))

  -- no operand stands behind it
  pub power_alone : (n : ℕ) (a : Expr) (i j : Text) (o : Infix) → length i ≤ n → Found k i ≡ Some o → j ≡ skip spelling (Found k i) i → operand j ≡ None → power operand k n a i ≡ None
  power_alone n a i j o le e at none =
      let w = turned n a i j o le e at in
      w.2 ∙ ap (λ x. and_then (and_then x (power operand k w.0)) (λ right. pure (binary o a right))) none

  -- what stands behind its operand is missing
  pub power_missing : (n : ℕ) (a b : Expr) (i j r : Text) (o : Infix) → length i ≤ n → Found k i ≡ Some o → j ≡ skip spelling (Found k i) i → operand j ≡ Some (b, r) → length r ≤ length j → ((m : ℕ) → length r ≤ m → power operand k m b r ≡ None) → power operand k n a i ≡ None
  power_missing n a b i j r o le e at found within none =
      let w = turned n a i j o le e at in
      w.2 ∙ ap (λ x. and_then (and_then x (power operand k w.0)) (λ right. pure (binary o a right))) found
      ∙ ap (λ x. and_then x (λ right. pure (binary o a right))) (none w.0 (omega arith))

  pub power_goes : (n : ℕ) (a b y x : Expr) (i j r q : Text) (o : Infix) → x ≡ binary o a y → length i ≤ n → Found k i ≡ Some o → j ≡ skip spelling (Found k i) i → operand j ≡ Some (b, r) → length r ≤ length j → ((m : ℕ) → length r ≤ m → power operand k m b r ≡ Some (y, q)) → power operand k n a i ≡ Some (x, q)
  power_goes n a b y x i j r q o is le e at found within there =
      let w = turned n a i j o le e at in
      w.2 ∙ ap (λ x. and_then (and_then x (power operand k w.0)) (λ right. pure (binary o a right))) found
      ∙ ap (λ x. and_then x (λ right. pure (binary o a right))) (there w.0 (omega arith))
      ∙ ap (λ z. Some (z, q)) (sym is)
