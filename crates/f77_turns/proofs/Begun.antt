-- What DO statements with a meaning read and write lies in storage.
use Rattle.std.proofs.Common.{◌≡◌, ℕ, ◌<◌, ◌&&◌, ℤ, Bool, true, false, cond, List, length, Option, None, Some, IsTrue}
use Rattle.f77_ast.specs.Entity.{entity_in}
use Rattle.f77_ast.specs.declared.expr.Expr.{Expr}
use Rattle.f77_ast.specs.declared.expr.Kind.{Kind}
use Rattle.f77_ast.specs.declared.fault.Fault.TheVariants.{DoRange, OutsideRegion, ZeroIncrement}
use Rattle.f77_ast.specs.declared.stmt.LoopControl.{LoopControl}
use Rattle.f77_structure.specs.HasMeaning.{control_has_meaning, expr_has_meaning, increment_has_meaning, is_integer_variable}
use Rattle.f77_structure.specs.Storage.{IsStorage}
use Rattle.f77_meaning.specs.Demand.{gives, fails, and_then, Setting, address_written, is_outside, located, number_demand}
use Rattle.f77_meaning.specs.Do.{Begun, Parameters, begun_at, begun_of, begun_with, increment_of, is_in_range, is_zero, parameters_of}
use Rattle.f77_meaning.specs.Process.{Binding}
use Rattle.f77_turns.proofs.Cells.{Any, Asks, BoundIn, InStorage, IsAddress, address_asks, both, then_asks}
use Rattle.f77_turns.proofs.Expressions.{found_lies, number_asks, scalar_asks}

module _ (s : Setting) (storage : IsStorage s.program.layout) where
  abbrev total : ℕ
  total = length s.program.layout.first

  -- the variable that a DO statement writes lies in storage
  abbrev pub BeginsIn : Begun → Type 0
  BeginsIn b = b.variable < total

  increment_asks : (o : Option Expr) → IsTrue (increment_has_meaning s.program.units s.program.layout s.unit o) → (answers : List ℤ) → Asks total Any (increment_of s o answers)
  increment_asks None m answers = tt
  increment_asks (Some e) m answers = number_asks s storage e m answers

  parameters_ask : (control : LoopControl) → IsTrue (expr_has_meaning s.program.units s.program.layout s.unit control.first && (expr_has_meaning s.program.units s.program.layout s.unit control.last && increment_has_meaning s.program.units s.program.layout s.unit control.increment)) → (answers : List ℤ) → Asks total Any (parameters_of s control answers)
  parameters_ask control m answers =
      let one : (expr_has_meaning s.program.units s.program.layout s.unit control.first ≡ true) × ((expr_has_meaning s.program.units s.program.layout s.unit control.last && increment_has_meaning s.program.units s.program.layout s.unit control.increment) ≡ true) =
      both (expr_has_meaning s.program.units s.program.layout s.unit control.first) (expr_has_meaning s.program.units s.program.layout s.unit control.last && increment_has_meaning s.program.units s.program.layout s.unit control.increment) m in
      let two : (expr_has_meaning s.program.units s.program.layout s.unit control.last ≡ true) × (increment_has_meaning s.program.units s.program.layout s.unit control.increment ≡ true) =
      both (expr_has_meaning s.program.units s.program.layout s.unit control.last) (increment_has_meaning s.program.units s.program.layout s.unit control.increment) one.1 in
      then_asks total Any Any (number_demand s control.first answers) (λ m1 rest. and_then (number_demand s control.last rest) (λ m2 more. and_then (increment_of s control.increment more) (λ m3 left. gives (record { first = m1; last = m2; increment = m3 }) left))) (number_asks s storage control.first one.0 answers)
      (λ m1 rest g1. then_asks total Any Any (number_demand s control.last rest) (λ m2 more. and_then (increment_of s control.increment more) (λ m3 left. gives (record { first = m1; last = m2; increment = m3 }) left)) (number_asks s storage control.last two.0 rest)
      (λ m2 more g2. then_asks total Any Any (increment_of s control.increment more) (λ m3 left. gives (record { first = m1; last = m2; increment = m3 }) left) (increment_asks control.increment two.1 more) (λ m3 left g3. tt)))

  begins_in : (k : Kind) (variable : Binding) (m : Parameters) → BoundIn total k variable → (rest : List ℤ) → Asks total BeginsIn (begun_with s variable m rest)
  begins_in k variable m h rest = by (is_outside s variable) (is_zero m.increment) (is_in_range m)
    where
      by : (o z r : Bool) → Asks total BeginsIn (cond o (fails OutsideRegion) (cond z (fails ZeroIncrement) (cond r (and_then (address_written variable rest) (λ address more. gives (begun_at m address) more)) (fails DoRange))))
      by true z r = tt
      by false true r = tt
      by false false true = then_asks total (IsAddress total) BeginsIn (address_written variable rest) (λ address more. gives (begun_at m address) more) (address_asks total k variable h rest) (λ address more within. within)
      by false false false = tt

  -- what a DO statement reads and writes lies in storage
  pub begun_asks : (control : LoopControl) → IsTrue (control_has_meaning s.program.units s.program.layout s.unit control) → (answers : List ℤ) → Asks total BeginsIn (begun_of s control answers)
  begun_asks control m answers =
      let tests : (is_integer_variable (entity_in s.program.layout.entities s.unit control.variable) ≡ true) × ((expr_has_meaning s.program.units s.program.layout s.unit control.first && (expr_has_meaning s.program.units s.program.layout s.unit control.last && increment_has_meaning s.program.units s.program.layout s.unit control.increment)) ≡ true) =
      both (is_integer_variable (entity_in s.program.layout.entities s.unit control.variable)) (expr_has_meaning s.program.units s.program.layout s.unit control.first && (expr_has_meaning s.program.units s.program.layout s.unit control.last && increment_has_meaning s.program.units s.program.layout s.unit control.increment)) m in
      then_asks total Any BeginsIn (parameters_of s control answers) (λ m rest. and_then (located s (entity_in s.program.layout.entities s.unit control.variable) None rest) (λ variable more. begun_with s variable.bound m more)) (parameters_ask control tests.1 answers)
      (λ m rest good. then_asks total (InStorage total) BeginsIn (located s (entity_in s.program.layout.entities s.unit control.variable) None rest) (λ variable more. begun_with s variable.bound m more)
      (scalar_asks total s (entity_in s.program.layout.entities s.unit control.variable) (found_lies s storage control.variable) tests.0 rest) (λ variable more fine. begins_in variable.kind variable.bound m fine more))
