-- The DO statement and the iterations of its loop (ANSI X3.9-1978, sections 11.10.3 to 11.10.7).
use Rattle.std.specs.Prelude.{ℕ, suc, ◌+◌, ◌-◌, ◌^◌, ℤ, pos, negsuc, ◌+ℤ◌, ◌-ℤ◌, ◌*ℤ◌, int_div, Bool, false, ◌&&◌, ◌==◌, List, Option, None, Some, nat_lt, if◌then◌else◌}
use Rattle.f77_ast.specs.Entity.{entity_in}
use Rattle.f77_ast.specs.declared.expr.Expr.{Expr}
use Rattle.f77_ast.specs.declared.program.Listed.{Listed}
use Rattle.f77_ast.specs.declared.program.Loop.{Loop}
use Rattle.f77_ast.specs.declared.fault.Fault.TheVariants.{DoRange, OutsideRegion, ZeroIncrement}
use Rattle.f77_ast.specs.declared.stmt.LoopControl.{LoopControl}
use Rattle.f77_structure.specs.Units.{next_place}
use Rattle.f77_meaning.specs.Demand.{Demand, gives, fails, and_then, Setting, address_written, is_outside, located, number_demand}
use Rattle.f77_meaning.specs.Process.{ActiveLoop, Binding}

-- the initial, terminal and incrementation parameters m1, m2 and m3 (section 11.10.3)
pub record Parameters : Type 0 where
  pub first : ℤ
  pub last : ℤ
  pub increment : ℤ

-- a number from 0 on is itself, any other is 0
abbrev pub at_least_zero : ℤ → ℕ
at_least_zero (pos n) = n
at_least_zero (negsuc n) = 0

-- the iteration count, MAX(INT((m2 - m1 + m3) / m3), 0), without wrapping (section 11.10.3)
abbrev pub count_of : Parameters → ℕ
count_of m = at_least_zero (int_div (m.last -ℤ m.first +ℤ m.increment) m.increment)

-- the value of the DO-variable after so many iterations, without wrapping (section 11.10.7)
abbrev pub value_after : (first increment : ℤ) → (iterations : ℕ) → ℤ
value_after first increment iterations = first +ℤ pos iterations *ℤ increment

-- whether a number is one from -2 ^ 63 to 2 ^ 63 - 1
abbrev pub has_64_bits : ℤ → Bool
has_64_bits (pos n) = nat_lt n (2 ^ 63)
has_64_bits (negsuc n) = nat_lt n (2 ^ 63)

-- whether the count and the variable's value at the end of the loop are such numbers; this test is this project's own
abbrev pub is_in_range : Parameters → Bool
is_in_range m = has_64_bits (pos (count_of m)) && has_64_bits (value_after m.first m.increment (count_of m))

-- whether a number is 0
abbrev pub is_zero : ℤ → Bool
is_zero (pos n) = n == 0
is_zero (negsuc n) = false

-- a DO statement that begins: the address of its variable, its first value, its increment and its count
pub record Begun : Type 0 where
  pub variable : ℕ
  pub first : ℤ
  pub increment : ℤ
  pub count : ℕ

-- a DO statement that begins with these parameters
abbrev pub begun_at : Parameters → (variable : ℕ) → Begun
begun_at m variable = record { variable = variable; first = m.first; increment = m.increment; count = count_of m }

module _ (s : Setting) where
  -- the variable is in its region, the incrementation parameter isn't 0 (section 11.10.3), the count and the value at the end of the
  -- loop are in range, and the variable may be written
  abbrev pub begun_with : Binding → Parameters → List ℤ → Demand Begun
  begun_with variable m rest =
      if is_outside s variable then fails OutsideRegion
      else (if is_zero m.increment then fails ZeroIncrement
      else (if is_in_range m then and_then (address_written variable rest) (λ address more. gives (begun_at m address) more) else fails DoRange))

  -- the incrementation parameter: 1 where it is left out
  abbrev pub increment_of : Option Expr → List ℤ → Demand ℤ
  increment_of None answers = gives (pos 1) answers
  increment_of (Some increment) answers = number_demand s increment answers

  -- the three parameters, from the left
  abbrev pub parameters_of : LoopControl → List ℤ → Demand Parameters
  parameters_of control answers =
      and_then (number_demand s control.first answers) (λ m1 rest.
      and_then (number_demand s control.last rest) (λ m2 more.
      and_then (increment_of control.increment more) (λ m3 left. gives (record { first = m1; last = m2; increment = m3 }) left)))

  -- what a DO statement evaluates to: its parameters are read, and then its variable's address is the one to write
  abbrev pub begun_of : LoopControl → List ℤ → Demand Begun
  begun_of control answers =
      and_then (parameters_of control answers) (λ m rest.
      and_then (located s (entity_in s.program.layout.entities s.unit control.variable) None rest) (λ variable more. begun_with variable.bound m more))

-- the loop of a DO statement at a place of the statements of a unit, which becomes active: its range is run from where control goes
-- on after the DO statement
abbrev pub active_from : (listing : List Listed) → (at : ℕ) → Loop → Begun → ActiveLoop
active_from listing at loop begun = record {
  ordinal = loop.ordinal;
  from = next_place listing at;
  last = at + 1 + (loop.last - loop.from);
  variable = begun.variable;
  first = begun.first;
  increment = begun.increment;
  count = begun.count;
  done = 0;
}

-- an active loop with one iteration more ended
abbrev pub turned : ActiveLoop → ActiveLoop
turned loop = record loop { done = suc loop.done }

-- the value that the incrementation processing of an active loop gives its variable (section 11.10.7)
abbrev pub next_value : ActiveLoop → ℤ
next_value loop = value_after loop.first loop.increment (suc loop.done)
