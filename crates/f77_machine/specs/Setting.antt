-- Where a machine evaluates expressions.
use Rattle.std.specs.Prelude.{ℕ, []}
use Rattle.f77_ast.specs.declared.program.Program.{Program}
use Rattle.f77_meaning.specs.Demand.{Setting}

-- in a unit that has no dummies, as no accepted program has a unit with some yet
abbrev pub setting_in : Program → (unit : ℕ) → Setting
setting_in program unit = record { program = program; unit = unit; bindings = []; bounds = [] }
