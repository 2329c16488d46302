-- How the code counts names: a number past the limit is kept as one more than may be.
use Rattle.f77_ast.specs.Limits.{most_names}
use Rattle.std.specs.Prelude.{◌≡◌, ℕ, ◌+◌, List, [], Option, min}
use Rattle.f77_ast.specs.declared.program.Listed.{Listed}
use Rattle.f77_ast.specs.declared.refusal.Refusal.{Refusal}
use Rattle.f77_ast.specs.Refusal.{first_of}
use Rattle.f77_shape.specs.Limits.{name_count, names_of, names_pass}

-- what the names of a unit come to, where so many stand in the units before
pub record IsCounted (others : ℕ) (unit : List Listed) (over : Option Refusal) (count : ℕ) : Type 0 where
  pub first : over ≡ first_of (names_pass others [] unit)
  pub counts : count ≡ min (others + name_count (names_of unit)) (most_names + 1)
