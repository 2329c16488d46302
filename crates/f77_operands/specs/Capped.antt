-- How the code counts operands: a number past the limit is kept as one more than may be.
use Rattle.f77_ast.specs.Limits.{most_operands}
use Rattle.std.specs.Prelude.{◌≡◌, ℕ, ◌+◌, ◌≤◌, min, List, None}
use Rattle.f77_ast.specs.declared.program.Listed.{Listed}
use Rattle.f77_operands.specs.Limit.{greatest_need, unit_refusal}

-- a number, or one more than may be where it is more than that
abbrev pub capped : ℕ → ℕ
capped number = min number (most_operands + 1)

-- a unit's statements keep within the limit, and this is their need
pub record IsWithin (others : ℕ) (listing : List Listed) (need : ℕ) : Type 0 where
  pub accepted : unit_refusal others listing ≡ None
  pub greatest : need ≡ greatest_need listing
  pub within : others + need ≤ most_operands
