-- What the code knows of the statements that follow one.
use Rattle.std.specs.Prelude.{◌≡◌, ℕ, ◌+◌, Bool, true, List, length, reverse, Option, None, Some, nat_lt}
use Rattle.std.specs.Option.{unwrap_or}
use Rattle.f77_ast.specs.declared.program.Listed.{Listed}
use Rattle.f77_loops.specs.declared.following.Following.{Following}
use Rattle.f77_loops.specs.declared.ranges.Range.{Range}
use Rattle.f77_loops.specs.Ranges.{ranges_in, barrier_in}
use Rattle.f77_structure.specs.Labels.{distance_to}
use Rattle.f77_structure.specs.Targets.{place_of}

-- the nearest executable statement that has this label, or the number behind the unit's last statement
abbrev pub last_by : Following → (label : ℕ) → ℕ
last_by known label = unwrap_or (place_of known.targets label) known.end

-- whether the nearest barrier, where there is one, stands behind a statement
abbrev pub is_closed_to : (last : ℕ) → Option ℕ → Bool
is_closed_to last None = true
is_closed_to last (Some barrier) = nat_lt last barrier

-- the range that begins here and ends with a label
abbrev pub range_by : Following → (label : ℕ) → Range
range_by known label = record { last = last_by known label; closed = is_closed_to (last_by known label) known.barrier }

-- what is known of these statements of a unit, the first of which is statement `number` of the file, is so; they are all
-- that the unit has left
pub record Knows (number : ℕ) (following : List Listed) (known : Following) : Type 0 where
  pub behind : known.end ≡ number + length following
  pub labels : (label : ℕ) → last_by known label ≡ number + distance_to label following
  pub barrier : known.barrier ≡ barrier_in number following
  pub ranges : known.ranges.items ≡ reverse (ranges_in number following)
