-- DO ranges and IF blocks, by the places of their statements in a unit, counted from 0.
use Rattle.std.specs.Prelude.{ℕ, suc, Bool, ◌&&◌, nat_lt, List, [], ◌∷◌, ◌++◌, Option, None, Some, if◌then◌else◌}
use Rattle.std.specs.Option.{option_to_list, option_and_then}
use Rattle.f77_ast.specs.declared.program.Listed.{Listed}
use Rattle.f77_structure.specs.declared.stretches.Stretch.{Stretch}
use Rattle.f77_structure.specs.Statements.{terminal_label}
use Rattle.f77_structure.specs.Labels.{target_in}

-- whether the statement at a place stands in it
abbrev pub holds : Stretch → (place : ℕ) → Bool
holds stretch place = nat_lt stretch.opens place && nat_lt place (suc stretch.last)

-- a DO range runs from after the DO to its terminal statement, which stands later in the unit; also where that is of a kind
-- that may end no range
abbrev pub range_to : (place : ℕ) → Option ℕ → Option Stretch
range_to place None = None
range_to place (Some target) = if nat_lt place target then Some (record { opens = place; last = target }) else None

abbrev pub range_at : (unit : List Listed) → (place : ℕ) → Listed → Option Stretch
range_at unit place listed = range_to place (option_and_then (λ label. target_in label unit) (terminal_label listed.stmt))

abbrev pub ranges_from : (unit : List Listed) → (place : ℕ) → List Listed → List Stretch
ranges_from unit place [] = []
ranges_from unit place (listed ∷ following) = option_to_list (range_at unit place listed) ++ ranges_from unit (suc place) following

-- the DO ranges of a unit
abbrev pub ranges_of : List Listed → List Stretch
ranges_of unit = ranges_from unit 0 unit
