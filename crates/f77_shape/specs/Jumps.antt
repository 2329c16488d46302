-- Jumps into DO ranges and IF blocks (ANSI X3.9-1978, sections 11.6 to 11.8 and 11.10.8).
use Rattle.std.specs.Prelude.{ℕ, Bool, false, ◌&&◌, not, List, ◌++◌, Option, None, Some}
use Rattle.std.specs.List.{list_any}
use Rattle.f77_ast.specs.declared.program.Listed.{Listed}
use Rattle.f77_structure.specs.Labels.{target_in, jumps_of}
use Rattle.f77_structure.specs.declared.stretches.Stretch.{Stretch}
use Rattle.f77_structure.specs.Blocks.{blocks_of}
use Rattle.f77_structure.specs.Stretches.{holds, ranges_of}

-- whether a range or block holds a place, and not the place of the jump
abbrev pub is_entered : (from to : ℕ) → Stretch → Bool
is_entered from to stretch = holds stretch to && not (holds stretch from)

abbrev pub enters : (unit : List Listed) → (from : ℕ) → Option ℕ → Bool
enters unit from None = false
enters unit from (Some to) = list_any (is_entered from to) (ranges_of unit ++ blocks_of unit)

-- JumpIntoRange: a label of a GO TO or arithmetic IF in a DO range or IF block that doesn't hold the jump
abbrev pub jumps_in : (unit : List Listed) → ℕ → Listed → List Listed → Bool
jumps_in unit place listed following = list_any (λ label. enters unit place (target_in label unit)) (jumps_of listed.stmt)
