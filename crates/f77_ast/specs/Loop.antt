-- The DO-loops of a program, by their ordinals (ANSI X3.9-1978, section 11.10).
use Rattle.std.specs.Prelude.{◌≡◌, ℕ, ◌+◌, ◌-◌, ◌==◌, Bool, List, Option, None, Some, slice_get, find, if◌then◌else◌}
use Rattle.std.specs.List.{list_any}
use Rattle.std.specs.Option.{option_or}
use Rattle.f77_ast.specs.declared.program.Loop.{Loop}

-- whether a loop has this ordinal
abbrev pub has_ordinal : ℕ → Loop → Bool
has_ordinal ordinal loop = loop.ordinal == ordinal

-- a loop that may be there, kept where it has this ordinal
abbrev pub kept_with : ℕ → Option Loop → Option Loop
kept_with ordinal None = None
kept_with ordinal (Some loop) = if has_ordinal ordinal loop then Some loop else None

-- the loop at the place of an ordinal, where it has it
abbrev pub in_place : List Loop → ℕ → Option Loop
in_place loops ordinal = kept_with ordinal (slice_get loops (ordinal - 1))

-- the loop of an ordinal: the one at the ordinal's place, where that has it, else the first of the list that has it
abbrev pub loop_at : List Loop → ℕ → Option Loop
loop_at loops ordinal = option_or (in_place loops ordinal) (find (has_ordinal ordinal) loops)

-- whether some loop of the list has this ordinal
abbrev pub has_loop : List Loop → ℕ → Bool
has_loop loops ordinal = list_any (has_ordinal ordinal) loops

-- the loops stand in the order of their ordinals, which count from 1
abbrev pub IsNumbered : List Loop → Type 0
IsNumbered loops = (place : ℕ) (loop : Loop) → slice_get loops place ≡ Some loop → loop.ordinal ≡ place + 1

-- in a list so numbered, the loop of an ordinal stands at the place of the ordinal
abbrev pub NumberedLoopsStandInPlace : Type 0
NumberedLoopsStandInPlace =
    (loops : List Loop) (place : ℕ) → IsNumbered loops → loop_at loops (place + 1) ≡ slice_get loops place
