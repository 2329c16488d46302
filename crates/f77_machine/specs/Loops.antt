-- The loop of a DO statement, looked for by halves.
use Rattle.std.specs.Prelude.{ℕ, ◌<◌, ◌≤◌, ◌==◌, List, Option, None, Some, slice_get, if◌then◌else◌}
use Rattle.std.specs.List.Sorted.{IsPartitionPoint}
use Rattle.f77_ast.specs.declared.program.Loop.{Loop}

-- the loops before a place begin before a statement of the file, and those from it on with it or behind it
abbrev pub IsFirstFrom : List Loop → (number place : ℕ) → Type 0
IsFirstFrom loops number place = IsPartitionPoint (λ loop. loop.from < number) (λ loop. number ≤ loop.from) loops place

-- a loop that may be there, where its range begins with this statement
abbrev pub kept_from : (number : ℕ) → Option Loop → Option Loop
kept_from number None = None
kept_from number (Some loop) = if loop.from == number then Some loop else None

-- the loop at a place, where its range begins with this statement
abbrev pub begins_at : List Loop → (place number : ℕ) → Option Loop
begins_at loops place number = kept_from number (slice_get loops place)
