use Rattle.std.proofs.Common.{◌≡◌, ◌+◌, drop}
use Rattle.f77_structure.specs.Units.{first_executable}
use Rattle.f77_structure.proofs.units.first_executable.Given as goal

-- the statements so far aren't executable
abbrev pub invariant-loop-place : goal.invariant-loop-place
invariant-loop-place l = first_executable l.listing ≡ l.place + first_executable (drop l.place l.listing)
