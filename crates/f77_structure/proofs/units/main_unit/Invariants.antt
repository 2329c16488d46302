use Rattle.std.proofs.Common.{◌≡◌, ◌+◌, drop}
use Rattle.f77_structure.specs.Units.{main_unit}
use Rattle.f77_structure.proofs.units.main_unit.Given as goal

-- the units so far are subprograms
abbrev pub invariant-loop-place : goal.invariant-loop-place
invariant-loop-place l = main_unit l.units ≡ l.place + main_unit (drop l.place l.units)
