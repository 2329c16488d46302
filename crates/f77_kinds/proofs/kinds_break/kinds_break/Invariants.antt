use Rattle.std.proofs.Common.{◌≡◌, drop}
use Rattle.std.specs.List.{flat_map}
use Rattle.f77_ast.specs.Refusal.{first_of, sooner}
use Rattle.f77_kinds.specs.Breaks.{breaks_in, breaks_among}
use Rattle.f77_kinds.proofs.kinds_break.kinds_break.Given as goal

abbrev pub invariant-loop-unit : goal.invariant-loop-unit
invariant-loop-unit l = sooner l.first (first_of (flat_map (λ unit. breaks_in unit.listing) (drop l.unit-index l.units))) ≡ first_of (breaks_among l.units)
