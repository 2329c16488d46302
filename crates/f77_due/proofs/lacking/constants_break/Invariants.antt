use Rattle.std.proofs.Common.{◌≡◌, drop}
use Rattle.f77_ast.specs.Refusal.{first_of, sooner}
use Rattle.f77_due.specs.Breaks.{lacking_among}
use Rattle.f77_due.proofs.lacking.constants_break.Given as goal

abbrev pub invariant-loop-unit : goal.invariant-loop-unit
invariant-loop-unit l = sooner l.first (first_of (lacking_among (drop l.unit-index l.units))) ≡ first_of (lacking_among l.units)
