use Rattle.std.proofs.Common.{◌≡◌, drop}
use Rattle.f77_ast.specs.Refusal.{first_of, sooner}
use Rattle.f77_built.specs.Built.{unbuilt_from}
use Rattle.f77_built.proofs.built.unbuilt_among.Given as goal

abbrev pub invariant-loop-number : goal.invariant-loop-number
invariant-loop-number l = sooner l.first (first_of (unbuilt_from l.units l.entities l.number (drop l.number l.units))) ≡ first_of (unbuilt_from l.units l.entities 0 l.units)
