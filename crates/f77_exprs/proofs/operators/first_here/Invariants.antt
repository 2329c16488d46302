use Rattle.std.proofs.Common.{◌≡◌, drop}
use Rattle.f77_exprs.specs.Operators.{first_passing, is_here}
use Rattle.f77_exprs.proofs.operators.first_here.Given as goal

abbrev pub invariant-loop-operator : goal.invariant-loop-operator
invariant-loop-operator l = first_passing is_here l.operators l.text ≡ first_passing is_here (drop l.operator-index l.operators) l.text
