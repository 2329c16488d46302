use Rattle.f77_ast.specs.declared.rule.Rule.TheVariants.{JumpIntoRange}
use Rattle.std.proofs.Common.{◌≡◌}
use Rattle.f77_ast.specs.Refusal.{sooner}
use Rattle.f77_shape.specs.Jumps.{jumps_in}
use Rattle.f77_shape.proofs.Firsts.{first_from}
use Rattle.f77_shape.proofs.jumps.jump_in.Given as goal

abbrev pub invariant-loop-place : goal.invariant-loop-place
invariant-loop-place l = sooner l.first (first_from JumpIntoRange (jumps_in l.unit) l.unit l.place) ≡ first_from JumpIntoRange (jumps_in l.unit) l.unit 0
