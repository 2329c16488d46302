use Rattle.f77_ast.specs.declared.rule.Rule.TheVariants.{DoNesting}
use Rattle.std.proofs.Common.{◌≡◌}
use Rattle.f77_ast.specs.Refusal.{sooner}
use Rattle.f77_shape.specs.Ranges.{breaks_range}
use Rattle.f77_shape.proofs.Firsts.{first_from}
use Rattle.f77_shape.proofs.ranges.bad_range.Given as goal

abbrev pub invariant-loop-place : goal.invariant-loop-place
invariant-loop-place l = sooner l.first (first_from DoNesting (breaks_range l.unit) l.unit l.place) ≡ first_from DoNesting (breaks_range l.unit) l.unit 0
