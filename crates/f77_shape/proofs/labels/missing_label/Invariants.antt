use Rattle.f77_ast.specs.declared.rule.Rule.TheVariants.{LabelMissing}
use Rattle.std.proofs.Common.{◌≡◌}
use Rattle.f77_ast.specs.Refusal.{sooner}
use Rattle.f77_shape.specs.Labels.{misses_label}
use Rattle.f77_shape.proofs.Firsts.{first_from}
use Rattle.f77_shape.proofs.labels.missing_label.Given as goal

abbrev pub invariant-loop-listed : goal.invariant-loop-listed
invariant-loop-listed l = sooner l.first (first_from LabelMissing (misses_label l.unit) l.unit l.listed-index) ≡ first_from LabelMissing (misses_label l.unit) l.unit 0
