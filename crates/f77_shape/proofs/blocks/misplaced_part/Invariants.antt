use Rattle.f77_ast.specs.declared.rule.Rule.TheVariants.{IfNesting}
use Rattle.std.proofs.Common.{◌≡◌, reverse}
use Rattle.f77_shape.specs.Blocks.{is_misplaced_part, open_at}
use Rattle.f77_ast.specs.Refusal.{sooner}
use Rattle.f77_shape.proofs.Firsts.{first_from}
use Rattle.f77_shape.proofs.blocks.misplaced_part.Given as goal

abbrev pub invariant-loop-listed : goal.invariant-loop-listed
invariant-loop-listed l = record {
  first : sooner l.first (first_from IfNesting (is_misplaced_part l.unit) l.unit l.listed-index) ≡ first_from IfNesting (is_misplaced_part l.unit) l.unit 0;
  ifs : reverse l.elses.items ≡ open_at l.unit l.listed-index;
}
