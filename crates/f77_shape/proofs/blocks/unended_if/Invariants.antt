use Rattle.f77_ast.specs.declared.rule.Rule.TheVariants.{IfNesting}
use Rattle.std.proofs.Common.{◌≡◌, ◌+◌, ◌≤◌, length, drop}
use Rattle.f77_shape.specs.Blocks.{is_unended, ends_in}
use Rattle.f77_shape.proofs.Firsts.{first_from}
use Rattle.f77_shape.proofs.blocks.unended_if.Given as goal

abbrev pub invariant-loop-place : goal.invariant-loop-place
invariant-loop-place l = record {
  within : l.place ≤ length l.unit;
  first : l.first ≡ first_from IfNesting is_unended l.unit l.place;
  ends : l.ends ≡ ends_in (drop l.place l.unit);
  few : l.ends + l.place ≤ length l.unit;
}

abbrev pub decreases-loop-place : goal.decreases-loop-place
decreases-loop-place l = l.place
