use Rattle.f77_ast.specs.Limits.{most_operands}
use Rattle.std.proofs.Common.{◌≡◌, ◌≤◌, drop}
use Rattle.f77_operands.specs.Limit.{refusal_from, operand_refusal}
use Rattle.f77_operands.proofs.limit.too_many_operands.Given as goal

abbrev pub invariant-loop-unit : goal.invariant-loop-unit
invariant-loop-unit l = record {
  rest : refusal_from l.others (drop l.unit-index l.units) ≡ operand_refusal l.units;
  within : l.others ≤ most_operands;
}
