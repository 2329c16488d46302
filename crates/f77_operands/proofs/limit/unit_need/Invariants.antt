use Rattle.f77_ast.specs.Limits.{most_operands}
use Rattle.std.proofs.Common.{◌≡◌, ◌+◌, ◌≤◌, take, drop}
use Rattle.f77_operands.specs.Limit.{greatest_need, unit_refusal}
use Rattle.f77_operands.proofs.limit.unit_need.Given as goal

abbrev pub invariant-loop-listed : goal.invariant-loop-listed
invariant-loop-listed l = record {
  rest : unit_refusal l.others (drop l.listed-index l.listing) ≡ unit_refusal l.others l.listing;
  greatest : l.greatest ≡ greatest_need (take l.listed-index l.listing);
  within : l.others + l.greatest ≤ most_operands;
}
