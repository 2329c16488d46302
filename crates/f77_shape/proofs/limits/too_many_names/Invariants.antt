use Rattle.f77_ast.specs.Limits.{most_names}
use Rattle.std.proofs.Common.{◌+◌, ◌≡◌, take, drop, min}
use Rattle.f77_ast.specs.Refusal.{first_of, sooner}
use Rattle.f77_shape.specs.Limits.{name_breaks}
use Rattle.f77_shape.proofs.CountLemmas.{all_counted}
use Rattle.f77_shape.proofs.limits.too_many_names.Given as goal

abbrev pub invariant-loop-unit : goal.invariant-loop-unit
invariant-loop-unit l = record {
  others : l.others ≡ min (all_counted 0 (take l.unit-index l.units)) (most_names + 1);
  first : sooner l.first (first_of (name_breaks (all_counted 0 (take l.unit-index l.units)) (drop l.unit-index l.units))) ≡ first_of (name_breaks 0 l.units);
}
