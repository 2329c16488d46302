use Rattle.std.proofs.Common.{◌≡◌, ◌||◌, false, drop}
use Rattle.std.specs.List.{list_any}
use Rattle.f77_ast.specs.Refusal.{first_of, sooner}
use Rattle.f77_shape.specs.Program.{second_mains}
use Rattle.f77_structure.specs.Units.{is_main}
use Rattle.f77_shape.proofs.program.bad_main.Given as goal

abbrev pub invariant-loop-unit : goal.invariant-loop-unit
invariant-loop-unit l = record {
  first : sooner l.first (first_of (second_mains l.behind (drop l.unit-index l.units))) ≡ first_of (second_mains false l.units);
  behind : (l.behind || list_any (λ unit. is_main unit.listing) (drop l.unit-index l.units)) ≡ list_any (λ unit. is_main unit.listing) l.units;
}
