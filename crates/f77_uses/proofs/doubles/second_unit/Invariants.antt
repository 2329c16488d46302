use Rattle.std.proofs.Common.{◌≡◌, ℕ, List, [], take, drop, Some}
use Rattle.std.specs.List.{list_any}
use Rattle.std.specs.Option.{is_some}
use Rattle.f77_ast.specs.Refusal.{first_of, sooner}
use Rattle.f77_uses.specs.Breaks.{same_unit, second_units}
use Rattle.f77_uses.specs.Firsts.{told}
use Rattle.f77_uses.proofs.DoubleLemmas.{names_of}
use Rattle.f77_uses.proofs.doubles.second_unit.Given as goal

abbrev pub invariant-loop-unit : goal.invariant-loop-unit
invariant-loop-unit l = record {
  seen : (other : List ℕ) → is_some (told l.seen other) ≡ list_any (same_unit (Some other)) (names_of (take l.unit-index l.units));
  first : sooner l.first (first_of (second_units (names_of (take l.unit-index l.units)) (drop l.unit-index l.units))) ≡ first_of (second_units [] l.units);
}
