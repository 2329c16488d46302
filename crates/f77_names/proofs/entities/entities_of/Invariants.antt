use Rattle.std.proofs.Common.{◌≡◌, ◌++◌, drop}
use Rattle.f77_names.specs.Entities.{entities_from, entities_of}
use Rattle.f77_names.proofs.GrowthLemmas.{AreBefore}
use Rattle.f77_names.proofs.entities.entities_of.Given as goal

abbrev pub invariant-loop-number : goal.invariant-loop-number
invariant-loop-number l = record {
  before : AreBefore l.number l.entities;
  rest : l.entities ++ entities_from l.number (drop l.number l.units) ≡ entities_of l.units;
}
