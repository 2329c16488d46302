use Rattle.std.proofs.Common.{ℕ, length}
use Rattle.f77_leaves.specs.Declarations.{declarations_of}
use Rattle.f77_constants.specs.Constants.{name_length, values_with}
use Rattle.f77_constants.specs.Laws.{Extends}
use Rattle.f77_constants.specs.Values.{value_in}
use Rattle.f77_constants.proofs.Ending.{Covers}
use Rattle.f77_constants.proofs.constants.values_with.Given as goal

abbrev pub invariant-passes : goal.invariant-passes
invariant-passes l = record {
  within : Extends (value_in l.values) (values_with l.unit (name_length (declarations_of l.unit) (value_in l.lengths)));
  covers : Covers l.unit (name_length (declarations_of l.unit) (value_in l.lengths)) (value_in l.values) l.left;
}

abbrev pub decreases-passes : goal.decreases-passes
decreases-passes l = length l.left
