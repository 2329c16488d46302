use Rattle.turn_rows.specs.Regions.{CanStep, IsOneLoop}
use Rattle.turn_rows.proofs.turns.show_steps.Given as goal

-- the region of the same loop, which can take a step
abbrev pub invariant-loop-pick : goal.invariant-loop-pick
invariant-loop-pick l = record {
  can : CanStep l.running l.cells;
  one : IsOneLoop l.initial.running l.running;
}
