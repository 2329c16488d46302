-- What is left to judge finishes the verdict.
use Rattle.std.proofs.Common.{◌≡◌, [], drop}
use Rattle.loop_trace.specs.Marks.{verdict_from}
use Rattle.loop_trace.proofs.regions.verdict_of.Given as goal

abbrev pub invariant-loop-marks : goal.invariant-loop-marks
invariant-loop-marks l = verdict_from (drop l.marks-index l.regions) l.modes ≡ verdict_from l.regions []
