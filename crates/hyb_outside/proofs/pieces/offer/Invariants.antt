use Rattle.std.proofs.Common.{length, take, ◌-◌, ◌≤◌}
use Rattle.hyb_outside.specs.SinkSeen.{Takes}
use Rattle.hyb_outside.proofs.pieces.offer.Given as goal

-- the bytes before `done` are taken
abbrev pub invariant-loop-done : goal.invariant-loop-done
invariant-loop-done g l = record {
  within : l.done ≤ length l.piece;
  took : Takes (take l.done l.piece) (g.S.Sink.seen l.initial.sink) (g.S.Sink.seen l.sink);
}

abbrev pub decreases-loop-done : goal.decreases-loop-done
decreases-loop-done g l = length l.piece - l.done
