use Rattle.hyb_outside.specs.declared.pieces.SinkName.{SinkName}
use Rattle.hyb_outside.specs.Pieces.{sinks}
use Rattle.hyb_outside.specs.SinkSeen.{SinkSeen}
use Rattle.f77_meaning.specs.Run.{run_from}
use Rattle.f77_meaning.specs.Sound.{IsSound, Fits}
use Rattle.f77_io.specs.Input.{left_of}
use Rattle.f77_io.specs.Line.{text_of}
use Rattle.f77_machine.specs.Process.{process_of, IsProcessOf}
use Rattle.f77_machine.specs.Store.{values_of}
use Rattle.hybrid_top.specs.Answer.{ran, Shows}
use Rattle.hybrid_top.specs.declared.status.Status.{Status}
use Rattle.hybrid_top.proofs.run.run.Given as goal

-- whatever shows the run of the steps that are left shows the whole run
abbrev pub invariant-loop-left : goal.invariant-loop-left
invariant-loop-left g l = record {
  sound : IsSound l.program;
  is_of : IsProcessOf l.program l.process (text_of l.line);
  fits : Fits l.program.layout (values_of l.store);
  rest : (s : Status) (new : SinkName → SinkSeen) →
      Shows (ran (run_from l.program (process_of l.process (text_of l.line)) (values_of l.store) (left_of l.input) l.left)) s
      (sinks (g.O.Sink.seen l.out) (g.N.Sink.seen l.notes) (g.Q.Sink.seen l.order)) new →
      Shows (ran (run_from l.initial.program (process_of l.initial.process (text_of l.initial.line)) (values_of l.initial.store) (left_of l.initial.input) l.initial.left)) s
      (sinks (g.O.Sink.seen l.initial.out) (g.N.Sink.seen l.initial.notes) (g.Q.Sink.seen l.initial.order)) new;
}

abbrev pub decreases-loop-left : goal.decreases-loop-left
decreases-loop-left g l = l.left
