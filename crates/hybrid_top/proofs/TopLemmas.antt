-- Lemmas on the top call.
use Rattle.std.proofs.Common.{◌≡◌, ◌≢◌, Some, Option, refl}
use Rattle.hyb_base.specs.Count.{next_count}
use Rattle.hyb_outside.specs.declared.pieces.SinkName.{SinkName}
use Rattle.hyb_outside.specs.FilesSeen.{FilesSeen}
use Rattle.hyb_outside.specs.SinkSeen.{SinkSeen}
use Rattle.f77_meaning.specs.Run.{run_from, sequential_run}
use Rattle.f77_io.specs.Input.{left_of}
use Rattle.f77_io.specs.Line.{text_of}
use Rattle.f77_machine.specs.Process.{process_of}
use Rattle.f77_machine.specs.Store.{values_of}
use Rattle.hybrid_top.specs.Answer.{stops, ran, IsAnswer, run, Shows, Gives, Performed, Answered}
use Rattle.hybrid_top.specs.Command.{RunRequest}
use Rattle.hybrid_top.specs.Prepared.{IsPrepared}
use Rattle.hybrid_top.specs.declared.machine.Machine.{Machine}
use Rattle.hybrid_top.specs.declared.status.Status.{Status}
use Rattle.hybrid_top.specs.declared.status.Status.TheVariants as status
use Rattle.hybrid_top.proofs.CauseLemmas.{never_write}
use Rattle.hybrid_top.proofs.ShowLemmas.{shows_along, shows_nothing, gives_cut, gives_then}

-- the run of a prepared machine is the sequential run
pub prepared_run : (seen : FilesSeen) (r : RunRequest) (m : Machine) (p : IsPrepared seen r m) → sequential_run p.program p.input r.steps ≡ run_from m.program (process_of m.process (text_of m.line)) (values_of m.store) (left_of m.input) r.steps
prepared_run seen r m p = rw (p.start.program_is, p.start.process, p.start.store, p.start.unread) refl

-- what it shows is an answer
pub prepared_performs : (old new : FilesSeen) (r : RunRequest) (m : Machine) (s : Status) (a b : SinkName → SinkSeen) → IsPrepared old r m → new.ends ≡ next_count (next_count (next_count old.ends)) → Shows (ran (run_from m.program (process_of m.process (text_of m.line)) (values_of m.store) (left_of m.input) r.steps)) s a b → Performed (Some r) old new s a b
prepared_performs old new r m s a b p ended h = record {
  answer = ran (sequential_run p.program p.input r.steps);
  is_answer = run r p.bytes p.program p.input p.schedule refl p.program_whole p.accepted p.input_whole p.schedule_whole ended refl;
  shows = shows_along _ _ s a b (prepared_run old r m p) h;
}

-- a status before the first step is an answer
pub stop_performs : (old new : FilesSeen) (q : Option RunRequest) (s : Status) (a : SinkName → SinkSeen) → IsAnswer old new q (stops s) → Performed q old new s a a
stop_performs old new q s a i = record { answer = stops s; is_answer = i; shows = shows_nothing s a }

-- where a line was cut, nothing more is written
pub performed_cut : (old new : FilesSeen) (q : Option RunRequest) (s : Status) (a b : SinkName → SinkSeen) → Performed q old new s a b → s ≡ status.WriteFault → Answered q old new s a b
performed_cut old new q s a b p w = record { answer = p.answer; is_answer = p.is_answer; gives = gives_cut p.answer s a b (never_write old new q p.answer p.is_answer) w p.shows }

-- else the status line follows
pub performed_then : (old new : FilesSeen) (q : Option RunRequest) (s result : Status) (a b c : SinkName → SinkSeen) → Performed q old new s a b → s ≢ status.WriteFault → Gives (stops s) result b c → Answered q old new result a c
performed_then old new q s result a b c p n g = record { answer = p.answer; is_answer = p.is_answer; gives = gives_then p.answer s result a b c n p.shows g }
