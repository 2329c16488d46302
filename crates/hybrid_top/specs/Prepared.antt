-- What stands before the first step of a run.
use Rattle.std.specs.Prelude.{◌≡◌, ℕ, List, Option, IsTrue, Ok, Err}
use Rattle.hyb_base.specs.Count.{Rose}
use Rattle.hyb_outside.specs.FilesSeen.{FilesSeen}
use Rattle.f77_ast.specs.declared.program.Program.{Program}
use Rattle.f77_ast.specs.declared.refusal.Refusal.{Refusal}
use Rattle.hybrid_top.specs.Command.{RunRequest}
use Rattle.f77_front.specs.Front.{front_of}
use Rattle.hybrid_top.specs.Machine.{IsAtStart}
use Rattle.hybrid_top.specs.Reading.{IsWhole, IsTooLong}
use Rattle.hybrid_top.specs.declared.machine.Machine.{Machine}
use Rattle.hybrid_top.specs.declared.status.Status.{Status}
use Rattle.hybrid_top.specs.declared.status.Status.TheVariants as status

-- the three files may be asked for
pub record MayRead (seen : FilesSeen) (request : RunRequest) : Type 0 where
  pub program : IsTrue (seen.may_read request.program)
  pub input : IsTrue (seen.may_read request.input)
  pub schedule : IsTrue (seen.may_read request.schedule)

-- why a file wasn't read whole
pub data ReadStops (file : ℕ) (content : Option (List ℕ)) (old new : FilesSeen) (stop : Status) : Type 0 where
  fault : stop ≡ status.ReadFault → Rose old.faults new.faults → new.ends ≡ old.ends → ReadStops file content old new stop
  too_long : stop ≡ status.FileLimit file → IsTooLong content → new.ends ≡ old.ends → ReadStops file content old new stop
  no_memory : stop ≡ status.NoMemory → ReadStops file content old new stop

-- a machine of a request before its first step: the three files are read whole, the program is accepted, and the machine
-- is at its start
pub record IsPrepared (seen : FilesSeen) (request : RunRequest) (m : Machine) : Type 0 where
  pub program : Program
  pub input : List ℕ
  pub bytes : List ℕ
  pub schedule : List ℕ
  pub program_whole : IsWhole (seen.content request.program) bytes
  pub accepted : front_of bytes ≡ Ok program
  pub input_whole : IsWhole (seen.content request.input) input
  pub schedule_whole : IsWhole (seen.content request.schedule) schedule
  pub start : IsAtStart program input m

-- why no program was made of some bytes
pub data FrontStops (bytes : List ℕ) (stop : Status) : Type 0 where
  refused : (refusal : Refusal) → stop ≡ status.Refused refusal → front_of bytes ≡ Err refusal → FrontStops bytes stop
  no_program_memory : stop ≡ status.NoMemory → FrontStops bytes stop
