-- When each answer of a command comes: what it rests on (`Only`), and when it has to come (`Comes`).
use Rattle.std.specs.Prelude.{◌≡◌, ℕ, ◌+◌, ◌-◌, ◌^◌, ◌≤◌, ◌<◌, min, Bool, true, false, List, length, map, Option, Some, Ok, Err, ◌⊎◌}
use Rattle.hyb_base.specs.Count.{Rose}
use Rattle.hyb_outside.specs.declared.pieces.SinkName.{SinkName}
use Rattle.hyb_outside.specs.declared.pieces.SinkName.TheVariants.{Out}
use Rattle.hyb_outside.specs.FilesSeen.{FilesSeen}
use Rattle.hyb_outside.specs.Pieces.{share_of, OneRose}
use Rattle.hyb_outside.specs.SinkSeen.{SinkSeen, Takes}
use Rattle.f77_ast.specs.declared.program.Program.{Program}
use Rattle.f77_ast.specs.declared.refusal.Refusal.{Refusal}
use Rattle.f77_meaning.specs.Run.{Ended, Shown, sequential_run}
use Rattle.hybrid_top.specs.Answer.{status_of, shown_piece}
use Rattle.hybrid_top.specs.Command.{RunRequest}
use Rattle.f77_front.specs.Front.{front_of}
use Rattle.hybrid_top.specs.Reading.{IsWhole, IsTooLong, file_limit}
use Rattle.hybrid_top.specs.declared.status.Status.{Status}
use Rattle.hybrid_top.specs.declared.status.Status.TheVariants as status

-- no read failed: the count of faults didn't rise
abbrev pub NoneFailed : FilesSeen → FilesSeen → Type 0
NoneFailed old new = ¬ Rose old.faults new.faults

-- the result is this status, or it yields to want of memory or to a fault of writing
abbrev pub IsOrYields : Status → Status → Type 0
IsOrYields result answer = (result ≡ answer) ⊎ ((result ≡ status.NoMemory) ⊎ (result ≡ status.WriteFault))

-- a file tells these bytes, and they are no more than a file may have
pub record Tells (seen : FilesSeen) (name bytes : List ℕ) : Type 0 where
  pub content : seen.content name ≡ Some bytes
  pub within : length bytes ≤ file_limit

-- a file tells its bytes, and they are more than a file may have
abbrev pub TellsMore : FilesSeen → List ℕ → Type 0
TellsMore seen name = (bytes : List ℕ) × (seen.content name ≡ Some bytes) × (file_limit < length bytes)

-- a file is told to have too many bytes: what is answered
pub record FileLimitComes (request : Option RunRequest) (old new : FilesSeen) (result : Status) : Type 0 where
  pub program : (r : RunRequest) → request ≡ Some r → NoneFailed old new → TellsMore old r.program → IsOrYields result (status.FileLimit 1)
  pub input : (r : RunRequest) (bytes : List ℕ) (made : Program) → request ≡ Some r → NoneFailed old new → Tells old r.program bytes → front_of bytes ≡ Ok made → TellsMore old r.input → IsOrYields result (status.FileLimit 2)
  pub schedule : (r : RunRequest) (bytes : List ℕ) (made : Program) (input : List ℕ) → request ≡ Some r → NoneFailed old new → Tells old r.program bytes → front_of bytes ≡ Ok made → Tells old r.input input → TellsMore old r.schedule → IsOrYields result (status.FileLimit 3)

-- the file of a number: 1 is the program, 2 the input, 3 the schedule
abbrev pub IsFile : RunRequest → ℕ → List ℕ → Type 0
IsFile r file name = ((file ≡ 1) × (name ≡ r.program)) ⊎ (((file ≡ 2) × (name ≡ r.input)) ⊎ ((file ≡ 3) × (name ≡ r.schedule)))

-- a FileLimit names a file that has too many bytes, where its content is told
abbrev pub FileLimitOnly : Option RunRequest → FilesSeen → Status → Type 0
FileLimitOnly request old result = (file : ℕ) → result ≡ status.FileLimit file → (r : RunRequest) × (name : List ℕ) × (request ≡ Some r) × IsFile r file name × IsTooLong (old.content name)

-- the program is told and isn't accepted: what is answered, where no read failed or the program was read to its end
abbrev pub RefusedComes : Option RunRequest → FilesSeen → FilesSeen → Status → Type 0
RefusedComes request old new result = (r : RunRequest) (bytes : List ℕ) (refusal : Refusal) → request ≡ Some r → NoneFailed old new ⊎ (old.ends < new.ends) → Tells old r.program bytes → front_of bytes ≡ Err refusal → IsOrYields result (status.Refused refusal)

-- a Refused has its program, whose first refusal it is
abbrev pub RefusedOnly : Option RunRequest → FilesSeen → Status → Type 0
RefusedOnly request old result = (refusal : Refusal) → result ≡ status.Refused refusal → (r : RunRequest) × (bytes : List ℕ) × (request ≡ Some r) × IsWhole (old.content r.program) bytes × (front_of bytes ≡ Err refusal)

-- the bytes of what is shown to `out`: each line with its LF
abbrev pub lines_text : List Shown → List ℕ
lines_text shown = share_of Out (map shown_piece shown)

-- a result of a run
abbrev pub is_of_run : Status → Bool
is_of_run status.Done = true
is_of_run (status.Faulted fault line) = true
is_of_run status.StepsSpent = true
is_of_run _ = false

-- the result is that of the sequential run of an accepted program on an input, and `out` took its lines
pub record IsRun (request : Option RunRequest) (old : FilesSeen) (result : Status) (out_old out_new : SinkSeen) : Type 0 where
  pub asked : RunRequest
  pub bytes : List ℕ
  pub program : Program
  pub input : List ℕ
  pub request_is : request ≡ Some asked
  pub program_is : IsWhole (old.content asked.program) bytes
  pub accepted : front_of bytes ≡ Ok program
  pub input_is : IsWhole (old.content asked.input) input
  pub schedule : List ℕ
  pub schedule_is : IsWhole (old.content asked.schedule) schedule
  pub status : result ≡ status_of (sequential_run program input asked.steps).end
  pub lines : Takes (lines_text (sequential_run program input asked.steps).shown) out_old out_new

-- Done, Faulted and StepsSpent are those of a sequential run, and `out` took its lines and nothing else
abbrev pub RunOnly : Option RunRequest → FilesSeen → Status → SinkSeen → SinkSeen → Type 0
RunOnly request old result out_old out_new = is_of_run result ≡ true → IsRun request old result out_old out_new

-- an accepted program and files within the limit are told: the sequential run's end is answered
abbrev pub RunComes : Option RunRequest → FilesSeen → FilesSeen → Status → Type 0
RunComes request old new result = (r : RunRequest) (bytes : List ℕ) (program : Program) (input schedule : List ℕ) → request ≡ Some r → NoneFailed old new → Tells old r.program bytes → front_of bytes ≡ Ok program → Tells old r.input input → Tells old r.schedule schedule → IsOrYields result (status_of (sequential_run program input r.steps).end)

-- a run that ends without fault within its steps, and no failed call, give Done, or want of memory
abbrev pub RunCompletes : Option RunRequest → FilesSeen → FilesSeen → Status → (SinkName → SinkSeen) → (SinkName → SinkSeen) → Type 0
RunCompletes request files_old files_new result old new = (r : RunRequest) (bytes : List ℕ) (program : Program) (input schedule : List ℕ) → request ≡ Some r → NoneFailed files_old files_new → Tells files_old r.program bytes → front_of bytes ≡ Ok program → Tells files_old r.input input → Tells files_old r.schedule schedule → (sequential_run program input r.steps).end ≡ Ended → ¬ OneRose old new → (result ≡ status.Done) ⊎ (result ≡ status.NoMemory)

-- the answers before the first step
abbrev pub is_before_run : Status → Bool
is_before_run status.Usage = true
is_before_run (status.Refused refusal) = true
is_before_run (status.BadSchedule line) = true
is_before_run status.ReadFault = true
is_before_run status.NoMemory = true
is_before_run (status.FileLimit file) = true
is_before_run _ = false

-- how many files were read to their end before an answer at least
abbrev pub ends_owed : Status → ℕ
ends_owed status.Done = 3
ends_owed (status.Refused refusal) = 1
ends_owed (status.BadSchedule line) = 3
ends_owed (status.FileLimit file) = file - 1
ends_owed (status.Faulted fault line) = 3
ends_owed status.StepsSpent = 3
ends_owed _ = 0

-- so many ends were given, or the number of ends stands still
abbrev pub EndsGiven : Status → ℕ → ℕ → Type 0
EndsGiven result before after = min (before + ends_owed result) (2 ^ 64 - 1) ≤ after
