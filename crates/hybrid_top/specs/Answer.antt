-- What a command answers: a status and what it shows, by what its files hold.
use Rattle.std.specs.Prelude.{◌≡◌, ℕ, List, [], ◌∷◌, ◌++◌, map, Option, None, Some, Ok, Err}
use Rattle.hyb_base.specs.Count.{next_count, Rose}
use Rattle.hyb_outside.specs.declared.pieces.SinkName.{SinkName}
use Rattle.hyb_outside.specs.declared.pieces.SinkName.TheVariants.{Out, Notes}
use Rattle.hyb_outside.specs.FilesSeen.{FilesSeen}
use Rattle.hyb_outside.specs.Pieces.{Piece, piece, TakesAll, StopsIn}
use Rattle.hyb_outside.specs.SinkSeen.{SinkSeen}
use Rattle.f77_ast.specs.declared.program.Program.{Program}
use Rattle.f77_ast.specs.declared.refusal.Refusal.{Refusal}
use Rattle.f77_meaning.specs.Run.{Run, Shown, Line, End, Ended, Faulted, Spent, sequential_run}
use Rattle.hybrid_top.specs.Command.{RunRequest}
use Rattle.f77_front.specs.Front.{front_of}
use Rattle.hybrid_top.specs.Reading.{IsWhole, IsTooLong}
use Rattle.hybrid_top.specs.StatusText.{status_text}
use Rattle.hybrid_top.specs.declared.status.Status.{Status}
use Rattle.hybrid_top.specs.declared.status.Status.TheVariants as status

-- what is shown, and the status at the end
pub record Answer : Type 0 where
  pub shown : List Shown
  pub status : Status

-- an answer before the first step
abbrev pub stops : Status → Answer
stops status = record { shown = []; status = status }

-- the status of a run's end
abbrev pub status_of : End → Status
status_of Ended = status.Done
status_of (Faulted fault line) = status.Faulted fault line
status_of Spent = status.StepsSpent

-- the answer of a run
abbrev pub ran : Run → Answer
ran run = record { shown = run.shown; status = status_of run.end }

-- the answers of a command, by what the files hold before it: each has its cause. The bytes of a file are known
-- where its content is told; where it isn't, they are whatever was read.
pub data IsAnswer (old new : FilesSeen) (request : Option RunRequest) (answer : Answer) : Type 0 where
  -- the words fit no row of the command table, and the files weren't called
  usage : request ≡ None → new ≡ old → answer ≡ stops status.Usage → IsAnswer old new request answer
  -- a read of the program failed, and no file was read to its end
  program_fault : (r : RunRequest) → request ≡ Some r → Rose old.faults new.faults → new.ends ≡ old.ends → answer ≡ stops status.ReadFault → IsAnswer old new request answer
  -- the program is accepted, and a read of the input failed: one file was read to its end
  input_fault : (r : RunRequest) (bytes : List ℕ) (program : Program) → request ≡ Some r → IsWhole (old.content r.program) bytes → front_of bytes ≡ Ok program → Rose old.faults new.faults → new.ends ≡ next_count old.ends → answer ≡ stops status.ReadFault → IsAnswer old new request answer
  -- the program is accepted, the input is read, and a read of the schedule failed: two files were read to their ends
  schedule_fault : (r : RunRequest) (bytes : List ℕ) (program : Program) (input : List ℕ) → request ≡ Some r → IsWhole (old.content r.program) bytes → front_of bytes ≡ Ok program → IsWhole (old.content r.input) input → Rose old.faults new.faults → new.ends ≡ next_count (next_count old.ends) → answer ≡ stops status.ReadFault → IsAnswer old new request answer
  -- no memory was to be had before the first step
  no_memory : (r : RunRequest) → request ≡ Some r → answer ≡ stops status.NoMemory → IsAnswer old new request answer
  -- the program has more bytes than a file may have, and no file was read to its end
  program_limit : (r : RunRequest) → request ≡ Some r → IsTooLong (old.content r.program) → new.ends ≡ old.ends → answer ≡ stops (status.FileLimit 1) → IsAnswer old new request answer
  -- the program isn't accepted, and no other file was read to its end
  refused : (r : RunRequest) (bytes : List ℕ) (refusal : Refusal) → request ≡ Some r → IsWhole (old.content r.program) bytes → front_of bytes ≡ Err refusal → new.ends ≡ next_count old.ends → answer ≡ stops (status.Refused refusal) → IsAnswer old new request answer
  -- the program is accepted, and the input has more bytes than a file may have: one file was read to its end
  input_limit : (r : RunRequest) (bytes : List ℕ) (program : Program) → request ≡ Some r → IsWhole (old.content r.program) bytes → front_of bytes ≡ Ok program → IsTooLong (old.content r.input) → new.ends ≡ next_count old.ends → answer ≡ stops (status.FileLimit 2) → IsAnswer old new request answer
  -- the program is accepted, the input is read, and the schedule has more bytes than a file may have: two files were read
  -- to their ends
  schedule_limit : (r : RunRequest) (bytes : List ℕ) (program : Program) (input : List ℕ) → request ≡ Some r → IsWhole (old.content r.program) bytes → front_of bytes ≡ Ok program → IsWhole (old.content r.input) input → IsTooLong (old.content r.schedule) → new.ends ≡ next_count (next_count old.ends) → answer ≡ stops (status.FileLimit 3) → IsAnswer old new request answer
  -- the program is accepted, both other files are read to their ends as well, and it ran
  run : (r : RunRequest) (bytes : List ℕ) (program : Program) (input schedule : List ℕ) → request ≡ Some r → IsWhole (old.content r.program) bytes → front_of bytes ≡ Ok program → IsWhole (old.content r.input) input → IsWhole (old.content r.schedule) schedule → new.ends ≡ next_count (next_count (next_count old.ends)) → answer ≡ ran (sequential_run program input r.steps) → IsAnswer old new request answer

-- the piece of a printed line, with its LF
abbrev pub line_piece : List ℕ → Piece
line_piece line = piece Out (line ++ 10 ∷ [])

-- the piece of what a run shows
abbrev pub shown_piece : Shown → Piece
shown_piece (Line text) = line_piece text

-- the piece of a status line; Done has none, nor has a fault of writing
abbrev pub status_pieces : Status → List Piece
status_pieces status.Done = []
status_pieces status.WriteFault = []
status_pieces s = piece Notes (status_text s) ∷ []

-- the sinks take all that the answer shows and its status is the result, or they stop in one piece of it and the
-- result is a fault of writing
pub data Shows (answer : Answer) (result : Status) (old new : SinkName → SinkSeen) : Type 0 where
  shown : result ≡ answer.status → TakesAll (map shown_piece answer.shown) old new → Shows answer result old new
  stopped : result ≡ status.WriteFault → StopsIn (map shown_piece answer.shown) old new → Shows answer result old new

-- all pieces of an answer: what it shows, and then the status line to `notes`
abbrev pub pieces_of : Answer → List Piece
pieces_of answer = map shown_piece answer.shown ++ status_pieces answer.status

-- the sinks take all pieces of the answer and its status is the result, or they stop in one of its pieces and the
-- result is a fault of writing
pub data Gives (answer : Answer) (result : Status) (old new : SinkName → SinkSeen) : Type 0 where
  whole : result ≡ answer.status → TakesAll (pieces_of answer) old new → Gives answer result old new
  cut : result ≡ status.WriteFault → StopsIn (pieces_of answer) old new → Gives answer result old new

-- a command shows what one of its answers does
pub record Performed (request : Option RunRequest) (files_old files_new : FilesSeen) (result : Status) (old new : SinkName → SinkSeen) : Type 0 where
  pub answer : Answer
  pub is_answer : IsAnswer files_old files_new request answer
  pub shows : Shows answer result old new

-- a command gives one of its answers
pub record Answered (request : Option RunRequest) (files_old files_new : FilesSeen) (result : Status) (old new : SinkName → SinkSeen) : Type 0 where
  pub answer : Answer
  pub is_answer : IsAnswer files_old files_new request answer
  pub gives : Gives answer result old new
