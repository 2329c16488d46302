-- Each row of the table of causes, from what a command gives.
use Rattle.std.proofs.Common.{◌≡◌, ◌≢◌, ℕ, ◌<◌, List, [], ◌∷◌, ◌++◌, length, map, Option, Some, None, Result, Ok, Err, true, false, ◌⊎◌, inl, inr, refl, ap, sym, ◌∙◌, arith}
use Rattle.std.proofs.lemmas.List.{append-nil}
use Rattle.hyb_base.specs.Count.{Rose}
use Rattle.hyb_outside.specs.declared.failed.Failed.{Failed}
use Rattle.hyb_outside.specs.declared.pieces.SinkName.{SinkName}
use Rattle.hyb_outside.specs.declared.pieces.SinkName.TheVariants.{Out, Notes, Order}
use Rattle.hyb_outside.specs.FilesSeen.{FilesSeen}
use Rattle.hyb_outside.specs.Pieces.{share_of, Emits, OneRose}
use Rattle.hyb_outside.specs.SinkSeen.{SinkSeen, Takes}
use Rattle.hyb_outside.proofs.Emits.{share_of-append, emits_idle}
use Rattle.f77_ast.specs.declared.program.Program.{Program}
use Rattle.f77_ast.specs.declared.refusal.Refusal.{Refusal}
use Rattle.f77_meaning.specs.Run.{Run, End, Ended, Faulted, Spent, Shown, Line, sequential_run}
use Rattle.hybrid_top.specs.Answer.{Answer, stops, status_of, ran, IsAnswer, usage, program_fault, input_fault, schedule_fault, no_memory, program_limit, refused, input_limit, schedule_limit, run, shown_piece, status_pieces, pieces_of, Gives, whole, cut, Answered}
use Rattle.hybrid_top.specs.Causes.{NoneFailed, IsOrYields, Tells, TellsMore, FileLimitComes, IsFile, FileLimitOnly, RefusedComes, RefusedOnly, lines_text, is_of_run, IsRun, RunOnly, RunComes, RunCompletes, is_before_run}
use Rattle.hybrid_top.specs.Command.{RunRequest}
use Rattle.f77_front.specs.Front.{front_of}
use Rattle.hybrid_top.specs.Reading.{IsWhole, IsTooLong, file_limit}
use Rattle.hybrid_top.specs.StatusText.{status_text}
use Rattle.hybrid_top.specs.declared.status.Status.{Status}
use Rattle.hybrid_top.specs.declared.status.Status.TheVariants as status

-- the parts of an answer that is known
status_is : (a : Answer) (s : Status) → a ≡ stops s → a.status ≡ s
status_is a s e = ap (λ (b : Answer). b.status) e

shows_none : (a : Answer) (s : Status) → a ≡ stops s → a.shown ≡ []
shows_none a s e = ap (λ (b : Answer). b.shown) e

ran_status : (a : Answer) (r : Run) → a ≡ ran r → a.status ≡ status_of r.end
ran_status a r e = ap (λ (b : Answer). b.status) e

-- the status of a run is no other one
of_run : (end : End) → is_of_run (status_of end) ≡ true
of_run Ended = refl
of_run (Faulted fault line) = refl
of_run Spent = refl

not_of_run : (end : End) (s : Status) → is_of_run s ≡ false → status_of end ≡ s → ⊥
not_of_run end s other e = let x : true ≡ false = sym (of_run end) ∙ ap is_of_run e ∙ other in cc

run_not_before : (end : End) → is_before_run (status_of end) ≡ true → ⊥
run_not_before Ended e = cc
run_not_before (Faulted fault line) e = cc
run_not_before Spent e = cc

-- what is told is what was read
whole_told : (old : FilesSeen) (name told bytes : List ℕ) → Tells old name told → IsWhole (old.content name) bytes → told ≡ bytes
whole_told old name told bytes t w = rw t.content at w.told

whole_not_more : (content : Option (List ℕ)) (bytes : List ℕ) → ((more : List ℕ) × (content ≡ Some more) × (file_limit < length more)) → IsWhole content bytes → ⊥
whole_not_more content bytes (more, told, long) w = let same : more ≡ bytes = rw told at w.told in let short = w.within in let long : file_limit < length bytes = rw (← same) long in omega arith

long_not_told : (old : FilesSeen) (name told : List ℕ) → Tells old name told → IsTooLong (old.content name) → ⊥
long_not_told old name told t long = let more : file_limit < length told = rw t.content at long in let short = t.within in omega arith

-- a program that was read to its end, or without a fault, has no fault
no_program_fault : (old new : FilesSeen) → Rose old.faults new.faults → new.ends ≡ old.ends → (NoneFailed old new) ⊎ (old.ends < new.ends) → ⊥
no_program_fault old new rose same (inl none) = none rose
no_program_fault old new rose same (inr more) = omega arith

-- what a status of a run rests on
pub record RanBy (request : Option RunRequest) (old : FilesSeen) (a : Answer) : Type 0 where
  pub asked : RunRequest
  pub bytes : List ℕ
  pub program : Program
  pub input : List ℕ
  pub request_is : request ≡ Some asked
  pub program_is : IsWhole (old.content asked.program) bytes
  pub accepted : front_of bytes ≡ Ok program
  pub input_is : IsWhole (old.content asked.input) input
  pub schedule : List ℕ
  pub schedule_is : IsWhole (old.content asked.schedule) schedule
  pub is : a ≡ ran (sequential_run program input asked.steps)

-- a command gives an answer
pub answered : (q : Option RunRequest) (f g : FilesSeen) (a : Answer) (result : Status) (old new : SinkName → SinkSeen) → IsAnswer f g q a → Gives a result old new → Answered q f g result old new
answered q f g a result old new i v = record { answer = a; is_answer = i; gives = v }

-- Usage comes only where the words fit no row
pub usage_only : (old new : FilesSeen) (q : Option RunRequest) (a : Answer) → IsAnswer old new q a → a.status ≡ status.Usage → q ≡ None
usage_only old new q a (usage n calm e) u = n
usage_only old new q a (program_fault r n rose same e) u = absurd (let x : status.ReadFault ≡ status.Usage = sym (status_is a status.ReadFault e) ∙ u in cc)
usage_only old new q a (input_fault r bytes program n w f rose ended e) u = absurd (let x : status.ReadFault ≡ status.Usage = sym (status_is a status.ReadFault e) ∙ u in cc)
usage_only old new q a (schedule_fault r bytes program input n w f i rose ended e) u = absurd (let x : status.ReadFault ≡ status.Usage = sym (status_is a status.ReadFault e) ∙ u in cc)
usage_only old new q a (no_memory r n e) u = absurd (let x : status.NoMemory ≡ status.Usage = sym (status_is a status.NoMemory e) ∙ u in cc)
usage_only old new q a (program_limit r n long ended e) u = absurd (let x : (status.FileLimit 1) ≡ status.Usage = sym (status_is a (status.FileLimit 1) e) ∙ u in cc)
usage_only old new q a (refused r bytes refusal n w f ended e) u = absurd (let x : (status.Refused refusal) ≡ status.Usage = sym (status_is a (status.Refused refusal) e) ∙ u in cc)
usage_only old new q a (input_limit r bytes program n w f long ended e) u = absurd (let x : (status.FileLimit 2) ≡ status.Usage = sym (status_is a (status.FileLimit 2) e) ∙ u in cc)
usage_only old new q a (schedule_limit r bytes program input n w f i long ended e) u = absurd (let x : (status.FileLimit 3) ≡ status.Usage = sym (status_is a (status.FileLimit 3) e) ∙ u in cc)
usage_only old new q a (run r bytes program input schedule n w f i s ended e) u = absurd (not_of_run (sequential_run program input r.steps).end status.Usage refl (sym (ran_status a (sequential_run program input r.steps) e) ∙ u))

-- where the words fit no row, it comes
pub usage_is : (old new : FilesSeen) (q : Option RunRequest) (a : Answer) → IsAnswer old new q a → q ≡ None → a.status ≡ status.Usage
usage_is old new q a (usage n calm e) u = status_is a status.Usage e
usage_is old new q a (program_fault r n rose same e) u = absurd (let x : Some r ≡ None = sym n ∙ u in cc)
usage_is old new q a (input_fault r bytes program n w f rose ended e) u = absurd (let x : Some r ≡ None = sym n ∙ u in cc)
usage_is old new q a (schedule_fault r bytes program input n w f i rose ended e) u = absurd (let x : Some r ≡ None = sym n ∙ u in cc)
usage_is old new q a (no_memory r n e) u = absurd (let x : Some r ≡ None = sym n ∙ u in cc)
usage_is old new q a (program_limit r n long ended e) u = absurd (let x : Some r ≡ None = sym n ∙ u in cc)
usage_is old new q a (refused r bytes refusal n w f ended e) u = absurd (let x : Some r ≡ None = sym n ∙ u in cc)
usage_is old new q a (input_limit r bytes program n w f long ended e) u = absurd (let x : Some r ≡ None = sym n ∙ u in cc)
usage_is old new q a (schedule_limit r bytes program input n w f i long ended e) u = absurd (let x : Some r ≡ None = sym n ∙ u in cc)
usage_is old new q a (run r bytes program input schedule n w f i s ended e) u = absurd (let x : Some r ≡ None = sym n ∙ u in cc)

-- ReadFault comes only where the count rose
pub read_fault_only : (old new : FilesSeen) (q : Option RunRequest) (a : Answer) → IsAnswer old new q a → a.status ≡ status.ReadFault → Rose old.faults new.faults
read_fault_only old new q a (usage n calm e) u = absurd (let x : status.Usage ≡ status.ReadFault = sym (status_is a status.Usage e) ∙ u in cc)
read_fault_only old new q a (program_fault r n rose same e) u = rose
read_fault_only old new q a (input_fault r bytes program n w f rose ended e) u = rose
read_fault_only old new q a (schedule_fault r bytes program input n w f i rose ended e) u = rose
read_fault_only old new q a (no_memory r n e) u = absurd (let x : status.NoMemory ≡ status.ReadFault = sym (status_is a status.NoMemory e) ∙ u in cc)
read_fault_only old new q a (program_limit r n long ended e) u = absurd (let x : (status.FileLimit 1) ≡ status.ReadFault = sym (status_is a (status.FileLimit 1) e) ∙ u in cc)
read_fault_only old new q a (refused r bytes refusal n w f ended e) u = absurd (let x : (status.Refused refusal) ≡ status.ReadFault = sym (status_is a (status.Refused refusal) e) ∙ u in cc)
read_fault_only old new q a (input_limit r bytes program n w f long ended e) u = absurd (let x : (status.FileLimit 2) ≡ status.ReadFault = sym (status_is a (status.FileLimit 2) e) ∙ u in cc)
read_fault_only old new q a (schedule_limit r bytes program input n w f i long ended e) u = absurd (let x : (status.FileLimit 3) ≡ status.ReadFault = sym (status_is a (status.FileLimit 3) e) ∙ u in cc)
read_fault_only old new q a (run r bytes program input schedule n w f i s ended e) u = absurd (not_of_run (sequential_run program input r.steps).end status.ReadFault refl (sym (ran_status a (sequential_run program input r.steps) e) ∙ u))

-- a FileLimit names a file that has too many bytes
pub file_limit_only : (old new : FilesSeen) (q : Option RunRequest) (a : Answer) → IsAnswer old new q a → (k : ℕ) → a.status ≡ status.FileLimit k → (r : RunRequest) × (name : List ℕ) × (q ≡ Some r) × IsFile r k name × IsTooLong (old.content name)
file_limit_only old new q a (usage n calm e) k u = absurd (let x : status.Usage ≡ status.FileLimit k = sym (status_is a status.Usage e) ∙ u in cc)
file_limit_only old new q a (program_fault r n rose same e) k u = absurd (let x : status.ReadFault ≡ status.FileLimit k = sym (status_is a status.ReadFault e) ∙ u in cc)
file_limit_only old new q a (input_fault r bytes program n w f rose ended e) k u = absurd (let x : status.ReadFault ≡ status.FileLimit k = sym (status_is a status.ReadFault e) ∙ u in cc)
file_limit_only old new q a (schedule_fault r bytes program input n w f i rose ended e) k u = absurd (let x : status.ReadFault ≡ status.FileLimit k = sym (status_is a status.ReadFault e) ∙ u in cc)
file_limit_only old new q a (no_memory r n e) k u = absurd (let x : status.NoMemory ≡ status.FileLimit k = sym (status_is a status.NoMemory e) ∙ u in cc)
file_limit_only old new q a (program_limit r n long ended e) k u = (r, r.program, n, inl (let x : status.FileLimit k ≡ status.FileLimit 1 = sym u ∙ status_is a (status.FileLimit 1) e in cc, refl), long)
file_limit_only old new q a (refused r bytes refusal n w f ended e) k u = absurd (let x : (status.Refused refusal) ≡ status.FileLimit k = sym (status_is a (status.Refused refusal) e) ∙ u in cc)
file_limit_only old new q a (input_limit r bytes program n w f long ended e) k u = (r, r.input, n, inr (inl (let x : status.FileLimit k ≡ status.FileLimit 2 = sym u ∙ status_is a (status.FileLimit 2) e in cc, refl)), long)
file_limit_only old new q a (schedule_limit r bytes program input n w f i long ended e) k u = (r, r.schedule, n, inr (inr (let x : status.FileLimit k ≡ status.FileLimit 3 = sym u ∙ status_is a (status.FileLimit 3) e in cc, refl)), long)
file_limit_only old new q a (run r bytes program input schedule n w f i s ended e) k u = absurd (not_of_run (sequential_run program input r.steps).end (status.FileLimit k) refl (sym (ran_status a (sequential_run program input r.steps) e) ∙ u))

-- a Refused is the first refusal of the program
pub refused_only : (old new : FilesSeen) (q : Option RunRequest) (a : Answer) → IsAnswer old new q a → (found : Refusal) → a.status ≡ status.Refused found → (r : RunRequest) × (bytes : List ℕ) × (q ≡ Some r) × IsWhole (old.content r.program) bytes × (front_of bytes ≡ Err found)
refused_only old new q a (usage n calm e) found u = absurd (let x : status.Usage ≡ status.Refused found = sym (status_is a status.Usage e) ∙ u in cc)
refused_only old new q a (program_fault r n rose same e) found u = absurd (let x : status.ReadFault ≡ status.Refused found = sym (status_is a status.ReadFault e) ∙ u in cc)
refused_only old new q a (input_fault r bytes program n w f rose ended e) found u = absurd (let x : status.ReadFault ≡ status.Refused found = sym (status_is a status.ReadFault e) ∙ u in cc)
refused_only old new q a (schedule_fault r bytes program input n w f i rose ended e) found u = absurd (let x : status.ReadFault ≡ status.Refused found = sym (status_is a status.ReadFault e) ∙ u in cc)
refused_only old new q a (no_memory r n e) found u = absurd (let x : status.NoMemory ≡ status.Refused found = sym (status_is a status.NoMemory e) ∙ u in cc)
refused_only old new q a (program_limit r n long ended e) found u = absurd (let x : (status.FileLimit 1) ≡ status.Refused found = sym (status_is a (status.FileLimit 1) e) ∙ u in cc)
refused_only old new q a (refused r bytes refusal n w f ended e) found u = (r, bytes, n, w, (let x : status.Refused found ≡ status.Refused refusal = sym u ∙ status_is a (status.Refused refusal) e in let y : found ≡ refusal = cc in rw y f))
refused_only old new q a (input_limit r bytes program n w f long ended e) found u = absurd (let x : (status.FileLimit 2) ≡ status.Refused found = sym (status_is a (status.FileLimit 2) e) ∙ u in cc)
refused_only old new q a (schedule_limit r bytes program input n w f i long ended e) found u = absurd (let x : (status.FileLimit 3) ≡ status.Refused found = sym (status_is a (status.FileLimit 3) e) ∙ u in cc)
refused_only old new q a (run r bytes program input schedule n w f i s ended e) found u = absurd (not_of_run (sequential_run program input r.steps).end (status.Refused found) refl (sym (ran_status a (sequential_run program input r.steps) e) ∙ u))

-- no answer is a fault of writing
pub never_write : (old new : FilesSeen) (q : Option RunRequest) (a : Answer) → IsAnswer old new q a → a.status ≢ status.WriteFault
never_write old new q a (usage n calm e) u = let x : status.Usage ≡ status.WriteFault = sym (status_is a status.Usage e) ∙ u in cc
never_write old new q a (program_fault r n rose same e) u = let x : status.ReadFault ≡ status.WriteFault = sym (status_is a status.ReadFault e) ∙ u in cc
never_write old new q a (input_fault r bytes program n w f rose ended e) u = let x : status.ReadFault ≡ status.WriteFault = sym (status_is a status.ReadFault e) ∙ u in cc
never_write old new q a (schedule_fault r bytes program input n w f i rose ended e) u = let x : status.ReadFault ≡ status.WriteFault = sym (status_is a status.ReadFault e) ∙ u in cc
never_write old new q a (no_memory r n e) u = let x : status.NoMemory ≡ status.WriteFault = sym (status_is a status.NoMemory e) ∙ u in cc
never_write old new q a (program_limit r n long ended e) u = let x : (status.FileLimit 1) ≡ status.WriteFault = sym (status_is a (status.FileLimit 1) e) ∙ u in cc
never_write old new q a (refused r bytes refusal n w f ended e) u = let x : (status.Refused refusal) ≡ status.WriteFault = sym (status_is a (status.Refused refusal) e) ∙ u in cc
never_write old new q a (input_limit r bytes program n w f long ended e) u = let x : (status.FileLimit 2) ≡ status.WriteFault = sym (status_is a (status.FileLimit 2) e) ∙ u in cc
never_write old new q a (schedule_limit r bytes program input n w f i long ended e) u = let x : (status.FileLimit 3) ≡ status.WriteFault = sym (status_is a (status.FileLimit 3) e) ∙ u in cc
never_write old new q a (run r bytes program input schedule n w f i s ended e) u = not_of_run (sequential_run program input r.steps).end status.WriteFault refl (sym (ran_status a (sequential_run program input r.steps) e) ∙ u)

-- no answer is of the schedule's form
pub never_schedule : (old new : FilesSeen) (q : Option RunRequest) (a : Answer) → IsAnswer old new q a → (line : ℕ) → a.status ≢ status.BadSchedule line
never_schedule old new q a (usage n calm e) line u = let x : status.Usage ≡ status.BadSchedule line = sym (status_is a status.Usage e) ∙ u in cc
never_schedule old new q a (program_fault r n rose same e) line u = let x : status.ReadFault ≡ status.BadSchedule line = sym (status_is a status.ReadFault e) ∙ u in cc
never_schedule old new q a (input_fault r bytes program n w f rose ended e) line u = let x : status.ReadFault ≡ status.BadSchedule line = sym (status_is a status.ReadFault e) ∙ u in cc
never_schedule old new q a (schedule_fault r bytes program input n w f i rose ended e) line u = let x : status.ReadFault ≡ status.BadSchedule line = sym (status_is a status.ReadFault e) ∙ u in cc
never_schedule old new q a (no_memory r n e) line u = let x : status.NoMemory ≡ status.BadSchedule line = sym (status_is a status.NoMemory e) ∙ u in cc
never_schedule old new q a (program_limit r n long ended e) line u = let x : (status.FileLimit 1) ≡ status.BadSchedule line = sym (status_is a (status.FileLimit 1) e) ∙ u in cc
never_schedule old new q a (refused r bytes refusal n w f ended e) line u = let x : (status.Refused refusal) ≡ status.BadSchedule line = sym (status_is a (status.Refused refusal) e) ∙ u in cc
never_schedule old new q a (input_limit r bytes program n w f long ended e) line u = let x : (status.FileLimit 2) ≡ status.BadSchedule line = sym (status_is a (status.FileLimit 2) e) ∙ u in cc
never_schedule old new q a (schedule_limit r bytes program input n w f i long ended e) line u = let x : (status.FileLimit 3) ≡ status.BadSchedule line = sym (status_is a (status.FileLimit 3) e) ∙ u in cc
never_schedule old new q a (run r bytes program input schedule n w f i s ended e) line u = not_of_run (sequential_run program input r.steps).end (status.BadSchedule line) refl (sym (ran_status a (sequential_run program input r.steps) e) ∙ u)

-- before the first step no line is printed
pub none_shown : (old new : FilesSeen) (q : Option RunRequest) (a : Answer) → IsAnswer old new q a → is_before_run a.status ≡ true → a.shown ≡ []
none_shown old new q a (usage n calm e) u = shows_none a status.Usage e
none_shown old new q a (program_fault r n rose same e) u = shows_none a status.ReadFault e
none_shown old new q a (input_fault r bytes program n w f rose ended e) u = shows_none a status.ReadFault e
none_shown old new q a (schedule_fault r bytes program input n w f i rose ended e) u = shows_none a status.ReadFault e
none_shown old new q a (no_memory r n e) u = shows_none a status.NoMemory e
none_shown old new q a (program_limit r n long ended e) u = shows_none a (status.FileLimit 1) e
none_shown old new q a (refused r bytes refusal n w f ended e) u = shows_none a (status.Refused refusal) e
none_shown old new q a (input_limit r bytes program n w f long ended e) u = shows_none a (status.FileLimit 2) e
none_shown old new q a (schedule_limit r bytes program input n w f i long ended e) u = shows_none a (status.FileLimit 3) e
none_shown old new q a (run r bytes program input schedule n w f i s ended e) u = absurd (run_not_before (sequential_run program input r.steps).end (sym (ap is_before_run (ran_status a (sequential_run program input r.steps) e)) ∙ u))

-- a status of a run is that of the sequential run
pub run_only : (old new : FilesSeen) (q : Option RunRequest) (a : Answer) → IsAnswer old new q a → is_of_run a.status ≡ true → RanBy q old a
run_only old new q a (usage n calm e) u = absurd (let x : is_of_run status.Usage ≡ true = sym (ap is_of_run (status_is a status.Usage e)) ∙ u in let y : false ≡ true = x in cc)
run_only old new q a (program_fault r n rose same e) u = absurd (let x : is_of_run status.ReadFault ≡ true = sym (ap is_of_run (status_is a status.ReadFault e)) ∙ u in let y : false ≡ true = x in cc)
run_only old new q a (input_fault r bytes program n w f rose ended e) u = absurd (let x : is_of_run status.ReadFault ≡ true = sym (ap is_of_run (status_is a status.ReadFault e)) ∙ u in let y : false ≡ true = x in cc)
run_only old new q a (schedule_fault r bytes program input n w f i rose ended e) u = absurd (let x : is_of_run status.ReadFault ≡ true = sym (ap is_of_run (status_is a status.ReadFault e)) ∙ u in let y : false ≡ true = x in cc)
run_only old new q a (no_memory r n e) u = absurd (let x : is_of_run status.NoMemory ≡ true = sym (ap is_of_run (status_is a status.NoMemory e)) ∙ u in let y : false ≡ true = x in cc)
run_only old new q a (program_limit r n long ended e) u = absurd (let x : is_of_run (status.FileLimit 1) ≡ true = sym (ap is_of_run (status_is a (status.FileLimit 1) e)) ∙ u in let y : false ≡ true = x in cc)
run_only old new q a (refused r bytes refusal n w f ended e) u = absurd (let x : is_of_run (status.Refused refusal) ≡ true = sym (ap is_of_run (status_is a (status.Refused refusal) e)) ∙ u in let y : false ≡ true = x in cc)
run_only old new q a (input_limit r bytes program n w f long ended e) u = absurd (let x : is_of_run (status.FileLimit 2) ≡ true = sym (ap is_of_run (status_is a (status.FileLimit 2) e)) ∙ u in let y : false ≡ true = x in cc)
run_only old new q a (schedule_limit r bytes program input n w f i long ended e) u = absurd (let x : is_of_run (status.FileLimit 3) ≡ true = sym (ap is_of_run (status_is a (status.FileLimit 3) e)) ∙ u in let y : false ≡ true = x in cc)
run_only old new q a (run r bytes program input schedule n w f i s ended e) u = record { asked = r; bytes = bytes; program = program; input = input; request_is = n; program_is = w; accepted = f; input_is = i; schedule = schedule; schedule_is = s; is = e }

-- the program is told to have too many bytes
pub program_limit_comes : (old new : FilesSeen) (q : Option RunRequest) (a : Answer) (asked : RunRequest) → q ≡ Some asked → NoneFailed old new → TellsMore old asked.program → IsAnswer old new q a → (a.status ≡ status.FileLimit 1) ⊎ (a.status ≡ status.NoMemory)
program_limit_comes old new q a asked g none more (usage n calm e) = absurd (let x : None ≡ Some asked = sym n ∙ g in cc)
program_limit_comes old new q a asked g none more (program_fault r n rose same e) = absurd (none rose)
program_limit_comes old new q a asked g none more (input_fault r bytes program n w f rose ended e) = absurd (none rose)
program_limit_comes old new q a asked g none more (schedule_fault r bytes program input n w f i rose ended e) = absurd (none rose)
program_limit_comes old new q a asked g none more (no_memory r n e) = inr (status_is a status.NoMemory e)
program_limit_comes old new q a asked g none more (program_limit r n long ended e) = inl (status_is a (status.FileLimit 1) e)
program_limit_comes old new q a asked g none more (refused r bytes refusal n w f ended e) = let same : r ≡ asked = let x : Some r ≡ Some asked = sym n ∙ g in cc in absurd (whole_not_more (old.content asked.program) bytes more (rw same at w))
program_limit_comes old new q a asked g none more (input_limit r bytes program n w f long ended e) = let same : r ≡ asked = let x : Some r ≡ Some asked = sym n ∙ g in cc in absurd (whole_not_more (old.content asked.program) bytes more (rw same at w))
program_limit_comes old new q a asked g none more (schedule_limit r bytes program input n w f i long ended e) = let same : r ≡ asked = let x : Some r ≡ Some asked = sym n ∙ g in cc in absurd (whole_not_more (old.content asked.program) bytes more (rw same at w))
program_limit_comes old new q a asked g none more (run r bytes program input schedule n w f i s ended e) = let same : r ≡ asked = let x : Some r ≡ Some asked = sym n ∙ g in cc in absurd (whole_not_more (old.content asked.program) bytes more (rw same at w))

-- the program is told and isn't accepted
pub refused_comes : (old new : FilesSeen) (q : Option RunRequest) (a : Answer) (asked : RunRequest) → q ≡ Some asked → NoneFailed old new ⊎ (old.ends < new.ends) → (told : List ℕ) (found : Refusal) → Tells old asked.program told → front_of told ≡ Err found → IsAnswer old new q a → (a.status ≡ status.Refused found) ⊎ (a.status ≡ status.NoMemory)
refused_comes old new q a asked g none told found t is (usage n calm e) = absurd (let x : None ≡ Some asked = sym n ∙ g in cc)
refused_comes old new q a asked g none told found t is (program_fault r n rose same e) = absurd (no_program_fault old new rose same none)
refused_comes old new q a asked g none told found t is (input_fault r bytes program n w f rose ended e) = let same : r ≡ asked = let x : Some r ≡ Some asked = sym n ∙ g in cc in absurd (let b : told ≡ bytes = whole_told old asked.program told bytes t (rw same at w) in let x : Err found ≡ Ok program = sym is ∙ ap front_of b ∙ f in cc)
refused_comes old new q a asked g none told found t is (schedule_fault r bytes program input n w f i rose ended e) = let same : r ≡ asked = let x : Some r ≡ Some asked = sym n ∙ g in cc in absurd (let b : told ≡ bytes = whole_told old asked.program told bytes t (rw same at w) in let x : Err found ≡ Ok program = sym is ∙ ap front_of b ∙ f in cc)
refused_comes old new q a asked g none told found t is (no_memory r n e) = inr (status_is a status.NoMemory e)
refused_comes old new q a asked g none told found t is (program_limit r n long ended e) = let same : r ≡ asked = let x : Some r ≡ Some asked = sym n ∙ g in cc in absurd (long_not_told old asked.program told t (rw same at long))
refused_comes old new q a asked g none told found t is (refused r bytes refusal n w f ended e) = let same : r ≡ asked = let x : Some r ≡ Some asked = sym n ∙ g in cc in let b : told ≡ bytes = whole_told old asked.program told bytes t (rw same at w) in let x : Err found ≡ Err refusal = sym is ∙ ap front_of b ∙ f in let y : refusal ≡ found = cc in inl (status_is a (status.Refused refusal) e ∙ ap status.Refused y)
refused_comes old new q a asked g none told found t is (input_limit r bytes program n w f long ended e) = let same : r ≡ asked = let x : Some r ≡ Some asked = sym n ∙ g in cc in absurd (let b : told ≡ bytes = whole_told old asked.program told bytes t (rw same at w) in let x : Err found ≡ Ok program = sym is ∙ ap front_of b ∙ f in cc)
refused_comes old new q a asked g none told found t is (schedule_limit r bytes program input n w f i long ended e) = let same : r ≡ asked = let x : Some r ≡ Some asked = sym n ∙ g in cc in absurd (let b : told ≡ bytes = whole_told old asked.program told bytes t (rw same at w) in let x : Err found ≡ Ok program = sym is ∙ ap front_of b ∙ f in cc)
refused_comes old new q a asked g none told found t is (run r bytes program input schedule n w f i s ended e) = let same : r ≡ asked = let x : Some r ≡ Some asked = sym n ∙ g in cc in absurd (let b : told ≡ bytes = whole_told old asked.program told bytes t (rw same at w) in let x : Err found ≡ Ok program = sym is ∙ ap front_of b ∙ f in cc)

-- the input is told to have too many bytes
pub input_limit_comes : (old new : FilesSeen) (q : Option RunRequest) (a : Answer) (asked : RunRequest) → q ≡ Some asked → NoneFailed old new → (told : List ℕ) (made : Program) → Tells old asked.program told → front_of told ≡ Ok made → TellsMore old asked.input → IsAnswer old new q a → (a.status ≡ status.FileLimit 2) ⊎ (a.status ≡ status.NoMemory)
input_limit_comes old new q a asked g none told made t is more (usage n calm e) = absurd (let x : None ≡ Some asked = sym n ∙ g in cc)
input_limit_comes old new q a asked g none told made t is more (program_fault r n rose same e) = absurd (none rose)
input_limit_comes old new q a asked g none told made t is more (input_fault r bytes program n w f rose ended e) = absurd (none rose)
input_limit_comes old new q a asked g none told made t is more (schedule_fault r bytes program input n w f i rose ended e) = absurd (none rose)
input_limit_comes old new q a asked g none told made t is more (no_memory r n e) = inr (status_is a status.NoMemory e)
input_limit_comes old new q a asked g none told made t is more (program_limit r n long ended e) = let same : r ≡ asked = let x : Some r ≡ Some asked = sym n ∙ g in cc in absurd (long_not_told old asked.program told t (rw same at long))
input_limit_comes old new q a asked g none told made t is more (refused r bytes refusal n w f ended e) = let same : r ≡ asked = let x : Some r ≡ Some asked = sym n ∙ g in cc in absurd (let b : told ≡ bytes = whole_told old asked.program told bytes t (rw same at w) in let x : Ok made ≡ Err refusal = sym is ∙ ap front_of b ∙ f in cc)
input_limit_comes old new q a asked g none told made t is more (input_limit r bytes program n w f long ended e) = inl (status_is a (status.FileLimit 2) e)
input_limit_comes old new q a asked g none told made t is more (schedule_limit r bytes program input n w f i long ended e) = let same : r ≡ asked = let x : Some r ≡ Some asked = sym n ∙ g in cc in absurd (whole_not_more (old.content asked.input) input more (rw same at i))
input_limit_comes old new q a asked g none told made t is more (run r bytes program input schedule n w f i s ended e) = let same : r ≡ asked = let x : Some r ≡ Some asked = sym n ∙ g in cc in absurd (whole_not_more (old.content asked.input) input more (rw same at i))

-- the schedule is told to have too many bytes
pub schedule_limit_comes : (old new : FilesSeen) (q : Option RunRequest) (a : Answer) (asked : RunRequest) → q ≡ Some asked → NoneFailed old new → (told : List ℕ) (made : Program) (read : List ℕ) → Tells old asked.program told → front_of told ≡ Ok made → Tells old asked.input read → TellsMore old asked.schedule → IsAnswer old new q a → (a.status ≡ status.FileLimit 3) ⊎ (a.status ≡ status.NoMemory)
schedule_limit_comes old new q a asked g none told made read t is y more (usage n calm e) = absurd (let x : None ≡ Some asked = sym n ∙ g in cc)
schedule_limit_comes old new q a asked g none told made read t is y more (program_fault r n rose same e) = absurd (none rose)
schedule_limit_comes old new q a asked g none told made read t is y more (input_fault r bytes program n w f rose ended e) = absurd (none rose)
schedule_limit_comes old new q a asked g none told made read t is y more (schedule_fault r bytes program input n w f i rose ended e) = absurd (none rose)
schedule_limit_comes old new q a asked g none told made read t is y more (no_memory r n e) = inr (status_is a status.NoMemory e)
schedule_limit_comes old new q a asked g none told made read t is y more (program_limit r n long ended e) = let same : r ≡ asked = let x : Some r ≡ Some asked = sym n ∙ g in cc in absurd (long_not_told old asked.program told t (rw same at long))
schedule_limit_comes old new q a asked g none told made read t is y more (refused r bytes refusal n w f ended e) = let same : r ≡ asked = let x : Some r ≡ Some asked = sym n ∙ g in cc in absurd (let b : told ≡ bytes = whole_told old asked.program told bytes t (rw same at w) in let x : Ok made ≡ Err refusal = sym is ∙ ap front_of b ∙ f in cc)
schedule_limit_comes old new q a asked g none told made read t is y more (input_limit r bytes program n w f long ended e) = let same : r ≡ asked = let x : Some r ≡ Some asked = sym n ∙ g in cc in absurd (long_not_told old asked.input read y (rw same at long))
schedule_limit_comes old new q a asked g none told made read t is y more (schedule_limit r bytes program input n w f i long ended e) = inl (status_is a (status.FileLimit 3) e)
schedule_limit_comes old new q a asked g none told made read t is y more (run r bytes program input schedule n w f i s ended e) = let same : r ≡ asked = let x : Some r ≡ Some asked = sym n ∙ g in cc in absurd (whole_not_more (old.content asked.schedule) schedule more (rw same at s))

-- all is told: the run's end
pub run_comes : (old new : FilesSeen) (q : Option RunRequest) (a : Answer) (asked : RunRequest) → q ≡ Some asked → NoneFailed old new → (told : List ℕ) (made : Program) (read seen : List ℕ) → Tells old asked.program told → front_of told ≡ Ok made → Tells old asked.input read → Tells old asked.schedule seen → IsAnswer old new q a → (a.status ≡ status_of (sequential_run made read asked.steps).end) ⊎ (a.status ≡ status.NoMemory)
run_comes old new q a asked g none told made read seen t is y z (usage n calm e) = absurd (let x : None ≡ Some asked = sym n ∙ g in cc)
run_comes old new q a asked g none told made read seen t is y z (program_fault r n rose same e) = absurd (none rose)
run_comes old new q a asked g none told made read seen t is y z (input_fault r bytes program n w f rose ended e) = absurd (none rose)
run_comes old new q a asked g none told made read seen t is y z (schedule_fault r bytes program input n w f i rose ended e) = absurd (none rose)
run_comes old new q a asked g none told made read seen t is y z (no_memory r n e) = inr (status_is a status.NoMemory e)
run_comes old new q a asked g none told made read seen t is y z (program_limit r n long ended e) = let same : r ≡ asked = let x : Some r ≡ Some asked = sym n ∙ g in cc in absurd (long_not_told old asked.program told t (rw same at long))
run_comes old new q a asked g none told made read seen t is y z (refused r bytes refusal n w f ended e) = let same : r ≡ asked = let x : Some r ≡ Some asked = sym n ∙ g in cc in absurd (let b : told ≡ bytes = whole_told old asked.program told bytes t (rw same at w) in let x : Ok made ≡ Err refusal = sym is ∙ ap front_of b ∙ f in cc)
run_comes old new q a asked g none told made read seen t is y z (input_limit r bytes program n w f long ended e) = let same : r ≡ asked = let x : Some r ≡ Some asked = sym n ∙ g in cc in absurd (long_not_told old asked.input read y (rw same at long))
run_comes old new q a asked g none told made read seen t is y z (schedule_limit r bytes program input n w f i long ended e) = let same : r ≡ asked = let x : Some r ≡ Some asked = sym n ∙ g in cc in absurd (long_not_told old asked.schedule seen z (rw same at long))
run_comes old new q a asked g none told made read seen t is y z (run r bytes program input schedule n w f i s ended e) = let same : r ≡ asked = let x : Some r ≡ Some asked = sym n ∙ g in cc in let b : told ≡ bytes = whole_told old asked.program told bytes t (rw same at w) in let c : read ≡ input = whole_told old asked.input read input y (rw same at i) in let x : Ok made ≡ Ok program = sym is ∙ ap front_of b ∙ f in let d : program ≡ made = cc in inl (ran_status a (sequential_run program input r.steps) e ∙ ap (λ (x : Run). status_of x.end) (ap (λ p. sequential_run p input r.steps) d ∙ ap (λ i. sequential_run made i r.steps) (sym c) ∙ ap (λ (x : RunRequest). sequential_run made read x.steps) same))

-- ---- what is given

-- the status that is given
gives_is : (a : Answer) (result : Status) (old new : SinkName → SinkSeen) → Gives a result old new → (result ≡ a.status) ⊎ (result ≡ status.WriteFault)
gives_is a result old new (whole e t) = inl e
gives_is a result old new (cut e s) = inr e

-- a result that isn't of a fault of writing is the answer's status
gives_status : (a : Answer) (result : Status) (old new : SinkName → SinkSeen) → Gives a result old new → result ≢ status.WriteFault → result ≡ a.status
gives_status a result old new (whole e t) n = e
gives_status a result old new (cut e s) n = absurd (n e)

-- what is given is emitted
gives_emits : (a : Answer) (result : Status) (old new : SinkName → SinkSeen) → Gives a result old new → (r : Result (Unit {0}) Failed) × Emits (pieces_of a) r old new
gives_emits a result old new (whole e t) = (Ok tt, record { ok = t; failed = tt })
gives_emits a result old new (cut e s) = (Err (record {}), record { ok = tt; failed = s })

-- the shares of an answer's pieces
lines_for : (to : SinkName) (shown : List Shown) → to ≢ Out → share_of to (map shown_piece shown) ≡ []
lines_for Out shown n = absurd (n refl)
lines_for Notes [] n = refl
lines_for Notes (Line text ∷ shown) n = lines_for Notes shown n
lines_for Order [] n = refl
lines_for Order (Line text ∷ shown) n = lines_for Order shown n

status_for_out : (s : Status) → share_of Out (status_pieces s) ≡ []
status_for_out status.Done = refl
status_for_out status.WriteFault = refl
status_for_out _ = refl

status_for_order : (s : Status) → share_of Order (status_pieces s) ≡ []
status_for_order status.Done = refl
status_for_order status.WriteFault = refl
status_for_order _ = refl

status_for_notes : (s : Status) → share_of Notes (status_pieces s) ≡ status_text s
status_for_notes status.Done = refl
status_for_notes status.WriteFault = refl
status_for_notes status.Usage = append-nil (status_text status.Usage)
status_for_notes (status.Refused refusal) = append-nil (status_text (status.Refused refusal))
status_for_notes (status.BadSchedule line) = append-nil (status_text (status.BadSchedule line))
status_for_notes (status.Faulted fault line) = append-nil (status_text (status.Faulted fault line))
status_for_notes status.StepsSpent = append-nil (status_text status.StepsSpent)
status_for_notes status.ReadFault = append-nil (status_text status.ReadFault)
status_for_notes status.NoMemory = append-nil (status_text status.NoMemory)
status_for_notes (status.FileLimit file) = append-nil (status_text (status.FileLimit file))

share_out : (a : Answer) → share_of Out (pieces_of a) ≡ lines_text a.shown
share_out a = share_of-append Out (map shown_piece a.shown) (status_pieces a.status) ∙ ap (λ xs. lines_text a.shown ++ xs) (status_for_out a.status) ∙ append-nil (lines_text a.shown)

share_notes : (a : Answer) → share_of Notes (pieces_of a) ≡ status_text a.status
share_notes a = share_of-append Notes (map shown_piece a.shown) (status_pieces a.status) ∙ ap (λ xs. xs ++ share_of Notes (status_pieces a.status)) (lines_for Notes a.shown (λ e. cc)) ∙ status_for_notes a.status

share_order : (a : Answer) → share_of Order (pieces_of a) ≡ []
share_order a = share_of-append Order (map shown_piece a.shown) (status_pieces a.status) ∙ ap (λ xs. xs ++ share_of Order (status_pieces a.status)) (lines_for Order a.shown (λ e. cc)) ∙ status_for_order a.status

-- what a sink takes where nothing is cut
whole_takes : (a : Answer) (result : Status) (old new : SinkName → SinkSeen) → Gives a result old new → result ≢ status.WriteFault → (to : SinkName) → Takes (share_of to (pieces_of a)) (old to) (new to)
whole_takes a result old new (whole e t) n to = t to
whole_takes a result old new (cut e s) n to = absurd (n e)

-- ---- the rows, of a whole call

pub row_usage_only : (q : Option RunRequest) (f g : FilesSeen) (result : Status) (old new : SinkName → SinkSeen) → Answered q f g result old new → result ≡ status.Usage → q ≡ None
row_usage_only q f g result old new c u = usage_only f g q c.answer c.is_answer (sym (gives_status c.answer result old new c.gives (λ e. let x : status.Usage ≡ status.WriteFault = sym u ∙ e in cc)) ∙ u)

pub row_usage : (q : Option RunRequest) (f g : FilesSeen) (result : Status) (old new : SinkName → SinkSeen) → Answered q f g result old new → q ≡ None → (result ≡ status.Usage) ⊎ (result ≡ status.WriteFault)
row_usage q f g result old new c n = elim (gives_is c.answer result old new c.gives) [ inl e ↦ inl (e ∙ usage_is f g q c.answer c.is_answer n) | inr e ↦ inr e ]

pub row_read_fault : (q : Option RunRequest) (f g : FilesSeen) (result : Status) (old new : SinkName → SinkSeen) → Answered q f g result old new → result ≡ status.ReadFault → Rose f.faults g.faults
row_read_fault q f g result old new c u = read_fault_only f g q c.answer c.is_answer (sym (gives_status c.answer result old new c.gives (λ e. let x : status.ReadFault ≡ status.WriteFault = sym u ∙ e in cc)) ∙ u)

cut_rose : (a : Answer) (result : Status) (old new : SinkName → SinkSeen) → a.status ≢ status.WriteFault → Gives a result old new → result ≡ status.WriteFault → OneRose old new
cut_rose a result old new n (whole e t) u = absurd (n (sym e ∙ u))
cut_rose a result old new n (cut e s) u = record { which = s.stopped.to; rose = s.cause }

pub row_write_fault : (q : Option RunRequest) (f g : FilesSeen) (result : Status) (old new : SinkName → SinkSeen) → Answered q f g result old new → result ≡ status.WriteFault → OneRose old new
row_write_fault q f g result old new c u = cut_rose c.answer result old new (never_write f g q c.answer c.is_answer) c.gives u

pub row_file_limit_only : (q : Option RunRequest) (f g : FilesSeen) (result : Status) (old new : SinkName → SinkSeen) → Answered q f g result old new → FileLimitOnly q f result
row_file_limit_only q f g result old new c k u = file_limit_only f g q c.answer c.is_answer k (sym (gives_status c.answer result old new c.gives (λ e. let x : status.FileLimit k ≡ status.WriteFault = sym u ∙ e in cc)) ∙ u)

-- a status that comes, as a result
or_yields : (a : Answer) (result s : Status) (old new : SinkName → SinkSeen) → Gives a result old new → (a.status ≡ s) ⊎ (a.status ≡ status.NoMemory) → IsOrYields result s
or_yields a result s old new (whole e t) (inl x) = inl (e ∙ x)
or_yields a result s old new (whole e t) (inr x) = inr (inl (e ∙ x))
or_yields a result s old new (cut e t) x = inr (inr e)

pub row_file_limit : (q : Option RunRequest) (f g : FilesSeen) (result : Status) (old new : SinkName → SinkSeen) → Answered q f g result old new → FileLimitComes q f g result
row_file_limit q f g result old new c = record {
  program = λ r is none more. or_yields c.answer result (status.FileLimit 1) old new c.gives (program_limit_comes f g q c.answer r is none more c.is_answer);
  input = λ r bytes made is none told ok more. or_yields c.answer result (status.FileLimit 2) old new c.gives (input_limit_comes f g q c.answer r is none bytes made told ok more c.is_answer);
  schedule = λ r bytes made input is none told ok read more. or_yields c.answer result (status.FileLimit 3) old new c.gives (schedule_limit_comes f g q c.answer r is none bytes made input told ok read more c.is_answer);
}

pub row_refused_only : (q : Option RunRequest) (f g : FilesSeen) (result : Status) (old new : SinkName → SinkSeen) → Answered q f g result old new → RefusedOnly q f result
row_refused_only q f g result old new c found u = refused_only f g q c.answer c.is_answer found (sym (gives_status c.answer result old new c.gives (λ e. let x : status.Refused found ≡ status.WriteFault = sym u ∙ e in cc)) ∙ u)

pub row_refused : (q : Option RunRequest) (f g : FilesSeen) (result : Status) (old new : SinkName → SinkSeen) → Answered q f g result old new → RefusedComes q f g result
row_refused q f g result old new c r bytes refusal is none told no_program = or_yields c.answer result (status.Refused refusal) old new c.gives (refused_comes f g q c.answer r is none bytes refusal told no_program c.is_answer)

run_is : (q : Option RunRequest) (f : FilesSeen) (a : Answer) (result : Status) (old new : SinkName → SinkSeen) → RanBy q f a → Gives a result old new → result ≢ status.WriteFault → IsRun q f result (old Out) (new Out)
run_is q f a result old new r g n =
    let s : result ≡ a.status = gives_status a result old new g n in
    let t : Takes (share_of Out (pieces_of a)) (old Out) (new Out) = whole_takes a result old new g n Out in
    let l : share_of Out (pieces_of a) ≡ lines_text (sequential_run r.program r.input r.asked.steps).shown = share_out a ∙ ap (λ (b : Answer). lines_text b.shown) r.is in
    record { asked = r.asked; bytes = r.bytes; program = r.program; input = r.input; request_is = r.request_is; program_is = r.program_is; accepted = r.accepted; input_is = r.input_is; schedule = r.schedule; schedule_is = r.schedule_is; status = s ∙ ran_status a (sequential_run r.program r.input r.asked.steps) r.is; lines = rw l at t }

pub row_run_only : (q : Option RunRequest) (f g : FilesSeen) (result : Status) (old new : SinkName → SinkSeen) → Answered q f g result old new → RunOnly q f result (old Out) (new Out)
row_run_only q f g result old new c u =
    let n : result ≢ status.WriteFault = λ e. let x : true ≡ false = sym u ∙ ap is_of_run e in cc in
    run_is q f c.answer result old new (run_only f g q c.answer c.is_answer (ap is_of_run (sym (gives_status c.answer result old new c.gives n)) ∙ u)) c.gives n

pub row_run : (q : Option RunRequest) (f g : FilesSeen) (result : Status) (old new : SinkName → SinkSeen) → Answered q f g result old new → RunComes q f g result
row_run q f g result old new c r bytes program input schedule is none told ok read seen = or_yields c.answer result (status_of (sequential_run program input r.steps).end) old new c.gives (run_comes f g q c.answer r is none bytes program input schedule told ok read seen c.is_answer)

pub row_complete : (q : Option RunRequest) (f g : FilesSeen) (result : Status) (old new : SinkName → SinkSeen) → Answered q f g result old new → RunCompletes q f g result old new
row_complete q f g result old new c r bytes program input schedule is none told ok read seen end none_rose =
    elim (row_run q f g result old new c r bytes program input schedule is none told ok read seen) [
      | inl e ↦ inl (e ∙ ap status_of end)
      | inr e ↦ elim e [ inl m ↦ inr m | inr w ↦ absurd (none_rose (row_write_fault q f g result old new c w)) ]
    ]

pub row_out : (q : Option RunRequest) (f g : FilesSeen) (result : Status) (old new : SinkName → SinkSeen) → Answered q f g result old new → is_before_run result ≡ true → Takes [] (old Out) (new Out)
row_out q f g result old new c u =
    let n : result ≢ status.WriteFault = λ e. let x : true ≡ false = sym u ∙ ap is_before_run e in cc in
    let s : result ≡ c.answer.status = gives_status c.answer result old new c.gives n in
    let l : c.answer.shown ≡ [] = none_shown f g q c.answer c.is_answer (ap is_before_run (sym s) ∙ u) in
    let t : Takes (share_of Out (pieces_of c.answer)) (old Out) (new Out) = whole_takes c.answer result old new c.gives n Out in
    let nothing : share_of Out (pieces_of c.answer) ≡ [] = share_out c.answer ∙ ap lines_text l in
    rw nothing at t

pub row_notes : (q : Option RunRequest) (f g : FilesSeen) (result : Status) (old new : SinkName → SinkSeen) → Answered q f g result old new → result ≢ status.WriteFault → Takes (status_text result) (old Notes) (new Notes)
row_notes q f g result old new c n =
    let s : result ≡ c.answer.status = gives_status c.answer result old new c.gives n in
    let t : Takes (share_of Notes (pieces_of c.answer)) (old Notes) (new Notes) = whole_takes c.answer result old new c.gives n Notes in
    let l : share_of Notes (pieces_of c.answer) ≡ status_text result = share_notes c.answer ∙ ap status_text (sym s) in
    rw l at t

pub row_order : (q : Option RunRequest) (f g : FilesSeen) (result : Status) (old new : SinkName → SinkSeen) → Answered q f g result old new → (new Order).taken ≡ (old Order).taken
row_order q f g result old new c = let e = gives_emits c.answer result old new c.gives in emits_idle Order (pieces_of c.answer) e.0 old new e.1 (share_order c.answer)

pub row_no_schedule : (q : Option RunRequest) (f g : FilesSeen) (result : Status) (old new : SinkName → SinkSeen) → Answered q f g result old new → (line : ℕ) → result ≢ status.BadSchedule line
row_no_schedule q f g result old new c line u = never_schedule f g q c.answer c.is_answer line (sym (gives_status c.answer result old new c.gives (λ e. let x : status.BadSchedule line ≡ status.WriteFault = sym u ∙ e in cc)) ∙ u)
