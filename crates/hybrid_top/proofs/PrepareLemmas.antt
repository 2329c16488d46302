-- Lemmas on what stops a command before its first step.
use Rattle.std.proofs.Common.{◌≡◌, ℕ, List, Some, Result, Ok, Err, refl, ap, ◌∙◌}
use Rattle.std.specs.Prelude.{IfErr}
use Rattle.hyb_base.specs.Count.{next_count, Rose}
use Rattle.hyb_outside.specs.FilesSeen.{FilesSeen}
use Rattle.hyb_outside.proofs.Takes.{rose_along}
use Rattle.f77_ast.specs.declared.program.Program.{Program}
use Rattle.hybrid_top.specs.Answer.{IsAnswer, stops, program_fault, input_fault, schedule_fault, no_memory, program_limit, refused, input_limit, schedule_limit}
use Rattle.hybrid_top.specs.Command.{RunRequest}
use Rattle.f77_front.specs.Front.{front_of}
use Rattle.hybrid_top.specs.Prepared.{ReadStops, fault, too_long, no_memory as out_of_memory, FrontStops, refused as not_accepted, no_program_memory}
use Rattle.hybrid_top.specs.Reading.{Keeps, IsWhole}
use Rattle.hybrid_top.specs.declared.status.Status.{Status}
use Rattle.hybrid_top.specs.declared.status.Status.TheVariants as status

-- a fault after others is one of the whole call
rose_after : (old mid new : FilesSeen) → Keeps old mid → Keeps mid new → Rose mid.faults new.faults → Rose old.faults new.faults
rose_after old mid new k l rose = rose_along old.faults mid.faults new.faults k.faults l.faults rose

-- the program isn't read
pub program_stops : (old new : FilesSeen) (r : RunRequest) (s : Status) → ReadStops 1 (old.content r.program) old new s → IsAnswer old new (Some r) (stops s)
program_stops old new r s (fault e rose same) = program_fault r refl rose same (ap stops e)
program_stops old new r s (too_long e long same) = program_limit r refl long same (ap stops e)
program_stops old new r s (out_of_memory e) = no_memory r refl (ap stops e)

-- the program isn't accepted
pub front_stops : (old new : FilesSeen) (r : RunRequest) (s : Status) (bytes : List ℕ) → new.ends ≡ next_count old.ends → IsWhole (old.content r.program) bytes → FrontStops bytes s → IsAnswer old new (Some r) (stops s)
front_stops old new r s bytes ended whole (not_accepted refusal e is) = refused r bytes refusal refl whole is ended (ap stops e)
front_stops old new r s bytes ended whole (no_program_memory e) = no_memory r refl (ap stops e)

-- the input isn't read
pub input_stops : (old mid new : FilesSeen) (r : RunRequest) (s : Status) (bytes : List ℕ) (program : Program) → Keeps old mid → Keeps mid new → mid.ends ≡ next_count old.ends → IsWhole (old.content r.program) bytes → front_of bytes ≡ Ok program → ReadStops 2 (mid.content r.input) mid new s → IsAnswer old new (Some r) (stops s)
input_stops old mid new r s bytes program k l one whole is (fault e rose same) = input_fault r bytes program refl whole is (rose_after old mid new k l rose) (same ∙ one) (ap stops e)
input_stops old mid new r s bytes program k l one whole is (too_long e long same) = input_limit r bytes program refl whole is (rw k.content at long) (same ∙ one) (ap stops e)
input_stops old mid new r s bytes program k l one whole is (out_of_memory e) = no_memory r refl (ap stops e)

-- the schedule isn't read
pub schedule_stops : (old mid new : FilesSeen) (r : RunRequest) (s : Status) (bytes : List ℕ) (program : Program) (input : List ℕ) → Keeps old mid → Keeps mid new → mid.ends ≡ next_count (next_count old.ends) → IsWhole (old.content r.program) bytes → front_of bytes ≡ Ok program → IsWhole (old.content r.input) input → ReadStops 3 (mid.content r.schedule) mid new s → IsAnswer old new (Some r) (stops s)
schedule_stops old mid new r s bytes program input k l two whole is read (fault e rose same) = schedule_fault r bytes program input refl whole is read (rose_after old mid new k l rose) (same ∙ two) (ap stops e)
schedule_stops old mid new r s bytes program input k l two whole is read (too_long e long same) = schedule_limit r bytes program input refl whole is read (rw k.content at long) (same ∙ two) (ap stops e)
schedule_stops old mid new r s bytes program input k l two whole is read (out_of_memory e) = no_memory r refl (ap stops e)

-- no memory for the machine
pub start_stops : {A : Type 0} (old new : FilesSeen) (r : RunRequest) (result : Result A Status) → IfErr result (λ s. s ≡ status.NoMemory) → IfErr result (λ s. IsAnswer old new (Some r) (stops s))
start_stops old new r (Ok machine) h = tt
start_stops old new r (Err s) h = no_memory r refl (ap stops h)
