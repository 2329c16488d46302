-- What a pick is answered with.
use Rattle.std.specs.Prelude.{ℕ, ℤ, ◌≡◌, Bool, true, false, Option, None, Some}
use Rattle.hyb_base.specs.declared.ops.RedOp.{RedOp}
use Rattle.interleaving.specs.Machine.{Event, reads, writes, moves, ends, faults}
use Rattle.interleaving.specs.OwnCells.{Owner}
use Rattle.interleaving.specs.Picks.{Picked}
use Rattle.region_run.specs.Asked.{asked_of}
use Rattle.region_run.specs.declared.running.Advanced.{Advanced}
use Rattle.region_run.specs.declared.running.Advanced.TheVariants.{Ran, Over, Faulted}

-- the region after a step is this one; there is none where the picked iteration met a fault
abbrev pub CameTo : {F Region : Type 0} → Advanced F → (came : Option Region) → Region → Type 0
CameTo (Ran iteration asked) came region = came ≡ Some region
CameTo Over came region = came ≡ None
CameTo (Faulted iteration fault line) came region = came ≡ None

-- an iteration that is picked, by the next event of its process: it ran, or met a fault
abbrev pub answer_by : {F M : Type 0} → (fault : M → F) → (line : M → ℕ) → (number : ℕ) → M → Event RedOp ℤ → Advanced F
answer_by fault line number process (reads address by) = Ran number (asked_of (fault process) (reads address by))
answer_by fault line number process (writes address value by) = Ran number (asked_of (fault process) (writes address value by))
answer_by fault line number process moves = Ran number (asked_of (fault process) moves)
answer_by fault line number process ends = Ran number (asked_of (fault process) ends)
answer_by fault line number process faults = Faulted number (fault process) (line process)

-- the answer to a pick, by what it names: the iteration's number, and the next event of its process; where the pick names nothing, the region
-- is over
abbrev pub answer_to : {F M : Type 0} → (M → Event RedOp ℤ) → (fault : M → F) → (line : M → ℕ) → Option (Picked (Owner M ℤ) RedOp ℤ) → Advanced F
answer_to event fault line None = Over
answer_to event fault line (Some picked) = answer_by fault line picked.number picked.process.process (event picked.process.process)

-- whether an iteration took a step
abbrev pub has_run : {F : Type 0} → Advanced F → Bool
has_run (Ran iteration asked) = true
has_run Over = false
has_run (Faulted iteration fault line) = false

-- picks that each had a step came to this region; there is none where one had not
abbrev pub came_through : {F Region : Type 0} → Option (Advanced F) → Region → Option Region
came_through None region = Some region
came_through (Some answer) region = None
