-- Which iteration a pick names, and what that does next.
use Rattle.std.specs.Prelude.{ℕ, zero, suc, ◌+◌, ◌<◌, ◌≡◌, false, List, [], ◌∷◌, length, Option, None, Some, if◌then◌else◌}
use Rattle.interleaving.specs.Machine.{Event, faults, Machine, Store}
use Rattle.interleaving.specs.Modes.{Mode}
use Rattle.interleaving.specs.Region.{Iteration, Region, step_by, settled_from, place_of, advanced, advanced_all, begun}

-- the index, among the iterations that aren't committed, of the one at a place among the unfinished ones
abbrev pub index_at : {P V : Type 0} → (place : ℕ) → List (Iteration P V) → ℕ
index_at place [] = zero
index_at zero (it ∷ more) = if it.finished then suc (index_at zero more) else zero
index_at (suc place) (it ∷ more) = suc (index_at (if it.finished then suc place else place) more)

-- the iteration at an index, if there is one
abbrev pub iteration_at : {P V : Type 0} → List (Iteration P V) → (index : ℕ) → Option (Iteration P V)
iteration_at [] index = None
iteration_at (it ∷ more) zero = Some it
iteration_at (it ∷ more) (suc index) = iteration_at more index

-- an iteration of a region, at this index, that is live and unfinished
pub record IsLive {P V : Type 0} (window : ℕ) (r : Region P V) (index : ℕ) (it : Iteration P V) : Type 0 where
  pub below : index < window
  pub there : iteration_at r.pending index ≡ Some it
  pub unfinished : it.finished ≡ false

-- what is picked: the number of an iteration, counted from 1 over all that the region began with; its process, which tells the line where it
-- faults; and its next event
pub record Picked (P O V : Type 0) : Type 0 where
  pub number : ℕ
  pub process : P
  pub event : Event O V

abbrev pub picked_of : {P O V : Type 0} → Machine P O V → (committed index : ℕ) → Option (Iteration P V) → Option (Picked P O V)
picked_of m committed index None = None
picked_of m committed index (Some it) = Some (record { number = suc (committed + index); process = it.process; event = m.event it.process })

-- what a pick names in a region; nothing where that is over
abbrev pub picked : {P O V : Type 0} → Machine P O V → (window : ℕ) → Region P V → (pick : ℕ) → Option (Picked P O V)
picked m window r pick = picked_of m r.committed (index_at (place_of window r pick) r.pending) (iteration_at r.pending (index_at (place_of window r pick) r.pending))

-- with another iteration at an index
abbrev pub replaced : {P V : Type 0} → List (Iteration P V) → (index : ℕ) → Iteration P V → List (Iteration P V)
replaced [] index it = []
replaced (old ∷ more) zero it = it ∷ more
replaced (old ∷ more) (suc index) it = old ∷ replaced more index it

-- a region's iterations after a step of the one at an index; none where it faulted
abbrev pub with_stepped : {P V : Type 0} → List (Iteration P V) → (index : ℕ) → Option (Store V × Iteration P V) → Option (Store V × List (Iteration P V))
with_stepped pending index None = None
with_stepped pending index (Some r) = Some (r.0, replaced pending index r.1)

-- a pick names a live unfinished iteration: the region's step is the step of that one, and faults exactly where its event is a fault
pub record NamesLive {P O V : Type 0} (m : Machine P O V) (modes : ℕ → Mode O) (window : ℕ) (r : Region P V) (pick : ℕ) : Type 0 where
  pub index : ℕ
  pub it : Iteration P V
  pub live : IsLive window r index it
  pub names : picked m window r pick ≡ Some (record { number = suc (r.committed + index); process = it.process; event = m.event it.process })
  pub steps : advanced m modes window r pick ≡ settled_from m modes r.committed (with_stepped r.pending index (step_by m modes (m.event it.process) r.store it))
  pub faulted : advanced m modes window r pick ≡ None → m.event it.process ≡ faults
  pub faults_so : m.event it.process ≡ faults → advanced m modes window r pick ≡ None

-- what is true of picks in a region that began with `count` iterations: these are the committed ones and the others; each pick names a live
-- unfinished one, where the region isn't over; and each such iteration is named by some pick
pub record ArePicks {P O V : Type 0} (m : Machine P O V) (modes : ℕ → Mode O) (window count : ℕ) (r : Region P V) : Type 0 where
  pub counted : r.committed + length r.pending ≡ count
  pub each_names : (pick : ℕ) → (r.pending ≡ [] → ⊥) → NamesLive m modes window r pick
  pub each_named : (index : ℕ) (it : Iteration P V) → IsLive window r index it → (pick : ℕ) × (picked m window r pick ≡ Some (record { number = suc (r.committed + index); process = it.process; event = m.event it.process }))

-- picks: of any machine, any modes and any region that some picks leave
abbrev pub PicksName : (P O V : Type 0) → Type 0
PicksName P O V =
    (m : Machine P O V) (modes : ℕ → Mode O) (window : ℕ) → 0 < window → (starts : List P) (entry : Store V) (picks : List ℕ) (r : Region P V) →
    advanced_all m modes window picks (Some (begun starts entry)) ≡ Some r → ArePicks m modes window (length starts) r
