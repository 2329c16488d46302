-- What a live iteration means, and one step of it.
use Rattle.std.specs.Prelude.{◌≡◌, ◌≢◌, List, slice_index_or, slice_set, ℕ, ℤ, Bool, true, ◌==◌, Option, None, Some, if◌then◌else◌}
use Rattle.hyb_base.specs.declared.ops.RedOp.{RedOp}
use Rattle.interleaving.specs.Machine.{Event, Store}
use Rattle.interleaving.specs.Modes.{Mode}
use Rattle.interleaving.specs.OwnCells.{Owner, with_own}
use Rattle.interleaving.specs.Region.{Iteration, step_by}
use Rattle.region_run.specs.declared.asks.Asked.{Asked}
use Rattle.region_run.specs.declared.asks.Asked.TheVariants.{Reads, Writes, Moves, Ends, Faults}
use Rattle.region_run.specs.declared.live.Live.{Live}
use Rattle.region_run.specs.Asked.{asked_of, is_fault}
use Rattle.region_run.specs.Machine.{machine_of, store_of_cells}

-- a value of one cell, and of no other
abbrev pub only : (variable : ℕ) → ℤ → ℕ → Option ℤ
only variable value = λ a. if variable == a then Some value else None

-- the iteration that a live one is, where rows have these values of their own
abbrev pub iteration_of : {P M : Type 0} → (P → M) → (own : ℕ → ℕ → Option ℤ) → (variable : ℕ) → Live P → Iteration (Owner M ℤ) ℤ
iteration_of meant own variable live = record {
  process = record { process = meant live.process; value = only variable live.value };
  own = own live.row;
  finished = live.finished;
}

-- a step that a process told so left this store and this iteration; none where it met a fault
abbrev pub outcome_from : {F M : Type 0} → Asked F → Store ℤ → Iteration (Owner M ℤ) ℤ → Option (Store ℤ × Iteration (Owner M ℤ) ℤ)
outcome_from (Reads address by) s it = Some (s, it)
outcome_from (Writes address value by) s it = Some (s, it)
outcome_from Moves s it = Some (s, it)
outcome_from Ends s it = Some (s, it)
outcome_from (Faults fault) s it = None

-- the same, of the iterations that aren't committed
abbrev pub all_from : {F M : Type 0} → Asked F → Store ℤ → List (Iteration (Owner M ℤ) ℤ) → Option (Store ℤ × List (Iteration (Owner M ℤ) ℤ))
all_from (Reads address by) s pending = Some (s, pending)
all_from (Writes address value by) s pending = Some (s, pending)
all_from Moves s pending = Some (s, pending)
all_from Ends s pending = Some (s, pending)
all_from (Faults fault) s pending = None

-- an iteration is finished where it was before, or where its step ended it
abbrev pub finished_by : {F : Type 0} → Asked F → Bool → Bool
finished_by (Reads address by) was = was
finished_by (Writes address value by) was = was
finished_by Moves was = was
finished_by Ends was = true
finished_by (Faults fault) was = was

-- the step of an iteration
abbrev pub step_of : {M : Type 0} → (M → Event RedOp ℤ) → (M → ℤ → M) → (M → M) → (ℕ → Mode RedOp) → Store ℤ → Iteration (Owner M ℤ) ℤ → Option (Store ℤ × Iteration (Owner M ℤ) ℤ)
step_of event resumed done modes s it = step_by (with_own (machine_of event resumed done)) modes ((with_own (machine_of event resumed done)).event it.process) s it

-- a live iteration took a step, and told so what it was
pub record DidStep {P F M : Type 0} (is_of : P → Type 0) (meant : P → M) (fault : M → F) (event : M → Event RedOp ℤ) (resumed : M → ℤ → M) (done : M → M) (modes : ℕ → Mode RedOp) (own own' : ℕ → ℕ → Option ℤ) (variable : ℕ) (values values' : List ℤ) (answer : Asked F) (was is : Live P) : Type 0 where
  pub next : step_of event resumed done modes (store_of_cells values) (iteration_of meant own variable was) ≡ outcome_from answer (store_of_cells values') (iteration_of meant own' variable is)
  pub asked : answer ≡ asked_of (fault (meant was.process)) (event (meant was.process))
  pub row : is.row ≡ was.row
  pub finished : is.finished ≡ finished_by answer was.finished
  pub others : (other : ℕ) → other ≢ was.row → own' other ≡ own other
  pub stays : is_fault answer ≡ true → (iteration_of meant own' variable is ≡ iteration_of meant own variable was) × (values' ≡ values)
  pub belongs : is_of is.process

-- in a list of live iterations, the one at an index became another, which is so related to it
pub record ChangedAt {P : Type 0} (old new : List (Live P)) (at : ℕ) (How : Live P → Live P → Type 0) : Type 0 where
  pub was : Live P
  pub is : Live P
  pub stood : was ≡ slice_index_or old at was
  pub stands : new ≡ slice_set old at is
  pub how : How was is
