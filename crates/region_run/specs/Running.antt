-- What a running region means, and when it holds together.
use Rattle.std.specs.Prelude.{ℕ, ◌≡◌, ◌≢◌, ◌+◌, ◌^◌, ◌<◌, ◌≤◌, ℤ, Bool, false, List, [], ◌∷◌, ◌++◌, map, length, vec_capacity, All, Option, None}
use Rattle.std.specs.VecDeque.{deque_capacity}
use Rattle.hyb_base.specs.declared.ops.RedOp.{RedOp}
use Rattle.interleaving.specs.Machine.{Store}
use Rattle.interleaving.specs.Modes.{Mode}
use Rattle.interleaving.specs.OwnCells.{Owner, Start, owner_of, owners_of}
use Rattle.interleaving.specs.Region.{Iteration, Region, fresh, all_fresh, begun, commit}
use Rattle.interleaving.specs.Turning.{starts_from}
use Rattle.region_run.specs.declared.live.Live.{Live}
use Rattle.region_run.specs.declared.running.Running.{Running}
use Rattle.region_run.specs.Live.{iteration_of}
use Rattle.region_run.specs.Machine.{operators, store_of_cells}
use Rattle.region_run.specs.Places.{numbers}

-- `left` iterations of a loop, from the one with this number on
abbrev pub starts_of : {M : Type 0} → (start : ℕ → Start M ℤ) → (left from : ℕ) → List (Start M ℤ)
starts_of start left from = starts_from (λ j. (start j).value) (λ j. (start j).process) from left

-- the same before their first steps: this is what iterations that haven't begun are, so they take no memory
abbrev pub rest_of : {M : Type 0} → (start : ℕ → Start M ℤ) → (variable left from : ℕ) → List (Iteration (Owner M ℤ) ℤ)
rest_of start variable left from = all_fresh (owners_of variable (starts_of start left from))

-- the live iterations
abbrev pub live_of : {P R M : Type 0} → (P → M) → (R → ℕ → ℕ → Option ℤ) → Running P R → List (Iteration (Owner M ℤ) ℤ)
live_of meant own running = map (iteration_of meant (own running.rows) running.variable) running.live.items

-- all iterations that aren't committed: the live ones, and then those that haven't begun
abbrev pub pending_of : {P R M : Type 0} → (P → M) → (M → ℕ → Start M ℤ) → (R → ℕ → ℕ → Option ℤ) → Running P R → List (Iteration (Owner M ℤ) ℤ)
pending_of meant start own running = live_of meant own running ++ rest_of (start (meant running.entry)) running.variable running.left running.begun

-- the region, over cells that hold these values
abbrev pub region_of : {P R M : Type 0} → (P → M) → (M → ℕ → Start M ℤ) → (R → ℕ → ℕ → Option ℤ) → Running P R → (values : List ℤ) → Region (Owner M ℤ) ℤ
region_of meant start own running values = record { committed = running.committed; store = store_of_cells values; pending = pending_of meant start own running }

-- the number of the loop's iterations
abbrev pub trips_of : {P R : Type 0} → Running P R → ℕ
trips_of running = running.begun + running.left

-- no two live iterations have one row
abbrev pub HaveOwnRows : {P : Type 0} → List (Live P) → Type 0
HaveOwnRows [] = Unit {0}
HaveOwnRows (live ∷ more) = All (λ other. other.row ≢ live.row) more × HaveOwnRows more

-- whether the first live iteration is finished
abbrev pub is_first_finished : {P : Type 0} → List (Live P) → Bool
is_first_finished [] = false
is_first_finished (live ∷ more) = live.finished

-- a region between two commits, where the first live iteration may be finished: what is true of its processes, rows, lists, counts, and of
-- the room for them
pub record HoldsTogether {P R M : Type 0} (is_of : P → Type 0) (meant : P → M) (count : R → ℕ) (own : R → ℕ → ℕ → Option ℤ) (running : Running P R) : Type 0 where
  pub processes : All (λ live. is_of live.process) running.live.items
  pub entry : is_of running.entry
  pub rows : All (λ live. live.row < count running.rows) running.live.items
  pub own_rows : HaveOwnRows running.live.items
  pub order : running.unfinished.items ≡ numbers running.committed (live_of meant own running)
  pub begun : running.begun ≡ running.committed + length running.live.items
  pub window : length running.live.items ≤ running.window
  pub numbers : trips_of running < 2 ^ 64
  pub full : 0 < running.left → length running.live.items ≡ running.window
  pub room : running.window ≤ deque_capacity running.live
  pub places : running.window ≤ vec_capacity running.unfinished

-- a region that can take a step: the leading finished iterations are committed, and the window has a place
pub record IsRunning {P R M : Type 0} (is_of : P → Type 0) (meant : P → M) (count : R → ℕ) (own : R → ℕ → ℕ → Option ℤ) (running : Running P R) : Type 0 where
  pub together : HoldsTogether is_of meant count own running
  pub settled : is_first_finished running.live.items ≡ false
  pub wide : 0 < running.window

-- what stays the same in a region: its loop, the number of its iterations, its window, the modes and the number of rows
pub record SameLoop {P R : Type 0} (modes : R → ℕ → Mode RedOp) (count : R → ℕ) (old new : Running P R) : Type 0 where
  pub entry : new.entry ≡ old.entry
  pub variable : new.variable ≡ old.variable
  pub trips : trips_of new ≡ trips_of old
  pub window : new.window ≡ old.window
  pub same_modes : modes new.rows ≡ modes old.rows
  pub same_count : count new.rows ≡ count old.rows

-- the region of a loop before its first step, over whatever store
pub record HasBegun {P R M : Type 0} (is_of : P → Type 0) (meant : P → M) (start : M → ℕ → Start M ℤ) (count : R → ℕ) (own : R → ℕ → ℕ → Option ℤ) (entry : P) (variable trips window : ℕ) (rows : R) (running : Running P R) : Type 0 where
  pub is_running : IsRunning is_of meant count own running
  pub is_begun : (values : List ℤ) → region_of meant start own running values ≡ begun (owners_of variable (starts_of (start (meant entry)) trips 0)) (store_of_cells values)
  pub same_entry : meant running.entry ≡ meant entry
  pub same_variable : running.variable ≡ variable
  pub same_trips : trips_of running ≡ trips
  pub same_window : running.window ≡ window
  pub same_rows : running.rows ≡ rows

-- the next iteration has begun, in this row
pub record Began {P R M : Type 0} (is_of : P → Type 0) (meant : P → M) (start : M → ℕ → Start M ℤ) (own : R → ℕ → ℕ → Option ℤ) (row : ℕ) (old new : Running P R) : Type 0 where
  pub next : Live P
  pub live : new.live.items ≡ old.live.items ++ next ∷ []
  pub slot : iteration_of meant (own new.rows) new.variable next ≡ fresh (owner_of old.variable (start (meant old.entry) old.begun))
  pub same_row : next.row ≡ row
  pub belongs : is_of next.process
  pub unfinished : new.unfinished.items ≡ old.unfinished.items ++ old.begun ∷ []
  pub left : new.left + 1 ≡ old.left
  pub begun : new.begun ≡ old.begun + 1
  pub room : deque_capacity new.live ≡ deque_capacity old.live
  pub places : vec_capacity new.unfinished ≡ vec_capacity old.unfinished
  pub rest : new ≡ record old { live = new.live; unfinished = new.unfinished; left = new.left; begun = new.begun }

-- the first live iteration has been committed
pub record Committed {P R : Type 0} (modes : R → ℕ → Mode RedOp) (own : R → ℕ → ℕ → Option ℤ) (first : Live P) (old new : Running P R) (s s' : Store ℤ) : Type 0 where
  pub live : old.live.items ≡ first ∷ new.live.items
  pub store : s' ≡ commit operators (modes old.rows) s (own old.rows first.row)
  pub cleared : own new.rows first.row ≡ (λ a. None)
  pub others : (other : ℕ) → other ≢ first.row → own new.rows other ≡ own old.rows other
  pub count : new.committed ≡ old.committed + 1
  pub room : deque_capacity new.live ≡ deque_capacity old.live
  pub rest : new ≡ record old { live = new.live; rows = new.rows; committed = new.committed }

-- no iteration has begun, and there is room for a window of this size
pub record IsEmpty {P R M : Type 0} (meant : P → M) (entry : P) (variable trips window : ℕ) (rows : R) (running : Running P R) : Type 0 where
  pub live : running.live.items ≡ []
  pub unfinished : running.unfinished.items ≡ []
  pub counts : (running.committed ≡ 0) × (running.begun ≡ 0) × (running.left ≡ trips) × (running.window ≡ 0)
  pub same_variable : running.variable ≡ variable
  pub same_entry : meant running.entry ≡ meant entry
  pub same_rows : running.rows ≡ rows
  pub room : deque_capacity running.live ≡ window
  pub places : vec_capacity running.unfinished ≡ window

-- the window has grown by one, and all iterations are what they were
pub record Grew {P R M : Type 0} (is_of : P → Type 0) (meant : P → M) (start : M → ℕ → Start M ℤ) (count : R → ℕ) (own : R → ℕ → ℕ → Option ℤ) (row : ℕ) (old new : Running P R) : Type 0 where
  pub together : HoldsTogether is_of meant count own new
  pub settled : is_first_finished new.live.items ≡ false
  pub below : All (λ live. live.row < row + 1) new.live.items
  pub full : length new.live.items ≡ new.window
  pub pending : pending_of meant start own new ≡ pending_of meant start own old
  pub window : new.window ≡ old.window + 1
  pub left : new.left + 1 ≡ old.left
  pub begun : new.begun ≡ old.begun + 1
  pub same_committed : new.committed ≡ old.committed
  pub same_entry : new.entry ≡ old.entry
  pub same_rows : new.rows ≡ old.rows
  pub same_variable : new.variable ≡ old.variable
  pub room : deque_capacity new.live ≡ deque_capacity old.live
  pub places : vec_capacity new.unfinished ≡ vec_capacity old.unfinished
