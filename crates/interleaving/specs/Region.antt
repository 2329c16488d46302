-- The interleaved run of iterations, one step a pick.
use Rattle.std.specs.Prelude.{ℕ, zero, suc, ◌%◌, ◌==◌, Bool, true, false, List, [], ◌∷◌, take, Option, None, Some, if◌then◌else◌}
use Rattle.std.specs.Option.{unwrap_or}
use Rattle.interleaving.specs.Machine.{Event, reads, writes, moves, ends, faults, Machine, Store, put}
use Rattle.interleaving.specs.Modes.{Mode, Shared, Private, Reduce}

-- an iteration that isn't committed: its process; its copies and partials, where it has written them; whether it is finished
pub record Iteration (P V : Type 0) : Type 0 where
  pub process : P
  pub own : ℕ → Option V
  pub finished : Bool

-- an iteration before its first step
abbrev pub fresh : {P V : Type 0} → P → Iteration P V
fresh p = record { process = p; own = λ a. None; finished = false }

-- a region: how many iterations are committed, the store, and the iterations that aren't committed, in order. Of these the first ones, as
-- many as the window has places, are live; the others haven't begun
pub record Region (P V : Type 0) : Type 0 where
  pub committed : ℕ
  pub store : Store V
  pub pending : List (Iteration P V)

-- what a read answers, where the store has x: a private cell answers the iteration's copy if it has one, a reduced one its partial, which
-- begins with the identity
abbrev pub answer_of : {P O V : Type 0} → Machine P O V → Mode O → (x : V) → (own : Option V) → V
answer_of m Shared x own = x
answer_of m Private x own = unwrap_or own x
answer_of m (Reduce op) x own = unwrap_or own (m.identity op)

-- the store after a write: only a shared cell is written there
abbrev pub store_after : {O V : Type 0} → Mode O → Store V → ℕ → V → Store V
store_after Shared s a v = put s a v
store_after _ s a v = s

-- the iteration's copies and partials after a write
abbrev pub own_after : {O V : Type 0} → Mode O → (ℕ → Option V) → ℕ → V → ℕ → Option V
own_after Shared own a v = own
own_after _ own a v = λ b. if a == b then Some v else own b

-- a cell after a commit: it takes the copy, or its value is combined with the partial, if there is one; else it keeps its value
abbrev pub merged : {P O V : Type 0} → Machine P O V → Mode O → (x : V) → (own : Option V) → V
merged m Shared x own = x
merged m Private x own = unwrap_or own x
merged m (Reduce op) x None = x
merged m (Reduce op) x (Some partial) = m.apply op x partial

-- the store after a commit
abbrev pub commit : {P O V : Type 0} → Machine P O V → (ℕ → Mode O) → Store V → (ℕ → Option V) → Store V
commit m modes s own = λ a. merged m (modes a) (s a) (own a)

-- a step of an iteration by its event, over a store; none where it faults
abbrev pub step_by : {P O V : Type 0} → Machine P O V → (ℕ → Mode O) → Event O V → Store V → Iteration P V → Option (Store V × Iteration P V)
step_by m modes (reads a by) s it = Some (s, record it { process = m.resumed it.process (answer_of m (modes a) (s a) (it.own a)) })
step_by m modes (writes a v by) s it = Some (store_after (modes a) s a v, record it { process = m.done it.process; own = own_after (modes a) it.own a v })
step_by m modes moves s it = Some (s, record it { process = m.done it.process })
step_by m modes ends s it = Some (s, record it { finished = true })
step_by m modes faults s it = None

-- with an iteration before those of a step
abbrev pub with_before : {P V : Type 0} → Iteration P V → Option (Store V × List (Iteration P V)) → Option (Store V × List (Iteration P V))
with_before it None = None
with_before it (Some r) = Some (r.0, it ∷ r.1)

-- with others after the iteration of a step
abbrev pub with_after : {P V : Type 0} → Option (Store V × Iteration P V) → List (Iteration P V) → Option (Store V × List (Iteration P V))
with_after None more = None
with_after (Some r) more = Some (r.0, r.1 ∷ more)

-- a step of the iteration at a place, from 0, among the unfinished ones
abbrev pub step_at : {P O V : Type 0} → Machine P O V → (ℕ → Mode O) → (place : ℕ) → Store V → List (Iteration P V) → Option (Store V × List (Iteration P V))
step_at m modes place s [] = None
step_at m modes zero s (it ∷ more) =
    if it.finished then with_before it (step_at m modes zero s more)
    else with_after (step_by m modes (m.event it.process) s it) more
step_at m modes (suc place) s (it ∷ more) = with_before it (step_at m modes (if it.finished then suc place else place) s more)

-- the number of unfinished iterations
abbrev pub unfinished : {P V : Type 0} → List (Iteration P V) → ℕ
unfinished [] = 0
unfinished (it ∷ more) = if it.finished then unfinished more else suc (unfinished more)

-- the leading finished iterations are committed in order
abbrev pub settled : {P O V : Type 0} → Machine P O V → (ℕ → Mode O) → (committed : ℕ) → Store V → List (Iteration P V) → Region P V
settled m modes committed s [] = record { committed = committed; store = s; pending = [] }
settled m modes committed s (it ∷ more) =
    if it.finished then settled m modes (suc committed) (commit m modes s it.own) more
    else record { committed = committed; store = s; pending = it ∷ more }

-- the same after a step; none where that faulted
abbrev pub settled_from : {P O V : Type 0} → Machine P O V → (ℕ → Mode O) → (committed : ℕ) → Option (Store V × List (Iteration P V)) → Option (Region P V)
settled_from m modes committed None = None
settled_from m modes committed (Some r) = Some (settled m modes committed r.0 r.1)

-- the place of a pick among the unfinished live iterations: the pick modulo their number
abbrev pub place_of : {P V : Type 0} → (window : ℕ) → Region P V → (pick : ℕ) → ℕ
place_of window r pick = pick % unfinished (take window r.pending)

-- one step of a region: the picked iteration takes a step, and then the leading finished ones are committed; none where it faults
abbrev pub advanced : {P O V : Type 0} → Machine P O V → (ℕ → Mode O) → (window : ℕ) → Region P V → (pick : ℕ) → Option (Region P V)
advanced m modes window r pick = settled_from m modes r.committed (step_at m modes (place_of window r pick) r.store r.pending)

-- a region after some picks; none where one faulted
abbrev pub advanced_all : {P O V : Type 0} → Machine P O V → (ℕ → Mode O) → (window : ℕ) → List ℕ → Option (Region P V) → Option (Region P V)
advanced_all m modes window picks None = None
advanced_all m modes window [] (Some r) = Some r
advanced_all m modes window (pick ∷ picks) (Some r) = advanced_all m modes window picks (advanced m modes window r pick)

abbrev pub all_fresh : {P V : Type 0} → List P → List (Iteration P V)
all_fresh [] = []
all_fresh (p ∷ starts) = fresh p ∷ all_fresh starts

-- a region before its first step
abbrev pub begun : {P V : Type 0} → List P → Store V → Region P V
begun starts s = record { committed = 0; store = s; pending = all_fresh starts }
