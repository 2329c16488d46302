-- The laws on regions of a loop's iterations, each with its own value of the loop's variable.
use Rattle.std.specs.Prelude.{Bool, IsTrue, ℕ, ◌+◌, ◌<◌, ◌≤◌, ◌≡◌, List, [], length, Some}
use Rattle.interleaving.specs.Machine.{Machine, IsMachine, AreReady, Store, put}
use Rattle.interleaving.specs.Modes.{Mode, Fits}
use Rattle.interleaving.specs.OwnCells.{Start, Owner, with_own, processes_of, owners_of, LoopInTurn, LoopAlone}
use Rattle.interleaving.specs.Region.{Region, begun, advanced_all}
use Rattle.interleaving.specs.Traces.{Access, Stop, all_at_end, steps_of_all}

-- a region of a loop with `left` steps to go: it is over where that is 0, and its store is then `end`, whatever the loop's variable is set to
-- afterwards. Until that the variable holds in the store what it holds at the entry
pub record LoopHasLeft {P V : Type 0} (r : Region P V) (variable : ℕ) (entry end : Store V) (left : ℕ) : Type 0 where
  pub over : left ≡ 0 → r.pending ≡ []
  pub store : left ≡ 0 → (final : V) → put r.store variable final ≡ put end variable final
  pub control : r.store variable ≡ entry variable
  pub going : 0 < left → r.pending ≡ [] → ⊥

-- interleaving, of a loop's iterations
abbrev pub LoopInterleavesOf : {P O V : Type 0} → Machine P O V → (Sound : P → Type 0) → Type 0
LoopInterleavesOf {P} {O} {V} m Sound =
    (modes : ℕ → Mode O) (variable window : ℕ) → 0 < window →
    (starts : List (Start P V)) (entry end : Store V) (traces : List (List (Access O))) → AreReady m Sound (processes_of starts) → LoopInTurn m variable starts entry traces end → Fits modes traces →
    (picks : List ℕ) (left : ℕ) → length picks + left ≡ steps_of_all traces →
    (r : Region (Owner P V) V) × (advanced_all (with_own m) modes window picks (Some (begun (owners_of variable starts) entry)) ≡ Some r) × LoopHasLeft r variable entry end left

abbrev pub LoopInterleavesWhere : (P O V : Type 0) → (Sound : P → Type 0) → Type 0
LoopInterleavesWhere P O V Sound = (m : Machine P O V) → IsMachine m Sound → LoopInterleavesOf m Sound

-- alone, of a loop's iterations
abbrev pub LoopRunsAloneOf : {P O V : Type 0} → Machine P O V → (Sound : P → Type 0) → Type 0
LoopRunsAloneOf {P} {O} {V} m Sound =
    (modes : ℕ → Mode O) (limit variable : ℕ) (starts : List (Start P V)) (entry end : Store V) (traces : List (List (Access O))) → AreReady m Sound (processes_of starts) → LoopInTurn m variable starts entry traces end → Fits modes traces →
    LoopAlone m limit variable starts entry traces (all_at_end traces)

abbrev pub LoopRunsAloneWhere : (P O V : Type 0) → (Sound : P → Type 0) → Type 0
LoopRunsAloneWhere P O V Sound = (m : Machine P O V) → IsMachine m Sound → LoopRunsAloneOf m Sound

-- whole, of a loop's iterations
abbrev pub LoopIsWholeOf : {P O V : Type 0} → Machine P O V → (Sound : P → Type 0) → Type 0
LoopIsWholeOf {P} {O} {V} m Sound =
    (modes : ℕ → Mode O) (variable window : ℕ) → 0 < window →
    (limit : ℕ) (starts : List (Start P V)) (entry : Store V) (traces : List (List (Access O))) (stops : List Stop) → AreReady m Sound (processes_of starts) → LoopAlone m limit variable starts entry traces stops → Fits modes traces →
    (picks : List ℕ) → length picks ≤ limit → (r : Region (Owner P V) V) → advanced_all (with_own m) modes window picks (Some (begun (owners_of variable starts) entry)) ≡ Some r → r.pending ≡ [] →
    (end : Store V) × LoopInTurn m variable starts entry traces end × (length picks ≡ steps_of_all traces) × (stops ≡ all_at_end traces) × ((final : V) → put r.store variable final ≡ put end variable final)

abbrev pub LoopIsWholeWhere : (P O V : Type 0) → (Sound : P → Type 0) → Type 0
LoopIsWholeWhere P O V Sound = (m : Machine P O V) → IsMachine m Sound → LoopIsWholeOf m Sound

-- own cells: the machine of owners is a machine where the other is one
abbrev pub OwnersWhere : (P O V : Type 0) → (Sound : P → Type 0) → Type 0
OwnersWhere P O V Sound = (m : Machine P O V) → IsMachine m Sound → IsMachine (with_own m) (λ q. Sound q.process)

-- the laws, for each test of which processes are sound
abbrev pub LoopInterleaves : (P O V : Type 0) → Type 0
LoopInterleaves P O V = (sound : P → Bool) → LoopInterleavesWhere P O V (λ p. IsTrue (sound p))

abbrev pub LoopRunsAlone : (P O V : Type 0) → Type 0
LoopRunsAlone P O V = (sound : P → Bool) → LoopRunsAloneWhere P O V (λ p. IsTrue (sound p))

abbrev pub LoopIsWhole : (P O V : Type 0) → Type 0
LoopIsWhole P O V = (sound : P → Bool) → LoopIsWholeWhere P O V (λ p. IsTrue (sound p))

abbrev pub Owners : (P O V : Type 0) → Type 0
Owners P O V = (sound : P → Bool) → OwnersWhere P O V (λ p. IsTrue (sound p))
