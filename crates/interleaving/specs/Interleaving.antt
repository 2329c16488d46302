-- The laws on regions of iterations: interleaving, alone, whole.
use Rattle.std.specs.Prelude.{Bool, IsTrue, ℕ, ◌+◌, ◌<◌, ◌≤◌, ◌≡◌, List, [], length, Some}
use Rattle.interleaving.specs.Machine.{Machine, IsMachine, AreReady, Store}
use Rattle.interleaving.specs.Modes.{Mode, Fits}
use Rattle.interleaving.specs.Region.{Region, begun, advanced_all}
use Rattle.interleaving.specs.Traces.{Access, Stop, InTurn, Alone, all_at_end, steps_of_all}

-- a region with `left` steps to go: it is over where that is 0, and then its store is `end`
pub record HasLeft {P V : Type 0} (r : Region P V) (end : Store V) (left : ℕ) : Type 0 where
  pub over : left ≡ 0 → r.pending ≡ []
  pub store : left ≡ 0 → r.store ≡ end
  pub going : 0 < left → r.pending ≡ [] → ⊥

-- interleaving: where iterations run in turn without a fault and modes fit their traces, any picks, no more than all their steps, leave a
-- region without a fault. It is over exactly after all their steps, and its store is then the one that they leave in turn
abbrev pub InterleavesOf : {P O V : Type 0} → Machine P O V → (Sound : P → Type 0) → Type 0
InterleavesOf {P} {O} {V} m Sound =
    (modes : ℕ → Mode O) (window : ℕ) → 0 < window →
    (starts : List P) (entry end : Store V) (traces : List (List (Access O))) → AreReady m Sound starts → InTurn m starts entry traces end → Fits modes traces →
    (picks : List ℕ) (left : ℕ) → length picks + left ≡ steps_of_all traces →
    (r : Region P V) × (advanced_all m modes window picks (Some (begun starts entry)) ≡ Some r) × HasLeft r end left

abbrev pub InterleavesWhere : (P O V : Type 0) → (Sound : P → Type 0) → Type 0
InterleavesWhere P O V Sound = (m : Machine P O V) → IsMachine m Sound → InterleavesOf m Sound

-- alone: where modes fit iterations that run in turn, each of them also runs alone from the entry, to its end with the same trace
abbrev pub RunsAloneOf : {P O V : Type 0} → Machine P O V → (Sound : P → Type 0) → Type 0
RunsAloneOf {P} {O} {V} m Sound =
    (modes : ℕ → Mode O) (limit : ℕ) (starts : List P) (entry end : Store V) (traces : List (List (Access O))) → AreReady m Sound starts → InTurn m starts entry traces end → Fits modes traces →
    Alone m limit starts entry traces (all_at_end traces)

abbrev pub RunsAloneWhere : (P O V : Type 0) → (Sound : P → Type 0) → Type 0
RunsAloneWhere P O V Sound = (m : Machine P O V) → IsMachine m Sound → RunsAloneOf m Sound

-- whole: where modes fit the traces of iterations that run each alone for `limit` steps at most, and some picks, no more than these, bring
-- their region to its end, they run in turn without a fault, in as many steps, to the region's store; so each of them ran alone to its end
abbrev pub IsWholeOf : {P O V : Type 0} → Machine P O V → (Sound : P → Type 0) → Type 0
IsWholeOf {P} {O} {V} m Sound =
    (modes : ℕ → Mode O) (window : ℕ) → 0 < window →
    (limit : ℕ) (starts : List P) (entry : Store V) (traces : List (List (Access O))) (stops : List Stop) → AreReady m Sound starts → Alone m limit starts entry traces stops → Fits modes traces →
    (picks : List ℕ) → length picks ≤ limit → (r : Region P V) → advanced_all m modes window picks (Some (begun starts entry)) ≡ Some r → r.pending ≡ [] →
    InTurn m starts entry traces r.store × (length picks ≡ steps_of_all traces) × (stops ≡ all_at_end traces)

abbrev pub IsWholeWhere : (P O V : Type 0) → (Sound : P → Type 0) → Type 0
IsWholeWhere P O V Sound = (m : Machine P O V) → IsMachine m Sound → IsWholeOf m Sound

-- the laws, for each test of which processes are sound
abbrev pub Interleaves : (P O V : Type 0) → Type 0
Interleaves P O V = (sound : P → Bool) → InterleavesWhere P O V (λ p. IsTrue (sound p))

abbrev pub RunsAlone : (P O V : Type 0) → Type 0
RunsAlone P O V = (sound : P → Bool) → RunsAloneWhere P O V (λ p. IsTrue (sound p))

abbrev pub IsWhole : (P O V : Type 0) → Type 0
IsWhole P O V = (sound : P → Bool) → IsWholeWhere P O V (λ p. IsTrue (sound p))
