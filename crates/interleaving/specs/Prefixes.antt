-- What an iteration of a region did, beside its run alone.
use Rattle.std.specs.Prelude.{Bool, IsTrue, ◌==◌, ℕ, zero, suc, ◌<◌, ◌≤◌, ◌≡◌, true, List, [], ◌∷◌, ◌++◌, length, Option, Some}
use Rattle.interleaving.specs.Machine.{Event, reads, writes, moves, ends, faults, Machine, IsMachine, AreReady, Store, put}
use Rattle.interleaving.specs.Modes.{Mode, forbids_flow, Fits}
use Rattle.interleaving.specs.OwnCells.{Owner, Start, with_own, all_hidden, processes_of, owners_of, LoopAlone}
use Rattle.interleaving.specs.Region.{Iteration, Region, begun, advanced_all}
use Rattle.interleaving.specs.Traces.{Access, Read, Write, Move, Stop, Alone}

-- a step with its value: what a read was answered, or what was written
pub data Step (O V : Type 0) : Type 0 where
  Reading : (address : ℕ) (by : Option O) (answer : V) → Step O V
  Writing : (address : ℕ) (by : Option O) (value : V) → Step O V
  Moving : Step O V

-- the trace of some steps
abbrev pub trace_of : {O V : Type 0} → List (Step O V) → List (Access O)
trace_of [] = []
trace_of (Reading a by x ∷ steps) = Read a by ∷ trace_of steps
trace_of (Writing a by v ∷ steps) = Write a by ∷ trace_of steps
trace_of (Moving ∷ steps) = Move ∷ trace_of steps

-- a process takes these steps, whatever store or copies answer its reads, and is then that process
pub data Takes {P O V : Type 0} (m : Machine P O V) : P → List (Step O V) → P → Type 0 where
  takes_none : {p : P} → Takes m p [] p
  takes_read : {p q : P} {steps : List (Step O V)} (a : ℕ) (by : Option O) (x : V) → m.event p ≡ reads a by → Takes m (m.resumed p x) steps q → Takes m p (Reading a by x ∷ steps) q
  takes_write : {p q : P} {steps : List (Step O V)} (a : ℕ) (by : Option O) (v : V) → m.event p ≡ writes a v by → Takes m (m.done p) steps q → Takes m p (Writing a by v ∷ steps) q
  takes_move : {p q : P} {steps : List (Step O V)} → m.event p ≡ moves → Takes m (m.done p) steps q → Takes m p (Moving ∷ steps) q

-- the steps of an event over a store, and of what comes after it
abbrev pub steps_by : {P O V : Type 0} → Machine P O V → Event O V → P → Store V → (P → Store V → List (Step O V)) → List (Step O V)
steps_by m (reads a by) p s go = Reading a by (s a) ∷ go (m.resumed p (s a)) s
steps_by m (writes a v by) p s go = Writing a by v ∷ go (m.done p) (put s a v)
steps_by m moves p s go = Moving ∷ go (m.done p) s
steps_by m ends p s go = []
steps_by m faults p s go = []

-- the steps of a process alone over a store, `limit` at most
abbrev pub solo_steps : {P O V : Type 0} → Machine P O V → (limit : ℕ) → P → Store V → List (Step O V)
solo_steps m zero p s = []
solo_steps m (suc limit) p s = steps_by m (m.event p) p s (λ q t. solo_steps m limit q t)

-- steps that are the first of others, with the same values but at cells that are reduced
abbrev pub AreFirst : {O V : Type 0} → (modes : ℕ → Mode O) → (steps all : List (Step O V)) → Type 0
AreFirst modes [] all = Unit {0}
AreFirst modes (Reading a by x ∷ steps) (Reading b op y ∷ all) = (a ≡ b) × (by ≡ op) × (forbids_flow (modes a) ≡ true → x ≡ y) × AreFirst modes steps all
AreFirst modes (Writing a by v ∷ steps) (Writing b op w ∷ all) = (a ≡ b) × (by ≡ op) × (forbids_flow (modes a) ≡ true → v ≡ w) × AreFirst modes steps all
AreFirst modes (Moving ∷ steps) (Moving ∷ all) = AreFirst modes steps all
AreFirst modes _ _ = ⊥

-- what an iteration of a region did: its process has come from its start by the first steps of its run alone from the entry, with the same
-- values but at cells that are reduced; so its trace begins with theirs, and it is theirs where the iteration is finished
pub record DidFirst {P O V : Type 0} (m : Machine P O V) (modes : ℕ → Mode O) (entry : Store V) (start : P) (trace : List (Access O)) (it : Iteration P V) : Type 0 where
  pub did : List (Step O V)
  pub rest : List (Access O)
  pub takes : Takes m start did it.process
  pub first : AreFirst modes did (solo_steps m (length trace) start entry)
  pub begins : trace_of did ++ rest ≡ trace
  pub all : it.finished ≡ true → rest ≡ []

-- each iteration of a region that isn't committed did the first steps of its run alone, where `committed` others are committed
abbrev pub AllDidFirst : {P O V : Type 0} → Machine P O V → (modes : ℕ → Mode O) → (entry : Store V) → (committed : ℕ) → List P → List (List (Access O)) → List (Iteration P V) → Type 0
AllDidFirst m modes entry zero [] [] [] = Unit {0}
AllDidFirst m modes entry zero (start ∷ starts) (trace ∷ traces) (it ∷ pending) = DidFirst m modes entry start trace it × AllDidFirst m modes entry zero starts traces pending
AllDidFirst m modes entry (suc committed) (start ∷ starts) (trace ∷ traces) pending = AllDidFirst m modes entry committed starts traces pending
AllDidFirst m modes entry _ _ _ _ = ⊥

-- prefixes: where modes fit the traces of iterations that run each alone for `limit` steps at most, then after any picks, no more than these,
-- each iteration that isn't committed did the first steps of its run alone, and all of them where it is finished
abbrev pub DoPrefixesOf : {P O V : Type 0} → Machine P O V → (Sound : P → Type 0) → Type 0
DoPrefixesOf {P} {O} {V} m Sound =
    (modes : ℕ → Mode O) (window : ℕ) → 0 < window →
    (limit : ℕ) (starts : List P) (entry : Store V) (traces : List (List (Access O))) (stops : List Stop) → AreReady m Sound starts → Alone m limit starts entry traces stops → Fits modes traces →
    (picks : List ℕ) → length picks ≤ limit → (r : Region P V) → advanced_all m modes window picks (Some (begun starts entry)) ≡ Some r →
    AllDidFirst m modes entry r.committed starts traces r.pending

abbrev pub DoPrefixesWhere : (P O V : Type 0) → (Sound : P → Type 0) → Type 0
DoPrefixesWhere P O V Sound = (m : Machine P O V) → IsMachine m Sound → DoPrefixesOf m Sound

-- prefixes, of a loop's iterations: their accesses to the loop's variable are moves
abbrev pub LoopDoPrefixesOf : {P O V : Type 0} → Machine P O V → (Sound : P → Type 0) → Type 0
LoopDoPrefixesOf {P} {O} {V} m Sound =
    (modes : ℕ → Mode O) (variable window : ℕ) → 0 < window →
    (limit : ℕ) (starts : List (Start P V)) (entry : Store V) (traces : List (List (Access O))) (stops : List Stop) → AreReady m Sound (processes_of starts) → LoopAlone m limit variable starts entry traces stops → Fits modes traces →
    (picks : List ℕ) → length picks ≤ limit → (r : Region (Owner P V) V) → advanced_all (with_own m) modes window picks (Some (begun (owners_of variable starts) entry)) ≡ Some r →
    AllDidFirst (with_own m) modes entry r.committed (owners_of variable starts) (all_hidden (λ a. variable == a) traces) r.pending

abbrev pub LoopDoPrefixesWhere : (P O V : Type 0) → (Sound : P → Type 0) → Type 0
LoopDoPrefixesWhere P O V Sound = (m : Machine P O V) → IsMachine m Sound → LoopDoPrefixesOf m Sound

-- the laws, for each test of which processes are sound
abbrev pub LoopDoPrefixes : (P O V : Type 0) → Type 0
LoopDoPrefixes P O V = (sound : P → Bool) → LoopDoPrefixesWhere P O V (λ p. IsTrue (sound p))

abbrev pub DoPrefixes : (P O V : Type 0) → Type 0
DoPrefixes P O V = (sound : P → Bool) → DoPrefixesWhere P O V (λ p. IsTrue (sound p))
