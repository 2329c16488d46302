-- A run as far as it has come: an invariant for code that steps a process and keeps its trace.
use Rattle.std.specs.Prelude.{ℕ, ◌≡◌, List, [], ◌∷◌, ◌++◌, Option}
use Rattle.interleaving.specs.Machine.{reads, writes, moves, ends, Machine, Store, put}
use Rattle.interleaving.specs.OwnCells.{Start, LoopInTurn}
use Rattle.interleaving.specs.Traces.{Access, Read, Write, Move, Stop, AtEnd, Runs}

-- a run has come from a process and a store to others, with this trace: whatever goes on from there goes on from the beginning
pub record Passed {P O V : Type 0} (m : Machine P O V) (p : P) (s : Store V) (trace : List (Access O)) (q : P) (t : Store V) : Type 0 where
  pub goes_on : (rest : List (Access O)) (stop : Stop) (u : Store V) → Runs m q t rest stop u → Runs m p s (trace ++ rest) stop u

-- iterations of a loop have run in turn to a store, with these traces, and these are left: whatever runs those in turn runs all in turn
pub record TurnsPassed {P O V : Type 0} (m : Machine P O V) (variable : ℕ) (starts : List (Start P V)) (s : Store V) (traces : List (List (Access O))) (left : List (Start P V)) (t : Store V) : Type 0 where
  pub goes_on : (others : List (List (Access O))) (u : Store V) → LoopInTurn m variable left t others u → LoopInTurn m variable starts s (traces ++ others) u

-- passing: it holds before the first step, with each step more, and with each iteration more; and at the end it gives the run
pub record Passes (P O V : Type 0) : Type 0 where
  pub begins : (m : Machine P O V) (p : P) (s : Store V) → Passed m p s [] p s
  pub reads_on : (m : Machine P O V) (p q : P) (s t : Store V) (trace : List (Access O)) (a : ℕ) (by : Option O) → Passed m p s trace q t → m.event q ≡ reads a by → Passed m p s (trace ++ Read a by ∷ []) (m.resumed q (t a)) t
  pub writes_on : (m : Machine P O V) (p q : P) (s t : Store V) (trace : List (Access O)) (a : ℕ) (v : V) (by : Option O) → Passed m p s trace q t → m.event q ≡ writes a v by → Passed m p s (trace ++ Write a by ∷ []) (m.done q) (put t a v)
  pub moves_on : (m : Machine P O V) (p q : P) (s t : Store V) (trace : List (Access O)) → Passed m p s trace q t → m.event q ≡ moves → Passed m p s (trace ++ Move ∷ []) (m.done q) t
  pub ends_so : (m : Machine P O V) (p q : P) (s t : Store V) (trace : List (Access O)) → Passed m p s trace q t → m.event q ≡ ends → Runs m p s trace AtEnd t
  pub begins_turns : (m : Machine P O V) (variable : ℕ) (starts : List (Start P V)) (s : Store V) → TurnsPassed m variable starts s [] starts s
  pub turns_on : (m : Machine P O V) (variable : ℕ) (starts left : List (Start P V)) (start : Start P V) (s t u : Store V) (traces : List (List (Access O))) (trace : List (Access O)) (q : P) →
      TurnsPassed m variable starts s traces (start ∷ left) t → Passed m start.process (put t variable start.value) trace q u → m.event q ≡ ends → TurnsPassed m variable starts s (traces ++ trace ∷ []) left u
  pub ends_turns : (m : Machine P O V) (variable : ℕ) (starts : List (Start P V)) (s t : Store V) (traces : List (List (Access O))) → TurnsPassed m variable starts s traces [] t → LoopInTurn m variable starts s traces t
