-- A loop inside a longer run: its control writes the loop's variable at the end of each iteration, and begins the next one.
use Rattle.std.specs.Prelude.{ℕ, zero, suc, ◌+◌, ◌<◌, ◌≡◌, ◌⊎◌, nat_lt, if◌then◌else◌, Bool, IsTrue, List, [], ◌∷◌, ◌++◌, length, None}
use Rattle.interleaving.specs.Machine.{Event, reads, writes, moves, ends, faults, Machine, Store, put}
use Rattle.interleaving.specs.OwnCells.{Start, LoopInTurn}
use Rattle.interleaving.specs.Traces.{Access, Write, Stop, AtEnd, AtFault, Cut, Runs, steps_of_all}

-- a machine with other events
abbrev pub with_events : {P O V : Type 0} → Machine P O V → (P → Event O V) → Machine P O V
with_events m inner = record { event = inner; resumed = m.resumed; done = m.done; apply = m.apply; identity = m.identity }

-- an event of a run as the iteration knows it that goes on: the end of the whole run is a fault to it
abbrev pub event_inside : {O V : Type 0} → Event O V → Event O V
event_inside (reads a by) = reads a by
event_inside (writes a v by) = writes a v by
event_inside moves = moves
event_inside ends = faults
event_inside faults = faults

-- a process that ends an iteration: the run writes this value to the loop's variable, and goes on as that process
pub record EndsIteration {P O V : Type 0} (m : Machine P O V) (inner : P → Event O V) (variable : ℕ) (value : V) (next p : P) : Type 0 where
  pub ends_it : inner p ≡ ends
  pub writes_it : m.event p ≡ writes variable value None
  pub then_is : m.done p ≡ next

-- a process that goes on in an iteration: the process after its step is inside the iteration too
pub record StaysInside {P O V : Type 0} (m : Machine P O V) (inner : P → Event O V) (Inside : P → Type 0) (p : P) : Type 0 where
  pub same : inner p ≡ event_inside (m.event p)
  pub reading : (a : ℕ) (by : _) → m.event p ≡ reads a by → (x : V) → Inside (m.resumed p x)
  pub writing : (a : ℕ) (v : V) (by : _) → m.event p ≡ writes a v by → Inside (m.done p)
  pub moving : m.event p ≡ moves → Inside (m.done p)

-- the process after j iterations of `count`: it begins the next one, or is the one that follows the loop
abbrev pub process_after : {P : Type 0} → (count : ℕ) → (entry : ℕ → P) → (following : P) → ℕ → P
process_after count entry following j = if nat_lt j count then entry j else following

-- a loop of `count` iterations: which processes are inside each of them, and with which process and which value of the variable each begins
pub record IsLoop {P O V : Type 0} (m : Machine P O V) (inner : P → Event O V) (variable count : ℕ) (value : ℕ → V) (entry : ℕ → P) (following : P) (Inside : ℕ → P → Type 0) : Type 0 where
  pub enters : (j : ℕ) → j < count → Inside j (entry j)
  pub steps : (j : ℕ) (p : P) → j < count → Inside j p → EndsIteration m inner variable (value (suc j)) (process_after count entry following (suc j)) p ⊎ StaysInside m inner (Inside j) p

-- `left` of its iterations, from the one after j others on
abbrev pub starts_from : {P V : Type 0} → (value : ℕ → V) → (entry : ℕ → P) → (j left : ℕ) → List (Start P V)
starts_from value entry j zero = []
starts_from value entry j (suc left) = record { process = entry j; value = value j } ∷ starts_from value entry (suc j) left

-- the trace of a run through iterations with these traces, and on: the write of the loop's control follows each
abbrev pub loop_trace : {O : Type 0} → (variable : ℕ) → List (List (Access O)) → (rest : List (Access O)) → List (Access O)
loop_trace variable [] rest = rest
loop_trace variable (trace ∷ traces) rest = trace ++ Write variable None ∷ loop_trace variable traces rest

-- how a run that stops inside an iteration stops there
abbrev pub stop_inside : Stop → Stop
stop_inside AtEnd = AtFault
stop_inside AtFault = AtFault
stop_inside Cut = Cut

module _ {P O V : Type 0} (m : Machine P O V) (inner : P → Event O V) (variable : ℕ) (count : ℕ) (value : ℕ → V) (entry : ℕ → P) (following : P) where
  -- a run takes `left` iterations in turn, after j others, and goes on after the last of them
  pub record GoesThrough (j left : ℕ) (first : Store V) (trace : List (Access O)) (stop : Stop) (t : Store V) : Type 0 where
    pub traces : List (List (Access O))
    pub rest : List (Access O)
    pub end : Store V
    pub told : trace ≡ loop_trace variable traces rest
    pub in_turn : LoopInTurn (with_events m inner) variable (starts_from value entry j left) first traces end
    pub goes_on : Runs m (process_after count entry following (j + left)) (put end variable (value (j + left))) rest stop t

  -- a run stops inside an iteration, after `turns` others in turn
  pub record StopsInside (j left : ℕ) (first : Store V) (trace : List (Access O)) (stop : Stop) (t : Store V) : Type 0 where
    pub turns : ℕ
    pub fewer : turns < left
    pub traces : List (List (Access O))
    pub rest : List (Access O)
    pub before : Store V
    pub told : trace ≡ loop_trace variable traces rest
    pub in_turn : LoopInTurn (with_events m inner) variable (starts_from value entry j turns) first traces before
    pub runs : Runs (with_events m inner) (entry (j + turns)) (put before variable (value (j + turns))) rest (stop_inside stop) t

-- turning: a run from the beginning of an iteration goes through it and those after it, or stops inside one
abbrev pub TurnsWhere : (P O V : Type 0) → (Inside : ℕ → P → Type 0) → Type 0
TurnsWhere P O V Inside =
    (m : Machine P O V) (inner : P → Event O V) (variable count : ℕ) (value : ℕ → V) (entry : ℕ → P) (following : P) → IsLoop m inner variable count value entry following Inside →
    (j left : ℕ) → j + left ≡ count → (first t : Store V) (trace : List (Access O)) (stop : Stop) → Runs m (process_after count entry following j) (put first variable (value j)) trace stop t →
    GoesThrough m inner variable count value entry following j left first trace stop t ⊎ StopsInside m inner variable count value entry following j left first trace stop t

-- composing: iterations in turn, and a run after them, are a run from their beginning
abbrev pub ComposesWhere : (P O V : Type 0) → (Inside : ℕ → P → Type 0) → Type 0
ComposesWhere P O V Inside =
    (m : Machine P O V) (inner : P → Event O V) (variable count : ℕ) (value : ℕ → V) (entry : ℕ → P) (following : P) → IsLoop m inner variable count value entry following Inside →
    (j left : ℕ) → j + left ≡ count → (first end t : Store V) (traces : List (List (Access O))) (rest : List (Access O)) (stop : Stop) →
    LoopInTurn (with_events m inner) variable (starts_from value entry j left) first traces end → Runs m (process_after count entry following (j + left)) (put end variable (value (j + left))) rest stop t →
    Runs m (process_after count entry following j) (put first variable (value j)) (loop_trace variable traces rest) stop t

-- the laws, for each test of which processes are inside
abbrev pub RunsTurn : (P O V : Type 0) → Type 0
RunsTurn P O V = (test : ℕ → P → Bool) → TurnsWhere P O V (λ j p. IsTrue (test j p))

abbrev pub TurnsCompose : (P O V : Type 0) → Type 0
TurnsCompose P O V = (test : ℕ → P → Bool) → ComposesWhere P O V (λ j p. IsTrue (test j p))

-- one run: a process over a store has one run that comes to its end, and any other is cut in it; so iterations run in turn in one way, and a run
-- that stops inside one of them is cut there and is shorter than all of them
pub record HasOneRun (P O V : Type 0) : Type 0 where
  pub to_end : (m : Machine P O V) (p : P) (s t u : Store V) (whole trace : List (Access O)) (stop : Stop) → Runs m p s whole AtEnd t → Runs m p s trace stop u → ((trace ≡ whole) × (stop ≡ AtEnd) × (u ≡ t)) ⊎ ((stop ≡ Cut) × (length trace < suc (length whole)))
  pub in_turn : (m : Machine P O V) (variable : ℕ) (starts : List (Start P V)) (s t u : Store V) (traces others : List (List (Access O))) → LoopInTurn m variable starts s traces t → LoopInTurn m variable starts s others u → (traces ≡ others) × (t ≡ u)
  pub shorter : (m : Machine P O V) (variable : ℕ) (value : ℕ → V) (entry : ℕ → P) (turns left j : ℕ) (s end before t : Store V) (traces others : List (List (Access O))) (trace : List (Access O)) (stop : Stop) → turns < left →
      LoopInTurn m variable (starts_from value entry j left) s traces end → LoopInTurn m variable (starts_from value entry j turns) s others before → Runs m (entry (j + turns)) (put before variable (value (j + turns))) trace stop t → (stop ≡ AtEnd → ⊥) →
      (stop ≡ Cut) × (steps_of_all others + length trace < steps_of_all traces)
