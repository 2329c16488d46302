-- Pairs of iterations that conflict at an address. Iteration j exposes a read of an address where its first access to it is a read.
use Rattle.std.specs.Prelude.{ℕ, ◌≡◌, ◌<◌, ◌≤◌, Bool, true, List}
use Rattle.interleaving.specs.Modes.{FlowPair, AntiPair, OutputPair}
use Rattle.dependence.specs.Executions.{Trace, trace_of, is_touched}

-- a flow pair: iteration k writes the address, and a later one, j, exposes a read of it
pub record IsFlowPair (traces : List Trace) (a k j : ℕ) : Type 0 where
  pub earlier : k < j
  pub pair : FlowPair (trace_of traces k) (trace_of traces j) a

-- an anti pair: k exposes a read of the address, and j writes it
pub record IsAntiPair (traces : List Trace) (a k j : ℕ) : Type 0 where
  pub earlier : k < j
  pub pair : AntiPair (trace_of traces k) (trace_of traces j) a

-- an output pair: both write it
pub record IsOutputPair (traces : List Trace) (a k j : ℕ) : Type 0 where
  pub earlier : k < j
  pub pair : OutputPair (trace_of traces k) (trace_of traces j) a

-- a conflict: any of the three
pub data IsConflict (traces : List Trace) (a k j : ℕ) : Type 0 where
  flow : IsFlowPair traces a k j → IsConflict traces a k j
  anti : IsAntiPair traces a k j → IsConflict traces a k j
  output : IsOutputPair traces a k j → IsConflict traces a k j

-- an address without conflicts, and one without flow pairs
abbrev pub HasNoConflict : List Trace → ℕ → Type 0
HasNoConflict traces a = (k j : ℕ) → IsConflict traces a k j → ⊥

abbrev pub HasNoFlow : List Trace → ℕ → Type 0
HasNoFlow traces a = (k j : ℕ) → IsFlowPair traces a k j → ⊥

-- an address that one iteration at most accesses
abbrev pub IsOfOne : List Trace → ℕ → Type 0
IsOfOne traces a = (i : ℕ) × ((k : ℕ) → is_touched (trace_of traces k) a ≡ true → k ≡ i)

-- the least number that passes a test, and the greatest
pub record IsFirst (test : ℕ → Bool) (n : ℕ) : Type 0 where
  pub passes : test n ≡ true
  pub least : (k : ℕ) → test k ≡ true → n ≤ k

pub record IsLast (test : ℕ → Bool) (n : ℕ) : Type 0 where
  pub passes : test n ≡ true
  pub greatest : (k : ℕ) → test k ≡ true → k ≤ n
