-- Modes of cells, and which traces they fit.
use Rattle.std.specs.Prelude.{ℕ, ◌≡◌, Bool, true, false, List, [], ◌∷◌, Some}
use Rattle.interleaving.specs.Traces.{Access, Read, Write, Move, is_exposed, is_written}

-- how iterations use a cell: they share it; each writes a private copy of its own; or each accumulates a partial of its own by one operator
pub data Mode (O : Type 0) : Type 0 where
  Shared : Mode O
  Private : Mode O
  Reduce : (op : O) → Mode O

-- a flow pair: the earlier iteration writes the cell, and the later one reads it before any write of its own
abbrev pub FlowPair : {O : Type 0} → (early late : List (Access O)) → ℕ → Type 0
FlowPair early late a = (is_written early a ≡ true) × (is_exposed late a ≡ true)

-- an anti pair: the earlier iteration reads the cell before any write of its own, and the later one writes it
abbrev pub AntiPair : {O : Type 0} → (early late : List (Access O)) → ℕ → Type 0
AntiPair early late a = (is_exposed early a ≡ true) × (is_written late a ≡ true)

-- an output pair: both iterations write the cell
abbrev pub OutputPair : {O : Type 0} → (early late : List (Access O)) → ℕ → Type 0
OutputPair early late a = (is_written early a ≡ true) × (is_written late a ≡ true)

-- whether a mode forbids flow pairs: all but reductions do
abbrev pub forbids_flow : {O : Type 0} → Mode O → Bool
forbids_flow (Reduce op) = false
forbids_flow _ = true

-- an earlier and a later iteration that don't conflict: no flow pair at a shared or a private cell, no anti pair and no output pair at a
-- shared one
pub record Compatible {O : Type 0} (modes : ℕ → Mode O) (early late : List (Access O)) : Type 0 where
  pub no_flow : (a : ℕ) → forbids_flow (modes a) ≡ true → FlowPair early late a → ⊥
  pub no_anti : (a : ℕ) → modes a ≡ Shared → AntiPair early late a → ⊥
  pub no_output : (a : ℕ) → modes a ≡ Shared → OutputPair early late a → ⊥

-- an iteration that conflicts with none of the later ones
abbrev pub CompatibleWithAll : {O : Type 0} → (modes : ℕ → Mode O) → List (Access O) → List (List (Access O)) → Type 0
CompatibleWithAll modes early [] = Unit {0}
CompatibleWithAll modes early (late ∷ traces) = Compatible modes early late × CompatibleWithAll modes early traces

-- each access to a cell that is reduced is an accumulation by its operator
abbrev pub OnlyAccumulates : {O : Type 0} → (modes : ℕ → Mode O) → List (Access O) → Type 0
OnlyAccumulates modes [] = Unit {0}
OnlyAccumulates {O} modes (Read a by ∷ trace) = ((op : O) → modes a ≡ Reduce op → by ≡ Some op) × OnlyAccumulates modes trace
OnlyAccumulates {O} modes (Write a by ∷ trace) = ((op : O) → modes a ≡ Reduce op → by ≡ Some op) × OnlyAccumulates modes trace
OnlyAccumulates modes (Move ∷ trace) = OnlyAccumulates modes trace

-- modes fit iterations with these traces, in their order
abbrev pub Fits : {O : Type 0} → (modes : ℕ → Mode O) → List (List (Access O)) → Type 0
Fits modes [] = Unit {0}
Fits modes (trace ∷ traces) = OnlyAccumulates modes trace × CompatibleWithAll modes trace traces × Fits modes traces
