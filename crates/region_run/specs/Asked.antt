-- What a process does next, as it says it.
use Rattle.std.specs.Prelude.{ℕ, ℤ, ◌<◌, Bool, true, false}
use Rattle.hyb_base.specs.declared.ops.RedOp.{RedOp}
use Rattle.interleaving.specs.Machine.{Event, reads, writes, moves, ends, faults}
use Rattle.region_run.specs.declared.asks.Asked.{Asked}
use Rattle.region_run.specs.declared.asks.Asked.TheVariants.{Reads, Writes, Moves, Ends, Faults}

-- an event, as a process tells it; where it is a fault, this one
abbrev pub asked_of : {F : Type 0} → (fault : F) → Event RedOp ℤ → Asked F
asked_of fault (reads address by) = Reads address by
asked_of fault (writes address value by) = Writes address value by
asked_of fault moves = Moves
asked_of fault ends = Ends
asked_of fault faults = Faults fault

-- its address, if it has one, is that of a cell of storage with `total` cells
abbrev pub IsWithin : {F : Type 0} → (total : ℕ) → Asked F → Type 0
IsWithin total (Reads address by) = address < total
IsWithin total (Writes address value by) = address < total
IsWithin total Moves = Unit {0}
IsWithin total Ends = Unit {0}
IsWithin total (Faults fault) = Unit {0}

-- an event after which a process needs an answer
abbrev pub IsRead : Event RedOp ℤ → Type 0
IsRead (reads address by) = Unit {0}
IsRead (writes address value by) = ⊥
IsRead moves = ⊥
IsRead ends = ⊥
IsRead faults = ⊥

-- an event after which a process goes on by itself
abbrev pub IsDone : Event RedOp ℤ → Type 0
IsDone (reads address by) = ⊥
IsDone (writes address value by) = Unit {0}
IsDone moves = Unit {0}
IsDone ends = ⊥
IsDone faults = ⊥

-- whether a step ends its iteration
abbrev pub is_end : {F : Type 0} → Asked F → Bool
is_end (Reads address by) = false
is_end (Writes address value by) = false
is_end Moves = false
is_end Ends = true
is_end (Faults fault) = false

-- whether there is a fault in place of a step
abbrev pub is_fault : {F : Type 0} → Asked F → Bool
is_fault (Reads address by) = false
is_fault (Writes address value by) = false
is_fault Moves = false
is_fault Ends = false
is_fault (Faults fault) = true
