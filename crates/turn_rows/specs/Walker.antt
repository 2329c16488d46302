-- What a small process does.
use Rattle.std.specs.Prelude.{ℕ, ℤ, pos, ◌+◌, ◌%◌, ◌^◌, ◌≤◌, length, vec_capacity, nat_lt, if◌then◌else◌, Option, None, Some, slice_get, slice_index_or}
use Rattle.hyb_base.specs.Reduction.{apply}
use Rattle.hyb_base.specs.declared.ops.RedOp.{RedOp}
use Rattle.interleaving.specs.Machine.{Event, reads, writes, moves, ends, faults}
use Rattle.interleaving.specs.OwnCells.{Start}
use Rattle.turn_rows.specs.declared.script.Op.{Op}
use Rattle.turn_rows.specs.declared.script.Op.TheVariants.{Set, Copy, Accumulate, Move, Fault, End}
use Rattle.turn_rows.specs.declared.script.Script.{Script}
use Rattle.turn_rows.specs.declared.walker.Stuck.{Stuck}
use Rattle.turn_rows.specs.declared.walker.Walker.{Walker}

-- a place in a script: the index of an operation, and the answer to its read once there is one
pub record Place : Type 0 where
  pub at : ℕ
  pub answer : Option ℤ

-- the place of a process
abbrev pub place_of : Walker → Place
place_of walker = record { at = walker.at; answer = slice_get walker.answers.items 0 }

-- the next event of an operation, by the answer to its read
abbrev pub event_of : Option Op → (answer : Option ℤ) → Event RedOp ℤ
event_of None answer = ends
event_of (Some (Set to value)) answer = writes to value None
event_of (Some (Copy from to)) None = reads from None
event_of (Some (Copy from to)) (Some x) = writes to x None
event_of (Some (Accumulate by to value)) None = reads to (Some by)
event_of (Some (Accumulate by to value)) (Some x) = writes to (apply by x value) (Some by)
event_of (Some Move) answer = moves
event_of (Some Fault) answer = faults
event_of (Some End) answer = ends

-- the next event at a place: after the last operation the iteration ends
abbrev pub event_in : Script → Place → Event RedOp ℤ
event_in script p = event_of (slice_get script.ops.items p.at) p.answer

-- the place after a read that got this answer
abbrev pub answered : Script → Place → ℤ → Place
answered script p x = record { at = p.at; answer = Some x }

-- the place after a write or a move
abbrev pub next_op : Script → Place → Place
next_op script p = record { at = if nat_lt p.at (length script.ops.items) then p.at + 1 else p.at; answer = None }

-- the place after all operations
abbrev pub place_after : Script → Place
place_after script = record { at = length script.ops.items; answer = None }

-- the iteration of a number, counted from 0: its variable is 1 in the first one
abbrev pub start_in : Script → ℕ → Start Place ℤ
start_in script number = record { process = record { at = slice_index_or script.starts.items number (length script.ops.items); answer = None }; value = pos (number % 2 ^ 32 + 1) }

-- the one fault
abbrev pub stuck : Stuck
stuck = record {}

-- a process has room for an answer
abbrev pub HasRoom : Walker → Type 0
HasRoom walker = 1 ≤ vec_capacity walker.answers
