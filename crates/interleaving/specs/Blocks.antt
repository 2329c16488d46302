-- Blocks of iterations: a machine whose process is an iteration and those after it in its block.
use Rattle.std.specs.Prelude.{ℕ, zero, suc, List, [], ◌∷◌, ◌++◌, length, take, drop}
use Rattle.interleaving.specs.Machine.{Event, reads, writes, moves, ends, faults, Machine}
use Rattle.interleaving.specs.OwnCells.{Start, Owner, owner_of, owners_of}
use Rattle.interleaving.specs.Traces.{Access, Move}

-- a block: an item, and those after it in its block
pub record Block (A : Type 0) : Type 0 where
  pub first : A
  pub later : List A

-- the items of a block, and of some blocks, in their order
abbrev pub items_of : {A : Type 0} → Block A → List A
items_of block = block.first ∷ block.later

abbrev pub all_items_of : {A : Type 0} → List (Block A) → List A
all_items_of [] = []
all_items_of (block ∷ blocks) = items_of block ++ all_items_of blocks

-- the event of a block, by that of its iteration: the end of one that isn't the last of its block is a move
abbrev pub event_in_block : {P O V : Type 0} → Event O V → (later : List P) → Event O V
event_in_block (reads a by) later = reads a by
event_in_block (writes a v by) later = writes a v by
event_in_block moves later = moves
event_in_block ends [] = ends
event_in_block ends (next ∷ later) = moves
event_in_block faults later = faults

-- a block at its next iteration
abbrev pub next_block : {P : Type 0} → Block P → (later : List P) → Block P
next_block block [] = block
next_block block (next ∷ later) = record { first = next; later = later }

-- a block after a write or a move, by the event of its iteration: where that came to its end the next one begins
abbrev pub block_done : {P O V : Type 0} → Machine P O V → Block P → Event O V → Block P
block_done m block (reads a by) = record block { first = m.done block.first }
block_done m block (writes a v by) = record block { first = m.done block.first }
block_done m block moves = record block { first = m.done block.first }
block_done m block ends = next_block block block.later
block_done m block faults = record block { first = m.done block.first }

-- the machine of blocks
abbrev pub in_blocks : {P O V : Type 0} → Machine P O V → Machine (Block P) O V
in_blocks m = record {
  event = λ block. event_in_block (m.event block.first) block.later;
  resumed = λ block x. record block { first = m.resumed block.first x };
  done = λ block. block_done m block (m.event block.first);
  apply = m.apply;
  identity = m.identity;
}

-- the trace of a block whose iterations have these traces: a move ends each of them but the last
abbrev pub traces_joined : {O : Type 0} → List (Access O) → (later : List (List (Access O))) → List (Access O)
traces_joined trace [] = trace
traces_joined trace (next ∷ later) = trace ++ Move ∷ traces_joined next later

abbrev pub block_trace : {O : Type 0} → Block (List (Access O)) → List (Access O)
block_trace block = traces_joined block.first block.later

abbrev pub block_traces : {O : Type 0} → List (Block (List (Access O))) → List (List (Access O))
block_traces [] = []
block_traces (block ∷ blocks) = block_trace block ∷ block_traces blocks

-- a list in blocks of a first item and `more` others, the last one of fewer perhaps; `limit` of them at most
abbrev pub chunked_within : {A : Type 0} → (limit more : ℕ) → List A → List (Block A)
chunked_within zero more items = []
chunked_within (suc limit) more [] = []
chunked_within (suc limit) more (item ∷ items) = record { first = item; later = take more items } ∷ chunked_within limit more (drop more items)

abbrev pub chunked : {A : Type 0} → (more : ℕ) → List A → List (Block A)
chunked more items = chunked_within (length items) more items

-- blocks of a loop's iterations, each of which has the loop's variable as a cell of its own
abbrev pub owner_blocks : {P V : Type 0} → (variable : ℕ) → List (Block (Start P V)) → List (Block (Owner P V))
owner_blocks variable [] = []
owner_blocks variable (block ∷ blocks) = record { first = owner_of variable block.first; later = owners_of variable block.later } ∷ owner_blocks variable blocks
