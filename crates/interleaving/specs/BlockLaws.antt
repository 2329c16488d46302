-- The laws on regions of blocks.
use Rattle.std.specs.Prelude.{Bool, IsTrue, ℕ, ◌+◌, ◌<◌, ◌≤◌, ◌≡◌, List, [], length, Some}
use Rattle.interleaving.specs.Blocks.{Block, all_items_of, block_traces, in_blocks, chunked, owner_blocks}
use Rattle.interleaving.specs.Interleaving.{HasLeft}
use Rattle.interleaving.specs.Loops.{LoopHasLeft}
use Rattle.interleaving.specs.Machine.{Machine, IsMachine, AreReady, Store, put}
use Rattle.interleaving.specs.Modes.{Mode, Fits}
use Rattle.interleaving.specs.OwnCells.{Start, Owner, with_own, processes_of, LoopInTurn, LoopAlone}
use Rattle.interleaving.specs.Region.{Region, begun, advanced_all}
use Rattle.interleaving.specs.Traces.{Access, Stop, InTurn, Alone, all_at_end, steps_of_all}

-- a block whose iteration is sound, and whose later ones are sound and ready
abbrev pub IsSoundBlock : {P O V : Type 0} → Machine P O V → (Sound : P → Type 0) → Block P → Type 0
IsSoundBlock m Sound block = Sound block.first × AreReady m Sound block.later

-- blocks: the machine of blocks is a machine where the other is one
abbrev pub BlocksWhere : (P O V : Type 0) → (Sound : P → Type 0) → Type 0
BlocksWhere P O V Sound = (m : Machine P O V) → IsMachine m Sound → IsMachine (in_blocks m) (IsSoundBlock m Sound)

-- modes that fit the traces of iterations fit those of their blocks; and the blocks of a list have its items, whatever their size
pub record AreBlocks (P O : Type 0) : Type 0 where
  pub fit_so : (modes : ℕ → Mode O) (blocks : List (Block (List (Access O)))) → Fits modes (all_items_of blocks) → Fits modes (block_traces blocks)
  pub steps_so : (blocks : List (Block (List (Access O)))) → steps_of_all (block_traces blocks) ≡ steps_of_all (all_items_of blocks)
  pub items_so : (more : ℕ) (items : List P) → all_items_of (chunked more items) ≡ items

-- interleaving, of blocks of iterations
abbrev pub BlocksInterleaveOf : {P O V : Type 0} → Machine P O V → (Sound : P → Type 0) → Type 0
BlocksInterleaveOf {P} {O} {V} m Sound =
    (modes : ℕ → Mode O) (window : ℕ) → 0 < window →
    (blocks : List (Block P)) (entry end : Store V) (traces : List (List (Access O))) → AreReady m Sound (all_items_of blocks) → InTurn m (all_items_of blocks) entry traces end → Fits modes traces →
    (picks : List ℕ) (left : ℕ) → length picks + left ≡ steps_of_all traces →
    (r : Region (Block P) V) × (advanced_all (in_blocks m) modes window picks (Some (begun blocks entry)) ≡ Some r) × HasLeft r end left

abbrev pub BlocksInterleaveWhere : (P O V : Type 0) → (Sound : P → Type 0) → Type 0
BlocksInterleaveWhere P O V Sound = (m : Machine P O V) → IsMachine m Sound → BlocksInterleaveOf m Sound

-- whole, of blocks of iterations
abbrev pub BlocksAreWholeOf : {P O V : Type 0} → Machine P O V → (Sound : P → Type 0) → Type 0
BlocksAreWholeOf {P} {O} {V} m Sound =
    (modes : ℕ → Mode O) (window : ℕ) → 0 < window →
    (limit : ℕ) (blocks : List (Block P)) (entry : Store V) (traces : List (List (Access O))) (stops : List Stop) → AreReady m Sound (all_items_of blocks) → Alone m limit (all_items_of blocks) entry traces stops → Fits modes traces →
    (picks : List ℕ) → length picks ≤ limit → (r : Region (Block P) V) → advanced_all (in_blocks m) modes window picks (Some (begun blocks entry)) ≡ Some r → r.pending ≡ [] →
    InTurn m (all_items_of blocks) entry traces r.store × (length picks ≡ steps_of_all traces) × (stops ≡ all_at_end traces)

abbrev pub BlocksAreWholeWhere : (P O V : Type 0) → (Sound : P → Type 0) → Type 0
BlocksAreWholeWhere P O V Sound = (m : Machine P O V) → IsMachine m Sound → BlocksAreWholeOf m Sound

-- interleaving, of blocks of a loop's iterations
abbrev pub LoopBlocksInterleaveOf : {P O V : Type 0} → Machine P O V → (Sound : P → Type 0) → Type 0
LoopBlocksInterleaveOf {P} {O} {V} m Sound =
    (modes : ℕ → Mode O) (variable window : ℕ) → 0 < window →
    (blocks : List (Block (Start P V))) (entry end : Store V) (traces : List (List (Access O))) → AreReady m Sound (processes_of (all_items_of blocks)) → LoopInTurn m variable (all_items_of blocks) entry traces end → Fits modes traces →
    (picks : List ℕ) (left : ℕ) → length picks + left ≡ steps_of_all traces →
    (r : Region (Block (Owner P V)) V) × (advanced_all (in_blocks (with_own m)) modes window picks (Some (begun (owner_blocks variable blocks) entry)) ≡ Some r) × LoopHasLeft r variable entry end left

abbrev pub LoopBlocksInterleaveWhere : (P O V : Type 0) → (Sound : P → Type 0) → Type 0
LoopBlocksInterleaveWhere P O V Sound = (m : Machine P O V) → IsMachine m Sound → LoopBlocksInterleaveOf m Sound

-- whole, of blocks of a loop's iterations
abbrev pub LoopBlocksAreWholeOf : {P O V : Type 0} → Machine P O V → (Sound : P → Type 0) → Type 0
LoopBlocksAreWholeOf {P} {O} {V} m Sound =
    (modes : ℕ → Mode O) (variable window : ℕ) → 0 < window →
    (limit : ℕ) (blocks : List (Block (Start P V))) (entry : Store V) (traces : List (List (Access O))) (stops : List Stop) → AreReady m Sound (processes_of (all_items_of blocks)) → LoopAlone m limit variable (all_items_of blocks) entry traces stops → Fits modes traces →
    (picks : List ℕ) → length picks ≤ limit → (r : Region (Block (Owner P V)) V) → advanced_all (in_blocks (with_own m)) modes window picks (Some (begun (owner_blocks variable blocks) entry)) ≡ Some r → r.pending ≡ [] →
    (end : Store V) × LoopInTurn m variable (all_items_of blocks) entry traces end × (length picks ≡ steps_of_all traces) × (stops ≡ all_at_end traces) × ((final : V) → put r.store variable final ≡ put end variable final)

abbrev pub LoopBlocksAreWholeWhere : (P O V : Type 0) → (Sound : P → Type 0) → Type 0
LoopBlocksAreWholeWhere P O V Sound = (m : Machine P O V) → IsMachine m Sound → LoopBlocksAreWholeOf m Sound

-- the laws, for each test of which processes are sound
abbrev pub Blocks : (P O V : Type 0) → Type 0
Blocks P O V = (sound : P → Bool) → BlocksWhere P O V (λ p. IsTrue (sound p))

abbrev pub BlocksInterleave : (P O V : Type 0) → Type 0
BlocksInterleave P O V = (sound : P → Bool) → BlocksInterleaveWhere P O V (λ p. IsTrue (sound p))

abbrev pub BlocksAreWhole : (P O V : Type 0) → Type 0
BlocksAreWhole P O V = (sound : P → Bool) → BlocksAreWholeWhere P O V (λ p. IsTrue (sound p))

abbrev pub LoopBlocksInterleave : (P O V : Type 0) → Type 0
LoopBlocksInterleave P O V = (sound : P → Bool) → LoopBlocksInterleaveWhere P O V (λ p. IsTrue (sound p))

abbrev pub LoopBlocksAreWhole : (P O V : Type 0) → Type 0
LoopBlocksAreWhole P O V = (sound : P → Bool) → LoopBlocksAreWholeWhere P O V (λ p. IsTrue (sound p))
