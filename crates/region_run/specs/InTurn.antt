-- Picks in a region of iterations that could run in turn.
use Rattle.std.specs.Prelude.{ℕ, ℤ, ◌+◌, ◌≡◌, Bool, IsTrue, List, length, Option, None}
use Rattle.hyb_base.specs.declared.ops.RedOp.{RedOp}
use Rattle.interleaving.specs.Loops.{LoopHasLeft}
use Rattle.interleaving.specs.Machine.{Machine, IsMachine, AreReady, Store}
use Rattle.interleaving.specs.Modes.{Mode, Fits}
use Rattle.interleaving.specs.OwnCells.{Owner, Start, processes_of, owners_of, LoopInTurn}
use Rattle.interleaving.specs.Region.{Region, begun}
use Rattle.interleaving.specs.Traces.{Access, steps_of_all}
use Rattle.region_run.specs.declared.running.Advanced.{Advanced}

-- each pick had a step, and the region has `left` steps to go: where that is 0 it is over, with the store `end` but for the loop's variable
pub record CameInTurn {F M : Type 0} (answer : Option (Advanced F)) (region : Region (Owner M ℤ) ℤ) (variable : ℕ) (entry end : Store ℤ) (left : ℕ) : Type 0 where
  pub all_ran : answer ≡ None
  pub has_left : LoopHasLeft region variable entry end left

-- picks lead from a region to another as if the iterations had run in turn: where the first region is that of iterations before their first
-- steps, which run in turn without a fault, and the modes fit their traces, no more picks than they have steps each have one, and as many
-- picks bring the region to its end, with the store that the iterations leave in turn
abbrev pub AsInTurn : {F M : Type 0} → Machine M RedOp ℤ → (modes : ℕ → Mode RedOp) → (variable : ℕ) → (picks : List ℕ) → (was : Region (Owner M ℤ) ℤ) → Option (Advanced F) → (is : Region (Owner M ℤ) ℤ) → Type 0
AsInTurn {F} {M} m modes variable picks was answer is =
    (sound : M → Bool) → IsMachine m (λ p. IsTrue (sound p)) →
    (starts : List (Start M ℤ)) (entry end : Store ℤ) (traces : List (List (Access RedOp))) → was ≡ begun (owners_of variable starts) entry → AreReady m (λ p. IsTrue (sound p)) (processes_of starts) → LoopInTurn m variable starts entry traces end → Fits modes traces →
    (left : ℕ) → length picks + left ≡ steps_of_all traces →
    CameInTurn answer is variable entry end left
