-- Regions of the small machine: whatever is picked, where modes fit, they leave one store.
use Rattle.std.proofs.Common.{ℕ, zero, suc, ◌≡◌, List, [], ◌∷◌, length, Option, None, Some, refl}
use Rattle.std.specs.Option.{option_map}
use Rattle.interleaving.specs.Machine.{Store}
use Rattle.interleaving.specs.Modes.{Mode, Shared, Private, Reduce}
use Rattle.interleaving.specs.Region.{Region, begun, advanced_all}
use Rattle.interleaving.proofs.SmallMachine.{Operator, plus, both, set, copy, accumulate, skip, fail, Worker, worker, small}

-- cell 0 is reduced by `plus`, cell 1 is private, cell 4 is reduced by `both`, and all others are shared
abbrev pub modes : ℕ → Mode Operator
modes zero = Reduce plus
modes (suc zero) = Private
modes (suc (suc (suc (suc zero)))) = Reduce both
modes _ = Shared

-- at the entry each cell holds 100
abbrev pub entry : Store ℕ
entry a = 100

-- what cells 0 to 3 hold in the end
abbrev pub shown : {P : Type 0} → Option (Region P ℕ) → Option (List ℕ)
shown r = option_map (λ r. r.store 0 ∷ r.store 1 ∷ r.store 2 ∷ r.store 3 ∷ []) r

-- the region that picks leave
abbrev pub after_picks : (window : ℕ) → List Worker → List ℕ → Option (Region Worker ℕ)
after_picks window workers picks = advanced_all small modes window picks (Some (begun workers entry))

-- each of two iterations adds to cell 0 and hands a value on through cell 1: in turn they leave 112, 8, 7 and 8
abbrev pub first : Worker
first = worker (accumulate plus 0 5 ∷ set 1 7 ∷ copy 1 2 ∷ [])

abbrev pub second : Worker
second = worker (set 1 8 ∷ copy 1 3 ∷ accumulate plus 0 6 ∷ accumulate plus 0 1 ∷ [])

in_turn : shown (after_picks 1 (first ∷ second ∷ []) (0 ∷ 0 ∷ 0 ∷ 0 ∷ 0 ∷ 0 ∷ 0 ∷ 0 ∷ 0 ∷ 0 ∷ 0 ∷ 0 ∷ 0 ∷ 0 ∷ [])) ≡ Some (112 ∷ 8 ∷ 7 ∷ 8 ∷ [])
in_turn = refl

by_turns : shown (after_picks 2 (first ∷ second ∷ []) (0 ∷ 1 ∷ 0 ∷ 1 ∷ 1 ∷ 0 ∷ 1 ∷ 1 ∷ 0 ∷ 1 ∷ 0 ∷ 1 ∷ 0 ∷ 0 ∷ [])) ≡ Some (112 ∷ 8 ∷ 7 ∷ 8 ∷ [])
by_turns = refl

-- the second iteration is finished first, and waits for the first one
second_first : shown (after_picks 2 (first ∷ second ∷ []) (1 ∷ 1 ∷ 1 ∷ 1 ∷ 1 ∷ 1 ∷ 1 ∷ 1 ∷ 0 ∷ 0 ∷ 0 ∷ 0 ∷ 0 ∷ 0 ∷ [])) ≡ Some (112 ∷ 8 ∷ 7 ∷ 8 ∷ [])
second_first = refl

abbrev pub finished_of : {P : Type 0} → Option (Region P ℕ) → Option (ℕ × ℕ × ℕ × ℕ)
finished_of r = option_map (λ r. (r.committed, length r.pending, r.store 1, r.store 3)) r

-- after its eight steps nothing is committed: its copy isn't in the store, its write of a shared cell is
second_waits : finished_of (after_picks 2 (first ∷ second ∷ []) (1 ∷ 1 ∷ 1 ∷ 1 ∷ 1 ∷ 1 ∷ 1 ∷ 1 ∷ [])) ≡ Some (0, 2, 100, 8)
second_waits = refl

-- a pick one step short of the end leaves the first iteration alone unfinished
one_step_short : finished_of (after_picks 2 (first ∷ second ∷ []) (1 ∷ 1 ∷ 1 ∷ 1 ∷ 1 ∷ 1 ∷ 1 ∷ 1 ∷ 0 ∷ 0 ∷ 0 ∷ 0 ∷ 0 ∷ [])) ≡ Some (0, 2, 100, 8)
one_step_short = refl

at_the_end : finished_of (after_picks 2 (first ∷ second ∷ []) (1 ∷ 1 ∷ 1 ∷ 1 ∷ 1 ∷ 1 ∷ 1 ∷ 1 ∷ 0 ∷ 0 ∷ 0 ∷ 0 ∷ 0 ∷ 0 ∷ [])) ≡ Some (2, 0, 8, 8)
at_the_end = refl

-- with a window of one place the iterations run in turn, whatever is picked
window_of_one : shown (after_picks 1 (worker (copy 2 3 ∷ []) ∷ worker (set 2 9 ∷ []) ∷ []) (3 ∷ 7 ∷ 1 ∷ 4 ∷ 2 ∷ [])) ≡ Some (100 ∷ 100 ∷ 9 ∷ 100 ∷ [])
window_of_one = refl

-- cells that an iteration doesn't touch keep their values, private and reduced ones too
untouched : shown (after_picks 2 (worker (skip ∷ []) ∷ worker (set 2 1 ∷ []) ∷ []) (1 ∷ 0 ∷ 1 ∷ 0 ∷ [])) ≡ Some (100 ∷ 100 ∷ 1 ∷ 100 ∷ [])
untouched = refl

-- a step that faults leaves no region
a_fault : after_picks 2 (worker (skip ∷ fail ∷ []) ∷ worker (set 2 1 ∷ []) ∷ []) (1 ∷ 0 ∷ 0 ∷ []) ≡ None
a_fault = refl

-- an operator on truth over a cell that holds 5: it holds 1 where an iteration accumulates in it, and 5 where none does
on_truth : option_map (λ r. r.store 4) (advanced_all small modes 2 (1 ∷ 0 ∷ 1 ∷ 0 ∷ 1 ∷ 0 ∷ []) (Some (begun (worker (accumulate both 4 1 ∷ []) ∷ worker (accumulate both 4 7 ∷ []) ∷ []) (λ a. 5)))) ≡ Some 1
on_truth = refl

truth_untouched : option_map (λ r. r.store 4) (advanced_all small modes 2 (1 ∷ 0 ∷ 1 ∷ 0 ∷ []) (Some (begun (worker (skip ∷ []) ∷ worker (skip ∷ []) ∷ []) (λ a. 5)))) ≡ Some 5
truth_untouched = refl
