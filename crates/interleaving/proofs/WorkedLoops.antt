-- Loops worked by hand, as iterations of the small machine that have the loop's variable as their own.
use Rattle.std.proofs.Common.{ℕ, ◌+◌, ◌^◌, ◌≡◌, ◌==◌, List, [], ◌∷◌, length, Option, None, Some, if◌then◌else◌, refl}
use Rattle.std.specs.Prelude.{nat_lt}
use Rattle.std.specs.Option.{option_map}
use Rattle.interleaving.specs.ListStores.{store_of}
use Rattle.interleaving.specs.Machine.{Event, reads, writes, Store, put}
use Rattle.interleaving.specs.Modes.{Mode, Shared, Private, Reduce, OutputPair}
use Rattle.interleaving.specs.OwnCells.{Start, Owner, with_own, owners_of}
use Rattle.interleaving.specs.Picks.{Picked, picked}
use Rattle.interleaving.specs.Region.{Region, begun, advanced, advanced_all}
use Rattle.interleaving.specs.Solo.{solo}
use Rattle.interleaving.specs.Traces.{Access, Read, Write, Move}
use Rattle.interleaving.proofs.SmallMachine.{Operator, plus, both, Order, look, set, copy, accumulate, skip, Worker, worker, small}

-- an iteration, with its value of the loop's variable
abbrev iteration : (value : ℕ) → List Order → Start Worker ℕ
iteration value orders = record { process = worker orders; value = value }

-- its trace alone from an entry, where the loop's variable is the cell at an address
abbrev trace_of : (variable : ℕ) → Store ℕ → Start Worker ℕ → List (Access Operator)
trace_of variable entry start = (solo small 20 start.process (put entry variable start.value)).trace

-- the region that picks leave
abbrev after_picks : (modes : ℕ → Mode Operator) (variable window : ℕ) → List (Start Worker ℕ) → Store ℕ → List ℕ → Option (Region (Owner Worker ℕ) ℕ)
after_picks modes variable window starts entry picks = advanced_all (with_own small) modes window picks (Some (begun (owners_of variable starts) entry))

abbrev pub held : List ℕ → Store ℕ → List ℕ
held [] s = []
held (a ∷ cells) s = s a ∷ held cells s

-- how many iterations are committed and how many aren't, and what some cells hold
abbrev pub shown : List ℕ → Option (Region (Owner Worker ℕ) ℕ) → Option (ℕ × ℕ × List ℕ)
shown cells r = option_map (λ r. (r.committed, length r.pending, held cells r.store)) r

-- An array is assigned through an index array with the values 3, 1, 3 (`A(IDX(I)) = I`; A at 0 to 8, IDX at 9 to 11, I at 12). A is private.
-- With the pick 2 at each step iteration 3 is finished first, then 1, then 2; they are committed in the order 1, 2, 3, so cell 2 holds 3
abbrev indexed_modes : ℕ → Mode Operator
indexed_modes a = if nat_lt a 9 then Private else Shared

abbrev indexed_entry : Store ℕ
indexed_entry = store_of 0 (0 ∷ 0 ∷ 0 ∷ 0 ∷ 0 ∷ 0 ∷ 0 ∷ 0 ∷ 0 ∷ 3 ∷ 1 ∷ 3 ∷ 1 ∷ [])

abbrev indexed : List (Start Worker ℕ)
indexed = iteration 1 (look 12 ∷ look 9 ∷ copy 12 2 ∷ []) ∷ iteration 2 (look 12 ∷ look 10 ∷ copy 12 0 ∷ []) ∷ iteration 3 (look 12 ∷ look 11 ∷ copy 12 2 ∷ []) ∷ []

indexed_third_waits : shown (0 ∷ 2 ∷ []) (after_picks indexed_modes 12 4 indexed indexed_entry (2 ∷ 2 ∷ 2 ∷ 2 ∷ 2 ∷ [])) ≡ Some (0, 3, 0 ∷ 0 ∷ [])
indexed_third_waits = refl

indexed_first_commits : shown (0 ∷ 2 ∷ []) (after_picks indexed_modes 12 4 indexed indexed_entry (2 ∷ 2 ∷ 2 ∷ 2 ∷ 2 ∷ 2 ∷ 2 ∷ 2 ∷ 2 ∷ 2 ∷ [])) ≡ Some (1, 2, 0 ∷ 1 ∷ [])
indexed_first_commits = refl

indexed_all : shown (0 ∷ 2 ∷ 8 ∷ 12 ∷ []) (after_picks indexed_modes 12 4 indexed indexed_entry (2 ∷ 2 ∷ 2 ∷ 2 ∷ 2 ∷ 2 ∷ 2 ∷ 2 ∷ 2 ∷ 2 ∷ 2 ∷ 2 ∷ 2 ∷ 2 ∷ 2 ∷ [])) ≡ Some (3, 0, 2 ∷ 3 ∷ 0 ∷ 1 ∷ [])
indexed_all = refl

-- iterations 1 and 3 both write cell 2, and none reads a cell of A; the loop's variable is read first
indexed_output : OutputPair (trace_of 12 indexed_entry (iteration 1 (look 12 ∷ look 9 ∷ copy 12 2 ∷ []))) (trace_of 12 indexed_entry (iteration 3 (look 12 ∷ look 11 ∷ copy 12 2 ∷ []))) 2
indexed_output = (refl, refl)

indexed_trace : trace_of 12 indexed_entry (iteration 3 (look 12 ∷ look 11 ∷ copy 12 2 ∷ [])) ≡ Read 12 None ∷ Read 11 None ∷ Read 12 None ∷ Write 2 None ∷ []
indexed_trace = refl

-- A scalar is assigned under a condition (`IF (B(I) .GT. 0) L = I`; B at 0 to 3, I at 4, L at 5). It holds for iterations 1 and 3. L is
-- private, and takes the value of the last iteration that wrote it, not of the last one
abbrev last_modes : ℕ → Mode Operator
last_modes a = if a == 5 then Private else Shared

abbrev last_entry : Store ℕ
last_entry = store_of 0 (1 ∷ 18446744073709551614 ∷ 3 ∷ 18446744073709551612 ∷ 1 ∷ 0 ∷ [])

abbrev last_written : List (Start Worker ℕ)
last_written = iteration 1 (look 4 ∷ look 0 ∷ skip ∷ copy 4 5 ∷ []) ∷ iteration 2 (look 4 ∷ look 1 ∷ skip ∷ []) ∷ iteration 3 (look 4 ∷ look 2 ∷ skip ∷ copy 4 5 ∷ []) ∷ iteration 4 (look 4 ∷ look 3 ∷ skip ∷ []) ∷ []

last_in_order : shown (5 ∷ []) (after_picks last_modes 4 4 last_written last_entry (0 ∷ 0 ∷ 0 ∷ 0 ∷ 0 ∷ 0 ∷ 0 ∷ 0 ∷ 0 ∷ 0 ∷ 0 ∷ 0 ∷ 0 ∷ 0 ∷ 0 ∷ 0 ∷ 0 ∷ 0 ∷ 0 ∷ 0 ∷ [])) ≡ Some (4, 0, 3 ∷ [])
last_in_order = refl

last_backwards : shown (5 ∷ []) (after_picks last_modes 4 4 last_written last_entry (3 ∷ 3 ∷ 3 ∷ 3 ∷ 2 ∷ 2 ∷ 2 ∷ 2 ∷ 2 ∷ 2 ∷ 1 ∷ 1 ∷ 1 ∷ 1 ∷ 0 ∷ 0 ∷ 0 ∷ 0 ∷ 0 ∷ 0 ∷ [])) ≡ Some (4, 0, 3 ∷ [])
last_backwards = refl

last_output : OutputPair (trace_of 4 last_entry (iteration 1 (look 4 ∷ look 0 ∷ skip ∷ copy 4 5 ∷ []))) (trace_of 4 last_entry (iteration 3 (look 4 ∷ look 2 ∷ skip ∷ copy 4 5 ∷ []))) 5
last_output = (refl, refl)

-- A sum is reduced, and wraps (`S = S + A(I) - 3`; A at 0 to 3 holds 5, S at 4 holds 2 ^ 63 - 2, I at 5): it ends as -9223372036854775802,
-- as a number of 64 bits
abbrev sum_modes : ℕ → Mode Operator
sum_modes a = if a == 4 then Reduce plus else Shared

abbrev sum_entry : Store ℕ
sum_entry = store_of 0 (5 ∷ 5 ∷ 5 ∷ 5 ∷ 9223372036854775806 ∷ 1 ∷ [])

abbrev summed : List (Start Worker ℕ)
summed = iteration 1 (look 5 ∷ look 0 ∷ accumulate plus 4 2 ∷ []) ∷ iteration 2 (look 5 ∷ look 1 ∷ accumulate plus 4 2 ∷ []) ∷ iteration 3 (look 5 ∷ look 2 ∷ accumulate plus 4 2 ∷ []) ∷ iteration 4 (look 5 ∷ look 3 ∷ accumulate plus 4 2 ∷ []) ∷ []

sum_by_turns : shown (4 ∷ []) (after_picks sum_modes 5 4 summed sum_entry (0 ∷ 1 ∷ 2 ∷ 3 ∷ 0 ∷ 1 ∷ 2 ∷ 3 ∷ 0 ∷ 1 ∷ 2 ∷ 3 ∷ 0 ∷ 1 ∷ 2 ∷ 3 ∷ 0 ∷ 0 ∷ 0 ∷ 0 ∷ [])) ≡ Some (4, 0, 9223372036854775814 ∷ [])
sum_by_turns = refl

sum_is_negative : 9223372036854775814 + 9223372036854775802 ≡ 2 ^ 64
sum_is_negative = refl

-- A cell is reduced on truth, over an array of which one cell isn't touched (`IF (C(I)) L(1) = L(1) .AND. C(I)`; L at 0 and 1 holds 5 and 5,
-- C at 2 and 3 is true, I at 4): 1 and 5. Where C is false nothing is touched: 5 and 5
abbrev truth_modes : ℕ → Mode Operator
truth_modes a = if nat_lt a 2 then Reduce both else Shared

abbrev truth_entry : (condition : ℕ) → Store ℕ
truth_entry condition = store_of 0 (5 ∷ 5 ∷ condition ∷ condition ∷ 1 ∷ [])

abbrev conjunctions : List (Start Worker ℕ)
conjunctions = iteration 1 (look 4 ∷ look 2 ∷ skip ∷ look 4 ∷ look 2 ∷ accumulate both 0 1 ∷ []) ∷ iteration 2 (look 4 ∷ look 3 ∷ skip ∷ look 4 ∷ look 3 ∷ accumulate both 0 1 ∷ []) ∷ []

truth_reduced : shown (0 ∷ 1 ∷ []) (after_picks truth_modes 4 4 conjunctions (truth_entry 1) (0 ∷ 1 ∷ 0 ∷ 1 ∷ 0 ∷ 1 ∷ 0 ∷ 1 ∷ 0 ∷ 1 ∷ 0 ∷ 1 ∷ 0 ∷ 1 ∷ 1 ∷ 0 ∷ [])) ≡ Some (2, 0, 1 ∷ 5 ∷ [])
truth_reduced = refl

truth_untouched : shown (0 ∷ 1 ∷ []) (after_picks truth_modes 4 4 (iteration 1 (look 4 ∷ look 2 ∷ skip ∷ []) ∷ iteration 2 (look 4 ∷ look 3 ∷ skip ∷ []) ∷ []) (truth_entry 0) (0 ∷ 1 ∷ 0 ∷ 1 ∷ 0 ∷ 1 ∷ 0 ∷ 1 ∷ [])) ≡ Some (2, 0, 5 ∷ 5 ∷ [])
truth_untouched = refl

-- Two iterations that assign to an array take their steps by turns (`A(I) = 7`; A at 0 and 1, I at 2; window 2, picks 0 and 1). What each pick
-- names, by the process's own event: R 2, R 2, W 0, W 1, M and M, of iterations 1 and 2 in turn
abbrev pub assigned : List (Start Worker ℕ)
assigned = iteration 1 (look 2 ∷ set 0 7 ∷ []) ∷ iteration 2 (look 2 ∷ set 1 7 ∷ []) ∷ []

abbrev pub assigned_entry : Store ℕ
assigned_entry = store_of 0 (0 ∷ 0 ∷ 1 ∷ [])

abbrev access_of : Event Operator ℕ → Access Operator
access_of (reads a by) = Read a by
access_of (writes a v by) = Write a by
access_of _ = Move

abbrev line_of : Option (Picked (Owner Worker ℕ) Operator ℕ) → Option (ℕ × Access Operator)
line_of p = option_map (λ p. (p.number, access_of (small.event p.process.process))) p

abbrev lines_of : List ℕ → Option (Region (Owner Worker ℕ) ℕ) → List (Option (ℕ × Access Operator))
lines_of [] r = []
lines_of (pick ∷ picks) None = []
lines_of (pick ∷ picks) (Some r) = line_of (picked (with_own small) 2 r pick) ∷ lines_of picks (advanced (with_own small) (λ a. Shared) 2 r pick)

assigned_lines : lines_of (0 ∷ 1 ∷ 0 ∷ 1 ∷ 0 ∷ 1 ∷ []) (Some (begun (owners_of 2 assigned) assigned_entry)) ≡ Some (1, Read 2 None) ∷ Some (2, Read 2 None) ∷ Some (1, Write 0 None) ∷ Some (2, Write 1 None) ∷ Some (1, Move) ∷ Some (2, Move) ∷ []
assigned_lines = refl

-- the region is over after six steps, and not after five; the loop's control then sets the variable to 3
assigned_all : shown (0 ∷ 1 ∷ 2 ∷ []) (after_picks (λ a. Shared) 2 2 assigned assigned_entry (0 ∷ 1 ∷ 0 ∷ 1 ∷ 0 ∷ 1 ∷ [])) ≡ Some (2, 0, 7 ∷ 7 ∷ 1 ∷ [])
assigned_all = refl

assigned_but_one : shown (0 ∷ 1 ∷ 2 ∷ []) (after_picks (λ a. Shared) 2 2 assigned assigned_entry (0 ∷ 1 ∷ 0 ∷ 1 ∷ 0 ∷ [])) ≡ Some (1, 1, 7 ∷ 7 ∷ 1 ∷ [])
assigned_but_one = refl
