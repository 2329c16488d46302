-- Owners don't write the loop's variable, and neither do their blocks.
use Rattle.std.proofs.Common.{ℕ, ◌≡◌, ◌==◌, true, false, List, [], ◌∷◌, Option, None, Some, if◌then◌else◌, is_some, refl, sym, subst, eqb-true, eq-eqb}
use Rattle.interleaving.specs.Blocks.{Block, in_blocks, next_block, block_done, owner_blocks}
use Rattle.interleaving.specs.Machine.{Event, reads, writes, moves, ends, faults, Machine, Store}
use Rattle.interleaving.specs.Modes.{Mode}
use Rattle.interleaving.specs.OwnCells.{Owner, Start, owner_resumed, owner_done, with_own, owner_of, owners_of}
use Rattle.interleaving.specs.Region.{Region, advanced_all, begun}
use Rattle.interleaving.proofs.BlockMachine.{block_writes}
use Rattle.interleaving.proofs.Owners.{event_of_owner, owner_writes}
use Rattle.interleaving.proofs.Unwritten.{AllSpare, stands_as_at_entry}

module _ {P O V : Type 0} (m : Machine P O V) (variable : ℕ) where
  -- an owner that has the variable as its own
  abbrev HasIt : Owner P V → Type 0
  HasIt q = is_some (q.value variable) ≡ true

  has_resumed : (q : Owner P V) (own : Option V) → HasIt q → HasIt (owner_resumed m q own)
  has_resumed q None h = h
  has_resumed q (Some x) h = h

  has_done_by : (q : Owner P V) (ev : Event O V) → HasIt q → HasIt (owner_done m q ev)
  has_done_by q (reads a by) h = has_resumed q (q.value a) h
  has_done_by q (writes a v by) h =
      elim (is_some (q.value a)) as (λ w. is_some ((if w then (λ b. if a == b then Some v else q.value b) else q.value) variable) ≡ true)
      [ true ↦ elim (a == variable) as (λ w. is_some (if w then Some v else q.value variable) ≡ true) [ true ↦ refl | false ↦ h ] | false ↦ h ]
  has_done_by q moves h = h
  has_done_by q ends h = h
  has_done_by q faults h = h

  has_done : (q : Owner P V) → HasIt q → HasIt ((with_own m).done q)
  has_done q h = has_done_by q (m.event q.process) h

  writes_another : (q : Owner P V) (a : ℕ) (v : V) (by : Option O) → HasIt q → (with_own m).event q ≡ writes a v by → (a == variable) ≡ false
  writes_another q a v by h e =
      let n : is_some (q.value a) ≡ false = (owner_writes m q a v by (event_of_owner m q (writes a v by) e)).1 in
      (elim (a == variable) as (λ w. (a == variable) ≡ w → w ≡ false) [ true ↦ λ f. let g : is_some (q.value variable) ≡ false = subst (λ c. is_some (q.value c) ≡ false) (eqb-true a variable f) n in absurd (cc) | false ↦ λ f. refl ]) refl

  owner_has : (start : Start P V) → HasIt (owner_of variable start)
  owner_has start = subst (λ w. is_some (if w then Some start.value else None) ≡ true) (sym (eq-eqb variable variable refl)) refl

  module _ (modes : ℕ → Mode O) where
    all_have : (starts : List (Start P V)) → AllSpare (with_own m) modes variable HasIt writes_another (λ q x h. h) has_done (owners_of variable starts)
    all_have [] = tt
    all_have (start ∷ starts) = (owner_has start, all_have starts)

    pub variable_stands : (window : ℕ) (picks : List ℕ) (starts : List (Start P V)) (entry : Store V) (r : Region (Owner P V) V) → advanced_all (with_own m) modes window picks (Some (begun (owners_of variable starts) entry)) ≡ Some r → r.store variable ≡ entry variable
    variable_stands window picks starts entry r e = stands_as_at_entry (with_own m) modes variable HasIt writes_another (λ q x h. h) has_done window picks (owners_of variable starts) entry r (all_have starts) e

  -- the same of blocks of them
  abbrev AllHaveIt : List (Owner P V) → Type 0
  AllHaveIt [] = Unit {0}
  AllHaveIt (q ∷ later) = HasIt q × AllHaveIt later

  abbrev BlockHasIt : Block (Owner P V) → Type 0
  BlockHasIt block = HasIt block.first × AllHaveIt block.later

  next_has : (block : Block (Owner P V)) (later : List (Owner P V)) → BlockHasIt block → AllHaveIt later → BlockHasIt (next_block block later)
  next_has block [] h k = h
  next_has block (next ∷ later) h k = k

  block_has_done_by : (block : Block (Owner P V)) (ev : Event O V) → BlockHasIt block → BlockHasIt (block_done (with_own m) block ev)
  block_has_done_by block (reads a by) h = (has_done block.first h.0, h.1)
  block_has_done_by block (writes a v by) h = (has_done block.first h.0, h.1)
  block_has_done_by block moves h = (has_done block.first h.0, h.1)
  block_has_done_by block ends h = next_has block block.later h h.1
  block_has_done_by block faults h = (has_done block.first h.0, h.1)

  block_has_done : (block : Block (Owner P V)) → BlockHasIt block → BlockHasIt ((in_blocks (with_own m)).done block)
  block_has_done block h = block_has_done_by block ((with_own m).event block.first) h

  block_writes_another : (block : Block (Owner P V)) (a : ℕ) (v : V) (by : Option O) → BlockHasIt block → (in_blocks (with_own m)).event block ≡ writes a v by → (a == variable) ≡ false
  block_writes_another block a v by h e = writes_another block.first a v by h.0 (block_writes (with_own m) block a v by e)

  module _ (modes : ℕ → Mode O) where
    owners_have : (starts : List (Start P V)) → AllHaveIt (owners_of variable starts)
    owners_have [] = tt
    owners_have (start ∷ starts) = (owner_has start, owners_have starts)

    blocks_have : (blocks : List (Block (Start P V))) → AllSpare (in_blocks (with_own m)) modes variable BlockHasIt block_writes_another (λ block x h. h) block_has_done (owner_blocks variable blocks)
    blocks_have [] = tt
    blocks_have (block ∷ blocks) = ((owner_has block.first, owners_have block.later), blocks_have blocks)

    pub variable_stands_in_blocks : (window : ℕ) (picks : List ℕ) (blocks : List (Block (Start P V))) (entry : Store V) (r : Region (Block (Owner P V)) V) → advanced_all (in_blocks (with_own m)) modes window picks (Some (begun (owner_blocks variable blocks) entry)) ≡ Some r → r.store variable ≡ entry variable
    variable_stands_in_blocks window picks blocks entry r e = stands_as_at_entry (in_blocks (with_own m)) modes variable BlockHasIt block_writes_another (λ block x h. h) block_has_done window picks (owner_blocks variable blocks) entry r (blocks_have blocks) e
