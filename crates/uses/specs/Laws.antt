-- What the rules on sets say of the use of an address: the sets are those of the address alone, as facts.
use Rattle.std.specs.Prelude.{◌≡◌, ◌⊎◌, ◌↔◌, ℤ, pos, ◌≤ℤ◌, true}
use Rattle.uses.specs.Over.{Over, Before, Pair}
use Rattle.uses.specs.Use.{Use, untouched, joined, joined_over, is_exposed, is_written, Tells}

-- in sequence
abbrev pub SequenceTells : Type 1
SequenceTells = (ro1 wf1 rw1 ro2 wf2 rw2 : Type 0) (first later : Use) → Tells ro1 wf1 rw1 first → Tells ro2 wf2 rw2 later →
    Tells ((ro1 × ((wf2 ⊎ rw2) → ⊥)) ⊎ (ro2 × ((wf1 ⊎ rw1) → ⊥)))
    (wf1 ⊎ (wf2 × ((ro1 ⊎ rw1) → ⊥)))
    (rw1 ⊎ (rw2 × (wf1 → ⊥)) ⊎ (ro1 × wf2))
    (joined first later)

-- under a condition that holds, and under one that doesn't
abbrev pub GateTells : Type 1
GateTells = (condition ro wf rw : Type 0) (use_ : Use) → Tells ro wf rw use_ →
    (condition → Tells (condition × ro) (condition × wf) (condition × rw) use_)
    × ((condition → ⊥) → Tells (condition × ro) (condition × wf) (condition × rw) untouched)

-- families of sets tell how each iteration up to a count uses the address
abbrev pub EachTells : (count : ℤ) (ro wf rw : ℤ → Type 0) (uses : ℤ → Use) → Type 0
EachTells count ro wf rw uses = (j : ℤ) → pos 1 ≤ℤ j → j ≤ℤ count → Tells (ro j) (wf j) (rw j) (uses j)

-- over a loop
abbrev pub LoopTells : Type 1
LoopTells = (count : ℤ) (ro wf rw : ℤ → Type 0) (uses : ℤ → Use) → EachTells count ro wf rw uses →
    Tells (Over count (λ j. ro j ⊎ rw j) × (Over count (λ j. wf j ⊎ rw j) → ⊥))
    (Over count (λ j. wf j × (Before j (λ k. ro k ⊎ rw k) → ⊥)))
    (Over count (λ j. wf j ⊎ rw j) × (Over count (λ j. wf j × (Before j (λ k. ro k ⊎ rw k) → ⊥)) → ⊥))
    (joined_over count uses)

-- two iterations meet at the address: the earlier one writes it and the later one reads it before it writes it; the earlier one reads it
-- before it writes it and the later one writes it; both write it
abbrev pub IsFlow : (ℤ → Use) → (earlier later : ℤ) → Type 0
IsFlow uses earlier later = (is_written (uses earlier) ≡ true) × (is_exposed (uses later) ≡ true)

abbrev pub IsAnti : (ℤ → Use) → (earlier later : ℤ) → Type 0
IsAnti uses earlier later = (is_exposed (uses earlier) ≡ true) × (is_written (uses later) ≡ true)

abbrev pub IsOutput : (ℤ → Use) → (earlier later : ℤ) → Type 0
IsOutput uses earlier later = (is_written (uses earlier) ≡ true) × (is_written (uses later) ≡ true)

-- pairs of iterations by their sets are pairs by their uses
abbrev pub PairsTell : Type 1
PairsTell = (count : ℤ) (ro wf rw : ℤ → Type 0) (uses : ℤ → Use) → EachTells count ro wf rw uses →
    (Pair count (λ k j. (wf k ⊎ rw k) × (ro j ⊎ rw j)) ↔ Pair count (IsFlow uses))
    × (Pair count (λ k j. (ro k ⊎ rw k) × (wf j ⊎ rw j)) ↔ Pair count (IsAnti uses))
    × (Pair count (λ k j. (wf k ⊎ rw k) × (wf j ⊎ rw j)) ↔ Pair count (IsOutput uses))
