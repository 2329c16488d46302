-- Modes that fit the traces of iterations fit those of their blocks.
use Rattle.std.proofs.Common.{ℕ, zero, suc, ◌+◌, ◌≤◌, ◌≡◌, ◌==◌, ◌⊎◌, inl, inr, true, false, List, [], ◌∷◌, ◌++◌, length, take, drop, if◌then◌else◌, refl, ap, ◌∙◌, arith}
use Rattle.std.proofs.lemmas.List.{take-append-drop}
use Rattle.interleaving.specs.BlockLaws.{AreBlocks}
use Rattle.interleaving.specs.Blocks.{Block, all_items_of, traces_joined, block_trace, block_traces, chunked_within}
use Rattle.interleaving.specs.Modes.{Mode, Compatible, CompatibleWithAll, OnlyAccumulates, Fits}
use Rattle.interleaving.specs.Traces.{Access, Read, Write, Move, is_exposed, is_written, steps_of, steps_of_all}

module _ {O : Type 0} where
  exposed_in : (x y : List (Access O)) (a : ℕ) → is_exposed (x ++ y) a ≡ true → (is_exposed x a ≡ true) ⊎ (is_exposed y a ≡ true)
  exposed_in [] y a h = inr h
  exposed_in (Read b by ∷ x) y a h = (elim (b == a) as (λ w. (if w then true else is_exposed (x ++ y) a) ≡ true → ((if w then true else is_exposed x a) ≡ true) ⊎ (is_exposed y a ≡ true)) [ true ↦ λ e. inl refl | false ↦ λ e. exposed_in x y a e ]) h
  exposed_in (Write b by ∷ x) y a h = (elim (b == a) as (λ w. (if w then false else is_exposed (x ++ y) a) ≡ true → ((if w then false else is_exposed x a) ≡ true) ⊎ (is_exposed y a ≡ true)) [ true ↦ λ e. absurd (cc) | false ↦ λ e. exposed_in x y a e ]) h
  exposed_in (Move ∷ x) y a h = exposed_in x y a h

  written_in : (x y : List (Access O)) (a : ℕ) → is_written (x ++ y) a ≡ true → (is_written x a ≡ true) ⊎ (is_written y a ≡ true)
  written_in [] y a h = inr h
  written_in (Read b by ∷ x) y a h = written_in x y a h
  written_in (Write b by ∷ x) y a h = (elim (b == a) as (λ w. (if w then true else is_written (x ++ y) a) ≡ true → ((if w then true else is_written x a) ≡ true) ⊎ (is_written y a ≡ true)) [ true ↦ λ e. inl refl | false ↦ λ e. written_in x y a e ]) h
  written_in (Move ∷ x) y a h = written_in x y a h

  steps_joined : (x y : List (Access O)) → steps_of (x ++ Move ∷ y) ≡ steps_of x + steps_of y
  steps_joined [] y = omega arith
  steps_joined (access ∷ x) y = let ih : steps_of (x ++ Move ∷ y) ≡ steps_of x + steps_of y = steps_joined x y in omega (arith, ih)

  steps_of_block : (trace : List (Access O)) (later rest : List (List (Access O))) → steps_of (traces_joined trace later) + steps_of_all rest ≡ steps_of_all (trace ∷ (later ++ rest))
  steps_of_block trace [] rest = refl
  steps_of_block trace (next ∷ later) rest =
      let ih : steps_of (traces_joined next later) + steps_of_all rest ≡ steps_of next + steps_of_all (later ++ rest) = steps_of_block next later rest in
      let one : steps_of (trace ++ Move ∷ traces_joined next later) ≡ steps_of trace + steps_of (traces_joined next later) = steps_joined trace (traces_joined next later) in
      omega (arith, ih, one)

  pub steps_so : (blocks : List (Block (List (Access O)))) → steps_of_all (block_traces blocks) ≡ steps_of_all (all_items_of blocks)
  steps_so [] = refl
  steps_so (block ∷ blocks) =
      let ih : steps_of_all (block_traces blocks) ≡ steps_of_all (all_items_of blocks) = steps_so blocks in
      let one : steps_of (block_trace block) + steps_of_all (all_items_of blocks) ≡ steps_of_all (block.first ∷ (block.later ++ all_items_of blocks)) = steps_of_block block.first block.later (all_items_of blocks) in
      omega (arith, ih, one)

  -- a trace is no longer than one that goes on after it
  pub cut_later : (x y : List (Access O)) (limit : ℕ) → limit ≤ length y → limit ≤ length (x ++ Move ∷ y)
  cut_later [] y limit h = omega (arith, h)
  cut_later (access ∷ x) y limit h = let ih : limit ≤ length (x ++ Move ∷ y) = cut_later x y limit h in omega (arith, ih)

  module _ (modes : ℕ → Mode O) where
    only_joined : (x y : List (Access O)) → OnlyAccumulates modes x → OnlyAccumulates modes y → OnlyAccumulates modes (x ++ Move ∷ y)
    only_joined [] y h k = k
    only_joined (Read a by ∷ x) y h k = (h.0, only_joined x y h.1 k)
    only_joined (Write a by ∷ x) y h k = (h.0, only_joined x y h.1 k)
    only_joined (Move ∷ x) y h k = only_joined x y h k

    compatible_late : (early x y : List (Access O)) → Compatible modes early x → Compatible modes early y → Compatible modes early (x ++ Move ∷ y)
    compatible_late early x y h k = record {
      no_flow = λ a plain p. elim (exposed_in x (Move ∷ y) a p.1) [ inl e ↦ h.no_flow a plain (p.0, e) | inr e ↦ k.no_flow a plain (p.0, e) ];
      no_anti = λ a is p. elim (written_in x (Move ∷ y) a p.1) [ inl e ↦ h.no_anti a is (p.0, e) | inr e ↦ k.no_anti a is (p.0, e) ];
      no_output = λ a is p. elim (written_in x (Move ∷ y) a p.1) [ inl e ↦ h.no_output a is (p.0, e) | inr e ↦ k.no_output a is (p.0, e) ];
    }

    compatible_early : (x y late : List (Access O)) → Compatible modes x late → Compatible modes y late → Compatible modes (x ++ Move ∷ y) late
    compatible_early x y late h k = record {
      no_flow = λ a plain p. elim (written_in x (Move ∷ y) a p.0) [ inl e ↦ h.no_flow a plain (e, p.1) | inr e ↦ k.no_flow a plain (e, p.1) ];
      no_anti = λ a is p. elim (exposed_in x (Move ∷ y) a p.0) [ inl e ↦ h.no_anti a is (e, p.1) | inr e ↦ k.no_anti a is (e, p.1) ];
      no_output = λ a is p. elim (written_in x (Move ∷ y) a p.0) [ inl e ↦ h.no_output a is (e, p.1) | inr e ↦ k.no_output a is (e, p.1) ];
    }

    -- an iteration before a block of later ones, and before blocks of them
    late_block : (early trace : List (Access O)) (later rest : List (List (Access O))) → CompatibleWithAll modes early (trace ∷ (later ++ rest)) → Compatible modes early (traces_joined trace later) × CompatibleWithAll modes early rest
    late_block early trace [] rest h = h
    late_block early trace (next ∷ later) rest h =
        let k : Compatible modes early (traces_joined next later) × CompatibleWithAll modes early rest = late_block early next later rest h.1 in
        (compatible_late early trace (traces_joined next later) h.0 k.0, k.1)

    late_blocks : (early : List (Access O)) (blocks : List (Block (List (Access O)))) → CompatibleWithAll modes early (all_items_of blocks) → CompatibleWithAll modes early (block_traces blocks)
    late_blocks early [] h = tt
    late_blocks early (block ∷ blocks) h = let k = late_block early block.first block.later (all_items_of blocks) h in (k.0, late_blocks early blocks k.1)

    both : (x y : List (Access O)) (rest : List (List (Access O))) → CompatibleWithAll modes x rest → CompatibleWithAll modes y rest → CompatibleWithAll modes (x ++ Move ∷ y) rest
    both x y [] h k = tt
    both x y (late ∷ rest) h k = (compatible_early x y late h.0 k.0, both x y rest h.1 k.1)

    dropped : (early : List (Access O)) (later rest : List (List (Access O))) → CompatibleWithAll modes early (later ++ rest) → CompatibleWithAll modes early rest
    dropped early [] rest h = h
    dropped early (next ∷ later) rest h = dropped early later rest h.1

    -- a block before other iterations
    pub first_block : (trace : List (Access O)) (later rest : List (List (Access O))) → Fits modes (trace ∷ (later ++ rest)) → OnlyAccumulates modes (traces_joined trace later) × CompatibleWithAll modes (traces_joined trace later) rest × Fits modes rest
    first_block trace [] rest h = h
    first_block trace (next ∷ later) rest h =
        let k = first_block next later rest h.2 in
        (only_joined trace (traces_joined next later) h.0 k.0, both trace (traces_joined next later) rest (dropped trace later rest (h.1).1) k.1, k.2)

    pub fit_so : (blocks : List (Block (List (Access O)))) → Fits modes (all_items_of blocks) → Fits modes (block_traces blocks)
    fit_so [] h = tt
    fit_so (block ∷ blocks) h =
        let k = first_block block.first block.later (all_items_of blocks) h in
        (k.0, late_blocks (block_trace block) blocks k.1, fit_so blocks k.2)

chunks_within : {A : Type 0} (limit more : ℕ) (items : List A) → length items ≤ limit → all_items_of (chunked_within limit more items) ≡ items
chunks_within zero more [] h = refl
chunks_within zero more (item ∷ items) h = absurd (omega (arith, h))
chunks_within (suc limit) more [] h = refl
chunks_within (suc limit) more (item ∷ items) h =
    let fewer : length (drop more items) ≤ length items = shorter more items in
    let rest : all_items_of (chunked_within limit more (drop more items)) ≡ drop more items = chunks_within limit more (drop more items) (omega (arith, h, fewer)) in
    ap (λ r. item ∷ (take more items ++ r)) rest ∙ ap (λ r. item ∷ r) (take-append-drop more items)
  where
    shorter : {A : Type 0} (n : ℕ) (items : List A) → length (drop n items) ≤ length items
    shorter zero items = omega arith
    shorter (suc n) [] = omega arith
    shorter (suc n) (item ∷ items) = let ih : length (drop n items) ≤ length items = shorter n items in omega (arith, ih)

pub are_blocks : (P O : Type 0) → AreBlocks P O
are_blocks P O = record {
  fit_so = λ modes blocks h. fit_so modes blocks h;
  steps_so = λ blocks. steps_so blocks;
  items_so = λ more items. chunks_within (length items) more items (omega arith);
}
