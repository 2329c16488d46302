-- The region of an address, by its place.
use Rattle.std.proofs.Common.{ℕ, zero, suc, ◌≡◌, ◌+◌, ◌<◌, ◌≤◌, List, [], ◌∷◌, length, map, get_or, set, refl, ap, arith}
use Rattle.dependence.specs.Executions.{Trace}
use Rattle.dependence.specs.Regions.{Interval, IsIn}
use Rattle.loop_trace.specs.declared.marks.Marks.{Marks}
use Rattle.loop_trace.specs.Marks.{IsMarked, AreMarked}
use Rattle.loop_trace.specs.Told.{AreInLine}

-- the least addresses of regions
abbrev pub starts : List Interval → List ℕ
starts regions = map (λ region. region.start) regions

-- regions in line begin at their first address or after it
above : (regions : List Interval) (from to : ℕ) (place : ℕ) → AreInLine from regions to → place < length regions → from ≤ get_or (starts regions) place 0
above [] from to place h l = absurd (omega (arith, l))
above (region ∷ regions) from to zero h l = omega (arith, h.0)
above (region ∷ regions) from to (suc place) h l = let g : from + region.len ≤ get_or (starts regions) place 0 = above regions (from + region.len) to place h.2 (omega (arith, l)) in omega (arith, g)

pub same_length : (traces : List Trace) (regions : List Interval) (marks : List Marks) → AreMarked traces regions marks → length marks ≡ length regions
same_length traces [] [] h = refl
same_length traces [] (m ∷ marks) h = absurd h
same_length traces (region ∷ regions) [] h = absurd h
same_length traces (region ∷ regions) (m ∷ marks) h = ap suc (same_length traces regions marks h.1)

pub length-starts : (regions : List Interval) → length (starts regions) ≡ length regions
length-starts [] = refl
length-starts (region ∷ regions) = ap suc (length-starts regions)

pub some_region : (regions : List Interval) (from to a : ℕ) → AreInLine from regions to → from ≤ a → a < to → 0 < length regions
some_region [] from to a h l m = absurd (omega (arith, h, l, m))
some_region (region ∷ regions) from to a h l m = omega arith

module _ (old new : List Trace) (a : ℕ) (outside : (region : Interval) → (IsIn region a → ⊥) → (m : Marks) → IsMarked old region m → IsMarked new region m) where
  -- regions behind the address
  behind : (regions : List Interval) (marks : List Marks) (from to : ℕ) → AreInLine from regions to → a < from → AreMarked old regions marks → AreMarked new regions marks
  behind [] [] from to h l g = tt
  behind [] (m ∷ marks) from to h l g = g
  behind (region ∷ regions) [] from to h l g = g
  behind (region ∷ regions) (m ∷ marks) from to h l g = (outside region (λ i. omega (arith, i.0, h.0, l)) m g.0, behind regions marks (from + region.len) to h.2 (omega (arith, l)) g.1)

  -- one region changes
  pub changed : (regions : List Interval) (marks : List Marks) (from to place : ℕ) (after : Marks) → AreInLine from regions to → from ≤ a → a < to → place < length regions →
      get_or (starts regions) place 0 ≤ a → (suc place < length regions → a < get_or (starts regions) (suc place) 0) →
      ((region : Interval) → IsIn region a → IsMarked old region (get_or marks place after) → IsMarked new region after) →
      AreMarked old regions marks → AreMarked new regions (set marks place after)
  changed [] marks from to place after h l m within s t step g = absurd (omega (arith, within))
  changed (region ∷ regions) [] from to place after h l m within s t step g = absurd g
  changed (region ∷ []) (one ∷ marks) from to zero after h l m within s t step g = (step region (omega (arith, h.0, l), omega (arith, h.0, h.2, m)) g.0, g.1)
  changed (region ∷ (second ∷ regions)) (one ∷ marks) from to zero after h l m within s t step g =
      let u : a < second.start = t (omega arith) in
      (step region (omega (arith, h.0, l), omega (arith, h.0, (h.2).0, u)) g.0, behind (second ∷ regions) marks (from + region.len) to h.2 (omega (arith, u, (h.2).0)) g.1)
  changed (region ∷ regions) (one ∷ marks) from to (suc place) after h l m within s t step g =
      let low : from + region.len ≤ get_or (starts regions) place 0 = above regions (from + region.len) to place h.2 (omega (arith, within)) in
      (outside region (λ i. omega (arith, i.1, h.0, low, s)) one g.0, changed regions marks (from + region.len) to place after h.2 (omega (arith, low, s)) m (omega (arith, within)) s (λ q. t (omega (arith, q))) step g.1)
