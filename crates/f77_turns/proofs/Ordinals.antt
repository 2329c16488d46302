-- The active loops of a process have different ordinals.
use Rattle.std.proofs.Common.{◌≡◌, ◌≢◌, ℕ, zero, suc, ◌+◌, ◌<◌, ◌≤◌, Bool, true, false, List, [], ◌∷◌, ◌++◌, All, length, map, Some, refl, sym, ap, ◌∙◌, arith}
use Rattle.std.proofs.lemmas.List.Elements.{All-append, All-cons, All-nil}
use Rattle.std.proofs.lemmas.Option.{slice_get_within}
use Rattle.std.specs.Prelude.{nat_lt}
use Rattle.f77_ast.specs.Loop.{loop_at}
use Rattle.f77_ast.specs.declared.program.Program.{Program}
use Rattle.f77_ast.specs.declared.program.Unit.{Unit as ProgramUnit}
use Rattle.f77_structure.specs.Ranges.{IsDo}
use Rattle.f77_structure.specs.Units.{listing_of, statement_number, statements_before}
use Rattle.f77_meaning.specs.Process.{ActiveLoop, Frame}
use Rattle.f77_meaning.specs.Sound.{AreActive, AreFrames, IsBelow, IsSound}
use Rattle.f77_turns.specs.Ordinals.{ActiveLoopsDiffer, AllDiffer, IsLoopOf, ordinals_of}
use Rattle.f77_turns.proofs.Loops.{InList, in_list, is_loop_of}

-- the statements of a unit come before those of a later one
units_in_order : (units : List ProgramUnit) (u v a : ℕ) → u < v → a < length (listing_of units u) → statements_before units u + a < statements_before units v
units_in_order [] u v a l h = absurd (omega (arith, h))
units_in_order (first ∷ units) u zero a l h = absurd (omega (arith, l))
units_in_order (first ∷ units) zero (suc v) a l h = omega (arith, h)
units_in_order (first ∷ units) (suc u) (suc v) a l h = omega (arith, units_in_order units u v a (omega (arith, l)) h)

-- a statement of a unit is at a place below its length
at_place : (units : List ProgramUnit) (u a label : ℕ) → IsDo (listing_of units u) a label → a < length (listing_of units u)
at_place units u a label d = slice_get_within (listing_of units u) a d.listed d.stands

-- DO statements of two units have different numbers
numbers_differ : (units : List ProgramUnit) (u v a b l m : ℕ) → IsDo (listing_of units u) a l → IsDo (listing_of units v) b m → u ≢ v → statement_number units u a ≢ statement_number units v b
numbers_differ units u v a b l m d e other same = by (nat_lt u v) refl
  where
    less : (x y : ℕ) → nat_lt x y ≡ true → x < y
    less x y h = grind (arith, h)

    more : (x y : ℕ) → nat_lt x y ≡ false → x ≢ y → y < x
    more x y h n = grind (arith, h, n)

    by : (t : Bool) → nat_lt u v ≡ t → ⊥
    by true h = absurd (omega (arith, same, units_in_order units u v a (less u v h) (at_place units u a l d)))
    by false h = absurd (omega (arith, same, units_in_order units v u b (more u v h other) (at_place units v b m e)))

module _ (program : Program) (sound : IsSound program) where
  -- loops of different DO statements have different ordinals
  apart : (u v : ℕ) (a b : ActiveLoop) (x : IsLoopOf program u a) (y : IsLoopOf program v b) → statement_number program.units u x.at ≢ statement_number program.units v y.at → a.ordinal ≢ b.ordinal
  apart u v a b x y other same = other (omega (arith, begins, i.from, j.from))
    where
      i : InList program.loops (statement_number program.units u x.at + 1) x.its.loop
      i = in_list program.loops (statement_number program.units u x.at + 1) x.its.loop x.its.found

      j : InList program.loops (statement_number program.units v y.at + 1) y.its.loop
      j = in_list program.loops (statement_number program.units v y.at + 1) y.its.loop y.its.found

      ordinal : x.its.loop.ordinal ≡ y.its.loop.ordinal
      ordinal = sym x.ordinal ∙ same ∙ y.ordinal

      one : x.its.loop ≡ y.its.loop
      one = let e : Some x.its.loop ≡ Some y.its.loop = sym x.its.numbered ∙ ap (loop_at program.loops) ordinal ∙ y.its.numbered in cc

      begins : x.its.loop.from ≡ y.its.loop.from
      begins = ap (λ l. l.from) one

  -- a loop, and those around the place of its DO statement, or one before it
  outer_differ : (unit low high : ℕ) (loop : ActiveLoop) → (x : IsLoopOf program unit loop) → low ≤ x.at → (outer : List ActiveLoop) → AreActive program unit low high outer → All (λ m. m ≢ loop.ordinal) (map (λ l. l.ordinal) outer)
  outer_differ unit low high loop x before [] a = All-nil (λ m. m ≢ loop.ordinal)
  outer_differ unit low high loop x before (first ∷ rest) a =
      let y : IsLoopOf program unit first = is_loop_of program sound unit low high first a.0 in
      All-cons (λ m. m ≢ loop.ordinal) first.ordinal (map (λ l. l.ordinal) rest)
      (apart unit unit first loop y x (λ same. absurd (omega (arith, same, y.from, before, a.0.above))))
      (outer_differ unit a.0.at first.last loop x (omega (arith, y.from, before, a.0.above)) rest a.1)

  -- the loops of another unit
  others_differ : (unit other low high : ℕ) (loop : ActiveLoop) → IsLoopOf program unit loop → other ≢ unit → (active : List ActiveLoop) → AreActive program other low high active → All (λ m. m ≢ loop.ordinal) (map (λ l. l.ordinal) active)
  others_differ unit other low high loop x differs [] a = All-nil (λ m. m ≢ loop.ordinal)
  others_differ unit other low high loop x differs (first ∷ rest) a =
      let y : IsLoopOf program other first = is_loop_of program sound other low high first a.0 in
      All-cons (λ m. m ≢ loop.ordinal) first.ordinal (map (λ l. l.ordinal) rest)
      (apart other unit first loop y x (numbers_differ program.units other unit y.at x.at y.label x.label y.begins x.begins differs))
      (others_differ unit other a.0.at first.last loop x differs rest a.1)

  -- the loops of frames of other units
  below_differ : (unit : ℕ) (loop : ActiveLoop) → IsLoopOf program unit loop → (below : List Frame) → AreFrames program below → All (IsBelow program unit) below → All (λ m. m ≢ loop.ordinal) (ordinals_of below)
  below_differ unit loop x [] are others = All-nil (λ m. m ≢ loop.ordinal)
  below_differ unit loop x (frame ∷ below) are others =
      All-append (λ m. m ≢ loop.ordinal) (map (λ l. l.ordinal) frame.active) (ordinals_of below)
      (others_differ unit frame.unit frame.at frame.at loop x (others 0 frame (omega arith)).other frame.active are.0.active)
      (below_differ unit loop x below are.1.1 (λ k d h. others (suc k) d (omega (arith, h))))

  -- active loops of a unit, and other ordinals that differ from theirs
  joined_differ : (unit low high : ℕ) (ns : List ℕ) → AllDiffer ns → ((loop : ActiveLoop) → IsLoopOf program unit loop → All (λ m. m ≢ loop.ordinal) ns) → (active : List ActiveLoop) → AreActive program unit low high active → AllDiffer (map (λ l. l.ordinal) active ++ ns)
  joined_differ unit low high ns differ others [] a = differ
  joined_differ unit low high ns differ others (loop ∷ outer) a =
      let x : IsLoopOf program unit loop = is_loop_of program sound unit low high loop a.0 in (
        All-append (λ m. m ≢ loop.ordinal) (map (λ l. l.ordinal) outer) ns (outer_differ unit a.0.at loop.last loop x (omega arith) outer a.1) (others loop x),
        joined_differ unit a.0.at loop.last ns differ others outer a.1,
      )

  frames_differ : (frames : List Frame) → AreFrames program frames → AllDiffer (ordinals_of frames)
  frames_differ [] are = tt
  frames_differ (frame ∷ below) are =
      joined_differ frame.unit frame.at frame.at (ordinals_of below) (frames_differ below are.1.1) (λ loop x. below_differ frame.unit loop x below are.1.1 are.1.0) frame.active are.0.active

pub active_loops_differ : ActiveLoopsDiffer
active_loops_differ program p sound is = frames_differ program sound p.frames is.frames
